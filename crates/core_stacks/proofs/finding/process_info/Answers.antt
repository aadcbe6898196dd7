use Rattle.std.proofs.Common.{◌≡◌, ap, subst, sym, ◌∙◌, inl, inr}
use Rattle.std.specs.Prelude.{Err, IfOk}
use Rattle.image_memory.specs.MapTables.{tests}
use Rattle.image_memory.specs.Maps.{in_maps}
use Rattle.std.proofs.lemmas.Result.{err_from_is_err_and}
use Rattle.py_process.specs.Programs.{ArePrograms, MapsSay}
use Rattle.core_stacks.specs.Seen.{HaveOneName, known_in, programs_now}
use Rattle.core_stacks.proofs.FirstMaps.{have_one_name}
use Rattle.core_stacks.proofs.finding.process_info.Goals as goal

pub programs_of-requires : goal.programs_of-requires
programs_of-requires c = subst (λ maps. HaveOneName maps) (sym c.deref.ensures.value) (have_one_name _ _ c.maps-maps.ensures.are)

pub returns-in_err-programs : goal.returns-in_err-programs
returns-in_err-programs c =
    let p = err_from_is_err_and c.from_residual.result c.from_residual.ensures.1 in
    record {
      maps = c.maps-maps.result.now.items;
      are_maps = c.maps-maps.ensures.are;
      says = inl (
        c.in_err-programs.field-0.0,
        subst (λ maps. MapsSay maps (Err c.in_err-programs.field-0.0)) c.deref.ensures.value c.in_err-programs.ensures,
        ap known_in (p.1 ∙ ap (λ e. Err e) p.2),
      );
      tested = subst (λ r. IfOk r (λ info. tests info.maps ≡ in_maps c.maps-maps.result.now.items)) (sym (p.1 ∙ ap (λ e. Err e) p.2)) tt;
    }

pub returns : goal.returns
returns c = record {
  maps = c.maps-maps.result.now.items;
  are_maps = c.maps-maps.ensures.are;
  says = inr (
    programs_now c.in_ok-programs.programs,
    subst (λ maps. ArePrograms maps (programs_now c.in_ok-programs.programs)) c.deref.ensures.value c.in_ok-programs.ensures,
    c.read_images.ensures.known,
  );
  tested = rw c.deref-2.ensures.value at c.read_images.ensures.maps;
}
