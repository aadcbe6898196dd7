use Rattle.std.proofs.Common.{◌≡◌, ◌∙◌, sym, ap, subst, not, true, false}
use Rattle.std.specs.Prelude.{None}
use Rattle.std.specs.Option.{is_some}
use Rattle.py_process.specs.Programs.{FactsAre}
use Rattle.core_stacks.specs.Seen.{programs_now}
use Rattle.core_stacks.proofs.Images.{is_known, none_needed}
use Rattle.core_stacks.proofs.programs.read_images.Goals as goal

pub image_error-requires : goal.image_error-requires
image_error-requires c =
    let none : is_some c.needed_info.result.now ≡ false = c.is_none.ensures ∙ ap not c.if-is_none.true in
    subst (λ m. FactsAre c.args.images.now m None) (sym c.needed_map.ensures)
    (none_needed c.args.images.now (programs_now c.args.programs.now) c.in_ok-program.program c.in_ok-library.library
    c.in_ok-program.ensures c.in_ok-library.ensures (ap is_some (sym c.needed_info.ensures) ∙ none))

pub returns-clause-known : goal.returns-clause-known
returns-clause-known c =
    let there : is_some c.needed_info.result.now ≡ true = c.is_none.ensures ∙ ap not c.if-is_none.false in
    is_known c.args.images.now (programs_now c.args.programs.now) c.in_ok-program.program c.in_ok-library.library c.in_ok-path.path
    c.in_ok-program.ensures c.in_ok-library.ensures (c.in_ok-path.ensures ∙ c.path_of.ensures)
    (ap is_some (sym c.needed_info.ensures) ∙ there)
