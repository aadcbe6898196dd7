-- A core and its images have one process, by what is there or by the names of its files, or one first cause why there is
-- none, out of memory aside.
use Rattle.std.proofs.Common.{◌≡◌, ℕ, List, Ok, Err, inl, inr, refl, sym, ap, subst, true, false, ◌∙◌}
use Rattle.std.specs.Prelude.{Option, Some}
use Rattle.std.proofs.lemmas.Option.{same_Some}
use Rattle.image_memory.specs.Images.{Pushed}
use Rattle.image_memory.specs.declared.maps.CoreMapRange.{CoreMapRange}
use Rattle.image_memory.proofs.Noted.{AreMaps-once}
use Rattle.py_fields.specs.declared.layout.Layout.{Layout}
use Rattle.py_fields.specs.declared.version.Version.{Version}
use Rattle.py_process.specs.Facts.{Known}
use Rattle.py_process.specs.Findings.{IsChosen}
use Rattle.py_process.specs.NamedVersions.{version_of_names}
use Rattle.py_process.specs.Programs.{ImagesSay, MapsSay}
use Rattle.py_process.specs.Reports.{Dumped}
use Rattle.py_process.specs.Steps.{Then}
use Rattle.py_process.specs.declared.core_error.CoreError.{CoreError}
use Rattle.py_process.specs.declared.core_error.CoreError.TheVariants as core
use Rattle.py_process.proofs.Agreement.{Agree, IsKept, err_is, ok_is, ok_kept, ok_not_err, then_agree}
use Rattle.py_process.proofs.Dumped.{dumped_once}
use Rattle.py_process.proofs.FindingLaws.{ChoosesOnce, images_agree, maps_agree}
use Rattle.core_stacks.specs.Named.{IsNamedProcess, NamesNone, NamesThis, ProcessOrNamed, is_untold}
use Rattle.core_stacks.specs.Process.{OpenedProcess, ProcessIs}
use Rattle.core_stacks.proofs.Opening.{process_agree}

-- what tells no version is no out of memory
untold_kept : (e : CoreError) → is_untold e ≡ true → IsKept {T = OpenedProcess} (Err e)
untold_kept e is same = wrong (ap is_untold (sym (err_is e core.OutOfMemory same)) ∙ is)
  where
    wrong : false ≡ true → ⊥
    wrong e = cc

known_once : (maps : List CoreMapRange) (images : Pushed) (k j : Known) → Then (MapsSay maps) (ImagesSay images) (Ok k)
    → Then (MapsSay maps) (ImagesSay images) (Ok j) → k ≡ j
known_once maps images k j one other =
    ok_is k j (then_agree (MapsSay maps) (ImagesSay images) (maps_agree maps) (λ p h. images_agree images p) (Ok k) (Ok j)
    one other (ok_kept k) (ok_kept j))

module _ (bytes : List ℕ) (images : Pushed) (layouts : List Layout) (once : ChoosesOnce layouts) where
  opens : Agree (ProcessIs bytes images layouts)
  opens = process_agree bytes images layouts once

  -- names tell one version
  names_version : (v w : Version) (l k : Layout) → NamesThis bytes layouts v l → NamesThis bytes layouts w k → v ≡ w
  names_version v w l k one other =
      same_Some v w (sym one.named ∙ ap version_of_names (AreMaps-once bytes one.maps other.maps one.are_maps other.are_maps)
      ∙ other.named)

  names_layout : (v w : Version) (l k : Layout) → NamesThis bytes layouts v l → NamesThis bytes layouts w k → l ≡ k
  names_layout v w l k one other =
      once v l k one.chosen (subst (λ x. IsChosen layouts x k) (sym (names_version v w l k one other)) other.chosen)

  names_apart : (v : Version) (l : Layout) → NamesThis bytes layouts v l → NamesNone bytes layouts → ⊥
  names_apart v l one none =
      none.none v (ap version_of_names (AreMaps-once bytes none.maps one.maps none.are_maps one.are_maps) ∙ one.named) l
      one.chosen

  named_once : (o p : OpenedProcess) → IsNamedProcess bytes images layouts o → IsNamedProcess bytes images layouts p
      → o ≡ p
  named_once o p one other =
      let dumped : o.dumped ≡ p.dumped = dumped_once bytes images o.dumped p.dumped one.dumped.1 other.dumped.1 in
      let known : o.known ≡ p.known = known_once p.dumped.maps images o.known p.known
      (subst (λ (d : Dumped). Then (MapsSay d.maps) (ImagesSay images) (Ok o.known)) dumped one.known) other.known in
      let version : o.version ≡ p.version = names_version o.version p.version o.layout p.layout one.names other.names in
      let layout : o.layout ≡ p.layout = names_layout o.version p.version o.layout p.layout one.names other.names in
      let why : one.why ≡ other.why = err_is one.why other.why (opens (Err one.why) (Err other.why) one.unopened
      other.unopened (untold_kept one.why one.untold) (untold_kept other.why other.untold)) in
      let untold : o.untold ≡ p.untold = one.why_is ∙ ap Some why ∙ sym other.why_is in
      λ i. record { dumped = dumped i; known = known i; version = version i; layout = layout i; untold = untold i }

  -- what is there tells no version where names are asked
  named_apart : (o p : OpenedProcess) → ProcessIs bytes images layouts (Ok o) → IsNamedProcess bytes images layouts p → ⊥
  named_apart o p one other =
      ok_not_err o other.why (opens (Ok o) (Err other.why) one other.unopened (ok_kept o)
      (untold_kept other.why other.untold))

  either_once : (o p : OpenedProcess) → ProcessOrNamed bytes images layouts (Ok o)
      → ProcessOrNamed bytes images layouts (Ok p) → o ≡ p
  either_once o p (inl one) (inl other) = ok_is o p (opens (Ok o) (Ok p) one other (ok_kept o) (ok_kept p))
  either_once o p (inl one) (inr other) = absurd (named_apart o p one other)
  either_once o p (inr one) (inl other) = absurd (named_apart p o other one)
  either_once o p (inr one) (inr other) = named_once o p one other

  either_apart : (o : OpenedProcess) (e : CoreError) → IsKept {T = OpenedProcess} (Err e)
      → ProcessOrNamed bytes images layouts (Ok o) → ProcessOrNamed bytes images layouts (Err e) → ⊥
  either_apart o e kept (inl one) other = ok_not_err o e (opens (Ok o) (Err e) one other.0 (ok_kept o) kept)
  either_apart o e kept (inr one) other =
      let same : one.why ≡ e = err_is one.why e (opens (Err one.why) (Err e) one.unopened other.0
      (untold_kept one.why one.untold) kept) in
      names_apart o.version o.layout one.names (other.1 (ap is_untold (sym same) ∙ one.untold))

  pub opened_agree : Agree (ProcessOrNamed bytes images layouts)
  opened_agree (Ok o) (Ok p) one other na nb = ap Ok (either_once o p one other)
  opened_agree (Ok o) (Err e) one other na nb = absurd (either_apart o e nb one other)
  opened_agree (Err e) (Ok p) one other na nb = absurd (either_apart p e na other one)
  opened_agree (Err e) (Err f) one other na nb = opens (Err e) (Err f) one.0 other.0 na nb
