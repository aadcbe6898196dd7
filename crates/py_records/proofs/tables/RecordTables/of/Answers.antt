use Rattle.std.proofs.Common.{◌≡◌, Err, ap, refl}
use Rattle.std.proofs.lemmas.Bool.{false≢true}
use Rattle.py_records.specs.declared.error.RecordsError.TheVariants.{Unsound}
use Rattle.py_records.specs.Lists.{IsFirstUnsound, IsFirstClash}
use Rattle.py_records.proofs.Judging.{unsound-not_all, unsound-unique, clash-not_apart, clash-unique}
use Rattle.py_records.proofs.tables.RecordTables.of.Goals as goal

found_unsound : (c : goal.After-drop-list) → IsFirstUnsound c.args.list.items c.in-Some.table
found_unsound c = rw c.deref.ensures.value at c.in-Some.ensures

pub returns-in-Some-clause-ok : goal.returns-in-Some-clause-ok
returns-in-Some-clause-ok c = (λ e. absurd (false≢true e), λ a. absurd (unsound-not_all _ _ (found_unsound c) a.each))

pub returns-in-Some-clause-unsound : goal.returns-in-Some-clause-unsound
returns-in-Some-clause-unsound c table = (
  λ e.
      let same : c.in-Some.table ≡ table = cc in
      rw same at (found_unsound c),
  λ u. ap (λ t. Err (Unsound t)) (unsound-unique _ _ _ (found_unsound c) u),
)

pub returns-in-Some-clause-clash : goal.returns-in-Some-clause-clash
returns-in-Some-clause-clash c first second =
    (λ e. cc, λ w. absurd (unsound-not_all _ _ (found_unsound c) w.0))

found_clash : (c : goal.After-drop-list-in-Some-first_clash)
    → IsFirstClash c.args.list.items c.in-Some-first_clash.first c.in-Some-first_clash.second
found_clash c = rw c.deref-2.ensures.value at c.in-Some-first_clash.ensures

pub returns-in-Some-first_clash-clause-ok : goal.returns-in-Some-first_clash-clause-ok
returns-in-Some-first_clash-clause-ok c =
    (λ e. absurd (false≢true e), λ a. absurd (clash-not_apart _ _ _ (found_clash c).clash a.apart))

pub returns-in-Some-first_clash-clause-unsound : goal.returns-in-Some-first_clash-clause-unsound
returns-in-Some-first_clash-clause-unsound c table =
    (λ e. cc, λ u. absurd (unsound-not_all _ _ u (rw c.deref.ensures.value at c.in_default.ensures)))

pub returns-in-Some-first_clash-clause-clash : goal.returns-in-Some-first_clash-clause-clash
returns-in-Some-first_clash-clause-clash c first second = (
  λ e.
      let same_first : c.in-Some-first_clash.first ≡ first = cc in
      let same_second : c.in-Some-first_clash.second ≡ second = cc in
      (rw c.deref.ensures.value at c.in_default.ensures, rw (same_first, same_second) at (found_clash c)),
  λ w.
      let same = clash-unique _ _ _ _ _ (found_clash c) w.1 in
      rw (same.0, same.1) refl,
)

pub returns-clause-unsound : goal.returns-clause-unsound
returns-clause-unsound c table =
    (λ e. cc, λ u. absurd (unsound-not_all _ _ u (rw c.deref.ensures.value at c.in_default.ensures)))

pub returns-clause-clash : goal.returns-clause-clash
returns-clause-clash c first second = (
  λ e. cc,
  λ w. absurd (clash-not_apart _ _ _ w.1.clash
      (rw c.deref-2.ensures.value at c.in_default-first_clash.ensures)),
)
