use Rattle.std.proofs.Common.{◌≡◌, ap, arith, false, nat_eq, refl, true}
use Rattle.std.proofs.lemmas.Bool.Decides.{nat_tests}
use Rattle.process_memory.proofs.Reading.{reading_gives, reading_none}
use Rattle.py_exceptions.specs.Notes.{notes_at, notes_by}
use Rattle.py_exceptions.proofs.Tells.{reading_and, reads_or_none, shown_as}
use Rattle.py_exceptions.proofs.notes.read_notes.Goals as goal

pub returns-then-dict-eq0 : goal.returns-then-dict-eq0
unfolding notes_at
returns-then-dict-eq0 g c =
    let is : nat_eq c.args.dict 0 ≡ true = grind (arith, nat_tests, c.if-dict-eq0.true) in
    reading_none 16485 _ _ (λ m. rw is refl)

pub returns : goal.returns
unfolding notes_at
returns g c =
    let not : nat_eq c.args.dict 0 ≡ false = grind (arith, nat_tests, c.if-dict-eq0.false) in
    rw not (reading_gives 16485 _
    (reading_and (reads_or_none _ c.read_noted-found.ensures c.in_ok-noted.ensures) c.read_by_noted.ensures)
    (omega arith) (λ m h. shown_as _ _ _ _ h.1 (ap (notes_by c.args.layout.now m) h.0)))
