use Rattle.std.proofs.Common.{[], ◌∷◌, refl, ap, arith}
use Rattle.std.specs.Prelude.{Ok}
use Rattle.std.proofs.lemmas.Result.{err_from_is_err_and}
use Rattle.process_memory.proofs.Reading.{reads_end, reads_halt, reads_known, reads_next}
use Rattle.py_builtins.specs.ObjectError.{object_fault}
use Rattle.object_reach.specs.Objects.{part_words, slot_words}
use Rattle.py_builtins.proofs.Consulted.{fields_short}
use Rattle.object_reach.proofs.parts.read_part.Goals as goal

pub returns-in_err-read_item-in-Items : goal.returns-in_err-read_item-in-Items
unfolding part_words
returns-in_err-read_item-in-Items g c =
    let p = err_from_is_err_and c.from_residual.result c.from_residual.ensures.1 in
    rw (c.in-Items.is, p.1) (reads_halt 2 p.0 (λ m item. Ok (item ∷ [])) (fields_short c.in_err-read_item-in-Items.ensures.answer) p.2 (omega arith))

pub returns-in_err-slot-in-Slots : goal.returns-in_err-slot-in-Slots
unfolding part_words
returns-in_err-slot-in-Slots g c =
    let p = err_from_is_err_and c.from_residual-in_err-slot-in-Slots.result c.from_residual-in_err-slot-in-Slots.ensures.1 in
    rw (c.in-Slots.is, p.1) (reads_halt 2 p.0 (λ m slot. Ok (slot_words slot)) (fields_short c.in_err-slot-in-Slots.ensures.answer) (ap object_fault p.2) (omega arith))

pub returns-in-Nowhere : goal.returns-in-Nowhere
unfolding part_words
returns-in-Nowhere g c = rw c.in-Nowhere.is (reads_known 2 _ _ (λ m. record { is = refl }))

pub returns-in_ok-read_item-in-Items : goal.returns-in_ok-read_item-in-Items
unfolding part_words
returns-in_ok-read_item-in-Items g c =
    rw c.in-Items.is (reads_next 2 (λ m item. Ok (item ∷ [])) (fields_short c.in_ok-read_item-in-Items.ensures.answer) (reads_end 0 refl) (omega arith))

pub returns-in_ok-slot-in-Slots : goal.returns-in_ok-slot-in-Slots
unfolding part_words
returns-in_ok-slot-in-Slots g c =
    rw c.in-Slots.is (reads_next 2 (λ m slot. Ok (slot_words slot)) (fields_short c.in_ok-slot-in-Slots.ensures.answer) (reads_end 0 refl) (omega arith))
