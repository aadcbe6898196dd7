use Rattle.std.proofs.Common.{refl, ap, arith}
use Rattle.std.specs.Prelude.{Ok}
use Rattle.std.proofs.lemmas.Result.{err_from_is_err_and}
use Rattle.process_memory.proofs.Reading.{reads_end, reads_halt, reads_next}
use Rattle.py_builtins.specs.ObjectError.{object_fault}
use Rattle.py_objects.specs.Nodes.{child_at}
use Rattle.py_objects.specs.Nodes.{child_of}
use Rattle.py_objects.specs.Shows.Child.{Item}
use Rattle.py_objects.proofs.nodes.read_child.Goals as goal

pub returns-in_err-read_item-in-Items-clause-answer : goal.returns-in_err-read_item-in-Items-clause-answer
unfolding child_at
returns-in_err-read_item-in-Items-clause-answer g c =
    let p = err_from_is_err_and c.from_residual.result c.from_residual.ensures.1 in
    rw (c.in-Items.is, p.1) (reads_halt 1 p.0 (λ m item. Ok (Item item)) c.in_err-read_item-in-Items.ensures.answer p.2 (omega arith))

pub returns-in_err-slot-in-Slots-clause-answer : goal.returns-in_err-slot-in-Slots-clause-answer
unfolding child_at
returns-in_err-slot-in-Slots-clause-answer g c =
    let p = err_from_is_err_and c.from_residual-in_err-slot-in-Slots.result c.from_residual-in_err-slot-in-Slots.ensures.1 in
    rw (c.in-Slots.is, p.1) (reads_halt 2 p.0 (λ m slot. Ok (child_of slot)) c.in_err-slot-in-Slots.ensures.answer (ap object_fault p.2) (omega arith))

pub returns-in_ok-read_item-in-Items-clause-answer : goal.returns-in_ok-read_item-in-Items-clause-answer
unfolding child_at
returns-in_ok-read_item-in-Items-clause-answer g c =
    rw c.in-Items.is (reads_next 1 (λ m item. Ok (Item item)) c.in_ok-read_item-in-Items.ensures.answer (reads_end 0 refl) (omega arith))

pub returns-in_ok-slot-in-Slots-clause-answer : goal.returns-in_ok-slot-in-Slots-clause-answer
unfolding child_at
returns-in_ok-slot-in-Slots-clause-answer g c =
    rw c.in-Slots.is (reads_next 2 (λ m slot. Ok (child_of slot)) c.in_ok-slot-in-Slots.ensures.answer (reads_end 0 refl) (omega arith))
