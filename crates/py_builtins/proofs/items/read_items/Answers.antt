use Rattle.std.proofs.Common.{sym, ap, arith}
use Rattle.std.proofs.lemmas.Result.{err_from_is_err_and}
use Rattle.process_memory.proofs.Reading.{reads_end, reads_halt, reads_known, reads_next}
use Rattle.py_builtins.specs.ObjectError.{object_fault}
use Rattle.py_builtins.specs.Items.{count_at, items_at}
use Rattle.py_builtins.specs.Consulted.IsRecordSize.{Sequence, Tuple as TupleRecord}
use Rattle.py_builtins.proofs.Consulted.{consults_record}
use Rattle.py_builtins.specs.Consulted.{IsRecordSize}
use Rattle.py_builtins.specs.declared.items.Sequence.{Sequence as SequenceKind}
use Rattle.py_builtins.specs.declared.items.Sequence.TheVariants.{List, Tuple}
use Rattle.py_fields.specs.declared.layout.Layout.{Layout}
use Rattle.py_builtins.proofs.items.read_items.Goals as goal

-- how long the record of a list or a tuple is
sized : (l : Layout) (q : SequenceKind) → IsRecordSize l (count_at l q).size
sized l List = Sequence
sized l Tuple = TupleRecord

pub returns-in_err-object : goal.returns-in_err-object
unfolding items_at
returns-in_err-object g c =
    let p = err_from_is_err_and c.from_residual.result c.from_residual.ensures.1 in
    let object = consults_record c.args.layout.now (sized c.args.layout.now c.args.sequence) (rw c.count_at-place.ensures.place at c.in_err-object.ensures.answer) in
    rw p.1 (reads_halt 1 p.0 _ object p.2 (omega arith))

pub returns-in_err-count : goal.returns-in_err-count
unfolding items_at
returns-in_err-count g c =
    let p = err_from_is_err_and c.from_residual-in_err-count.result c.from_residual-in_err-count.ensures.1 in
    let object = consults_record c.args.layout.now (sized c.args.layout.now c.args.sequence) (rw c.count_at-place.ensures.place at c.in_ok-object.ensures.answer) in
    let count = rw (c.u64_in.ensures, c.deref.ensures.value, c.count_at-place.ensures.place) at c.in_err-count.ensures in
    rw p.1 (reads_next 1 _ object (reads_halt 0 p.0 _ (reads_known 0 _ _ (λ m. count)) (ap object_fault p.2) (omega arith)) (omega arith))

pub returns : goal.returns
unfolding items_at
returns g c =
    let object = consults_record c.args.layout.now (sized c.args.layout.now c.args.sequence) (rw c.count_at-place.ensures.place at c.in_ok-object.ensures.answer) in
    let count = rw (c.u64_in.ensures, c.deref.ensures.value, c.count_at-place.ensures.place) at c.in_ok-count.ensures in
    let items = rw c.deref-2.ensures.value at c.items_by.ensures in
    reads_next 1 _ object (reads_next 0 _ (reads_known 0 _ _ (λ m. count)) (reads_end 0 (sym items)) (omega arith)) (omega arith)
