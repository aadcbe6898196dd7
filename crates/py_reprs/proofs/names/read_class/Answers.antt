use Rattle.std.proofs.Common.{arith, ap}
use Rattle.std.proofs.lemmas.Result.{err_from_is_err_and}
use Rattle.process_memory.proofs.Reading.{reading_gives, reading_short, reads_halt, reads_next}
use Rattle.py_builtins.specs.ObjectError.{object_fault}
use Rattle.py_fields.proofs.ObjectFields.{klass_fits}
use Rattle.py_reprs.proofs.Views.{tree-Class}
use Rattle.py_reprs.proofs.Told.{named_is, named_lost}
use Rattle.py_reprs.specs.Names.{class_at}
use Rattle.py_reprs.specs.Trees.Tree.{Class}
use Rattle.py_reprs.proofs.names.read_class.Goals as goal

pub u64_in-at-requires : goal.u64_in-at-requires
u64_in-at-requires g c = omega (
  arith,
  (klass_fits c.requires.sound).name,
  c.deref.ensures.len,
  c.in_ok-class.ensures.whole,
)

pub returns-in_err-class : goal.returns-in_err-class
unfolding class_at
returns-in_err-class g c =
    let p = err_from_is_err_and c.from_residual.result c.from_residual.ensures.1 in
    rw p.1 (reads_halt 2 p.0 _ (reading_short c.in_err-class.ensures.answer) p.2 (omega arith))

pub returns-in_err-name : goal.returns-in_err-name
unfolding class_at
returns-in_err-name g c =
    let p = err_from_is_err_and c.from_residual-in_err-name.result c.from_residual-in_err-name.ensures.1 in
    let at = rw (c.u64_in-at.ensures, c.deref.ensures.value) at c.in_err-name.ensures in
    rw p.1 (reads_next 2 _ (reading_short c.in_ok-class.ensures.answer) (reading_gives 1 _ at (omega arith)
    (λ m h. named_lost (λ name. Class name c.args.addr) _ h (ap object_fault p.2))) (omega arith))

pub returns : goal.returns
unfolding class_at
returns g c =
    let at = rw (c.u64_in-at.ensures, c.deref.ensures.value) at c.in_ok-name.ensures in
    reads_next 2 _ (reading_short c.in_ok-class.ensures.answer) (reading_gives 1 _ at (omega arith)
    (λ m h. named_is (λ name. Class name c.args.addr) _ h (tree-Class _ _))) (omega arith)
