use Rattle.std.proofs.Common.{◌≡◌, arith, sym, ap, ◌∙◌, of_z, rules, to_z}
use Rattle.std.specs.Int.{w64}
use Rattle.std.proofs.lemmas.Int.{to_z-of_z}
use Rattle.std.proofs.lemmas.Result.{err_from_is_err_and}
use Rattle.process_memory.proofs.Reading.{reads_end, reads_halt, reads_next}
use Rattle.py_builtins.proofs.Consulted.{consulting_short}
use Rattle.py_builtins.specs.ObjectError.{object_fault}
use Rattle.py_reprs.proofs.Views.{tree-SmallInteger}
use Rattle.py_reprs.specs.Numbers.{small_integer_at}
use Rattle.py_reprs.specs.Trees.Tree.{SmallInteger}
use Rattle.py_reprs.proofs.numbers.read_small_integer.Goals as goal

pub returns-in_err-number : goal.returns-in_err-number
unfolding small_integer_at
returns-in_err-number g c =
    let p = err_from_is_err_and c.from_residual.result c.from_residual.ensures.1 in
    rw p.1 (reads_halt 1 p.0 _ (consulting_short c.in_err-number.ensures.answer) (ap object_fault p.2) (omega arith))

pub returns : goal.returns
unfolding small_integer_at
returns g c =
    let id : to_z w64 (of_z w64 c.in_ok-number.number) ≡ c.in_ok-number.number = to_z-of_z w64 _ (search rules) in
    reads_next {k = 0} 1 _ (consulting_short c.in_ok-number.ensures.answer)
    (reads_end 0 (sym (tree-SmallInteger _ ∙ ap SmallInteger id))) (omega arith)
