use Rattle.std.proofs.Common.{◌+◌, sym, ap, ◌∙◌, arith}
use Rattle.std.proofs.lemmas.Result.{err_from_is_err_and}
use Rattle.process_memory.proofs.Reading.{reads_next, reads_halt, reads_same}
use Rattle.py_builtins.specs.Consulted.IsWidth.{Word}
use Rattle.py_builtins.proofs.Consulted.{reads_field}
use Rattle.process_memory.specs.Memory.{address_before}
use Rattle.instance_dicts.specs.Plain.{end_of, from_end_at, named_dict_at}
use Rattle.instance_dicts.proofs.plain.from_end.Goals as goal

pub returns-in_err-basic : goal.returns-in_err-basic
unfolding from_end_at
returns-in_err-basic g c =
    let p = err_from_is_err_and c.from_residual.result c.from_residual.ensures.1 in
    rw p.1 (reads_halt 4 p.0 _ (reads_field Word c.in_err-basic.ensures.answer) p.2 (omega arith))

pub returns-in_err-item : goal.returns-in_err-item
unfolding from_end_at
returns-in_err-item g c =
    let p = err_from_is_err_and c.from_residual-in_err-item.result c.from_residual-in_err-item.ensures.1 in
    rw p.1 (reads_next 4 _ (reads_field Word c.in_ok-basic.ensures.answer)
    (reads_halt 3 p.0 _ (reads_field Word c.in_err-item.ensures.answer) p.2 (omega arith)) (omega arith))

pub returns-in_err-count : goal.returns-in_err-count
unfolding from_end_at
returns-in_err-count g c =
    let p = err_from_is_err_and c.from_residual-in_err-count.result c.from_residual-in_err-count.ensures.1 in
    rw p.1 (reads_next 4 _ (reads_field Word c.in_ok-basic.ensures.answer)
    (reads_next 3 _ (reads_field Word c.in_ok-item.ensures.answer)
    (reads_halt 2 p.0 _ (reads_field Word c.in_err-count.ensures.answer) p.2 (omega arith)) (omega arith))
    (omega arith))

pub returns : goal.returns
unfolding from_end_at
returns g c =
    let end = c.end_of.ensures.value ∙ ap (end_of c.in_ok-basic.basic c.in_ok-item.item) c.magnitude.ensures.value in
    let place = sym (c.place_before.ensures ∙ ap (λ n. address_before (c.args.addr + n) c.args.back) end) in
    reads_next 4 _ (reads_field Word c.in_ok-basic.ensures.answer)
    (reads_next 3 _ (reads_field Word c.in_ok-item.ensures.answer)
    (reads_next 2 _ (reads_field Word c.in_ok-count.ensures.answer)
    (reads_same _ _ (λ m. ap (named_dict_at m) place) c.named_dict.ensures) (omega arith)) (omega arith)) (omega arith)
