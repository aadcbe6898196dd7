use Rattle.std.proofs.Common.{◌≡◌, ◌*◌, sym, ap, ◌∙◌, arith}
use Rattle.std.proofs.lemmas.Result.{err_from_is_err_and}
use Rattle.process_memory.proofs.Reading.{reads_next, reads_halt, reads_end, reads_same}
use Rattle.py_builtins.specs.ObjectError.{object_fault}
use Rattle.instance_dicts.specs.Attributes.{at_most, attributes_from, told, told_by}
use Rattle.instance_dicts.proofs.attributes.told_by.Goals as goal

pub returns-in_err-list : goal.returns-in_err-list
unfolding told_by
returns-in_err-list g c =
    let slots = c.args.dict.now.slots in
    let p = err_from_is_err_and c.from_residual.result c.from_residual.ensures.1 in
    let count : c.remaining-count.result ≡ slots.count = omega (arith, c.remaining-count.ensures, c.requires.start) in
    let looked : at_most slots.count c.args.limit ≡ c.at_most-looked.result =
    sym (c.at_most-looked.ensures.value ∙ ap (λ n. at_most n c.args.limit) count) in
    rw p.1 (reads_halt (2 * c.args.limit) p.0 _
    (reads_same (λ m. attributes_from m slots (at_most slots.count c.args.limit) 0) _
    (λ m. ap (λ n. attributes_from m slots n 0) looked) c.in_err-list.ensures)
    (ap object_fault p.2) (omega (arith, c.at_most-looked.ensures.few)))

pub returns : goal.returns
unfolding told_by
returns g c =
    let slots = c.args.dict.now.slots in
    let count : c.remaining-count.result ≡ slots.count = omega (arith, c.remaining-count.ensures, c.requires.start) in
    let looked : at_most slots.count c.args.limit ≡ c.at_most-looked.result =
    sym (c.at_most-looked.ensures.value ∙ ap (λ n. at_most n c.args.limit) count) in
    reads_next (2 * c.args.limit) _
    (reads_same (λ m. attributes_from m slots (at_most slots.count c.args.limit) 0) _
    (λ m. ap (λ n. attributes_from m slots n 0) looked) c.in_ok-list.ensures)
    (reads_end 0 (ap (told c.in_ok-list.list.items) (omega (arith, count, looked))))
    (omega (arith, c.at_most-looked.ensures.few))
