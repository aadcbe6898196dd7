use Rattle.std.proofs.Common.{◌∙◌, ap, arith, subst}
use Rattle.std.proofs.lemmas.Result.{err_from_is_err_and}
use Rattle.process_memory.proofs.Reading.{reading_gives}
use Rattle.py_exceptions.specs.Faults.{found_or_none}
use Rattle.py_exceptions.specs.Last.{IsFoundBy, found_shown, key_of, set_at}
use Rattle.py_exceptions.proofs.Tells.{reading_and, reads_or_none}
use Rattle.py_exceptions.proofs.last.tell_last.Goals as goal

pub returns-in_err-known : goal.returns-in_err-known
returns-in_err-known g c =
    let p = err_from_is_err_and c.from_residual.result c.from_residual.ensures.1 in
    rw p.1 (reading_gives _ _ (reads_or_none _ c.read_set-value.ensures c.in_err-known.ensures) (omega arith) (λ m h. tt))

pub returns-in_err-found : goal.returns-in_err-found
returns-in_err-found g c =
    let p = err_from_is_err_and c.from_residual-in_err-found.result c.from_residual-in_err-found.ensures.1 in
    rw p.1 (reading_gives _ _ (reading_and (reads_or_none _ c.read_set-value.ensures c.in_ok-known.ensures)
    c.in_err-found.ensures) (omega arith) (λ m h. tt))

pub returns : goal.returns
returns g c =
    let l = c.args.layout.now in
    let d = c.args.places.now in
    let named = c.key_of.ensures ∙ ap (λ n. key_of n) c.last_name-name.ensures in
    reading_gives _ _ (reading_and (reads_or_none _ c.read_set-value.ensures c.in_ok-known.ensures)
    c.in_ok-found.ensures) (omega arith)
    (λ m h. record {
      name = c.last_name-name.ensures;
      found = subst (λ known. IsFoundBy l d m known (found_shown c.in_ok-found.found))
          (h.0 ∙ ap (λ key. found_or_none (set_at l m c.args.interpreter key)) named) h.1;
    })
