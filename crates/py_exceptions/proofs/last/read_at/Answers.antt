use Rattle.std.proofs.Common.{◌≤◌, ap, arith, length, map, ◌∙◌}
use Rattle.std.proofs.lemmas.Result.{err_from_is_err_and}
use Rattle.process_memory.proofs.Reading.{reading_gives, reading_none}
use Rattle.thread_exceptions.specs.Discovery.{met_of}
use Rattle.py_exceptions.specs.Exceptions.{met_told_at}
use Rattle.py_exceptions.specs.Last.{found_of}
use Rattle.py_exceptions.proofs.Alone.{closure_few}
use Rattle.py_exceptions.proofs.Maps.{map_twice}
use Rattle.py_exceptions.proofs.Tells.{reading_and}
use Rattle.py_exceptions.proofs.last.read_at.Goals as goal

pub returns-in_err-roots : goal.returns-in_err-roots
returns-in_err-roots g c =
    let p = err_from_is_err_and c.from_residual.result c.from_residual.ensures.1 in
    rw p.1 (reading_none _ _ _ (λ m. tt))

pub returns-in_err-met : goal.returns-in_err-met
returns-in_err-met g c =
    let p = err_from_is_err_and c.from_residual-in_err-met.result c.from_residual-in_err-met.ensures.1 in
    rw p.1 (reading_gives _ _ c.in_err-met.ensures.right (omega arith) (λ m h. tt))

pub returns-in_err-told : goal.returns-in_err-told
returns-in_err-told g c =
    let p = err_from_is_err_and c.from_residual-in_err-told.result c.from_residual-in_err-told.ensures.1 in
    let few : length c.in_ok-met.met.items ≤ 1024 = closure_few c.args.places.now.thread _ c.in_ok-met.met.items
    c.in_ok-met.ensures.right in
    rw p.1 (reading_gives _ _ (reading_and c.in_ok-met.ensures.right c.in_err-told.ensures)
    (omega (arith, few, ap length c.deref-2.ensures.value)) (λ m h. tt))

pub returns : goal.returns
returns g c =
    let few : length c.in_ok-met.met.items ≤ 1024 = closure_few c.args.places.now.thread _ c.in_ok-met.met.items
    c.in_ok-met.ensures.right in
    let met = rw (c.deref.ensures.value, c.in_ok-roots.ensures) at c.in_ok-met.ensures.right in
    let told = rw c.deref-2.ensures.value at c.in_ok-told.ensures in
    reading_gives _ _ (reading_and met told) (omega (arith, few))
    (λ m h. record {
      met = map (λ x. met_of x) c.in_ok-met.met.items;
      are_met = h.0;
      is = c.found_of.ensures ∙ ap (found_of c.args.addr (map (λ x. met_of x) c.in_ok-met.met.items)) (h.1
          ∙ map_twice (λ x. met_told_at c.args.layout.now c.args.places.now m x) (λ x. met_of x) c.in_ok-met.met.items);
    })
