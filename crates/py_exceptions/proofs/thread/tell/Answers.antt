use Rattle.std.proofs.Common.{◌≤◌, arith, ap, length, ◌∙◌}
use Rattle.std.proofs.lemmas.Result.{err_from_is_err_and}
use Rattle.process_memory.proofs.Reading.{reading_gives}
use Rattle.thread_exceptions.specs.Discovery.{met_of}
use Rattle.py_exceptions.specs.Exceptions.{met_told_at}
use Rattle.py_exceptions.proofs.Few.{thread_few}
use Rattle.py_exceptions.proofs.Maps.{map_twice}
use Rattle.py_exceptions.proofs.Tells.{reading_and}
use Rattle.py_exceptions.proofs.thread.tell.Goals as goal

pub returns-in_err-raised : goal.returns-in_err-raised
returns-in_err-raised g c =
    let p = err_from_is_err_and c.from_residual-in_err-raised.result c.from_residual-in_err-raised.ensures.1 in
    rw p.1 (reading_gives _ _ (reading_and c.in_ok-found.ensures.right c.in_err-raised.ensures) (omega arith)
    (λ m h. tt))

pub returns-in_err-told : goal.returns-in_err-told
returns-in_err-told g c =
    let p = err_from_is_err_and c.from_residual-in_err-told.result c.from_residual-in_err-told.ensures.1 in
    let few : length c.in_ok-found.found.met.items ≤ 1024 = thread_few c.args.places.now.thread c.args.thread
    c.in_ok-found.found c.in_ok-found.ensures.right in
    rw p.1 (reading_gives _ _ (reading_and c.in_ok-found.ensures.right (reading_and c.in_ok-raised.ensures
    c.in_err-told.ensures)) (omega (arith, few, ap length c.deref.ensures.value)) (λ m h. tt))

pub returns : goal.returns
returns g c =
    let few : length c.in_ok-found.found.met.items ≤ 1024 = thread_few c.args.places.now.thread c.args.thread
    c.in_ok-found.found c.in_ok-found.ensures.right in
    let told = rw c.deref.ensures.value at c.in_ok-told.ensures in
    reading_gives _ _ (reading_and c.in_ok-found.ensures.right (reading_and c.in_ok-raised.ensures told))
    (omega (arith, few))
    (λ m h. record {
      thread = h.0;
      raised = h.1.0;
      told = h.1.1 ∙ map_twice (λ x. met_told_at c.args.layout.now c.args.places.now m x) (λ x. met_of x)
          c.in_ok-found.found.met.items;
    })
