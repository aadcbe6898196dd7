use Rattle.std.proofs.Common.{◌∙◌, sym, ap, arith}
use Rattle.std.specs.Prelude.{◌≡◌, IfOk, Some}
use Rattle.process_memory.proofs.Reading.{reading_gives, reading_then}
use Rattle.py_census.specs.Blocks.{shared_keys, type_at}
use Rattle.py_census.proofs.Said.{said}
use Rattle.py_census.proofs.blocks.read_type.Goals as goal

pub returns-in-Some : goal.returns-in-Some
returns-in-Some g c =
    let p = c.args.places.now in
    let r = c.read_shared.result in
    reading_gives 2 _
    (reading_then (λ m. IfOk r (λ bytes. bytes ≡ type_at p m c.args.object)) c.in_ok-keys.ensures c.read_shared.ensures
    (λ m a b. said r (shared_keys p m (Some c.in-Some.keys)) (type_at p m c.args.object)
    (ap (shared_keys p m) (sym c.in-Some.is ∙ a)) b))
    (omega arith) (λ m h. h)
