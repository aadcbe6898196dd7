use Rattle.std.proofs.Common.{◌∙◌, sym, ap, arith}
use Rattle.std.specs.Prelude.{◌≡◌, IfOk, Some}
use Rattle.process_memory.proofs.Reading.{reading_gives, reading_then}
use Rattle.py_census.specs.Blocks.{dict_at, keys_at}
use Rattle.py_census.proofs.Said.{said}
use Rattle.py_census.proofs.blocks.read_dict.Goals as goal

pub returns-in-Some : goal.returns-in-Some
returns-in-Some g c =
    let p = c.args.places.now in
    let r = c.read_keys.result in
    reading_gives 3 _
    (reading_then (λ m. IfOk r (λ bytes. bytes ≡ dict_at p m c.args.object)) c.in_ok-keys.ensures c.read_keys.ensures
    (λ m a b. said r (keys_at p m (Some c.in-Some.keys)) (dict_at p m c.args.object)
    (ap (keys_at p m) (sym c.in-Some.is ∙ a)) b))
    (omega arith) (λ m h. h)
