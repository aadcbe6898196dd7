use Rattle.std.proofs.Common.{◌≡◌, ◌+◌, ◌∙◌, ap, arith}
use Rattle.std.specs.Prelude.{Some}
use Rattle.std.proofs.lemmas.Result.{err_from_is_err_and}
use Rattle.process_memory.specs.Memory.{word_at}
use Rattle.process_memory.proofs.Reading.{reading_gives, reading_then}
use Rattle.py_census.specs.Bases.{known}
use Rattle.py_census.specs.Blocks.{keys_at, own_bytes}
use Rattle.py_census.proofs.blocks.read_keys.Goals as goal

pub returns-in_err-word : goal.returns-in_err-word
returns-in_err-word g c =
    let p = err_from_is_err_and c.from_residual-in_err-word.result c.from_residual-in_err-word.ensures.1 in
    rw p.1 (reading_gives 2 _ (reading_then (λ m. Unit {0}) c.in_ok-owners.ensures c.in_err-word.ensures
    (λ m a b. tt)) (omega arith) (λ m h. tt))

pub returns : goal.returns
returns g c =
    let p = c.args.places.now in
    reading_gives 2 _
    (reading_then (λ m. c.own_bytes.result ≡ keys_at p m (Some c.args.keys)) c.in_ok-owners.ensures c.in_ok-word.ensures
    (λ m a b. c.own_bytes.ensures ∙ ap (λ o. own_bytes p.keys_form o c.in_ok-word.word) a
    ∙ ap (λ w. own_bytes p.keys_form (known (word_at m (c.args.keys + 0))) w) b))
    (omega arith) (λ m h. h)
