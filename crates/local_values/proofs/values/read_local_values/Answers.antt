use Rattle.std.proofs.Common.{◌∙◌}
use Rattle.std.proofs.lemmas.Result.{err_from_is_err_and}
use Rattle.process_memory.proofs.Reading.{reading_gives, reading_none, reading_then}
use Rattle.local_values.specs.Values.{AreLocalValues}
use Rattle.local_values.proofs.Rounds.{cost_same, local_are}
use Rattle.local_values.proofs.values.read_local_values.Goals as goal

pub returns-in_err-addresses : goal.returns-in_err-addresses
returns-in_err-addresses g c =
    let p = err_from_is_err_and c.from_residual.result c.from_residual.ensures.1 in
    rw p.1 (reading_none _ _ _ (λ m. tt))

pub returns-in_err-found : goal.returns-in_err-found
returns-in_err-found g c =
    let p = err_from_is_err_and c.from_residual-in_err-found.result c.from_residual-in_err-found.ensures.1 in
    rw p.1 (reading_gives _ _ c.in_err-found.ensures
    (cost_same _ _ _ _ (c.deref.ensures.value ∙ c.in_ok-addresses.ensures) c.rounds_of-rounds.ensures).0 (λ m h. tt))

pub returns-in_err-names : goal.returns-in_err-names
returns-in_err-names g c =
    let p = err_from_is_err_and c.from_residual-in_err-names.result c.from_residual-in_err-names.ensures.1 in
    let first = c.deref.ensures.value ∙ c.in_ok-addresses.ensures in
    let second = c.deref-2.ensures.value ∙ c.in_ok-addresses.ensures in
    rw p.1 (reading_gives _ _ (reading_then _ c.in_ok-found.ensures c.in_err-names.ensures (λ m a b. b))
    ((cost_same _ _ _ _ first c.rounds_of-rounds.ensures).1 _ second) (λ m h. tt))

pub returns : goal.returns
returns g c =
    let first = c.deref.ensures.value ∙ c.in_ok-addresses.ensures in
    let second = c.deref-2.ensures.value ∙ c.in_ok-addresses.ensures in
    reading_gives _ _
    (reading_then (λ m. AreLocalValues c.args.layout.now c.args.types.now c.args.l m c.args.interpreters.now
    (record {
      values = c.in_ok-found.found.values;
      left_out = c.in_ok-found.found.left_out;
      names = c.in_ok-names.names;
    }))
    c.in_ok-found.ensures c.in_ok-names.ensures (λ m found names.
    local_are c.args.layout.now c.args.types.now c.args.l m c.args.interpreters.now _ _ _ _ first second
    c.rounds_of-rounds.ensures found names))
    ((cost_same _ _ _ _ first c.rounds_of-rounds.ensures).1 _ second) (λ m h. h)
