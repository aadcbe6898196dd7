use Rattle.std.proofs.Common.{◌*◌, ap, arith, length, refl}
use Rattle.std.specs.Prelude.{option_map}
use Rattle.std.specs.BTreeMap.{is_at}
use Rattle.std.specs.Map.{lookup}
use Rattle.std.specs.Ordering.{nat_cmp}
use Rattle.std.proofs.lemmas.Result.{err_from_is_err_and}
use Rattle.process_memory.proofs.Reading.{reading_gives, reading_none, reading_then}
use Rattle.py_reprs.specs.Trees.{tree_of}
use Rattle.local_values.specs.Values.{AreValues, held_in, local_cost}
use Rattle.local_values.proofs.Rounds.{cost_more, rounds_more, rounds_none}
use Rattle.local_values.proofs.values.+read_rounds.Goals as goal

pub returns-then-rounds-eq0 : goal.returns-then-rounds-eq0
returns-then-rounds-eq0 g t c =
    reading_none _ _ _ (λ m. rounds_none c.args.layout.now c.args.types.now m c.args.rounds c.args.addresses.now _ _
    c.if-rounds-eq0.true (λ a. ap (λ es. option_map tree_of (lookup (is_at (nat_cmp a)) es)) c.new.ensures.empty) refl)

pub returns-in_err-found : goal.returns-in_err-found
returns-in_err-found g t c =
    let p = err_from_is_err_and c.from_residual.result c.from_residual.ensures.1 in
    let more = cost_more (length c.args.addresses.now) c.args.rounds c.if-rounds-eq0.false in
    rw p.1 (reading_gives _ _ c.in_err-found.ensures (omega (arith, more)) (λ m h. tt))

pub returns-in_err-behind : goal.returns-in_err-behind
returns-in_err-behind g t c =
    let p = err_from_is_err_and c.from_residual-in_err-behind.result c.from_residual-in_err-behind.ensures.1 in
    let more = cost_more (length c.args.addresses.now) c.args.rounds c.if-rounds-eq0.false in
    let cost = ap (λ b. length c.args.addresses.now * local_cost b) c.at-limits.ensures in
    rw p.1 (reading_gives _ _ (reading_then _ c.in_ok-found.ensures c.in_err-behind.ensures (λ m a b. b))
    (omega (arith, more, cost)) (λ m h. tt))

pub returns : goal.returns
returns g t c =
    let more = cost_more (length c.args.addresses.now) c.args.rounds c.if-rounds-eq0.false in
    let cost = ap (λ b. length c.args.addresses.now * local_cost b) c.at-limits.ensures in
    reading_gives _ _
    (reading_then (λ m. AreValues c.args.layout.now c.args.types.now m c.args.rounds c.args.addresses.now
    (held_in c.read_round.new.values) c.min-left_out.result)
    c.in_ok-found.ensures c.in_ok-behind.ensures (λ m found round.
    rounds_more c.args.layout.now c.args.types.now m c.args.rounds c.args.addresses.now c.at-limits.result
    (held_in c.in_ok-found.found.values) _ c.in_ok-found.found.left_out _ c.in_ok-behind.behind
    c.if-rounds-eq0.false c.at-limits.ensures found round
    c.min-left_out.ensures))
    (omega (arith, more, cost)) (λ m h. h)
