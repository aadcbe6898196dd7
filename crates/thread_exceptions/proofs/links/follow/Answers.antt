use Rattle.std.proofs.Common.{arith, length, sym, ◌∙◌, ◌≢◌}
use Rattle.std.proofs.lemmas.Result.{err_from_is_err_and}
use Rattle.thread_exceptions.specs.Turns.{turn_at}
use Rattle.thread_exceptions.specs.Turns.{stop_of}
use Rattle.thread_exceptions.proofs.Follows.{following_before, following_full, following_init, following_last}
use Rattle.thread_exceptions.proofs.Follows.{following_lost, known_met, known_new}
use Rattle.thread_exceptions.proofs.Follows.{following_met, following_more}
use Rattle.thread_exceptions.proofs.Sorted.{set_added}
use Rattle.thread_exceptions.proofs.links.follow.Goals as goal

pub members-init : goal.members-init
members-init g c = rw c.new-members.ensures.items
    (following_init (turn_at c.args.offset) c.args.limit c.args.head _ c.new-met.result.keys c.new-met.ensures.empty)

pub returns-then-contains : goal.returns-then-contains
returns-then-contains g c =
    following_met c.members.invariant (known_met c.members.met c.members.invariant (sym c.contains.ensures
    ∙ c.if-contains.true))

pub returns-then-len-limit : goal.returns-then-len-limit
returns-then-len-limit g c =
    following_full c.members.invariant (known_new c.members.met c.members.invariant (sym c.contains.ensures
    ∙ c.if-contains.false)) (omega (arith, c.members.members.ok.0))

pub returns-in_err-turn : goal.returns-in_err-turn
returns-in_err-turn g c =
    let p = err_from_is_err_and c.from_residual.result c.from_residual.ensures.1 in
    let some : length c.members.members.items ≢ c.args.limit = omega (arith, c.members.members.ok.0) in
    rw p.1 (following_lost _ c.members.invariant some c.in_err-turn.ensures (omega arith) (λ m. tt))

pub members-preserved : goal.members-preserved
members-preserved g c =
    let some : length c.members.members.items ≢ c.args.limit = omega (arith, c.members.members.ok.0) in
    let turn = rw c.in-To.is at c.in_ok-turn.ensures in
    rw c.in_ok-push-in-To.ensures.items (following_more c.insert.new.self.keys c.members.invariant
    (known_new c.members.met c.members.invariant (sym c.contains.ensures ∙ c.if-contains.false)) some turn
    (set_added c.members.met c.insert.new.self c.members.at c.in_ok-insert-in-To.ensures.updates))

pub returns-in-Before : goal.returns-in-Before
returns-in-Before g c =
    let some : length c.members.members.items ≢ c.args.limit = omega (arith, c.members.members.ok.0) in
    let turn = rw c.in-Before.is at c.in_ok-turn.ensures in
    rw c.end_of-end-in-Before.ensures (following_before (stop_of c.in-Before.stop) c.members.invariant
    (known_new c.members.met c.members.invariant (sym c.contains.ensures ∙ c.if-contains.false)) some turn)

pub returns-in_err-push-in-To : goal.returns-in_err-push-in-To
returns-in_err-push-in-To g c =
    let p = err_from_is_err_and c.from_residual-in_err-push-in-To.result c.from_residual-in_err-push-in-To.ensures.1 in
    let some : length c.members.members.items ≢ c.args.limit = omega (arith, c.members.members.ok.0) in
    let turn = rw c.in-To.is at c.in_ok-turn.ensures in
    rw p.1 (following_lost _ c.members.invariant some turn (omega arith) (λ m. tt))

pub returns-in_err-push-in-Last : goal.returns-in_err-push-in-Last
returns-in_err-push-in-Last g c =
    let p = err_from_is_err_and c.from_residual-in_err-push-in-Last.result
    c.from_residual-in_err-push-in-Last.ensures.1 in
    let some : length c.members.members.items ≢ c.args.limit = omega (arith, c.members.members.ok.0) in
    let turn = rw c.in-Last.is at c.in_ok-turn.ensures in
    rw p.1 (following_lost _ c.members.invariant some turn (omega arith) (λ m. tt))

pub returns-in-Last : goal.returns-in-Last
returns-in-Last g c =
    let some : length c.members.members.items ≢ c.args.limit = omega (arith, c.members.members.ok.0) in
    let turn = rw c.in-Last.is at c.in_ok-turn.ensures in
    rw c.end_of-end.ensures (following_last (stop_of c.in-Last.stop) c.members.invariant
    (known_new c.members.met c.members.invariant (sym c.contains.ensures
    ∙ c.if-contains.false)) some turn c.in_ok-push-in-Last.ensures.items)

pub returns-in_err-insert-in-To : goal.returns-in_err-insert-in-To
returns-in_err-insert-in-To g c =
    let p = err_from_is_err_and c.from_residual-in_err-insert-in-To.result
    c.from_residual-in_err-insert-in-To.ensures.1 in
    let some : length c.members.members.items ≢ c.args.limit = omega (arith, c.members.members.ok.0) in
    let turn = rw c.in-To.is at c.in_ok-turn.ensures in
    rw p.1 (following_lost _ c.members.invariant some turn (omega arith) (λ m. tt))
