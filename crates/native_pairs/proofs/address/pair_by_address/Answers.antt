use Rattle.std.proofs.Common.{IfOk, Ok, Err, ◌≡◌, ◌≤◌, length}
use Rattle.native_pairs.specs.Pairs.{IsPairedByAddress, lies_by, runs_all}
use Rattle.native_pairs.proofs.Paired.{paired_only, runs_few}
use Rattle.native_pairs.proofs.address.pair_by_address.Goals as goal

pub returns-clause-only : goal.returns-clause-only
returns-clause-only c other is =
    (elim c.pairs_of.result as (λ r. IfOk r (λ takes. IsPairedByAddress c.args.parts.now c.args.borders.now takes.items)
    → IfOk r (λ takes. takes.items ≡ other)) [
      | Ok takes ↦ λ p. paired_only (lies_by c.args.parts.now c.args.borders.now) (length c.args.parts.now) takes.items
          other p is
      | Err e ↦ λ p. p
    ]) c.pairs_of.ensures

pub returns-clause-once : goal.returns-clause-once
returns-clause-once c =
    (elim c.pairs_of.result as (λ r. IfOk r (λ takes. IsPairedByAddress c.args.parts.now c.args.borders.now takes.items)
    → IfOk r (λ takes. runs_all takes.items ≤ length c.args.borders.now)) [
      | Ok takes ↦ λ p. runs_few c.args.parts.now c.args.borders.now takes.items p
      | Err e ↦ λ p. p
    ]) c.pairs_of.ensures
