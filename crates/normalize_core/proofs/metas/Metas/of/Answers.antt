use Rattle.std.proofs.Common.{take, sym, subst}
use Rattle.std.proofs.lemmas.List.{take_more, take_all}
use Rattle.normalize_core.specs.Met.{HasMet}
use Rattle.normalize_core.proofs.metas.Metas.of.Goals as goal

pub loop-addr-preserved : goal.loop-addr-preserved
loop-addr-preserved c =
    subst (λ xs. HasMet c.args.query.now xs c.meet.new.self) (sym (take_more c.args.ascending.now c.loop-addr.addr-index 0 c.loop-addr-test.true))
    (c.in_ok-meet.ensures (take c.loop-addr.addr-index c.args.ascending.now) c.loop-addr.invariant)

pub returns : goal.returns
returns c =
    subst (λ xs. HasMet c.args.query.now xs c.loop-addr.metas) (take_all c.loop-addr.addr-index c.args.ascending.now c.loop-addr-test.false) c.loop-addr.invariant
