use Rattle.std.proofs.Common.{sym, arith}
use Rattle.process_memory.proofs.Reading.{reads_end, reads_same}
use Rattle.instance_dicts.proofs.HeldSteps.{apart_none, apart_some}
use Rattle.instance_dicts.proofs.managed.held_apart.Goals as goal

pub returns-then-values-eq0 : goal.returns-then-values-eq0
returns-then-values-eq0 g c =
    reads_same _ _ (λ m. apart_none c.args.fields.now m c.args.class c.args.values c.args.dict (omega arith))
    (reads_end 1 (sym c.dict_or_none.ensures))

pub returns : goal.returns
returns g c =
    reads_same _ _ (λ m. apart_some c.args.fields.now m c.args.class c.args.values c.args.dict
    (omega arith)) c.values_with.ensures
