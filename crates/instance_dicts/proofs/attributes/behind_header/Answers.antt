use Rattle.std.proofs.Common.{arith}
use Rattle.instance_dicts.proofs.HeldSteps.{header_none, header_some}
use Rattle.instance_dicts.proofs.attributes.behind_header.Goals as goal

pub returns-then-values-eq0 : goal.returns-then-values-eq0
returns-then-values-eq0 c = record { is = header_none c.args.values (omega arith) }

pub returns : goal.returns
returns c = record { is = rw (header_some c.args.values (omega arith)) c.as_address.ensures.is }
