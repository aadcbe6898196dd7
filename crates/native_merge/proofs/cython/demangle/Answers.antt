use Rattle.native_merge.proofs.Fronts.{demangles_once}
use Rattle.native_merge.proofs.cython.demangle.Goals as goal

pub returns-in-Some-clause-once : goal.returns-in-Some-clause-once
returns-in-Some-clause-once c = demangles_once

pub returns-in-None-clause-once : goal.returns-in-None-clause-once
returns-in-None-clause-once c = demangles_once
