use Rattle.std.proofs.Common.{arith, sym}
use Rattle.std.proofs.lemmas.Bool.Decides.{nat_tests}
use Rattle.thread_exceptions.specs.Groups.{is_builtin}
use Rattle.thread_exceptions.proofs.groups.is_builtin.Goals as goal

pub returns : goal.returns
unfolding is_builtin
returns c = search (arith, nat_tests)
