use Rattle.std.proofs.Common.{◌≡◌, ◌++◌, map}
use Rattle.object_reach.specs.Reading.{listed_as}
use Rattle.object_reach.proofs.search.listed.Given as goal

abbrev pub invariant-loop-addr : goal.invariant-loop-addr
invariant-loop-addr l = l.objects.items ++ map listed_as l.addr-iterator ≡ map listed_as l.fn.done.entries
