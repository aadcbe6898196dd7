use Rattle.std.proofs.Common.{◌≡◌, map, take}
use Rattle.exception_texts.specs.Plan.{show}
use Rattle.exception_texts.proofs.plan.show_each.Given as goal

abbrev pub invariant-loop-addr : goal.invariant-loop-addr
invariant-loop-addr l = l.todo.items ≡ map (λ a. show l.depth a) (take l.addr-index l.addrs)
