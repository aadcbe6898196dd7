use Rattle.std.proofs.Common.{◌≡◌, arith, get_or, not, ◌&&◌}
use Rattle.std.specs.Prelude.{nat_eq, false}
use Rattle.py_fronts.specs.declared.interpreters.FoundInterpreter.{FoundInterpreter}
use Rattle.py_fronts.proofs.FoundMarks.{mark_kept, mark_none, renamed_more, set_mark}
use Rattle.py_fronts.proofs.interpreters.mark_named.Goals as goal
use Rattle.py_fronts.proofs.interpreters.mark_named.Goals.{then-one, else-one}

pub loop-one-preserved : goal.loop-one-preserved
loop-one-preserved c =
    let none : FoundInterpreter = record { address = 0; head = 0; searched = false } in
    let here = get_or c.loop-one.one-items c.loop-one.one-index none in
    let named = nat_eq here.address c.args.addr in
    let marked : c.if-one.one ≡ (here.searched && not named) = elim c.if-one.branch [
      | then-one w ↦ mark_kept here.searched named c.if-one.one w.if-one.true w.one-is
      | else-one w ↦ mark_none here.searched named c.if-one.one w.if-one.false w.one-is
    ] in
    renamed_more c.args.addr c.deref_mut-one-items.result.now c.loop-one.one-items c.loop-one.one-index _ none
    (omega arith) c.loop-one.invariant (set_mark c.args.addr here c.if-one.one marked)
