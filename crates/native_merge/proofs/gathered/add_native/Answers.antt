use Rattle.native_merge.proofs.Gathers.{more_none, more_step, items_outside, items_step, items_native, items_left_out}
use Rattle.native_merge.proofs.gathered.add_native.Goals as goal

pub returns-then-not-is_python-clause-more : goal.returns-then-not-is_python-clause-more
returns-then-not-is_python-clause-more g c =
    rw (items_outside c.args.is_python c.args.native.now c.if-not-is_python.true) c.in_ok-show.ensures.more

pub returns-in_ok-next-in-Step-clause-more : goal.returns-in_ok-next-in-Step-clause-more
returns-in_ok-next-in-Step-clause-more g c =
    rw (items_step c.args.is_python c.args.native.now c.if-not-is_python.false c.in-Step.ensures)
    (more_step c.in_ok-next-in-Step.ensures.short c.in_ok-next-in-Step.ensures.next c.in_ok-next-in-Step.ensures.taken)

pub returns-in_ok-show-in-Native-clause-more : goal.returns-in_ok-show-in-Native-clause-more
returns-in_ok-show-in-Native-clause-more g c =
    rw (items_native c.args.is_python c.args.native.now c.if-not-is_python.false c.in-Native.ensures) c.in_ok-show-in-Native.ensures.more

pub returns-in-LeftOut-clause-more : goal.returns-in-LeftOut-clause-more
returns-in-LeftOut-clause-more g c =
    rw (items_left_out c.args.is_python c.args.native.now c.if-not-is_python.false c.in-LeftOut.ensures)
    (more_none c.args.frames.now c.args.made.now.items c.args.cursor)
