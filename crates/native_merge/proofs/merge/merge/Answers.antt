use Rattle.native_merge.specs.Merges.{is_python}
use Rattle.native_merge.proofs.Asked.{asked_last, asked_so_far}
use Rattle.native_merge.proofs.MergeSteps.{merging_none, merging_more, merging_done}
use Rattle.native_merge.proofs.merge.merge.Goals as goal

pub loop-addr-init : goal.loop-addr-init
loop-addr-init g c = merging_none (g.S.Symbolicator.seen c.args.symbols.now) (g.F.Sources.seen c.args.sources.now)
    (is_python c.args.python.now c.args.libpython.now) c.args.frames.now c.args.cache.now c.new-made.result.items c.new-made.ensures.items

pub loop-addr-preserved : goal.loop-addr-preserved
loop-addr-preserved g c = merging_more c.args.native_stack.now c.loop-addr.addr-index c.is_python-inside.result c.ask-answer.result
    c.loop-addr-test.true c.is_python-inside.ensures c.loop-addr.invariant c.ask-answer.ensures.no_binary c.ask-answer.ensures.failed
    c.ask-answer.ensures.stay c.ask-answer.ensures.held c.ask-answer.ensures.given c.ask-answer.ensures.after
    c.in_ok-cursor.ensures.room c.in_ok-cursor.ensures.more c.in_ok-cursor.ensures.stay

pub returns-clause-merges : goal.returns-clause-merges
returns-clause-merges g c = merging_done c.args.native_stack.now c.loop-addr.addr-index c.finish.result c.loop-addr-test.false
    c.loop-addr.invariant c.finish.ensures

pub returns-in_err-cursor-clause-asked : goal.returns-in_err-cursor-clause-asked
returns-in_err-cursor-clause-asked g c = asked_last c.args.native_stack.now c.loop-addr.addr-index c.is_python-inside.result c.ask-answer.result
    c.loop-addr-test.true c.is_python-inside.ensures c.loop-addr.invariant c.ask-answer.ensures.held c.ask-answer.ensures.given
    c.ask-answer.ensures.after

pub returns-clause-asked : goal.returns-clause-asked
returns-clause-asked g c = asked_so_far c.args.native_stack.now c.loop-addr.addr-index c.loop-addr.invariant
