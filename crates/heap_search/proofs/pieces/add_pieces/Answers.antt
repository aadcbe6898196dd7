use Rattle.std.proofs.Common.{arith}
use Rattle.heap_search.proofs.PieceSteps.{cutting_done, cutting_empty, cutting_init, cutting_more, pieces_near}
use Rattle.heap_search.proofs.pieces.add_pieces.Goals as goal

pub loop-turns-init : goal.loop-turns-init
loop-turns-init c = cutting_init c.args.pieces.now.items c.args.addr c.args.words

pub loop-turns-preserved : goal.loop-turns-preserved
loop-turns-preserved c = rw c.in_ok-push.ensures.items
    (cutting_more c.min-count.result c.loop-turns.invariant (omega arith) (omega arith) c.min-count.ensures)

pub returns-then-left-eq0-clause-added : goal.returns-then-left-eq0-clause-added
returns-then-left-eq0-clause-added c = cutting_empty c.loop-turns.invariant (omega arith)

pub returns-then-left-eq0-clause-each : goal.returns-then-left-eq0-clause-each
returns-then-left-eq0-clause-each c = pieces_near 32768 c.args.addr c.args.words (omega arith)

pub returns-in_err-push-clause-each : goal.returns-in_err-push-clause-each
returns-in_err-push-clause-each c = pieces_near 32768 c.args.addr c.args.words (omega arith)

pub returns-clause-added : goal.returns-clause-added
returns-clause-added c = cutting_done c.loop-turns.invariant (omega arith)

pub returns-clause-each : goal.returns-clause-each
returns-clause-each c = pieces_near 32768 c.args.addr c.args.words (omega arith)
