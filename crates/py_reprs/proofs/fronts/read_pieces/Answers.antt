use Rattle.std.proofs.Common.{◌∙◌, ap, arith}
use Rattle.std.proofs.lemmas.Result.{err_from_is_err_and}
use Rattle.process_memory.specs.Seen.{read_fault}
use Rattle.py_reprs.proofs.Pieces.{read_begins, read_lacks, read_lost, read_more, read_unkept}
use Rattle.py_reprs.proofs.fronts.read_pieces.Goals as goal

pub loop-done-init : goal.loop-done-init
loop-done-init g c = rw c.new-bytes.ensures.items (read_begins _ _ _)

pub returns-in_err-read : goal.returns-in_err-read
returns-in_err-read g c =
    let p = err_from_is_err_and c.from_residual.result c.from_residual.ensures.1 in
    rw p.1 (read_lost p.0 c.min-piece.result c.loop-done.invariant (omega arith) c.in_err-read.ensures
    (ap read_fault p.2))

pub returns-in_default : goal.returns-in_default
returns-in_default g c = read_lacks c.min-piece.result c.loop-done.invariant (omega arith)
    c.min-piece.ensures (rw c.in_default.is at c.in_ok-read.ensures)

pub returns-in_err-add_piece : goal.returns-in_err-add_piece
returns-in_err-add_piece g c =
    let p = err_from_is_err_and c.from_residual-in_err-add_piece.result c.from_residual-in_err-add_piece.ensures.1 in
    rw p.1 (read_unkept c.min-piece.result p.0 c.loop-done.invariant (omega arith) c.in_ok-read.ensures
    (ap read_fault (p.2 ∙ c.in_err-add_piece.ensures.memory)))

pub loop-done-preserved : goal.loop-done-preserved
loop-done-preserved g c =
    rw (c.in_ok-add_piece.ensures.added, c.deref.ensures.value)
    (read_more c.min-piece.result c.loop-done.invariant (omega arith) c.min-piece.ensures
    (rw c.in-Some.is at c.in_ok-read.ensures))
