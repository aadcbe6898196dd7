use Rattle.std.proofs.Common.{◌++◌, codes}
use Rattle.std.proofs.lemmas.Result.{err_from_is_err_and}
use Rattle.core_texts.specs.Parts.{said}
use Rattle.core_texts.proofs.Pieces.{cut_off, then_cut, then_written}
use Rattle.fault_lines.proofs.line.write_line.Goals as goal

pub returns-in_err-write_piece : goal.returns-in_err-write_piece
returns-in_err-write_piece g c =
    let p = err_from_is_err_and c.from_residual.result c.from_residual.ensures.1 in
    rw p.1 (cut_off _ _ c.args.front.now (said c.args.parts.now ++ codes "\n") c.in_err-write_piece.ensures)

pub returns-in_err-write_parts : goal.returns-in_err-write_parts
returns-in_err-write_parts g c =
    let p = err_from_is_err_and c.from_residual-in_err-write_parts.result c.from_residual-in_err-write_parts.ensures.1 in
    rw p.1 (then_cut _ _ _ c.args.front.now (said c.args.parts.now ++ codes "\n") c.in_ok-write_piece.ensures
    (cut_off _ _ (said c.args.parts.now) (codes "\n") c.in_err-write_parts.ensures))

pub returns : goal.returns
returns g c =
    then_written _ _ _ c.args.front.now (said c.args.parts.now ++ codes "\n") c.write_piece-2.result c.in_ok-write_piece.ensures
    (then_written _ _ _ (said c.args.parts.now) (codes "\n") c.write_piece-2.result c.in_ok-write_parts.ensures c.write_piece-2.ensures)
