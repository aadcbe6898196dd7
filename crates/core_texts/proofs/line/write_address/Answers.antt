use Rattle.std.proofs.Common.{◌≡◌, ◌-◌, ◌∙◌, false, take, drop, sym, ap, subst, codes}
use Rattle.std.proofs.lemmas.List.{take_rest}
use Rattle.std.proofs.lemmas.Result.{err_from_is_err_and}
use Rattle.std.specs.Fmt.{digits}
use Rattle.core_texts.specs.Says.{IsWritten}
use Rattle.core_texts.proofs.Pieces.{cut_off, then_written}
use Rattle.core_texts.proofs.line.write_address.Goals as goal

pub returns-in_err-write_piece : goal.returns-in_err-write_piece
returns-in_err-write_piece g c =
    let p = err_from_is_err_and c.from_residual.result c.from_residual.ensures.1 in
    rw p.1 (cut_off _ _ (codes "0x") _ c.in_err-write_piece.ensures)

pub returns : goal.returns
returns g c =
    let at = c.hex-at.result in
    let buf = c.hex-at.new.buf in
    let is : take (16 - at) (drop at buf) ≡ digits 16 false c.args.address =
    ap (λ n. take (n - at) (drop at buf)) (sym c.hex-at.array_long) ∙ take_rest buf at ∙ c.hex-at.ensures.digits in
    then_written _ _ _ (codes "0x") _ c.write_piece-2.result c.in_ok-write_piece.ensures
    (subst (λ t. IsWritten (g.S.Sink.seen c.write_piece.new.sink) (g.S.Sink.seen c.write_piece-2.new.sink) t c.write_piece-2.result) is c.write_piece-2.ensures)
