use Rattle.std.proofs.Common.{◌≡◌, subst, arith}
use Rattle.std.specs.Prelude.{None}
use Rattle.piece_table.specs.Places.{IsFilePiece, stands_at}
use Rattle.piece_table.proofs.Files.{byte_none, piece_bytes, piece_inside}
use Rattle.piece_table.proofs.Overlays.{spans_from}
use Rattle.process_memory.proofs.RunParts.{first_byte_there}
use Rattle.piece_table.proofs.stored.rest_of.Goals as goal

pub returns-in_err-piece-clause-none : goal.returns-in_err-piece-clause-none
returns-in_err-piece-clause-none g c =
    let none = subst (λ rs. stands_at rs c.args.addr ≡ None) c.table.ensures.same (c.find.ensures.none c.in_err-piece.was) in
    (λ _. byte_none _ _ c.args.addr c.table.ensures.held none, λ _. c.from_residual.ensures)

pub bytes_of-requires-clause-known : goal.bytes_of-requires-clause-known
bytes_of-requires-clause-known g c =
    let piece = c.in_ok-piece.piece in
    let is = subst (λ rs. IsFilePiece rs piece) c.table.ensures.same c.in_ok-piece.ensures.piece in
    (piece_inside _ _ piece c.table.ensures.held is).known

pub bytes_of-requires-clause-inside : goal.bytes_of-requires-clause-inside
bytes_of-requires-clause-inside g c =
    let piece = c.in_ok-piece.piece in
    let is = subst (λ rs. IsFilePiece rs piece) c.table.ensures.same c.in_ok-piece.ensures.piece in
    let from = spans_from c.args.addr piece.range c.in_ok-piece.ensures.holds in
    omega (arith, from.0, from.1, (piece_inside _ _ piece c.table.ensures.held is).inside)

pub returns-clause-bytes : goal.returns-clause-bytes
returns-clause-bytes g c =
    let piece = c.in_ok-piece.piece in
    let is = subst (λ rs. IsFilePiece rs piece) c.table.ensures.same c.in_ok-piece.ensures.piece in
    (piece_bytes _ _ piece c.args.addr c.bytes_of.result.now c.table.ensures.held is c.in_ok-piece.ensures.holds c.bytes_of.ensures).1

pub returns-clause-rest : goal.returns-clause-rest
returns-clause-rest g c =
    let piece = c.in_ok-piece.piece in
    let is = subst (λ rs. IsFilePiece rs piece) c.table.ensures.same c.in_ok-piece.ensures.piece in
    let count = (piece_bytes _ _ piece c.args.addr c.bytes_of.result.now c.table.ensures.held is c.in_ok-piece.ensures.holds c.bytes_of.ensures).0 in
    record { piece = piece.range; longest = (is.owner, is.is); holds = c.in_ok-piece.ensures.holds; ends = count }

pub returns-clause-none : goal.returns-clause-none
returns-clause-none g c =
    let piece = c.in_ok-piece.piece in
    let from = spans_from c.args.addr piece.range c.in_ok-piece.ensures.holds in
    let is = subst (λ rs. IsFilePiece rs piece) c.table.ensures.same c.in_ok-piece.ensures.piece in
    let count = (piece_bytes _ _ piece c.args.addr c.bytes_of.result.now c.table.ensures.held is c.in_ok-piece.ensures.holds c.bytes_of.ensures).0 in (
      λ e. absurd (cc),
      λ none. absurd (first_byte_there _ c.args.addr c.bytes_of.result.now (omega (arith, from.1, count)) (returns-clause-bytes g c) none),
    )
