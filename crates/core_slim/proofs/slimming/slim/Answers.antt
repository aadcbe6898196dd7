use Rattle.std.proofs.Common.{◌≡◌, ◌≤◌, ◌∙◌, ap, sym, subst, arith, length}
use Rattle.std.specs.Prelude.{All, Err, Ok}
use Rattle.image_memory.specs.Backed.{regions_of}
use Rattle.process_memory.specs.Memory.{byte_at}
use Rattle.process_memory.specs.Seen.{HoldsSpan}
use Rattle.core_slim.specs.Slim.{slim_core}
use Rattle.core_slim.specs.declared.error.SlimError.TheVariants.{TooManyPieces}
use Rattle.core_slim.proofs.Fewer.{pieces_few}
use Rattle.core_slim.proofs.Joining.{pieces_held}
use Rattle.core_slim.proofs.Kept.{slim_keeps}
use Rattle.core_slim.proofs.Pieces.{held_ends}
use Rattle.core_slim.proofs.Sole.{slim_only}
use Rattle.core_slim.proofs.slimming.slim.Goals as goal

pub joined_pieces-requires : goal.joined_pieces-requires
joined_pieces-requires c = λ k d lt some. held_ends (regions_of c.args.dump.now) _ some (c.requires.held k d lt)

pub slim_of-requires-clause-held : goal.slim_of-requires-clause-held
slim_of-requires-clause-held c =
    let m = byte_at (regions_of c.args.dump.now) in
    subst (All (HoldsSpan m)) (sym c.deref.ensures.value)
    (pieces_held m c.args.ranges.now c.in_ok-pieces.pieces.items c.requires.held c.in_ok-pieces.ensures)

pub returns-then-len-gt-MOST_PIECES-clause-only : goal.returns-then-len-gt-MOST_PIECES-clause-only
returns-then-len-gt-MOST_PIECES-clause-only c =
    let ps = c.in_ok-pieces.pieces.items in
    let dump = c.args.dump.now in
    slim_only dump.core (byte_at (regions_of dump)) c.args.ranges.now
    (Err (TooManyPieces c.len-then-len-gt-MOST_PIECES.result)) (
      ps,
      c.in_ok-pieces.ensures,
      omega (arith, c.in_ok-pieces.pieces.ok.0),
      c.len-then-len-gt-MOST_PIECES.ensures ∙ c.in_ok-pieces.pieces.ok.0,
    )

pub returns-then-len-gt-MOST_PIECES-clause-few : goal.returns-then-len-gt-MOST_PIECES-clause-few
returns-then-len-gt-MOST_PIECES-clause-few c = λ count is.
    let counted : count ≡ c.len-then-len-gt-MOST_PIECES.result = cc in
    let few = pieces_few c.args.ranges.now c.in_ok-pieces.pieces.items c.in_ok-pieces.ensures in
    omega (arith, counted, few, c.len-then-len-gt-MOST_PIECES.ensures, c.in_ok-pieces.pieces.ok.0)

pub returns : goal.returns
returns c =
    let dump = c.args.dump.now in
    let m = byte_at (regions_of dump) in
    let ranges = c.args.ranges.now in
    let ps = c.in_ok-pieces.pieces.items in
    let bytes = c.in_ok-bytes.bytes.items in
    let few : length ps ≤ 65533 = omega (arith, c.in_ok-pieces.pieces.ok.0) in
    let is : bytes ≡ slim_core dump.core m ps =
    c.in_ok-bytes.ensures.bytes ∙ ap (slim_core dump.core m) c.deref.ensures.value in
    record {
      right = (ps, c.in_ok-pieces.ensures, few, is);
      only = slim_only dump.core m ranges (Ok bytes) (ps, c.in_ok-pieces.ensures, few, is);
      few = λ count same. absurd (cc);
      keeps = slim_keeps dump.core (regions_of dump) ranges ps bytes c.in_ok-bytes.ensures.core c.requires.held
          c.in_ok-pieces.ensures few is
          (omega (arith, c.in_ok-bytes.bytes.ok.0, c.in_ok-bytes.bytes.ok.1, c.in_ok-bytes.bytes.small));
    }
