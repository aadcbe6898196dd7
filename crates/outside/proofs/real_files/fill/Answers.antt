use Rattle.std.proofs.Common.{◌≡◌, ℕ, ◌+◌, List, ◌++◌, Option, take, drop, sym, ap, subst, ◌∙◌, arith}
use Rattle.std.proofs.Math.Seq.{take-add}
use Rattle.std.proofs.KnownBytes.{Consumes-trans, Consumes-kept}
use Rattle.std.specs.Io.KnownBytes.{Consumes}
use Rattle.outside.proofs.real_files.fill.Goals as goal
use Rattle.outside.proofs.real_files.fill.Goals.{in-Ok, in-Err+else-ne}

-- what was filled and one piece more
one_piece : (a b c : Option (List ℕ)) (old new : List ℕ) (filled n : ℕ) → Consumes a b (take filled old) → take filled new ≡ take filled old
    → Consumes b c (take n (drop filled new)) → Consumes a c (take (filled + n) new)
one_piece a b c old new filled n before kept piece =
    subst (λ t. Consumes a c t) (ap (λ t. t ++ take n (drop filled new)) (sym kept) ∙ sym (take-add filled n new))
    (Consumes-trans a b c (take filled old) (take n (drop filled new)) before piece)

pub loop-preserved : goal.loop-preserved
loop-preserved g c =
    let old = g.F.Read.remaining c.args.file.now in
    let new = g.F.Read.remaining c.read_piece.new.file in
    let bytes = c.read_piece.new.bytes.items in
    let i = c.loop.invariant in
    let kept = c.read_piece.ensures.kept ∙ c.in_ok-make_room.ensures.kept in
    elim c.match-read_piece.branch [
      | in-Ok w ↦ record {
        within = omega (arith, w.in-Ok.ensures.bound);
        consumed = subst (λ n. Consumes old new (take n bytes)) (sym w.filled-is) (one_piece _ _ _ _ _ _ _ i.consumed kept w.in-Ok.ensures.read);
        later = omega arith;
        count = omega arith;
      }
      | in-Err+else-ne w ↦ record {
        within = omega (arith, c.read_piece.ensures.len, c.in_ok-make_room.ensures.room);
        consumed = subst (λ n. Consumes old new (take n bytes)) (sym w.filled-is)
            (subst (λ t. Consumes old new t) (sym kept) (Consumes-kept _ _ _ _ i.consumed w.in-Err.ensures.read));
        later = omega arith;
        count = omega arith;
      }
    ]
