use Rattle.std.proofs.Common.{◌≡◌, ◌+◌, ◌<◌, arith, sym, ap, ◌∙◌, length, length-take, get_or-take, map}
use Rattle.std.specs.Prelude.{Some, None, slice_get}
use Rattle.std.proofs.lemmas.List.{get_or-map, length-map}
use Rattle.std.proofs.lemmas.Option.{slice_get-get_or}
use Rattle.process_memory.specs.Pieces.{region_of, run_in}
use Rattle.process_memory.specs.Memory.{Region}
use Rattle.process_memory.proofs.Records.{byte_at-above}
use Rattle.process_memory.proofs.Stretch.{run-some, run-none, region_before, skips_more, byte_found, byte_missing}
use Rattle.process_memory.proofs.part.first_run.Goals as goal
use Rattle.process_memory.proofs.part.first_run.Goals.{After-piece-item, then-addr-piece, else-addr-piece}

pub returns-then-reach-eq0-clause-none : goal.returns-then-reach-eq0-clause-none
returns-then-reach-eq0-clause-none c = λ _. byte_at-above _ _ (omega arith)

-- the piece of this turn is the next one
is_next : (c : After-piece-item) → slice_get (map region_of c.args.pieces.now) c.loop-piece.piece-index ≡ Some (region_of c.piece-item.result)
is_next c =
    let pieces = c.args.pieces.now in
    let k = c.loop-piece.piece-index in
    let p = region_of c.piece-item.result in
    slice_get-get_or (map region_of pieces) k p (omega (arith, c.loop-piece-test.true, length-map pieces region_of))
    ∙ ap (λ r. Some r) (get_or-map region_of pieces k c.piece-item.result p c.loop-piece-test.true ∙ ap region_of (sym c.piece-item.is))

pub returns-in-Some-clause-bytes : goal.returns-in-Some-clause-bytes
returns-in-Some-clause-bytes c = λ k lt.
    let i = c.loop-piece.invariant in
    let run = c.in-Some.run'.now in
    let held = run-some (region_of c.piece-item.result) c.args.addr run (sym (rw c.in-Some.is at c.run_in.ensures)) in
    let within : k < length run = omega (arith, lt, length-take c.min.result run) in
    let near : k < c.loop-piece.reach = omega (arith, lt, length-take c.min.result run) in
    let below : k < c.min.result = omega (arith, lt, length-take c.min.result run) in
    byte_found _ c.loop-piece.piece-index c.args.addr c.loop-piece.reach _ run
    (is_next (goal.at.returns-in-Some-clause-bytes c).After-piece-item) i.skipped i.fits held k near within
    ∙ ap Some (sym (get_or-take c.min.result run k 0 below))

pub loop-piece-preserved : goal.loop-piece-preserved
loop-piece-preserved c =
    let i = c.loop-piece.invariant in
    let p : Region = region_of c.piece-item.result in
    let is = is_next (goal.at.loop-piece-preserved c).After-piece-item in
    let none : run_in p c.args.addr ≡ None = sym (rw c.in_default.is at c.run_in.ensures) in
    elim c.if-addr-piece.branch [
      | then-addr-piece w ↦ record {
        some = omega (arith, w.reach-is, w.min-reach.ensures, w.if-addr-piece.true, i.some);
        fits = omega (arith, w.reach-is, w.min-reach.ensures, i.fits);
        skipped = skips_more _ c.loop-piece.piece-index c.args.addr c.if-addr-piece.reach p is
            (λ k lt. i.skipped k (omega (arith, w.reach-is, w.min-reach.ensures, lt)))
            (λ k lt. region_before p (c.args.addr + k) (omega (arith, w.reach-is, w.min-reach.ensures, w.if-addr-piece.true, lt)));
      }
      | else-addr-piece w ↦ record {
        some = omega (arith, w.reach-is, i.some);
        fits = omega (arith, w.reach-is, i.fits);
        skipped = skips_more _ c.loop-piece.piece-index c.args.addr c.if-addr-piece.reach p is
            (λ k lt. i.skipped k (omega (arith, w.reach-is, lt)))
            (λ k lt. run-none p c.args.addr none w.if-addr-piece.false k);
      }
    ]

pub returns-clause-none : goal.returns-clause-none
returns-clause-none c = λ _.
    let i = c.loop-piece.invariant in
    let count = length-map c.args.pieces.now region_of in
    byte_missing _ c.loop-piece.piece-index c.args.addr c.loop-piece.reach (omega (arith, count, c.loop-piece-test.false)) i.some i.fits i.skipped
