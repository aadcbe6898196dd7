use Rattle.std.proofs.Common.{◌≡◌, ◌+◌, ◌<◌, ◌^◌, ◌++◌, List, ap, map, refl, subst, arith}
use Rattle.std.specs.List.{AllByRecursion, sum_by}
use Rattle.std.proofs.lemmas.List.{nil_from_length}
use Rattle.std.proofs.lemmas.Option.{MatchOption-at_none}
use Rattle.py_stacks.specs.Lines.{family_of}
use Rattle.memory_builder.specs.Chains.{laid_chain}
use Rattle.memory_builder.specs.Frames.{laid_frame}
use Rattle.memory_builder.specs.Mirror.{frame_in}
use Rattle.memory_builder.specs.Program.{Frame}
use Rattle.memory_builder.specs.Sizes.{frame_size}
use Rattle.memory_builder.specs.Validity.{IsValidFrame}
use Rattle.memory_builder.proofs.Growing.{chain_next, chain_none, exact, first_fits}
use Rattle.memory_builder.proofs.threads.add_frames.Goals as goal

pub loop-frame-init : goal.loop-frame-init
loop-frame-init c = record { valid = c.requires.valid; whole = refl; fits = c.requires.fits }

pub frame_size-requires-clause-valid : goal.frame_size-requires-clause-valid
frame_size-requires-clause-valid c =
    (subst (λ (xs : List Frame). AllByRecursion (IsValidFrame (family_of c.args.layout.now.lines)) xs)
    (ap (map frame_in) c.in-Some.ensures.cases.0) c.loop-frame.invariant.valid).0

pub overflow_add-next : goal.overflow_add-next
overflow_add-next c =
    let l = c.args.layout.now in
    let f = frame_in c.in-Some.frame.now in
    let fits = first_fits (frame_size l) c.loop-frame.here f (map frame_in c.in-Some.later.now)
    (subst (λ (xs : List Frame). c.loop-frame.here + sum_by (frame_size l) xs < 2 ^ 63)
    (ap (map frame_in) c.in-Some.ensures.cases.0) c.loop-frame.invariant.fits) in
    omega (arith, fits, c.in_ok-next.ensures)

pub add_frame-requires-clause-valid : goal.add_frame-requires-clause-valid
add_frame-requires-clause-valid c =
    (subst (λ (xs : List Frame). AllByRecursion (IsValidFrame (family_of c.args.layout.now.lines)) xs)
    (ap (map frame_in) c.in-Some.ensures.cases.0) c.loop-frame.invariant.valid).0

pub add_frame-requires-clause-fits : goal.add_frame-requires-clause-fits
add_frame-requires-clause-fits c =
    let l = c.args.layout.now in
    let f = frame_in c.in-Some.frame.now in
    let fits = first_fits (frame_size l) c.loop-frame.here f (map frame_in c.in-Some.later.now)
    (subst (λ (xs : List Frame). c.loop-frame.here + sum_by (frame_size l) xs < 2 ^ 63)
    (ap (map frame_in) c.in-Some.ensures.cases.0) c.loop-frame.invariant.fits) in
    omega (arith, fits)

pub loop-frame-preserved : goal.loop-frame-preserved
loop-frame-preserved c =
    let l = c.args.layout.now in
    let f = frame_in c.in-Some.frame.now in
    let later = map frame_in c.in-Some.later.now in
    let split = ap (map frame_in) c.in-Some.ensures.cases.0 in
    let fits = first_fits (frame_size l) c.loop-frame.here f later
    (subst (λ (xs : List Frame). c.loop-frame.here + sum_by (frame_size l) xs < 2 ^ 63) split
    c.loop-frame.invariant.fits) in
    let size = exact c.in_ok-next.field-0 (frame_size l f) c.in_ok-next.ensures (omega (arith, fits)) in
    let next_is = ap (λ n. c.loop-frame.here + n) size in
    let whole = c.args.out.now.items ++ laid_chain (frame_size l) (laid_frame l c.args.types) c.args.at
    (map frame_in c.args.frames.now) in
    record {
      valid = (subst (λ (xs : List Frame). AllByRecursion (IsValidFrame (family_of l.lines)) xs) split
          c.loop-frame.invariant.valid).1;
      whole = chain_next (frame_size l) (laid_frame l c.args.types) c.loop-frame.here f later c.loop-frame.out.items
          c.add_frame.new.out.items whole (c.loop-frame.here + c.in_ok-next.field-0) c.frames_head.result
          next_is c.frames_head.ensures c.in_ok-add_frame.ensures
          (subst (λ (xs : List Frame). c.loop-frame.out.items
          ++ laid_chain (frame_size l) (laid_frame l c.args.types) c.loop-frame.here xs ≡ whole) split
          c.loop-frame.invariant.whole);
      fits = omega (arith, fits, size);
    }

pub returns : goal.returns
returns c =
    let l = c.args.layout.now in
    let nil = nil_from_length c.loop-frame.rest.now (MatchOption-at_none _ _ c.in_default.is
    c.split_first.ensures.cases) in
    chain_none (frame_size l) (laid_frame l c.args.types) c.loop-frame.here
    (map frame_in c.loop-frame.rest.now) c.loop-frame.out.items _
    (ap (map frame_in) nil) c.loop-frame.invariant.whole
