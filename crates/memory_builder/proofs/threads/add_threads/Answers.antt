use Rattle.std.proofs.Common.{◌≡◌, ◌+◌, ◌<◌, ◌^◌, ◌++◌, List, ap, map, refl, subst, arith}
use Rattle.std.specs.List.{AllByRecursion, sum_by}
use Rattle.std.proofs.lemmas.List.{nil_from_length}
use Rattle.std.proofs.lemmas.Option.{MatchOption-at_none}
use Rattle.py_stacks.specs.Lines.{family_of}
use Rattle.memory_builder.specs.Chains.{laid_chain}
use Rattle.memory_builder.specs.Threads.{laid_thread, laid_threads}
use Rattle.memory_builder.specs.Mirror.{program_thread}
use Rattle.memory_builder.specs.Program.{Thread}
use Rattle.memory_builder.specs.Sizes.{thread_size}
use Rattle.memory_builder.specs.Validity.{IsValidFrame}
use Rattle.memory_builder.proofs.Lists.{all_somewhere}
use Rattle.memory_builder.proofs.Growing.{chain_next, chain_none, exact, first_fits}
use Rattle.memory_builder.proofs.threads.add_threads.Goals as goal

pub loop-thread-init : goal.loop-thread-init
loop-thread-init c = record { valid = c.requires.valid; whole = refl; fits = c.requires.fits }

pub thread_size-requires-clause-valid : goal.thread_size-requires-clause-valid
thread_size-requires-clause-valid c =
    all_somewhere (IsValidFrame (family_of c.args.layout.now.lines)) (program_thread c.in-Some.thread.now).frames
    (subst (λ (xs : List Thread). AllByRecursion (λ (t : Thread). AllByRecursion
    (IsValidFrame (family_of c.args.layout.now.lines)) t.frames) xs)
    (ap (map program_thread) c.in-Some.ensures.cases.0) c.loop-thread.invariant.valid).0

pub overflow_add-end : goal.overflow_add-end
overflow_add-end c =
    let l = c.args.layout.now in
    let f = program_thread c.in-Some.thread.now in
    let fits = first_fits (thread_size l) c.loop-thread.here f (map program_thread c.in-Some.later.now)
    (subst (λ (xs : List Thread). c.loop-thread.here + sum_by (thread_size l) xs < 2 ^ 63)
    (ap (map program_thread) c.in-Some.ensures.cases.0) c.loop-thread.invariant.fits) in
    omega (arith, fits, c.in_ok-end.ensures)

pub add_thread-requires-clause-valid : goal.add_thread-requires-clause-valid
add_thread-requires-clause-valid c =
    (subst (λ (xs : List Thread). AllByRecursion (λ (t : Thread). AllByRecursion
    (IsValidFrame (family_of c.args.layout.now.lines)) t.frames) xs)
    (ap (map program_thread) c.in-Some.ensures.cases.0) c.loop-thread.invariant.valid).0

pub add_thread-requires-clause-fits : goal.add_thread-requires-clause-fits
add_thread-requires-clause-fits c =
    let l = c.args.layout.now in
    let f = program_thread c.in-Some.thread.now in
    let fits = first_fits (thread_size l) c.loop-thread.here f (map program_thread c.in-Some.later.now)
    (subst (λ (xs : List Thread). c.loop-thread.here + sum_by (thread_size l) xs < 2 ^ 63)
    (ap (map program_thread) c.in-Some.ensures.cases.0) c.loop-thread.invariant.fits) in
    omega (arith, fits)

pub loop-thread-preserved : goal.loop-thread-preserved
loop-thread-preserved c =
    let l = c.args.layout.now in
    let f = program_thread c.in-Some.thread.now in
    let later = map program_thread c.in-Some.later.now in
    let split = ap (map program_thread) c.in-Some.ensures.cases.0 in
    let fits = first_fits (thread_size l) c.loop-thread.here f later
    (subst (λ (xs : List Thread). c.loop-thread.here + sum_by (thread_size l) xs < 2 ^ 63) split
    c.loop-thread.invariant.fits) in
    let size = exact c.in_ok-end.field-0 (thread_size l f) c.in_ok-end.ensures (omega (arith, fits)) in
    let next_is = ap (λ n. c.loop-thread.here + n) size in
    let whole = c.args.out.now.items ++ laid_chain (thread_size l) (laid_thread l c.args.types c.args.interp) c.args.at
    (map program_thread c.args.threads.now) in
    record {
      valid = (subst (λ (xs : List Thread). AllByRecursion (λ (t : Thread). AllByRecursion
          (IsValidFrame (family_of l.lines)) t.frames) xs) split c.loop-thread.invariant.valid).1;
      whole = chain_next (thread_size l) (laid_thread l c.args.types c.args.interp) c.loop-thread.here f later
          c.loop-thread.out.items c.add_thread.new.out.items whole
          (c.loop-thread.here + c.in_ok-end.field-0) c.threads_head-next.result
          next_is c.threads_head-next.ensures c.in_ok-add_thread.ensures
          (subst (λ (xs : List Thread). c.loop-thread.out.items
          ++ laid_chain (thread_size l) (laid_thread l c.args.types c.args.interp) c.loop-thread.here xs ≡ whole)
          split c.loop-thread.invariant.whole);
      fits = omega (arith, fits, size);
    }

pub returns : goal.returns
unfolding laid_threads
returns c =
    let l = c.args.layout.now in
    let nil = nil_from_length c.loop-thread.rest.now (MatchOption-at_none _ _ c.in_default.is
    c.split_first.ensures.cases) in
    chain_none (thread_size l) (laid_thread l c.args.types c.args.interp) c.loop-thread.here
    (map program_thread c.loop-thread.rest.now) c.loop-thread.out.items _
    (ap (map program_thread) nil) c.loop-thread.invariant.whole
