use Rattle.std.proofs.Common.{◌≡◌, ◌<◌, ◌≤◌, List, map, length, take, sym, ap, subst, arith}
use Rattle.std.specs.Prelude.{IsTrue}
use Rattle.memory_builder.specs.Mirror.{program_in, program_thread}
use Rattle.memory_builder.specs.Validity.{IsFirstFailing, IsFirstInvalid, IsValidIn, IsValidWhole}
use Rattle.memory_builder.specs.Program.{Thread}
use Rattle.memory_builder.proofs.Lists.{length_map, none_map}
use Rattle.memory_builder.proofs.Firsts.{first_many, first_of, first_whole, next_valid, none_found, some_found}
use Rattle.memory_builder.proofs.Firsts.{valid_all}
use Rattle.memory_builder.proofs.Earlier.{earlier_are, there}
use Rattle.memory_builder.proofs.validity.first_invalid.Goals as goal

pub returns-then-not-is_valid_whole : goal.returns-then-not-is_valid_whole
returns-then-not-is_valid_whole c =
    first_whole c.args.family (program_in c.args.program.now)
    (λ h. let yes : IsTrue c.is_valid_whole.result = c.is_valid_whole.ensures.1 h in cc)

pub returns-then-i-eq-MOST_THREADS : goal.returns-then-i-eq-MOST_THREADS
returns-then-i-eq-MOST_THREADS c =
    let i_is : c.loop-i.i ≡ 4096 = c.if-i-eq-MOST_THREADS.true in
    let many : 4096 < length (program_in c.args.program.now).threads =
    omega (
      arith,
      i_is,
      c.loop-i-test.true,
      ap length c.deref-thread-items.ensures.value,
      length_map program_thread c.args.program.now.threads.items,
    ) in
    subst (λ k. IsFirstInvalid c.args.family (program_in c.args.program.now) (record { thread = k; frame = 0 }))
    (sym i_is)
    (first_many c.args.family (program_in c.args.program.now) many
    (λ thread frame small. c.loop-i.invariant.before thread frame (omega (arith, small, i_is))))

pub returns-in-Some : goal.returns-in-Some
returns-in-Some c =
    let p = program_in c.args.program.now in
    let threads = c.args.program.now.threads.items in
    let i = c.loop-i.i in
    let t = program_thread c.thread-item.result in
    let whole : IsValidWhole p = c.is_valid_whole.ensures.0 c.if-not-is_valid_whole.false in
    let is = there threads c.deref-thread-items.result.now i c.thread-item.result c.deref-thread-items.ensures.value
    c.loop-i-test.true c.thread-item.is in
    let earlier = earlier_are threads c.deref.result.now i c.deref.ensures.value in
    let found = some_found c.args.family (map program_thread (take i c.deref.result.now)) t c.in_ok-frame.field-0
    c.in-Some.frame c.in-Some.is c.in_ok-frame.ensures in
    first_of c.args.family p (record { thread = i; frame = c.in-Some.frame }) t whole c.if-i-eq-MOST_THREADS.false is
    c.loop-i.invariant.before
    (subst (λ (ts : List Thread). IsFirstFailing (IsValidIn c.args.family ts t) c.in-Some.frame) earlier found)

pub loop-i-preserved : goal.loop-i-preserved
loop-i-preserved c =
    let p = program_in c.args.program.now in
    let threads = c.args.program.now.threads.items in
    let i = c.loop-i.i in
    let t = program_thread c.thread-item.result in
    let whole : IsValidWhole p = c.is_valid_whole.ensures.0 c.if-not-is_valid_whole.false in
    let is = there threads c.deref-thread-items.result.now i c.thread-item.result c.deref-thread-items.ensures.value
    c.loop-i-test.true c.thread-item.is in
    let earlier = earlier_are threads c.deref.result.now i c.deref.ensures.value in
    let none = none_found c.args.family (map program_thread (take i c.deref.result.now)) t c.in_ok-frame.field-0
    c.in_default.is c.in_ok-frame.ensures in
    record {
      few = omega (arith, c.loop-i.invariant.few, c.if-i-eq-MOST_THREADS.false);
      before = next_valid c.args.family p i t whole c.if-i-eq-MOST_THREADS.false is c.loop-i.invariant.before
          (λ frame. subst (λ (ts : List Thread). IsValidIn c.args.family ts t frame) earlier (none frame));
    }

pub returns : goal.returns
returns c =
    let threads = c.args.program.now.threads.items in
    let whole : IsValidWhole (program_in c.args.program.now) =
    c.is_valid_whole.ensures.0 c.if-not-is_valid_whole.false in
    let all : length threads ≤ c.loop-i.i = omega (
      arith,
      c.loop-i-test.false,
      ap length c.deref-thread-items.ensures.value,
    ) in
    valid_all c.args.family (program_in c.args.program.now) c.loop-i.i whole (omega (
      arith,
      all,
      length_map program_thread threads,
    )) c.loop-i.invariant.few
    (λ thread far. none_map program_thread threads thread (omega (arith, all, far))) c.loop-i.invariant.before
