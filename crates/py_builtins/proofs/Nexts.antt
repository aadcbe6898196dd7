-- Slots that were passed.
use Rattle.std.proofs.Common.{◌≡◌, ℕ, ◌+◌, ◌-◌, ◌*◌, ◌<◌, ◌≤◌, max, arith}
use Rattle.std.specs.Prelude.{Some, None, Ok, Result}
use borrow.Author.Count.{below_more}
use Rattle.process_memory.specs.Memory.{Memory, Found}
use Rattle.process_memory.specs.Seen.{Seen, Reading, Answers}
use Rattle.process_memory.proofs.Reading.{reading_then, reading_gives, reading_none}
use Rattle.py_builtins.specs.declared.error.ObjectError.{ObjectError}
use Rattle.py_builtins.specs.declared.dicts.Slot.{Slot}
use Rattle.py_builtins.specs.declared.dicts.Slot.TheVariants.{Empty}
use Rattle.py_builtins.specs.ObjectError.{object_fault}
use Rattle.py_builtins.specs.Entries.{AreEmpty, Passes, as_slot}

-- the slots from one number to the one before another are empty
pub record Passed (slot : Memory → ℕ → Found Slot) (count from at : ℕ) (s0 s1 : Seen) : Type 0 where
  pub along : from ≤ at
  pub within : at ≤ max from count
  pub reading : Reading (2 * (at - from)) s0 s1 (λ m. AreEmpty (slot m) from at)

empty_more : {slot : ℕ → Found Slot} {from at : ℕ} → AreEmpty slot from at → slot at ≡ Ok Empty → AreEmpty slot from (at + 1)
empty_more {slot} {from} {at} p e = λ k le lt. below_more (λ k. from ≤ k → slot k ≡ Ok Empty) at (λ k lt le. p k le lt) (λ le. e) k lt le

module _ {slot : Memory → ℕ → Found Slot} {count from at : ℕ} {s0 s1 : Seen} where
  pub passed_more : {s2 : Seen} → Passed slot count from at s0 s1 → at < count → (n : ℕ) → n ≤ 2 → Reading n s1 s2 (λ m. Answers {E = ObjectError} object_fault (slot m at) (Ok Empty)) → Passed slot count from (at + 1) s0 s2
  passed_more p lt n le r = record {
    along = omega (arith, p.along);
    within = omega (arith, p.within);
    reading = reading_gives (2 * (at + 1 - from)) _ (reading_then (λ m. AreEmpty (slot m) from (at + 1)) p.reading r (λ m e a. empty_more e a.is)) (omega (arith, p.along)) (λ m e. e);
  }

  pub passed_last : {s2 : Seen} (r : Result (ℕ × ℕ) ObjectError) → Passed slot count from at s0 s1 → at < count → (n : ℕ) → n ≤ 2 → Reading n s1 s2 (λ m. Answers object_fault (slot m at) (as_slot r)) → Reading (2 * (at + 1 - from)) s0 s2 (λ m. Passes (slot m) count from (at + 1) (Some r))
  passed_last r p lt n le q =
      let same : at + 1 - 1 ≡ at = omega arith in
      reading_gives (2 * (at + 1 - from)) _ (reading_then (λ m. Passes (slot m) count from (at + 1) (Some r)) p.reading q
      (λ m e a. (omega (arith, p.along), omega arith, rw same e, rw same a))) (omega (arith, p.along)) (λ m e. e)

  pub passed_end : {s2 : Seen} {Q : Memory → Type 0} → Passed slot count from at s0 s1 → count ≤ at → (n : ℕ) → n ≤ 0 → Reading n s1 s2 Q → Reading (2 * (at - from)) s0 s2 (λ m. Passes (slot m) count from at None)
  passed_end p over n le r = reading_gives (2 * (at - from)) _ (reading_then (λ m. Passes (slot m) count from at None) p.reading r (λ m e q. (omega (arith, p.along, p.within), e))) (omega arith) (λ m e. e)

pub passed_init : (slot : Memory → ℕ → Found Slot) (count from : ℕ) (s : Seen) → Passed slot count from from s s
passed_init slot count from s = record {
  along = omega arith;
  within = omega arith;
  reading = reading_none _ s _ (λ m k le lt. absurd (omega arith));
}
