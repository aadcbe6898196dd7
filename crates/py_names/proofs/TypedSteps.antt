-- The steps to the dict of an object.
use Rattle.std.proofs.Common.{◌≡◌, ◌≢◌, ℕ, ◌+◌, ◌-◌, ◌^◌, ◌<◌, ◌≤◌, true, false, cond, ltb, leb, nat_eq, refl, ap}
use Rattle.std.proofs.Common.{arith}
use Rattle.std.specs.Int.{bit_at}
use Rattle.std.specs.Int.Bits.{bit_and}
use Rattle.std.proofs.lemmas.Nat.Bits.{and_pow, bit_at-lt}
use Rattle.std.proofs.lemmas.Bool.Decides.{nat_tests}
use Rattle.std.specs.Prelude.{Option, Result, Ok, Err}
use Rattle.process_memory.specs.Memory.{Memory, Found, Fault, address_before, word_at}
use Rattle.process_memory.specs.declared.memory.Span.{Span}
use Rattle.process_memory.specs.Seen.{Seen, ReadsOf, ReadsRange}
use Rattle.process_memory.proofs.Reading.{reading_gives, reads_halt, reads_next}
use Rattle.py_fields.specs.declared.layout.Layout.{Layout}
use Rattle.py_builtins.specs.declared.types.ObjectType.{ObjectType}
use Rattle.py_builtins.specs.declared.keys.Slots.{Slots}
use Rattle.py_builtins.specs.Dicts.{dict_slots, managed_slots}
use Rattle.py_builtins.specs.Consulted.{Consults}
use Rattle.py_builtins.specs.Consulted.IsWidth.{Word}
use Rattle.py_builtins.proofs.Consulted.{consults_field}
use Rattle.py_names.specs.Typed.{beside, plain_slots, typed_slots}

pub beside_on : (a distance : ℕ) → distance < 2 ^ 63 → beside a distance ≡ a + distance
unfolding beside
beside_on a distance lt = let on : ltb distance (2 ^ 63) ≡ true = grind (arith, nat_tests) in rw on refl

pub beside_back : (a distance : ℕ) → 2 ^ 63 ≤ distance → 2 ^ 64 - distance ≤ a → beside a distance ≡ a - (2 ^ 64 - distance)
unfolding beside address_before
beside_back a distance le fits =
    let back : ltb distance (2 ^ 63) ≡ false = grind (arith, nat_tests) in
    let within : leb (2 ^ 64 - distance) a ≡ true = grind (arith, nat_tests) in
    rw (back, within) refl

pub beside_out : (a distance : ℕ) → 2 ^ 63 ≤ distance → a < 2 ^ 64 - distance → beside a distance ≡ 2 ^ 64
unfolding beside address_before
beside_out a distance le past =
    let back : ltb distance (2 ^ 63) ≡ false = grind (arith, nat_tests) in
    let out : leb (2 ^ 64 - distance) a ≡ false = grind (arith, nat_tests) in
    rw (back, out) refl

module _ (l : Layout) (m : Memory) (a : ℕ) (t : ObjectType) where
  pub typed_managed : bit_and t.flags 16 ≢ 0 → typed_slots l m a t ≡ managed_slots l m a t.at t.flags
  unfolding typed_slots
  typed_managed some =
      let bit : bit_at t.flags 4 ≡ 1 = omega (arith, and_pow t.flags 4, bit_at-lt t.flags 4, some) in
      let is : nat_eq (bit_at t.flags 4) 1 ≡ true = grind (arith, nat_tests) in
      ap (λ b. cond b (managed_slots l m a t.at t.flags) (plain_slots l m a t)) is

  pub typed_plain : bit_and t.flags 16 ≡ 0 → typed_slots l m a t ≡ plain_slots l m a t
  unfolding typed_slots
  typed_plain none =
      let bit : bit_at t.flags 4 ≡ 0 = omega (arith, and_pow t.flags 4, none) in
      let is : nat_eq (bit_at t.flags 4) 1 ≡ false = grind (arith, nat_tests) in
      ap (λ b. cond b (managed_slots l m a t.at t.flags) (plain_slots l m a t)) is

module _ {allowed : Memory → Span → Type 0} {T E E' : Type 0} {fault : E → Option Fault} {fault' : E' → Option Fault} {n : ℕ} {s0 s1 : Seen} {d : Memory → Found T} where
  -- the same fault, by another error
  pub reads_fail : {e : E} (e' : E') → ReadsOf {T = T} allowed fault n s0 s1 d (Err e) → fault' e' ≡ fault e → ReadsOf {T = T} allowed fault' n s0 s1 d (Err e')
  reads_fail e' p same = reading_gives _ _ p (omega arith) (λ m a. record { is = rw same a.is })

  -- the same value, beside other errors
  pub reads_pass : {x : T} → ReadsOf {T = T} allowed fault n s0 s1 d (Ok x) → ReadsOf {T = T} allowed fault' n s0 s1 d (Ok x)
  reads_pass p = reading_gives _ _ p (omega arith) (λ m a. record { is = a.is })

-- the dict that the word names which stands where the object's type says
pub plain_then : {E E' : Type 0} {fault : E → Option Fault} {fault' : E' → Option Fault} {s0 s1 s2 : Seen} {dict : ℕ} {r : Result Slots E'} (l : Layout) (a : ℕ) (t : ObjectType)
    → ReadsRange fault (beside a t.dict_offset) 8 s0 s1 (λ m. word_at m (beside a t.dict_offset)) (Ok dict) → Consults l fault' 2 s1 s2 (λ m. dict_slots l m dict) r
    → Consults l fault' 3 s0 s2 (λ m. plain_slots l m a t) r
unfolding plain_slots
plain_then l a t p q = reads_next 3 _ (consults_field l Word p) q (omega arith)

pub plain_stop : {E : Type 0} {fault : E → Option Fault} {s0 s1 : Seen} {e : E} (l : Layout) (a : ℕ) (t : ObjectType)
    → ReadsRange {T = ℕ} fault (beside a t.dict_offset) 8 s0 s1 (λ m. word_at m (beside a t.dict_offset)) (Err e) → Consults {T = Slots} l fault 3 s0 s1 (λ m. plain_slots l m a t) (Err e)
unfolding plain_slots
plain_stop {e = e} l a t p = reads_halt 3 e _ (consults_field l Word p) refl (omega arith)
