-- The words of records that are in memory, and what they say of readers of them.
use Rattle.std.proofs.Common.{◌≡◌, ℕ, zero, suc, ◌+◌, ◌-◌, ◌<◌, ◌≤◌, ◌^◌, true, ltb, List, take, drop, refl, sym, ap}
use Rattle.std.proofs.Common.{ap₂, ◌∙◌, arith, add-zero}
use Rattle.std.specs.Prelude.{Option, Some, None, IsSome, Ok}
use Rattle.std.proofs.lemmas.Bool.Decides.{nat_tests}
use Rattle.elf64_core.specs.Fields.{u64_in}
use Rattle.process_memory.specs.Memory.{Memory, Region, byte_at, bytes_at, in_front, record_at, word_at}
use Rattle.process_memory.specs.Memory.Fault.{Missing}
use Rattle.process_memory.specs.declared.memory.Span.{Span}
use Rattle.process_memory.specs.Seen.{ReadingOf, Seen}
use Rattle.process_memory.proofs.Records.{Within, byte_at-below, found_ok, in_front_some, record_all}

bytes_behind : (m : Memory) (a k n : ℕ) (bs : List ℕ) → bytes_at m a (k + n) ≡ Some bs
    → bytes_at m (a + k) n ≡ Some (drop k bs)
unfolding bytes_at
bytes_behind m a zero n bs e = let none : 0 + n ≡ n = omega arith in rw add-zero (rw none at e)
bytes_behind m a (suc k) n bs e =
    let more : suc k + n ≡ suc (k + n) = omega arith in
    let p = in_front_some (m a) (bytes_at m (a + 1) (k + n)) bs (rw more at e) in
    let there : a + suc k ≡ (a + 1) + k = omega arith in
    ap (λ at. bytes_at m at n) there ∙ bytes_behind m (a + 1) k n p.1 p.3 ∙ ap (λ xs. Some (drop (suc k) xs)) (sym p.4)

bytes_first : (m : Memory) (a n k : ℕ) (bs : List ℕ) → bytes_at m a (n + k) ≡ Some bs
    → bytes_at m a n ≡ Some (take n bs)
unfolding bytes_at
bytes_first m a zero k bs e = refl
bytes_first m a (suc n) k bs e =
    let more : suc n + k ≡ suc (n + k) = omega arith in
    let p = in_front_some (m a) (bytes_at m (a + 1) (n + k)) bs (rw more at e) in
    ap₂ in_front p.2 (bytes_first m (a + 1) n k p.1 p.3) ∙ ap (λ xs. Some (take (suc n) xs)) (sym p.4)

-- the bytes of a part of a record that is in memory
record_part : (m : Memory) (a n k j : ℕ) (bs : List ℕ) → record_at m a n ≡ Ok bs → k + j ≤ n → a + k < 2 ^ 64
    → record_at m (a + k) j ≡ Ok (take j (drop k bs))
unfolding record_at
record_part m a n k j bs e inside below =
    let low : ltb a (2 ^ 64) ≡ true = grind (arith, nat_tests) in
    let there : ltb (a + k) (2 ^ 64) ≡ true = grind (arith, nat_tests) in
    let all : bytes_at m a n ≡ Some bs = found_ok (bytes_at m a n) (Missing a n) bs (rw low at e) in
    let split : n ≡ k + (j + (n - (k + j))) = omega arith in
    let behind = bytes_behind m a k (j + (n - (k + j))) bs (rw split at all) in
    rw (there, bytes_first m (a + k) j (n - (k + j)) (drop k bs) behind) refl

-- the word at an offset of a record is that field of the record
pub word_in_record : (m : Memory) (a n k : ℕ) (bs : List ℕ) → record_at m a n ≡ Ok bs → k + 8 ≤ n → a + k < 2 ^ 64
    → word_at m (a + k) ≡ Ok (u64_in bs k)
unfolding word_at u64_in
word_in_record m a n k bs e inside below =
    let eight : (k + 8) - k ≡ 8 = omega arith in
    rw (record_part m a n k 8 bs e inside below, eight) refl

some_byte : (o : Option ℕ) → IsSome o → (b : ℕ) × (o ≡ Some b)
some_byte None e = absurd (cc)
some_byte (Some b) e = (b, refl)

-- a record of a memory that has no byte which this one lacks lies below the last address
pub field_below : (ps : List Region) (m : Memory) (a n k : ℕ) (bs : List ℕ) → Within m (byte_at ps)
    → record_at m a n ≡ Ok bs → k < n → a + k < 2 ^ 64
field_below ps m a n k bs within e inside =
    let b = some_byte (m (a + k)) (record_all m a n bs e k inside) in
    let there : IsSome (byte_at ps (a + k)) = rw (within (a + k) b.0 b.1) refl in
    omega (arith, byte_at-below ps (a + k) there)

-- a reader's clause, where what follows asks that each byte of a memory is one of this one
pub reading_inside : {allowed : Memory → Span → Type 0} {n : ℕ} {s0 s1 : Seen} {P : Memory → Type 0} (k : ℕ) (Q : Memory → Type 0)
    → ReadingOf allowed n s0 s1 P → n ≤ k → ((m : Memory) → Within m (byte_at s0.pieces) → P m → Q m)
    → ReadingOf allowed k s0 s1 Q
reading_inside k Q p le f = record {
  pieces = p.pieces;
  counter = p.counter;
  memory = p.memory;
  ranges = p.ranges;
  here = p.here;
  only = p.only;
  cost = omega (arith, p.cost);
  holds = λ m c. f m c.agrees (p.holds m c);
}
