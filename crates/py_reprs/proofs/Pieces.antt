-- Bytes that are read piece by piece.
use Rattle.std.proofs.Common.{◌≡◌, ℕ, zero, suc, ◌+◌, ◌-◌, ◌*◌, ◌/◌, ◌<◌, ◌≤◌, ◌^◌, true, false, cond, leb, ltb, List, []}
use Rattle.std.proofs.Common.{◌++◌}
use Rattle.std.proofs.Common.{refl, sym, ap, ◌∙◌, arith, add-zero, inl, inr}
use Rattle.std.specs.Prelude.{◌⊎◌, ⊤, min, length, Option, Some, None, Ok, Err}
use Rattle.std.proofs.lemmas.Bool.{cases_lt}
use Rattle.std.proofs.lemmas.Bool.Decides.{nat_tests}
use Rattle.process_memory.specs.declared.memory.ReadFault.{ReadFault}
use Rattle.process_memory.specs.declared.memory.ReadFault.TheVariants.{Unreadable}
use Rattle.process_memory.specs.Memory.{Fault, Found, Memory, bytes_at, found_or, in_front, outside, record_at}
use Rattle.process_memory.specs.Memory.Fault.{Missing}
use Rattle.process_memory.specs.Seen.{Answers, FaultIs, Reading, Reads, Seen, read_fault}
use Rattle.py_builtins.specs.ObjectError.{object_fault}
use Rattle.py_builtins.specs.declared.error.ObjectError.{ObjectError}
use Rattle.py_builtins.specs.declared.error.ObjectError.TheVariants as object
use Rattle.py_reprs.specs.Fronts.{front_at}
use Rattle.process_memory.proofs.Reading.{reading_gives, reading_none, reading_then}

-- two parts, where both are there
abbrev joined : Option (List ℕ) → Option (List ℕ) → Option (List ℕ)
joined None ys = None
joined (Some xs) None = None
joined (Some xs) (Some ys) = Some (xs ++ ys)

joined_front : (b : Option ℕ) (xs ys : Option (List ℕ)) → joined (in_front b xs) ys ≡ in_front b (joined xs ys)
joined_front None None ys = refl
joined_front None (Some xs) ys = refl
joined_front (Some b) None ys = refl
joined_front (Some b) (Some xs) None = refl
joined_front (Some b) (Some xs) (Some ys) = refl

joined_none : (ys : Option (List ℕ)) → joined (Some []) ys ≡ ys
joined_none None = refl
joined_none (Some ys) = refl

-- bytes in two parts
bytes_split : (m : Memory) (a n k : ℕ) → bytes_at m a (n + k) ≡ joined (bytes_at m a n) (bytes_at m (a + n) k)
unfolding bytes_at
bytes_split m a zero k =
    let same : zero + k ≡ k = omega arith in
    rw (same, add-zero) (sym (joined_none (bytes_at m a k)))
bytes_split m a (suc n) k =
    let more : suc n + k ≡ suc (n + k) = omega arith in
    let next : a + suc n ≡ (a + 1) + n = omega arith in
    rw (more, next) (ap (in_front (m a)) (bytes_split m (a + 1) n k) ∙ sym (joined_front (m a) (bytes_at m (a + 1) n)
    (bytes_at m ((a + 1) + n) k)))

-- what is there behind some bytes
more_of : (m : Memory) (a n k : ℕ) (xs ys : List ℕ) → bytes_at m a n ≡ Some xs → bytes_at m (a + n) k ≡ Some ys
    → bytes_at m a (n + k) ≡ Some (xs ++ ys)
more_of m a n k xs ys first next = bytes_split m a n k ∙ rw (first, next) refl

-- what is not there is not in what has more before and behind
lacks : (m : Memory) (a n k length : ℕ) → n + k ≤ length → bytes_at m (a + n) k ≡ None → bytes_at m a length ≡ None
lacks m a n k length le none =
    let whole : length ≡ (n + k) + (length - (n + k)) = omega arith in
    let part : bytes_at m a (n + k) ≡ None =
    bytes_split m a n k ∙ rw none (elim (bytes_at m a n) as (λ o. joined o None ≡ None)
    [ None ↦ refl | Some xs ↦ refl ]) in
    rw whole (bytes_split m a (n + k) (length - (n + k)) ∙ rw part refl)

found_some : (o : Option (List ℕ)) (f : Fault) (bs : List ℕ) → found_or o f ≡ Ok bs → o ≡ Some bs
found_some None f bs e = absurd (cc)
found_some (Some x) f bs e = cc

found_none : (o : Option (List ℕ)) (f g : Fault) → found_or o f ≡ Err g → o ≡ None
found_none None f g e = refl
found_none (Some x) f g e = absurd (cc)

record_there : (m : Memory) (a n : ℕ) (bs : List ℕ) → a < 2 ^ 64 → record_at m a n ≡ Ok bs → bytes_at m a n ≡ Some bs
unfolding record_at
record_there m a n bs lt e = let below : ltb a (2 ^ 64) ≡ true = grind (arith, nat_tests) in
    found_some (bytes_at m a n) (Missing a n) bs (rw below at e)

record_missing : (m : Memory) (a n : ℕ) (f : Fault) → a < 2 ^ 64 → record_at m a n ≡ Err f → bytes_at m a n ≡ None
unfolding record_at
record_missing m a n f lt e = let below : ltb a (2 ^ 64) ≡ true = grind (arith, nat_tests) in
    found_none (bytes_at m a n) (Missing a n) f (rw below at e)

ok_is : {T : Type 0} (x y : T) → ◌≡◌ {A = Found T} (Ok x) (Ok y) → x ≡ y
ok_is x y e = cc

no_fault : (o : Option (List ℕ)) (f : Option Fault) → FaultIs {T = Option (List ℕ)} (Ok o) f → f ≡ None
no_fault o None h = refl
no_fault o (Some f) h = absurd (cc)

-- one piece, as it was read
pub piece_there : (m : Memory) (a n : ℕ) (bs : List ℕ) → a < 2 ^ 64 → Answers read_fault (record_at m a n) (Ok bs)
    → Answers {E = ReadFault} read_fault (Ok (bytes_at m a n)) (Ok (Some bs))
piece_there m a n bs lt p = record { is = ap Ok (record_there m a n bs lt p.is) }

pub piece_missing : (m : Memory) (a n addr len : ℕ) → a < 2 ^ 64
    → Answers {T = List ℕ} read_fault (record_at m a n) (Err (Unreadable addr len))
    → Answers {E = ReadFault} read_fault (Ok (bytes_at m a n)) (Ok None)
piece_missing m a n addr len lt p = record { is = ap Ok (record_missing m a n (Missing addr len) lt p.is) }

-- ---- the loop

-- these bytes of those at an address were read, and before the last piece none but pieces of 2^12
pub record HasRead (at length : ℕ) (s0 s1 : Seen) (done : ℕ) (bytes : List ℕ) : Type 0 where
  pub reads : ℕ
  pub few : (2 ^ 12 * reads ≤ done) ⊎ ((done ≡ length) × (2 ^ 12 * reads < length + 2 ^ 12))
  pub within : done ≤ length
  pub reading : Reading reads s0 s1 (λ m. bytes_at m at done ≡ Some bytes)

none_read : (m : Memory) (a : ℕ) → bytes_at m a 0 ≡ Some []
unfolding bytes_at
none_read m a = refl

pub read_begins : (at length : ℕ) (s : Seen) → HasRead at length s s 0 []
read_begins at length s = record {
  reads = 0;
  few = inl (omega arith);
  within = omega arith;
  reading = reading_none 0 s _ (λ m. none_read m at);
}

-- in front of the last piece there were none but pieces of 2^12
all_full : (reads done length : ℕ) → done < length
    → (2 ^ 12 * reads ≤ done) ⊎ ((done ≡ length) × (2 ^ 12 * reads < length + 2 ^ 12)) → 2 ^ 12 * reads ≤ done
all_full reads done length some (inl h) = h
all_full reads done length some (inr h) = absurd (omega (arith, h.0))

few_more : (reads piece done length : ℕ) → 2 ^ 12 * reads ≤ done → done < length → piece ≡ min (2 ^ 12) (length - done)
    → (2 ^ 12 * (reads + 1) ≤ done + piece) ⊎ ((done + piece ≡ length) × (2 ^ 12 * (reads + 1) < length + 2 ^ 12))
few_more reads piece done length full some is = elim (cases_lt (length - done) (2 ^ 12)) [
  | inl lt ↦ inr (omega arith, omega arith)
  | inr ge ↦ inl (omega arith)
]

piece_few : (reads done length : ℕ) → done < length → 2 ^ 12 * reads ≤ done → reads + 1 ≤ length / 4096 + 1
piece_few reads done length some full = omega arith

few_all : (reads done length : ℕ) → done ≤ length
    → (2 ^ 12 * reads ≤ done) ⊎ ((done ≡ length) × (2 ^ 12 * reads < length + 2 ^ 12)) → reads ≤ length / 4096 + 1
few_all reads done length within (inl h) = omega arith
few_all reads done length within (inr h) = omega (arith, h.1)

module _ {at length : ℕ} {s0 s1 : Seen} {done : ℕ} {bytes : List ℕ} where
  pub read_more : {s2 : Seen} {read : List ℕ} (piece : ℕ) → HasRead at length s0 s1 done bytes → done < length
      → piece ≡ min (2 ^ 12) (length - done)
      → Reads {E = ReadFault} read_fault 1 s1 s2 (λ m. Ok (bytes_at m (at + done) piece)) (Ok (Some read))
      → HasRead at length s0 s2 (done + piece) (bytes ++ read)
  read_more {s2} {read} piece t some is r = record {
    reads = t.reads + 1;
    few = few_more t.reads piece done length (all_full t.reads done length some t.few) some is;
    within = omega arith;
    reading = reading_then _ t.reading r (λ m before a.
        more_of m at done piece bytes read before (ok_is (bytes_at m (at + done) piece) (Some read) a.is));
  }

  pub read_lacks : {s2 : Seen} (piece : ℕ) → HasRead at length s0 s1 done bytes → done < length
      → piece ≡ min (2 ^ 12) (length - done)
      → Reads {E = ReadFault} read_fault 1 s1 s2 (λ m. Ok (bytes_at m (at + done) piece)) (Ok None)
      → Reads {E = ReadFault} read_fault (length / 4096 + 1) s0 s2 (λ m. Ok (bytes_at m at length)) (Ok None)
  read_lacks piece t some is r =
      reading_gives (length / 4096 + 1) _
      (reading_then (λ m. bytes_at m at length ≡ None) t.reading r
      (λ m before a. lacks m at done piece length (omega arith) (ok_is (bytes_at m (at + done) piece) None a.is)))
      (piece_few t.reads done length some (all_full t.reads done length some t.few))
      (λ m none. record { is = ap Ok none })

  pub read_lost : {s2 : Seen} {e : ReadFault} (e' : ReadFault) (piece : ℕ) → HasRead at length s0 s1 done bytes
      → done < length
      → Reads {T = Option (List ℕ)} read_fault 1 s1 s2 (λ m. Ok (bytes_at m (at + done) piece)) (Err e)
      → read_fault e' ≡ read_fault e
      → Reads {T = Option (List ℕ)} read_fault (length / 4096 + 1) s0 s2 (λ m. Ok (bytes_at m at length)) (Err e')
  read_lost {s2} {e} e' piece t some r same =
      reading_gives (length / 4096 + 1) _
      (reading_then (λ m. read_fault e ≡ None) t.reading r (λ m before a. no_fault (bytes_at m (at + done) piece)
      (read_fault e) a.is))
      (piece_few t.reads done length some (all_full t.reads done length some t.few))
      (λ m none. record { is = rw (same ∙ none) tt })

  pub read_unkept : {s2 : Seen} {E : Type 0} {fault : E → Option Fault} {x : Option (List ℕ)} (piece : ℕ)
      (e : ReadFault) → HasRead at length s0 s1 done bytes → done < length
      → Reads {T = Option (List ℕ)} fault 1 s1 s2 (λ m. Ok (bytes_at m (at + done) piece)) (Ok x) → read_fault e ≡ None
      → Reads {T = Option (List ℕ)} read_fault (length / 4096 + 1) s0 s2 (λ m. Ok (bytes_at m at length)) (Err e)
  read_unkept piece e t some r none =
      reading_gives (length / 4096 + 1) _ (reading_then (λ m. ⊤) t.reading r (λ m before a. tt))
      (piece_few t.reads done length some (all_full t.reads done length some t.few)) (λ m h. record { is = rw none tt })

  pub read_all : HasRead at length s0 s1 done bytes → length ≤ done
      → Reads {E = ReadFault} read_fault (length / 4096 + 1) s0 s1 (λ m. Ok (bytes_at m at length)) (Ok (Some bytes))
  read_all t all =
      let is : done ≡ length = omega (arith, t.within) in
      reading_gives (length / 4096 + 1) _ t.reading (few_all t.reads done length t.within t.few)
      (λ m before. record { is = ap Ok (rw is at before) })

-- ---- a record

below_is : (a n : ℕ) → 0 < n → a + n ≤ 2 ^ 64 → ltb a (2 ^ 64) ≡ true
below_is a n some within = grind (arith, nat_tests)

-- no bytes
pub record_nothing : (m : Memory) (a n : ℕ) (bytes : List ℕ) → n ≡ 0 → a + n ≤ 2 ^ 64 → bytes ≡ []
    → record_at m a n ≡ Ok bytes
unfolding record_at bytes_at
record_nothing m a n bytes none within empty = rw (none, empty) (elim (ltb a (2 ^ 64))
    as (λ t. cond t (found_or (bytes_at m a 0) (Missing a 0)) (outside 0) ≡ Ok []) [ true ↦ refl | false ↦ refl ])

record_ok : (m : Memory) (a n : ℕ) (bytes : List ℕ) → 0 < n → a + n ≤ 2 ^ 64 → bytes_at m a n ≡ Some bytes
    → record_at m a n ≡ Ok bytes
unfolding record_at
record_ok m a n bytes some within e = rw (below_is a n some within, e) refl

record_err : (m : Memory) (a n : ℕ) → 0 < n → a + n ≤ 2 ^ 64 → bytes_at m a n ≡ None
    → record_at m a n ≡ Err (Missing a n)
unfolding record_at
record_err m a n some within e = rw (below_is a n some within, e) refl

pub whole_there : (m : Memory) (a n : ℕ) (bytes : List ℕ) → 0 < n → a + n ≤ 2 ^ 64
    → Answers {E = ReadFault} read_fault (Ok (bytes_at m a n)) (Ok (Some bytes))
    → Answers {E = ObjectError} object_fault (record_at m a n) (Ok bytes)
whole_there m a n bytes some within h =
    record { is = record_ok m a n bytes some within (ok_is (bytes_at m a n) (Some bytes) h.is) }

pub whole_missing : (m : Memory) (a n : ℕ) → 0 < n → a + n ≤ 2 ^ 64
    → Answers {E = ReadFault} read_fault (Ok (bytes_at m a n)) (Ok None)
    → Answers {T = List ℕ} object_fault (record_at m a n) (Err (object.Unreadable a n))
whole_missing m a n some within h =
    record { is = record_err m a n some within (ok_is (bytes_at m a n) None h.is) }

pub front_past : (m : Memory) (a n : ℕ) → 2 ^ 64 < a + n
    → Answers {T = List ℕ} object_fault (front_at m a n) (Err (object.Unreadable (2 ^ 64 - 1) n))
unfolding front_at
front_past m a n past =
    let no : leb (a + n) (2 ^ 64) ≡ false = grind (arith, nat_tests) in record { is = rw no refl }

pub front_within : (m : Memory) (a n : ℕ) → a + n ≤ 2 ^ 64 → front_at m a n ≡ record_at m a n
unfolding front_at
front_within m a n within = let yes : leb (a + n) (2 ^ 64) ≡ true = grind (arith, nat_tests) in rw yes refl
