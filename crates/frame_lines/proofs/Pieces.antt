-- Bytes that are read piece by piece.
use Rattle.std.proofs.Common.{◌≡◌, ℕ, zero, suc, ◌+◌, ◌-◌, ◌*◌, ◌<◌, ◌≤◌, ◌^◌, true, false, cond, leb, ltb, List, []}
use Rattle.std.proofs.Common.{◌∷◌, ◌++◌}
use Rattle.std.proofs.Common.{refl, sym, ap, ◌∙◌, arith, add-zero, inl, inr}
use Rattle.std.specs.Prelude.{◌⊎◌, ◌&&◌, ⊤, min, Bool, IfOk, IfSome, Vec, length, Option, Some, None, Result, Ok, Err}
use Rattle.std.proofs.lemmas.Bool.{cases_lt}
use Rattle.std.proofs.lemmas.Bool.Decides.{nat_tests}
use Rattle.process_memory.specs.declared.memory.ReadFault.{ReadFault}
use Rattle.process_memory.specs.declared.memory.ReadFault.TheVariants.{Unreadable}
use Rattle.process_memory.specs.Memory.{Fault, Found, Memory, bytes_at, found_or, in_front, record_at}
use Rattle.process_memory.specs.Memory.Fault.{Missing}
use Rattle.process_memory.specs.Seen.{Answers, FaultIs, Reading, Reads, Seen, read_fault}
use Rattle.std.specs.Global.{Global}
use Rattle.elf64_core.specs.Fields.{u64_in}
use Rattle.py_fields.specs.declared.layout.Layout.{Layout}
use Rattle.frame_lines.specs.Tables.{items_or_none, many_at, table_at}
use Rattle.process_memory.proofs.Reading.{reading_gives, reading_none, reading_then}

-- two parts, where both are there
abbrev joined : Option (List ℕ) → Option (List ℕ) → Option (List ℕ)
joined None ys = None
joined (Some xs) None = None
joined (Some xs) (Some ys) = Some (xs ++ ys)

joined_front : (b : Option ℕ) (xs ys : Option (List ℕ)) → joined (in_front b xs) ys ≡ in_front b (joined xs ys)
joined_front None None ys = refl
joined_front None (Some xs) ys = refl
joined_front (Some b) None ys = refl
joined_front (Some b) (Some xs) None = refl
joined_front (Some b) (Some xs) (Some ys) = refl

joined_none : (ys : Option (List ℕ)) → joined (Some []) ys ≡ ys
joined_none None = refl
joined_none (Some ys) = refl

-- bytes in two parts
bytes_split : (m : Memory) (a n k : ℕ) → bytes_at m a (n + k) ≡ joined (bytes_at m a n) (bytes_at m (a + n) k)
unfolding bytes_at
bytes_split m a zero k =
    let same : zero + k ≡ k = omega arith in
    rw (same, add-zero) (sym (joined_none (bytes_at m a k)))
bytes_split m a (suc n) k =
    let more : suc n + k ≡ suc (n + k) = omega arith in
    let next : a + suc n ≡ (a + 1) + n = omega arith in
    rw (more, next) (ap (in_front (m a)) (bytes_split m (a + 1) n k) ∙ sym (joined_front (m a) (bytes_at m (a + 1) n)
    (bytes_at m ((a + 1) + n) k)))

-- what is there behind some bytes
more_of : (m : Memory) (a n k : ℕ) (xs ys : List ℕ) → bytes_at m a n ≡ Some xs → bytes_at m (a + n) k ≡ Some ys
    → bytes_at m a (n + k) ≡ Some (xs ++ ys)
more_of m a n k xs ys first next = bytes_split m a n k ∙ rw (first, next) refl

-- what is not there is not in what has more before and behind
lacks : (m : Memory) (a n k length : ℕ) → n + k ≤ length → bytes_at m (a + n) k ≡ None → bytes_at m a length ≡ None
lacks m a n k length le none =
    let whole : length ≡ (n + k) + (length - (n + k)) = omega arith in
    let part : bytes_at m a (n + k) ≡ None =
    bytes_split m a n k ∙ rw none (elim (bytes_at m a n) as (λ o. joined o None ≡ None)
    [ None ↦ refl | Some xs ↦ refl ]) in
    rw whole (bytes_split m a (n + k) (length - (n + k)) ∙ rw part refl)

found_some : (o : Option (List ℕ)) (f : Fault) (bs : List ℕ) → found_or o f ≡ Ok bs → o ≡ Some bs
found_some None f bs e = absurd (cc)
found_some (Some x) f bs e = cc

found_none : (o : Option (List ℕ)) (f g : Fault) → found_or o f ≡ Err g → o ≡ None
found_none None f g e = refl
found_none (Some x) f g e = absurd (cc)

record_there : (m : Memory) (a n : ℕ) (bs : List ℕ) → a < 2 ^ 64 → record_at m a n ≡ Ok bs → bytes_at m a n ≡ Some bs
unfolding record_at
record_there m a n bs lt e = let below : ltb a (2 ^ 64) ≡ true = grind (arith, nat_tests) in
    found_some (bytes_at m a n) (Missing a n) bs (rw below at e)

record_missing : (m : Memory) (a n : ℕ) (f : Fault) → a < 2 ^ 64 → record_at m a n ≡ Err f → bytes_at m a n ≡ None
unfolding record_at
record_missing m a n f lt e = let below : ltb a (2 ^ 64) ≡ true = grind (arith, nat_tests) in
    found_none (bytes_at m a n) (Missing a n) f (rw below at e)

ok_is : {T : Type 0} (x y : T) → ◌≡◌ {A = Found T} (Ok x) (Ok y) → x ≡ y
ok_is x y e = cc

no_fault : (o : Option (List ℕ)) (f : Option Fault) → FaultIs {T = Option (List ℕ)} (Ok o) f → f ≡ None
no_fault o None h = refl
no_fault o (Some f) h = absurd (cc)

-- one piece, as it was read
pub piece_there : (m : Memory) (a n : ℕ) (bs : List ℕ) → a < 2 ^ 64 → Answers read_fault (record_at m a n) (Ok bs)
    → Answers {E = ReadFault} read_fault (Ok (bytes_at m a n)) (Ok (Some bs))
piece_there m a n bs lt p = record { is = ap Ok (record_there m a n bs lt p.is) }

pub piece_missing : (m : Memory) (a n addr len : ℕ) → a < 2 ^ 64
    → Answers {T = List ℕ} read_fault (record_at m a n) (Err (Unreadable addr len))
    → Answers {E = ReadFault} read_fault (Ok (bytes_at m a n)) (Ok None)
piece_missing m a n addr len lt p = record { is = ap Ok (record_missing m a n (Missing addr len) lt p.is) }

-- ---- the loop

-- these bytes of those at an address were read, and before the last piece none but pieces of 2^15
pub record HasRead (at length : ℕ) (s0 s1 : Seen) (done : ℕ) (bytes : List ℕ) : Type 0 where
  pub reads : ℕ
  pub few : (2 ^ 15 * reads ≤ done) ⊎ ((done ≡ length) × (2 ^ 15 * reads < length + 2 ^ 15))
  pub within : done ≤ length
  pub reading : Reading reads s0 s1 (λ m. bytes_at m at done ≡ Some bytes)

none_read : (m : Memory) (a : ℕ) → bytes_at m a 0 ≡ Some []
unfolding bytes_at
none_read m a = refl

pub read_begins : (at length : ℕ) (s : Seen) → HasRead at length s s 0 []
read_begins at length s = record {
  reads = 0;
  few = inl (omega arith);
  within = omega arith;
  reading = reading_none 0 s _ (λ m. none_read m at);
}

-- in front of the last piece there were none but pieces of 2^15
all_full : (reads done length : ℕ) → done < length
    → (2 ^ 15 * reads ≤ done) ⊎ ((done ≡ length) × (2 ^ 15 * reads < length + 2 ^ 15)) → 2 ^ 15 * reads ≤ done
all_full reads done length some (inl h) = h
all_full reads done length some (inr h) = absurd (omega (arith, h.0))

few_more : (reads piece done length : ℕ) → 2 ^ 15 * reads ≤ done → done < length → piece ≡ min (2 ^ 15) (length - done)
    → (2 ^ 15 * (reads + 1) ≤ done + piece) ⊎ ((done + piece ≡ length) × (2 ^ 15 * (reads + 1) < length + 2 ^ 15))
few_more reads piece done length full some is = elim (cases_lt (length - done) (2 ^ 15)) [
  | inl lt ↦ inr (omega arith, omega arith)
  | inr ge ↦ inl (omega arith)
]

few_all : (reads done length : ℕ) → length < 2 ^ 24 → done ≤ length
    → (2 ^ 15 * reads ≤ done) ⊎ ((done ≡ length) × (2 ^ 15 * reads < length + 2 ^ 15)) → reads ≤ 512
few_all reads done length short within (inl h) = omega arith
few_all reads done length short within (inr h) = omega (arith, h.1)

module _ {at length : ℕ} {s0 s1 : Seen} {done : ℕ} {bytes : List ℕ} where
  pub read_more : {s2 : Seen} {read : List ℕ} (piece : ℕ) → HasRead at length s0 s1 done bytes → done < length
      → piece ≡ min (2 ^ 15) (length - done)
      → Reads {E = ReadFault} read_fault 1 s1 s2 (λ m. Ok (bytes_at m (at + done) piece)) (Ok (Some read))
      → HasRead at length s0 s2 (done + piece) (bytes ++ read)
  read_more {s2} {read} piece t some is r = record {
    reads = t.reads + 1;
    few = few_more t.reads piece done length (all_full t.reads done length some t.few) some is;
    within = omega arith;
    reading = reading_then _ t.reading r (λ m before a.
        more_of m at done piece bytes read before (ok_is (bytes_at m (at + done) piece) (Some read) a.is));
  }

  pub read_lacks : {s2 : Seen} (piece : ℕ) → HasRead at length s0 s1 done bytes → length < 2 ^ 24 → done < length
      → piece ≡ min (2 ^ 15) (length - done)
      → Reads {E = ReadFault} read_fault 1 s1 s2 (λ m. Ok (bytes_at m (at + done) piece)) (Ok None)
      → Reads {E = ReadFault} read_fault 512 s0 s2 (λ m. Ok (bytes_at m at length)) (Ok None)
  read_lacks piece t short some is r =
      reading_gives 512 _
      (reading_then (λ m. bytes_at m at length ≡ None) t.reading r
      (λ m before a. lacks m at done piece length (omega arith) (ok_is (bytes_at m (at + done) piece) None a.is)))
      (omega (arith, all_full t.reads done length some t.few))
      (λ m none. record { is = ap Ok none })

  pub read_lost : {s2 : Seen} {e : ReadFault} (e' : ReadFault) (piece : ℕ) → HasRead at length s0 s1 done bytes
      → length < 2 ^ 24 → done < length
      → Reads {T = Option (List ℕ)} read_fault 1 s1 s2 (λ m. Ok (bytes_at m (at + done) piece)) (Err e)
      → read_fault e' ≡ read_fault e
      → Reads {T = Option (List ℕ)} read_fault 512 s0 s2 (λ m. Ok (bytes_at m at length)) (Err e')
  read_lost {s2} {e} e' piece t short some r same =
      reading_gives 512 _
      (reading_then (λ m. read_fault e ≡ None) t.reading r (λ m before a. no_fault (bytes_at m (at + done) piece)
      (read_fault e) a.is))
      (omega (arith, all_full t.reads done length some t.few))
      (λ m none. record { is = rw (same ∙ none) tt })

  pub read_unkept : {s2 : Seen} {E : Type 0} {fault : E → Option Fault} {x : Option (List ℕ)} (piece : ℕ)
      (e : ReadFault) → HasRead at length s0 s1 done bytes → length < 2 ^ 24 → done < length
      → Reads {T = Option (List ℕ)} fault 1 s1 s2 (λ m. Ok (bytes_at m (at + done) piece)) (Ok x) → read_fault e ≡ None
      → Reads {T = Option (List ℕ)} read_fault 512 s0 s2 (λ m. Ok (bytes_at m at length)) (Err e)
  read_unkept piece e t short some r none =
      reading_gives 512 _ (reading_then (λ m. ⊤) t.reading r (λ m before a. tt))
      (omega (arith, all_full t.reads done length some t.few)) (λ m h. record { is = rw none tt })

  pub read_all : HasRead at length s0 s1 done bytes → length < 2 ^ 24 → length ≤ done
      → Reads {E = ReadFault} read_fault 512 s0 s1 (λ m. Ok (bytes_at m at length)) (Ok (Some bytes))
  read_all t short all =
      let is : done ≡ length = omega (arith, t.within) in
      reading_gives 512 _ t.reading (few_all t.reads done length short t.within t.few)
      (λ m before. record { is = ap Ok (rw is at before) })

-- ---- a table

pub many_long : (m : Memory) (a n : ℕ) → 2 ^ 24 ≤ n → many_at m a n ≡ None
unfolding many_at
many_long m a n long = let no : ltb n (2 ^ 24) ≡ false = grind (arith, nat_tests) in rw no refl

pub many_past : (m : Memory) (a n : ℕ) → 2 ^ 64 < a + n → many_at m a n ≡ None
unfolding many_at
many_past m a n past =
    let no : leb (a + n) (2 ^ 64) ≡ false = grind (arith, nat_tests) in
    rw no (elim (ltb n (2 ^ 24)) as (λ t. cond (t && false) (bytes_at m a n) None ≡ None)
    [ true ↦ refl | false ↦ refl ])

bytes_length : (m : Memory) (a n : ℕ) (bs : List ℕ) → bytes_at m a n ≡ Some bs → length bs ≡ n
unfolding bytes_at
bytes_length m a zero bs e = let h : [] ≡ bs = cc in rw (← h) refl
bytes_length m a (suc n) bs e = front_length (m a) (bytes_at m (a + 1) n) n bs e
    (λ rest is. bytes_length m (a + 1) n rest is)
  where
    front_length : (b : Option ℕ) (o : Option (List ℕ)) (n : ℕ) (bs : List ℕ) → in_front b o ≡ Some bs
        → ((rest : List ℕ) → o ≡ Some rest → length rest ≡ n) → length bs ≡ suc n
    front_length None o n bs e h = absurd (cc)
    front_length (Some b) None n bs e h = absurd (cc)
    front_length (Some b) (Some rest) n bs e h = let is : b ∷ rest ≡ bs = cc in rw (← is) (ap suc (h rest refl))

many_few : (m : Memory) (a n : ℕ) (bs : List ℕ) (t : Bool) → ltb n (2 ^ 24) ≡ t → many_at m a n ≡ Some bs
    → length bs < 2 ^ 24
unfolding many_at
many_few m a n bs false is e = absurd (let h : None ≡ Some bs = rw is at e in cc)
many_few m a n bs true is e =
    let few : n < 2 ^ 24 = grind (arith, nat_tests) in
    many_here (leb (a + n) (2 ^ 64)) (rw is at e) few
  where
    many_here : (t : Bool) → cond t (bytes_at m a n) None ≡ Some bs → n < 2 ^ 24 → length bs < 2 ^ 24
    many_here true e few = omega (arith, bytes_length m a n bs e)
    many_here false e few = absurd (cc)

pub many_short : (m : Memory) (a n : ℕ) (r : Result (Option (Vec ℕ Global)) ReadFault)
    → Answers read_fault (Ok (many_at m a n)) (items_or_none r)
    → IfOk r (λ table. IfSome table (λ (v : Vec ℕ Global). length v.items < 2 ^ 24))
many_short m a n (Err e) p = tt
many_short m a n (Ok None) p = tt
many_short m a n (Ok (Some v)) p = many_few m a n v.items (ltb n (2 ^ 24)) refl
    (ok_is (many_at m a n) (Some v.items) p.is)

pub table_there : (l : Layout) (m : Memory) (a : ℕ) (object : List ℕ) {r : Result (Option (List ℕ)) ReadFault}
    → Answers read_fault (record_at m a l.bytes.size) (Ok object)
    → Answers read_fault (Ok (many_at m (a + l.bytes.at) (u64_in object l.bytes.length))) r
    → Answers read_fault (Ok (table_at l m a)) r
unfolding table_at
table_there l m a object p q = record { is = rw p.is q.is }

pub table_none : (l : Layout) (m : Memory) (a addr len : ℕ)
    → Answers {T = List ℕ} read_fault (record_at m a l.bytes.size) (Err (Unreadable addr len))
    → Answers {E = ReadFault} read_fault (Ok (table_at l m a)) (Ok None)
unfolding table_at
table_none l m a addr len p = record { is = rw p.is refl }
