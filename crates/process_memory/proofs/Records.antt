-- Records of a memory, byte by byte, and of each memory that agrees with it.
use Rattle.std.proofs.Common.{◌≡◌, ℕ, zero, suc, ◌+◌, ◌-◌, ◌<◌, ◌≤◌, ◌^◌, true, false, cond, ltb, List, [], ◌∷◌, ◌++◌}
use Rattle.std.proofs.Common.{length, get_or, take, drop, refl, sym, ap, ◌∙◌, rules, arith, add-zero, add_assoc}
use Rattle.std.specs.Prelude.{Option, Some, None, IsSome, IfOk, Result, Ok, Err, vec_len}
use Rattle.std.specs.Global.{Vec}
use Rattle.std.proofs.lemmas.Bool.Decides.{nat_tests}
use Rattle.std.proofs.Math.Seq.{take-append_seam}
use Rattle.process_memory.specs.declared.memory.ReadFault.{ReadFault}
use Rattle.process_memory.specs.Memory.Fault.{Missing}
use Rattle.process_memory.specs.Memory.{Memory, Region, byte_at, bytes_at, in_front, found_or, outside, record_at}
use Rattle.process_memory.specs.Memory.{Fault}
use Rattle.process_memory.specs.Seen.{Answers, read_fault, items_of}

-- each byte of `m` is that of `w`
abbrev pub Within : Memory → Memory → Type 0
Within m w = (a b : ℕ) → m a ≡ Some b → w a ≡ Some b

pub in_front_some : (o : Option ℕ) (r : Option (List ℕ)) (bs : List ℕ) → in_front o r ≡ Some bs → (b : ℕ) × (rest : List ℕ) × (o ≡ Some b) × (r ≡ Some rest) × (bs ≡ b ∷ rest)
in_front_some None r bs h = absurd (cc)
in_front_some (Some b) None bs h = absurd (cc)
in_front_some (Some b) (Some rest) bs h = (b, rest, refl, refl, cc)

bytes_agree : (m w : Memory) (a n : ℕ) (bs : List ℕ) → Within m w → bytes_at m a n ≡ Some bs → bytes_at w a n ≡ Some bs
unfolding bytes_at
bytes_agree m w a zero bs i h = h
bytes_agree m w a (suc n) bs i h =
    let p = in_front_some (m a) (bytes_at m (a + 1) n) bs h in
    rw (i a p.0 p.2, bytes_agree m w (a + 1) n p.1 i p.3) (cc)

some_of : (o : Option ℕ) → IsSome o → (b : ℕ) × (o ≡ Some b)
some_of None e = absurd (search rules)
some_of (Some b) e = (b, refl)

some_is : (o : Option ℕ) (b : ℕ) → o ≡ Some b → IsSome o
some_is o b e = rw e (search rules)

bytes_kept : (m w : Memory) (a n : ℕ) (bs : List ℕ) → Within m w → ((k : ℕ) → k < n → IsSome (w (a + k)) → IsSome (m (a + k))) → bytes_at w a n ≡ Some bs → bytes_at m a n ≡ Some bs
unfolding bytes_at
bytes_kept m w a zero bs i h e = e
bytes_kept m w a (suc n) bs i h e =
    let p = in_front_some (w a) (bytes_at w (a + 1) n) bs e in
    let here : IsSome (w (a + 0)) → IsSome (m (a + 0)) = h 0 (omega arith) in
    let here2 : IsSome (w a) → IsSome (m a) = rw add-zero at here in
    let q = some_of (m a) (here2 (some_is (w a) p.0 p.2)) in
    let w_is : w a ≡ Some q.0 = i a q.0 q.1 in
    let rest : bytes_at m (a + 1) n ≡ Some p.1 = bytes_kept m w (a + 1) n p.1 i (λ k b x. rw (add_assoc a 1 k) (h (1 + k) (omega arith) (rw (add_assoc a 1 k) at x))) p.3 in
    rw (q.1, rest) (cc)

none_stays : (o r : Option (List ℕ)) → ((bs : List ℕ) → o ≡ Some bs → r ≡ Some bs) → r ≡ None → o ≡ None
none_stays None r f e = refl
none_stays (Some bs) r f e = absurd (let h = f bs refl in cc)

pub found_ok : (o : Option (List ℕ)) (r : Fault) (bs : List ℕ) → found_or o r ≡ Ok bs → o ≡ Some bs
found_ok None r bs e = absurd (cc)
found_ok (Some x) r bs e = cc

found_err : (o : Option (List ℕ)) (r f : Fault) → found_or o r ≡ Err f → (o ≡ None) × (f ≡ r)
found_err None r f e = (refl, cc)
found_err (Some x) r f e = absurd (cc)

pub record_kept : (m w : Memory) (a n : ℕ) (bs : List ℕ) → Within m w → ((k : ℕ) → k < n → IsSome (w (a + k)) → IsSome (m (a + k))) → record_at w a n ≡ Ok bs → record_at m a n ≡ Ok bs
unfolding record_at
record_kept m w a n bs i h =
    elim (ltb a (2 ^ 64)) as (λ t. cond t (found_or (bytes_at w a n) (Missing a n)) (outside n) ≡ Ok bs → cond t (found_or (bytes_at m a n) (Missing a n)) (outside n) ≡ Ok bs)
    [ true ↦ λ e. rw (bytes_kept m w a n bs i h (found_ok (bytes_at w a n) (Missing a n) bs e)) refl | false ↦ λ e. e ]

pub record_lost : (m w : Memory) (a n : ℕ) (f : Fault) → Within m w → record_at w a n ≡ Err f → record_at m a n ≡ Err f
unfolding record_at
record_lost m w a n f i =
    elim (ltb a (2 ^ 64)) as (λ t. cond t (found_or (bytes_at w a n) (Missing a n)) (outside n) ≡ Err f → cond t (found_or (bytes_at m a n) (Missing a n)) (outside n) ≡ Err f)
    [ true ↦ λ e. let p = found_err (bytes_at w a n) (Missing a n) f e in rw (none_stays (bytes_at m a n) (bytes_at w a n) (λ bs. bytes_agree m w a n bs i) p.0) (cc) | false ↦ λ e. e ]

bytes_all : (m : Memory) (a n : ℕ) (bs : List ℕ) → bytes_at m a n ≡ Some bs → (k : ℕ) → k < n → IsSome (m (a + k))
unfolding bytes_at
bytes_all m a zero bs e k lt = absurd (omega arith)
bytes_all m a (suc n) bs e zero lt =
    let p = in_front_some (m a) (bytes_at m (a + 1) n) bs e in rw (add-zero, p.2) (search rules)
bytes_all m a (suc n) bs e (suc k) lt =
    let p = in_front_some (m a) (bytes_at m (a + 1) n) bs e in
    let same : a + suc k ≡ (a + 1) + k = omega arith in
    rw same (bytes_all m (a + 1) n p.1 p.3 k (omega arith))

pub outside_none : (n : ℕ) (bs : List ℕ) → outside n ≡ Ok bs → n ≡ 0
outside_none zero bs e = refl
outside_none (suc n) bs e = absurd (cc)

pub record_all : (m : Memory) (a n : ℕ) (bs : List ℕ) → record_at m a n ≡ Ok bs → (k : ℕ) → k < n → IsSome (m (a + k))
unfolding record_at
record_all m a n bs =
    elim (ltb a (2 ^ 64)) as (λ t. cond t (found_or (bytes_at m a n) (Missing a n)) (outside n) ≡ Ok bs → (k : ℕ) → k < n → IsSome (m (a + k)))
    [ true ↦ λ e. bytes_all m a n bs (found_ok (bytes_at m a n) (Missing a n) bs e) | false ↦ λ e k lt. absurd (omega (arith, outside_none n bs e)) ]

-- a byte has an address below 2^64 - 1
pub byte_at-below : (ps : List Region) (a : ℕ) → IsSome (byte_at ps a) → a < 2 ^ 64 - 1
unfolding byte_at
byte_at-below ps a h =
    let past : 2 ^ 64 - 1 ≤ a → ltb a (2 ^ 64 - 1) ≡ false = λ le. grind (arith, nat_tests) in
    let no : 2 ^ 64 - 1 ≤ a → ⊥ = λ le. let h2 : false ≡ true = rw (past le) at h in cc in
    grind (arith, no)

pub byte_at-above : (ps : List Region) (a : ℕ) → 2 ^ 64 - 1 ≤ a → byte_at ps a ≡ None
unfolding byte_at
byte_at-above ps a h = let past : ltb a (2 ^ 64 - 1) ≡ false = grind (arith, nat_tests) in rw past refl

bytes_each : (m : Memory) (a : ℕ) (bs : List ℕ) → ((k : ℕ) → k < length bs → m (a + k) ≡ Some (get_or bs k 0)) → bytes_at m a (length bs) ≡ Some bs
unfolding bytes_at
bytes_each m a [] h = refl
bytes_each m a (b ∷ bs) h =
    let here : m (a + 0) ≡ Some b = h 0 (omega arith) in
    let here2 : m a ≡ Some b = rw add-zero at here in
    let rest : bytes_at m (a + 1) (length bs) ≡ Some bs = bytes_each m (a + 1) bs (λ k lt. rw (add_assoc a 1 k) (next k lt)) in
    rw (here2, rest) refl
  where
    next : (k : ℕ) → k < length bs → m (a + (1 + k)) ≡ Some (get_or bs k 0)
    next k lt = let e : 1 + k ≡ suc k = omega arith in rw e (h (suc k) (omega arith))

bytes_lack : (m : Memory) (a n k : ℕ) → k < n → m (a + k) ≡ None → bytes_at m a n ≡ None
unfolding bytes_at
bytes_lack m a zero k lt h = absurd (omega arith)
bytes_lack m a (suc n) zero lt h = let here : m a ≡ None = rw add-zero at h in rw here refl
bytes_lack m a (suc n) (suc k) lt h =
    let e : a + suc k ≡ (a + 1) + k = omega arith in
    let rest : bytes_at m (a + 1) n ≡ None = bytes_lack m (a + 1) n k (omega arith) (rw e at h) in
    rw rest (elim (m a) as (λ o. in_front o None ≡ None) [ None ↦ refl | Some b ↦ refl ])

pub record_each : (m : Memory) (a : ℕ) (bs : List ℕ) → a < 2 ^ 64 → ((k : ℕ) → k < length bs → m (a + k) ≡ Some (get_or bs k 0)) → record_at m a (length bs) ≡ Ok bs
unfolding record_at
record_each m a bs lt h = let below : ltb a (2 ^ 64) ≡ true = grind (arith, nat_tests) in rw (below, bytes_each m a bs h) refl

pub record_lack : (m : Memory) (a n k : ℕ) → a < 2 ^ 64 → k < n → m (a + k) ≡ None → record_at m a n ≡ Err (Missing a n)
unfolding record_at
record_lack m a n k lt b h = let below : ltb a (2 ^ 64) ≡ true = grind (arith, nat_tests) in rw (below, bytes_lack m a n k b h) refl

bytes_length : (m : Memory) (a n : ℕ) (bs : List ℕ) → bytes_at m a n ≡ Some bs → length bs ≡ n
unfolding bytes_at
bytes_length m a zero bs e = let h : [] ≡ bs = cc in rw (← h) refl
bytes_length m a (suc n) bs e =
    let p = in_front_some (m a) (bytes_at m (a + 1) n) bs e in
    ap length p.4 ∙ ap suc (bytes_length m (a + 1) n p.1 p.3)

pub record_length : (m : Memory) (a n : ℕ) (bs : List ℕ) → record_at m a n ≡ Ok bs → length bs ≡ n
unfolding record_at
record_length m a n bs =
    elim (ltb a (2 ^ 64)) as (λ t. cond t (found_or (bytes_at m a n) (Missing a n)) (outside n) ≡ Ok bs → length bs ≡ n)
    [ true ↦ λ e. bytes_length m a n bs (found_ok (bytes_at m a n) (Missing a n) bs e) | false ↦ λ e. outside_length n bs e ]
  where
    outside_length : (n : ℕ) (bs : List ℕ) → outside n ≡ Ok bs → length bs ≡ n
    outside_length zero bs e = let h : [] ≡ bs = cc in rw (← h) refl
    outside_length (suc n) bs e = absurd (cc)

pub answer_length : (m : Memory) (a n : ℕ) (r : Result (Vec ℕ) ReadFault) → Answers read_fault (record_at m a n) (items_of r) → IfOk r (λ v. vec_len v ≡ n)
answer_length m a n (Ok v) p = rw (v.ok.0) (record_length m a n v.items p.is)
answer_length m a n (Err e) p = tt

-- a buffer of so many bytes that was filled
pub record_filled : (m : Memory) (a n count : ℕ) (buf old : List ℕ) → a < 2 ^ 64 → count ≡ length buf → length buf ≡ n
    → ((k : ℕ) → k < length buf → m (a + k) ≡ Some (get_or buf k 0))
    → record_at m a n ≡ Ok (take count (buf ++ drop (length buf) old))
record_filled m a n count buf old lt few long h =
    ap (record_at m a) (sym long) ∙ record_each m a buf lt h
    ∙ ap Ok (sym (ap (λ i. take i (buf ++ drop (length buf) old)) few ∙ take-append_seam buf (drop (length buf) old)))

-- what was read is in memory
pub answer_holds : {E : Type 0} {fault : E → Option Fault} (m : Memory) (a n : ℕ) (bs : List ℕ)
    → Answers fault (record_at m a n) (Ok bs) → (k : ℕ) → k < n → IsSome (m (a + k))
answer_holds m a n bs p = record_all m a n bs p.is

-- a range that starts past the last address
pub record_past : (m : Memory) (a n : ℕ) → 2 ^ 64 ≤ a → 0 < n → record_at m a n ≡ Err (Missing (2 ^ 64 - 1) n)
unfolding record_at
record_past m a zero h p = absurd (omega arith)
record_past m a (suc n) h p = let past : ltb a (2 ^ 64) ≡ false = grind (arith, nat_tests) in rw past refl

-- no bytes are there at each address
pub record_none : (m : Memory) (a : ℕ) → record_at m a 0 ≡ Ok []
unfolding record_at bytes_at
record_none m a = elim (ltb a (2 ^ 64)) as (λ t. cond t (found_or (Some []) (Missing a 0)) (outside 0) ≡ Ok []) [ true ↦ refl | false ↦ refl ]
