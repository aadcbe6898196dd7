-- The first of some pieces that holds an address, and the run of bytes that it has from there on.
use Rattle.std.proofs.Common.{◌≡◌, ℕ, ◌+◌, ◌-◌, ◌<◌, ◌≤◌, ◌^◌, List, ◌++◌, length, get_or, take, drop, ltb, leb, Bool}
use Rattle.std.proofs.Common.{true, false, cond, refl, sym, ap, ◌∙◌, rules, arith, length-drop, length-append, inl, inr}
use Rattle.std.specs.Prelude.{Option, Some, None, IsSome, slice_get}
use Rattle.std.proofs.Math.ListN.{drop_of_length-le, get_or-append}
use Rattle.std.proofs.lemmas.Bool.Decides.{nat_tests}
use Rattle.std.proofs.lemmas.List.{drop_more, get_or-drop, get_or-take, length-take-le, get_or-append-add}
use Rattle.std.proofs.lemmas.Option.{same_Some, slice_get-get_or, get_or_from_slice_get, slice_get_past}
use Rattle.std.proofs.lemmas.Option.{slice_get_within}
use Rattle.std.proofs.lemmas.Bool.{cases_lt}
use borrow.Rule.Slice.PartMut.{put_mid}
use Rattle.process_memory.proofs.Records.{byte_at-below}
use Rattle.process_memory.specs.Memory.{Region, region_byte, first_of, first_byte, byte_at}
use Rattle.process_memory.specs.Pieces.{run_in}

-- a byte that a piece holds
region_held : (p : Region) (a : ℕ) → p.0 ≤ a → a - p.0 < length p.1 → region_byte p a ≡ Some (get_or p.1 (a - p.0) 0)
region_held p a le lt =
    let starts : leb p.0 a ≡ true = grind (arith, nat_tests) in
    rw starts (slice_get-get_or p.1 (a - p.0) 0 lt)

pub region_before : (p : Region) (a : ℕ) → a < p.0 → region_byte p a ≡ None
region_before p a lt = let later : leb p.0 a ≡ false = grind (arith, nat_tests) in rw later refl

region_past : (p : Region) (a : ℕ) → p.0 ≤ a → length p.1 ≤ a - p.0 → region_byte p a ≡ None
region_past p a le past =
    let starts : leb p.0 a ≡ true = grind (arith, nat_tests) in
    rw starts (slice_get_past p.1 (a - p.0) past)

-- what a run says of its piece
pub record IsRun (p : Region) (a : ℕ) (run : List ℕ) : Type 0 where
  pub starts : p.0 ≤ a
  pub some : 0 < length run
  pub bytes : (k : ℕ) → k < length run → region_byte p (a + k) ≡ Some (get_or run k 0)

pub run-some : (p : Region) (a : ℕ) (run : List ℕ) → run_in p a ≡ Some run → IsRun p a run
run-some p a run =
    elim (leb p.0 a) as (λ t. leb p.0 a ≡ t → cond t (cond (ltb (a - p.0) (length p.1)) (Some (drop (a - p.0) p.1)) None) None ≡ Some run → IsRun p a run) [
      | true ↦ λ s. elim (ltb (a - p.0) (length p.1)) as (λ t. ltb (a - p.0) (length p.1) ≡ t → cond t (Some (drop (a - p.0) p.1)) None ≡ Some run → IsRun p a run)
          [ true ↦ λ h e. held p a run s h (same_Some _ _ e) | false ↦ λ h e. absurd (cc) ] refl
      | false ↦ λ s e. absurd (cc)
    ] refl
  where
    held : (p : Region) (a : ℕ) (run : List ℕ) → leb p.0 a ≡ true → ltb (a - p.0) (length p.1) ≡ true → drop (a - p.0) p.1 ≡ run → IsRun p a run
    held p a run s h e =
        let le : p.0 ≤ a = grind (arith, nat_tests) in
        let lt : a - p.0 < length p.1 = grind (arith, nat_tests) in
        let len : length run ≡ length p.1 - (a - p.0) = ap length (sym e) ∙ length-drop (a - p.0) p.1 in
        record {
          starts = le;
          some = omega (arith, len);
          bytes = λ k below.
              let at : (a + k) - p.0 ≡ (a - p.0) + k = omega arith in
              let byte : get_or p.1 ((a + k) - p.0) 0 ≡ get_or run k 0 = ap (λ i. get_or p.1 i 0) at ∙ sym (get_or-drop (a - p.0) p.1 k 0) ∙ ap (λ r. get_or r k 0) e in
              region_held p (a + k) (omega arith) (omega (arith, len)) ∙ ap Some byte;
        }

pub run-none : (p : Region) (a : ℕ) → run_in p a ≡ None → p.0 ≤ a → (k : ℕ) → region_byte p (a + k) ≡ None
run-none p a e le k =
    let starts : leb p.0 a ≡ true = grind (arith, nat_tests) in
    let e2 : cond (ltb (a - p.0) (length p.1)) (Some (drop (a - p.0) p.1)) None ≡ None = rw starts at e in
    let past : ltb (a - p.0) (length p.1) ≡ false = outside (ltb (a - p.0) (length p.1)) _ e2 in
    let le2 : length p.1 ≤ a - p.0 = grind (arith, nat_tests) in
    region_past p (a + k) (omega arith) (omega arith)
  where
    outside : (t : Bool) (run : List ℕ) → cond t (Some run) None ≡ None → t ≡ false
    outside true run e = absurd (cc)
    outside false run e = refl

-- the first pieces, up to one, hold none of these addresses
abbrev pub AreSkipped : List Region → (number addr reach : ℕ) → Type 0
AreSkipped rs number addr reach = (k : ℕ) → k < reach → first_byte rs (addr + k) ≡ first_byte (drop number rs) (addr + k)

-- what stands first of what is left
pub first_left : (rs : List Region) (number addr : ℕ) (p : Region) → slice_get rs number ≡ Some p → first_byte (drop number rs) addr ≡ first_of (region_byte p addr) (first_byte (drop (number + 1) rs) addr)
first_left rs number addr p is =
    let lt = slice_get_within rs number p is in
    let same : get_or rs number p ≡ p = get_or_from_slice_get rs number p p is in
    rw (drop_more rs number p lt, same) refl

pub skips_more : (rs : List Region) (number addr reach : ℕ) (p : Region) → slice_get rs number ≡ Some p → AreSkipped rs number addr reach → ((k : ℕ) → k < reach → region_byte p (addr + k) ≡ None) → AreSkipped rs (number + 1) addr reach
skips_more rs number addr reach p is before none k lt =
    before k lt ∙ first_left rs number (addr + k) p is ∙ ap (λ o. first_of o (first_byte (drop (number + 1) rs) (addr + k))) (none k lt)

pub byte_below : (rs : List Region) (a : ℕ) → a < 2 ^ 64 - 1 → byte_at rs a ≡ first_byte rs a
unfolding byte_at
byte_below rs a lt = let below : ltb a (2 ^ 64 - 1) ≡ true = grind (arith, nat_tests) in rw below refl

-- a byte of the run of the piece that is next
pub byte_found : (rs : List Region) (number addr reach : ℕ) (p : Region) (run : List ℕ) → slice_get rs number ≡ Some p → AreSkipped rs number addr reach → addr + reach ≤ 2 ^ 64 - 1 → IsRun p addr run → (k : ℕ) → k < reach → k < length run → byte_at rs (addr + k) ≡ Some (get_or run k 0)
byte_found rs number addr reach p run is before fits held k lt below =
    byte_below rs (addr + k) (omega arith) ∙ before k lt ∙ first_left rs number (addr + k) p is
    ∙ ap (λ o. first_of o (first_byte (drop (number + 1) rs) (addr + k))) (held.bytes k below)

pub byte_missing : (rs : List Region) (number addr reach : ℕ) → length rs ≤ number → 0 < reach → addr + reach ≤ 2 ^ 64 - 1 → AreSkipped rs number addr reach → byte_at rs addr ≡ None
byte_missing rs number addr reach past some fits before =
    let here : addr + 0 ≡ addr = omega arith in
    let e : first_byte rs (addr + 0) ≡ first_byte (drop number rs) (addr + 0) = before 0 some in
    byte_below rs addr (omega arith) ∙ ap (first_byte rs) (sym here) ∙ e ∙ rw (drop_of_length-le rs past) refl

some_is : (o : Option ℕ) (b : ℕ) → o ≡ Some b → IsSome o
some_is o b e = rw e (search rules)

-- bytes that are there end at 2^64 - 1 at most
pub run_fits : (rs : List Region) (at : ℕ) (run : List ℕ) → 0 < length run → ((k : ℕ) → k < length run → byte_at rs (at + k) ≡ Some (get_or run k 0)) → at + length run ≤ 2 ^ 64 - 1
run_fits rs at run some bytes =
    let last = length run - 1 in
    let below : at + last < 2 ^ 64 - 1 = byte_at-below rs (at + last) (some_is _ _ (bytes last (omega arith))) in
    omega (arith, below)

-- more bytes that are there
pub held_more : (rs : List Region) (addr done : ℕ) (run : List ℕ) → ((k : ℕ) → k < done → IsSome (byte_at rs (addr + k))) → ((k : ℕ) → k < length run → byte_at rs (addr + done + k) ≡ Some (get_or run k 0)) → (k : ℕ) → k < done + length run → IsSome (byte_at rs (addr + k))
held_more rs addr done run before bytes k lt =
    elim (cases_lt k done) [
      | inl below ↦ before k below
      | inr le ↦
          let same : addr + k ≡ addr + done + (k - done) = omega arith in
          let here = bytes (k - done) (omega arith) in
          rw same (some_is _ _ here)
    ]

put_below : (done n k : ℕ) (put buf : List ℕ) → k < done → done ≤ length buf → get_or (put_mid done n buf put) k 0 ≡ get_or buf k 0
put_below done n k put buf lt le =
    let len = length-take-le done buf le in
    get_or-append (take done buf) (put ++ drop n (drop done buf)) 0 k (omega (arith, len)) ∙ get_or-take done buf k 0 lt

put_within : (done n j : ℕ) (put buf : List ℕ) → j < length put → done ≤ length buf → get_or (put_mid done n buf put) (done + j) 0 ≡ get_or put j 0
put_within done n j put buf lt le =
    let len = length-take-le done buf le in
    let at : done + j ≡ length (take done buf) + j = omega (arith, len) in
    ap (λ i. get_or (put_mid done n buf put) i 0) at
    ∙ get_or-append-add (take done buf) (put ++ drop n (drop done buf)) j 0
    ∙ get_or-append put (drop n (drop done buf)) 0 j lt

pub put_long : (done n : ℕ) (run put buf : List ℕ) → put ≡ run → done ≤ length buf → done + length run ≤ length (put_mid done n buf put)
put_long done n run put buf put_is le = omega (
  arith,
  length-append (take done buf) (put ++ drop n (drop done buf)),
  length-append put (drop n (drop done buf)),
  length-take-le done buf le,
  ap length put_is,
)

-- the buffer after a run was copied into its middle
pub copied_more : (rs : List Region) (addr done n : ℕ) (run put buf : List ℕ) → put ≡ run → done ≤ length buf → ((k : ℕ) → k < done → byte_at rs (addr + k) ≡ Some (get_or buf k 0)) → ((k : ℕ) → k < length run → byte_at rs (addr + done + k) ≡ Some (get_or run k 0)) → (k : ℕ) → k < done + length run → byte_at rs (addr + k) ≡ Some (get_or (put_mid done n buf put) k 0)
copied_more rs addr done n run put buf put_is le before bytes k lt =
    elim (cases_lt k done) [
      | inl below ↦ before k below ∙ ap Some (sym (put_below done n k put buf below le))
      | inr above ↦
          let same : addr + k ≡ addr + done + (k - done) = omega arith in
          let at : k ≡ done + (k - done) = omega arith in
          let within : k - done < length put = omega (arith, ap length put_is) in
          ap (byte_at rs) same ∙ bytes (k - done) (omega arith)
          ∙ ap Some (ap (λ r. get_or r (k - done) 0) (sym put_is) ∙ sym (put_within done n (k - done) put buf within le) ∙ ap (λ i. get_or (put_mid done n buf put) i 0) (sym at))
    ]
