-- The section that is the bss among more and more sections; and that it is one alone.
use Rattle.std.proofs.Common.{◌≡◌, ℕ, ◌<◌, ◌≤◌, Bool, true, false, List, [], ◌∷◌, ◌++◌, refl, sym, ap, ◌∙◌, arith}
use Rattle.std.proofs.Common.{append_assoc}
use Rattle.std.specs.Prelude.{All, Option, Some, None, nat_lt, cond}
use Rattle.std.proofs.lemmas.Bool.Decides.{nat_tests}
use Rattle.std.proofs.lemmas.List.Elements.{All-nil, All-append, All-cons, All-head, All-tail}
use Rattle.elf64_core.specs.declared.section.Section.{Section}
use Rattle.py_process.specs.Ranges.{BssIs, IsBss, larger, may_be_bss}

abbrev NoneGreater : List ℕ → ℕ → Section → Type 0
NoneGreater bytes size section = may_be_bss bytes section ≡ true → section.size ≤ size

abbrev Smaller : List ℕ → ℕ → Section → Type 0
Smaller bytes size section = may_be_bss bytes section ≡ true → section.size < size

abbrev MayNotBe : List ℕ → Section → Type 0
MayNotBe bytes section = may_be_bss bytes section ≡ false

one : (P : Section → Type 0) (x : Section) → P x → All P (x ∷ [])
one P x h = All-cons P x [] h (All-nil P)

-- all of a list, from a weaker fact
weaker : (P Q : Section → Type 0) → ((x : Section) → P x → Q x) → (xs : List Section) → All P xs → All Q xs
weaker P Q f [] h = All-nil Q
weaker P Q f (x ∷ xs) h = All-cons Q x xs (f x (All-head P x xs h)) (weaker P Q f xs (All-tail P x xs h))

smaller_added : (bytes : List ℕ) (xs : List Section) (b x : Section) → IsBss bytes xs b → Smaller bytes b.size x → IsBss bytes (xs ++ x ∷ []) b
smaller_added bytes xs b x is h = record {
  before = is.before;
  after = is.after ++ x ∷ [];
  parts = ap (λ l. l ++ x ∷ []) is.parts ∙ append_assoc is.before (b ∷ is.after) (x ∷ []);
  may_be = is.may_be;
  none_greater = is.none_greater;
  smaller = All-append (Smaller bytes b.size) is.after (x ∷ []) is.smaller (one (Smaller bytes b.size) x h);
}

pub bss_passed : (bytes : List ℕ) (xs : List Section) (best : Option Section) (x : Section) → BssIs bytes xs best → may_be_bss bytes x ≡ false → BssIs bytes (xs ++ x ∷ []) best
bss_passed bytes xs None x is not = All-append (MayNotBe bytes) xs (x ∷ []) is (one (MayNotBe bytes) x not)
bss_passed bytes xs (Some b) x is not = smaller_added bytes xs b x is (λ may. absurd (cc))

pub bss_kept : (bytes : List ℕ) (xs : List Section) (b x : Section) → IsBss bytes xs b → x.size < b.size → IsBss bytes (xs ++ x ∷ []) b
bss_kept bytes xs b x is less = smaller_added bytes xs b x is (λ may. less)

pub bss_first : (bytes : List ℕ) (xs : List Section) (x : Section) → BssIs bytes xs None → may_be_bss bytes x ≡ true → IsBss bytes (xs ++ x ∷ []) x
bss_first bytes xs x none may = record {
  before = xs;
  after = [];
  parts = refl;
  may_be = may;
  none_greater = weaker (MayNotBe bytes) (NoneGreater bytes x.size) (λ y not is. absurd (cc)) xs none;
  smaller = All-nil (Smaller bytes x.size);
}

pub bss_taken : (bytes : List ℕ) (xs : List Section) (b x : Section) → IsBss bytes xs b → may_be_bss bytes x ≡ true → b.size ≤ x.size → IsBss bytes (xs ++ x ∷ []) x
bss_taken bytes xs b x is may le = record {
  before = xs;
  after = [];
  parts = refl;
  may_be = may;
  none_greater = all;
  smaller = All-nil (Smaller bytes x.size);
}
  where
    all : All (NoneGreater bytes x.size) xs
    all = rw is.parts (All-append (NoneGreater bytes x.size) is.before (b ∷ is.after)
        (weaker (NoneGreater bytes b.size) (NoneGreater bytes x.size) (λ y h m. omega (arith, h m, le)) is.before is.none_greater)
        (All-cons (NoneGreater bytes x.size) b is.after (λ m. le)
        (weaker (Smaller bytes b.size) (NoneGreater bytes x.size) (λ y h m. omega (arith, h m, le)) is.after is.smaller)))

pub bss_added : (bytes : List ℕ) (xs : List Section) (best : Option Section) (x : Section) → BssIs bytes xs best → may_be_bss bytes x ≡ true → IsBss bytes (xs ++ x ∷ []) (larger best x)
bss_added bytes xs None x is may = bss_first bytes xs x is may
bss_added bytes xs (Some b) x is may = by (nat_lt x.size b.size) refl
  where
    by : (t : Bool) → nat_lt x.size b.size ≡ t → IsBss bytes (xs ++ x ∷ []) (cond t b x)
    by true less = bss_kept bytes xs b x is (grind (arith, nat_tests))
    by false less = bss_taken bytes xs b x is may (grind (arith, nat_tests))

-- ---- one alone

-- what holds of each element of a list holds of one that stands in it
within : (P : Section → Type 0) (x : Section) (front back : List Section) → All P (front ++ x ∷ back) → P x
within P x [] back h = All-head P x back h
within P x (y ∷ front) back h = within P x front back (All-tail P y (front ++ x ∷ back) h)

cons_head : (x y : Section) (xs ys : List Section) → x ∷ xs ≡ y ∷ ys → x ≡ y
cons_head x y xs ys e = cc

cons_tail : (x y : Section) (xs ys : List Section) → x ∷ xs ≡ y ∷ ys → xs ≡ ys
cons_tail x y xs ys e = cc

clash : (bytes : List ℕ) (b c : Section) (mid after later : List Section) → may_be_bss bytes b ≡ true → may_be_bss bytes c ≡ true
    → All (NoneGreater bytes c.size) (b ∷ mid) → All (Smaller bytes b.size) after → after ≡ mid ++ c ∷ later → ⊥
clash bytes b c mid after later may_b may_c none less e =
    let up : b.size ≤ c.size = All-head (NoneGreater bytes c.size) b mid none may_b in
    let down : c.size < b.size = within (Smaller bytes b.size) c mid later (rw e at less) may_c in
    omega arith

split_once : (bytes : List ℕ) (b c : Section) (f g after later : List Section) → f ++ b ∷ after ≡ g ++ c ∷ later
    → may_be_bss bytes b ≡ true → may_be_bss bytes c ≡ true
    → All (NoneGreater bytes b.size) f → All (Smaller bytes b.size) after
    → All (NoneGreater bytes c.size) g → All (Smaller bytes c.size) later → b ≡ c
split_once bytes b c [] [] after later e may_b may_c nb sb nc sc = cons_head b c after later e
split_once bytes b c [] (y ∷ g) after later e may_b may_c nb sb nc sc =
    let same : b ≡ y = cons_head b y after (g ++ c ∷ later) e in
    absurd (clash bytes b c g after later may_b may_c (rw same nc) sb (cons_tail b y after (g ++ c ∷ later) e))
split_once bytes b c (x ∷ f) [] after later e may_b may_c nb sb nc sc =
    let same : c ≡ x = cons_head c x later (f ++ b ∷ after) (sym e) in
    absurd (clash bytes c b f later after may_c may_b (rw same nb) sc (cons_tail c x later (f ++ b ∷ after) (sym e)))
split_once bytes b c (x ∷ f) (y ∷ g) after later e may_b may_c nb sb nc sc =
    split_once bytes b c f g after later (cons_tail x y (f ++ b ∷ after) (g ++ c ∷ later) e) may_b may_c
    (All-tail (NoneGreater bytes b.size) x f nb) sb (All-tail (NoneGreater bytes c.size) y g nc) sc

pub one_bss : (bytes : List ℕ) (xs : List Section) (b c : Section) → IsBss bytes xs b → IsBss bytes xs c → b ≡ c
one_bss bytes xs b c h g = split_once bytes b c h.before g.before h.after g.after (sym h.parts ∙ g.parts) h.may_be g.may_be h.none_greater h.smaller g.none_greater g.smaller

pub no_bss : (bytes : List ℕ) (xs : List Section) (b : Section) → BssIs bytes xs None → IsBss bytes xs b → ⊥
no_bss bytes xs b none is =
    let not : may_be_bss bytes b ≡ false = within (MayNotBe bytes) b is.before is.after (rw is.parts at none) in
    absurd (cc (not, is.may_be))
