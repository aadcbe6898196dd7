-- Which entry a table names, and what none says.
use Rattle.std.proofs.Common.{◌≡◌, ◌∙◌, ℕ, ◌-◌, ◌<◌, ◌≤◌, List, sym, ap, arith, inl, inr, subst, refl, true, Bool}
use Rattle.std.specs.Prelude.{Option, Some, None, Result, Ok, if◌then◌else◌}
use Rattle.std.proofs.lemmas.Bool.{cases_lt, lt-ltb, le-leb, ne_eqb}
use Rattle.frame_tables.specs.declared.flaw.RecordError.{RecordError}
use Rattle.frame_tables.specs.declared.flaw.TableError.{TableError}
use Rattle.frame_tables.specs.declared.header.Heading.{Heading}
use Rattle.frame_tables.specs.declared.record.Entry.{Entry}
use Rattle.frame_tables.specs.Headers.{heading_of, pair_at}
use Rattle.frame_tables.specs.Pairs.{IsBehind}
use Rattle.frame_tables.specs.Tables.{Covers, covers, entry_of, covered, answer_of, Finds, Ascends, IsTidy, IsTidyBy}
use Rattle.frame_tables.specs.Tables.{CoversNone}

-- ---- one answer where first addresses ascend

same_heading : (h k : Heading) → ◌≡◌ {A = Result Heading TableError} (Ok h) (Ok k) → h ≡ k
same_heading h k e = cc

rises : (file : List ℕ) (h : Heading)
    → ((j k : ℕ) → j < k → k < h.count → (pair_at file h j).first ≤ (pair_at file h k).first)
    → (j k : ℕ) → j ≤ k → k < h.count → (pair_at file h j).first ≤ (pair_at file h k).first
rises file h ascends j k le inside = elim (cases_lt j k) [
  | inl lt ↦ ascends j k lt inside
  | inr ge ↦ let same : j
      ≡ k = omega (arith, le, ge) in subst (λ (n : ℕ). (pair_at file h j).first ≤ (pair_at file h n).first) same
      (omega arith)
]

not_before : (file : List ℕ) (h : Heading) (address m n : ℕ)
    → ((j k : ℕ) → j < k → k < h.count → (pair_at file h j).first ≤ (pair_at file h k).first)
    → IsBehind file h address m → IsBehind file h address n → m < n → ⊥
not_before file h address m n ascends p q lt =
    let above = p.next (omega (arith, lt, q.within)) in
    let below = q.last (omega (arith, lt)) in
    let order = rises file h ascends m (n - 1) (omega (arith, lt)) (omega (arith, lt, q.within)) in
    omega (arith, above, below, order)

one_count : (file : List ℕ) (h : Heading) (address m n : ℕ)
    → ((j k : ℕ) → j < k → k < h.count → (pair_at file h j).first ≤ (pair_at file h k).first)
    → IsBehind file h address m → IsBehind file h address n → m ≡ n
one_count file h address m n ascends p q = elim (cases_lt m n) [
  | inl lt ↦ absurd (not_before file h address m n ascends p q lt)
  | inr ge ↦ elim (cases_lt n m) [
    | inl lt ↦ absurd (not_before file h address n m ascends q p lt)
    | inr le ↦ omega (arith, ge, le)
  ]
]

pub finds_once : (file : List ℕ) (address : ℕ) (x y : Result (Option Entry) RecordError) → Ascends file
    → Finds file address x → Finds file address y → x ≡ y
finds_once file address x y ascends p q =
    let same : p.heading ≡ q.heading = same_heading p.heading q.heading (sym p.is_heading ∙ q.is_heading) in
    let behind : IsBehind file q.heading address p.count = subst (λ (h : Heading). IsBehind file h address p.count) same
    p.behind in
    let count : p.count
    ≡ q.count = one_count file q.heading address p.count q.count (ascends q.heading q.is_heading) behind q.behind in
    p.is
    ∙ ap (λ (h : Heading). answer_of file h address p.count) same
    ∙ ap (λ (n : ℕ). answer_of file q.heading address n) count
    ∙ sym q.is

-- ---- none covers

none_by : (file : List ℕ) (h : Heading) (address count : ℕ) → IsTidyBy file h → IsBehind file h address count
    → ((entry : Entry) → 0 < count → entry_of file h (count - 1) ≡ Ok entry → ¬ Covers address entry)
    → (k : ℕ) (entry : Entry) → k < h.count → entry_of file h k ≡ Ok entry → ¬ Covers address entry
none_by file h address count tidy behind free k entry inside is covers = elim (cases_lt k count) [
  | inl before ↦ elim (cases_lt k (count - 1)) [
    | inl earlier ↦
        let ends = tidy.ends k (count - 1) entry earlier (omega (arith, before, behind.within)) is in
        let at_most = behind.last (omega (arith, before)) in
        absurd (omega (arith, ends, at_most, covers.ends))
    | inr later ↦
        let same : k ≡ count - 1 = omega (arith, before, later) in
        free entry (omega (arith, before)) (ap (entry_of file h) (sym same) ∙ is) covers
  ]
  | inr after ↦
      let above = behind.next (omega (arith, after, inside)) in
      let later = rises file h tidy.ascends count k (omega (arith, after)) inside in
      let begins = tidy.begins k entry inside is in
      absurd (omega (arith, above, later, begins, covers.begins))
]

pub none_covers : (file : List ℕ) (h : Heading) (address count : ℕ) → heading_of file ≡ Ok h
    → IsBehind file h address count
    → ((entry : Entry) → 0 < count → entry_of file h (count - 1) ≡ Ok entry → ¬ Covers address entry)
    → IsTidy file → CoversNone file address
none_covers file h address count is behind free tidy = λ entry named.
    let same : named.heading ≡ h = same_heading named.heading h (sym named.is_heading ∙ is) in
    let inside : named.number < h.count = subst (λ (x : Heading). named.number < x.count) same named.within in
    none_by file h address count (tidy h is) behind free named.number entry inside
    (ap (λ (x : Heading). entry_of file x named.number) (sym same)
    ∙ named.is)

covers_is : (address : ℕ) (entry : Entry) → Covers address entry → covers address entry ≡ true
covers_is address entry c = rw (
  le-leb entry.begin address c.begins,
  lt-ltb (address - entry.begin) entry.size
      (omega (arith, c.begins, c.ends)),
) refl

differs : (entry : Entry) → ◌≡◌ {A = Result (Option Entry) RecordError} (Ok None) (Ok (Some entry)) → ⊥
differs entry e = cc

some_answer : (file : List ℕ) (h : Heading) (address count : ℕ) → 0 < count
    → answer_of file h address count ≡ covered address (entry_of file h (count - 1))
some_answer file h address count some = rw (ne_eqb count 0 (omega (arith, some))) refl

-- none says that none covers, where the table is tidy
pub none_found : (file : List ℕ) (address : ℕ) → Finds file address (Ok None) → IsTidy file → CoversNone file address
none_found file address f = none_covers file f.heading address f.count f.is_heading f.behind (λ entry some is covers.
    let one = some_answer file f.heading address f.count some in
    let two = ap (covered address) is in
    let three = ap (λ (b : Bool). Ok (if b then Some entry else None)) (covers_is address entry covers) in
    differs entry (f.is ∙ one ∙ two ∙ three))
