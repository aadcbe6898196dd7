-- The entry that covers an address, by where the entries that end no later stop.
use Rattle.std.proofs.Common.{◌≡◌, ℕ, ◌<◌, ◌≤◌, suc, zero, Bool, true, false, List, [], ◌∷◌, length, leb, ltb, refl}
use Rattle.std.proofs.Common.{sym, subst, ◌∙◌, arith, Option, Some, None, IfSome}
use Rattle.std.specs.Prelude.{All, cond, slice_get}
use Rattle.std.specs.List.{AllWithin, list_all}
use Rattle.std.specs.List.Sorted.{IsNonDecreasingBy}
use Rattle.std.proofs.lemmas.Bool.{and_parts, and_from, and_left, and_right, leb-true, leb-false, le-leb, lt-leb}
use Rattle.std.proofs.lemmas.Bool.{lt-ltb, le-ltb, ltb-true, cond-true, cond-false}
use Rattle.std.proofs.lemmas.List.Elements.{All-nil, All-cons, All-weaker}
use Rattle.std.proofs.lemmas.List.Sorted.{IsNonDecreasingBy-from_all_adjacent}
use Rattle.maps_text.specs.declared.entry.MapsEntry.{MapsEntry}
use Rattle.normalize_core.specs.Order.{adjacent, first_behind, is_forward, ends_before, in_order}
use Rattle.normalize_core.specs.Targets.{covers, covering}
use Rattle.normalize_core.proofs.Orders.{adjacent_all}

abbrev ends_by : MapsEntry → MapsEntry → Bool
ends_by e f = leb e.range.end f.range.end

-- entries ascend and are disjoint, as two facts
record Ordered (entries : List MapsEntry) : Type 0 where
  forward : list_all is_forward entries ≡ true
  apart : adjacent ends_before entries ≡ true

ordered : (entries : List MapsEntry) → in_order entries ≡ true → Ordered entries
ordered entries h =
    let p = and_parts (list_all is_forward entries) (adjacent ends_before entries) h in
    record { forward = p.0; apart = p.1 }

ordered-tail : (e : MapsEntry) (es : List MapsEntry) → Ordered (e ∷ es) → Ordered es
ordered-tail e es h =
    let p = and_parts (is_forward e) (list_all is_forward es) h.forward in
    let q = and_parts (first_behind ends_before e es) (adjacent ends_before es) h.apart in
    record { forward = p.1; apart = q.1 }

goes_forward : (e : MapsEntry) (es : List MapsEntry) → Ordered (e ∷ es) → e.range.start ≤ e.range.end
goes_forward e es h =
    let p = and_parts (is_forward e) (list_all is_forward es) h.forward in
    leb-true e.range.start e.range.end p.0

next_after : (e f : MapsEntry) (es : List MapsEntry) → Ordered (e ∷ (f ∷ es)) → e.range.end ≤ f.range.start
next_after e f es h =
    let q = and_parts (ends_before e f) (adjacent ends_before (f ∷ es)) h.apart in
    leb-true e.range.end f.range.start q.0

ends_rise : (entries : List MapsEntry) → Ordered entries → adjacent ends_by entries ≡ true
ends_rise [] h = refl
ends_rise (e ∷ []) h = refl
ends_rise (e ∷ (f ∷ es)) h =
    let rest = ordered-tail e (f ∷ es) h in
    let up = next_after e f es h in
    let fw = goes_forward f es rest in
    and_from (ends_by e f) (adjacent ends_by (f ∷ es)) (le-leb e.range.end f.range.end (omega (arith, up, fw)))
    (ends_rise (f ∷ es) rest)

pub ends_ascend : (entries : List MapsEntry) → in_order entries ≡ true
    → IsNonDecreasingBy (λ (e : MapsEntry). e.range.end) entries
ends_ascend entries h =
    IsNonDecreasingBy-from_all_adjacent (λ (e : MapsEntry). e.range.end) entries
    (λ k d lt. leb-true _ _ (adjacent_all ends_by entries (ends_rise entries (ordered entries h)) k d lt))

-- an entry that starts past an address doesn't cover it, and one that ends before it doesn't
starts_past : (e : MapsEntry) (addr : ℕ) → addr < e.range.start → covers addr e ≡ false
starts_past e addr lt = and_left (leb e.range.start addr) (ltb addr e.range.end) (lt-leb e.range.start addr lt)

ends_by_then : (e : MapsEntry) (addr : ℕ) → e.range.end ≤ addr → covers addr e ≡ false
ends_by_then e addr le = and_right (leb e.range.start addr) (ltb addr e.range.end) (le-ltb addr e.range.end le)

none_past : (e : MapsEntry) (es : List MapsEntry) (addr : ℕ) → Ordered (e ∷ es) → addr < e.range.start
    → covering (e ∷ es) addr ≡ None
none_past e [] addr h lt = cond-false (covers addr e) (Some e) None (starts_past e addr lt)
none_past e (f ∷ es) addr h lt =
    let up = next_after e f es h in
    let fw = goes_forward e (f ∷ es) h in
    cond-false (covers addr e) (Some e) (covering (f ∷ es) addr) (starts_past e addr lt)
    ∙ none_past f es addr (ordered-tail e (f ∷ es) h) (omega (arith, up, fw, lt))

-- an entry, where it starts by an address
abbrev pub started : ℕ → Option MapsEntry → Option MapsEntry
started addr None = None
started addr (Some e) = cond (leb e.range.start addr) (Some e) None

first_here : (e : MapsEntry) (es : List MapsEntry) (addr : ℕ) → Ordered (e ∷ es) → addr < e.range.end
    → (b : Bool) → leb e.range.start addr ≡ b → covering (e ∷ es) addr ≡ cond b (Some e) None
first_here e es addr h lt true is =
    cond-true (covers addr e) (Some e) (covering es addr)
    (and_from (leb e.range.start addr) (ltb addr e.range.end) is (lt-ltb addr e.range.end lt))
first_here e es addr h lt false is = none_past e es addr h (leb-false e.range.start addr is)

covering_by : (entries : List MapsEntry) (addr i : ℕ) → Ordered entries
    → AllWithin (λ (e : MapsEntry). leb e.range.end addr ≡ true) entries 0 i
    → AllWithin (λ (e : MapsEntry). leb e.range.end addr ≡ false) entries i (length entries)
    → covering entries addr ≡ started addr (slice_get entries i)
covering_by [] addr i h before behind = refl
covering_by (e ∷ es) addr zero h before behind =
    first_here e es addr h (leb-false e.range.end addr (behind 0 e (omega arith) (omega arith))) (leb e.range.start addr) refl
covering_by (e ∷ es) addr (suc i) h before behind =
    cond-false (covers addr e) (Some e) (covering es addr)
    (ends_by_then e addr (leb-true e.range.end addr (before 0 e (omega arith) (omega arith))))
    ∙ covering_by es addr i (ordered-tail e es h)
    (λ k d lo hi. before (suc k) d (omega arith) (omega arith))
    (λ k d lo hi. behind (suc k) d (omega arith) (omega arith))

pub covering_is : (entries : List MapsEntry) (addr i : ℕ) → in_order entries ≡ true
    → AllWithin (λ (e : MapsEntry). leb e.range.end addr ≡ true) entries 0 i
    → AllWithin (λ (e : MapsEntry). leb e.range.end addr ≡ false) entries i (length entries)
    → covering entries addr ≡ started addr (slice_get entries i)
covering_is entries addr i h before behind = covering_by entries addr i (ordered entries h) before behind

-- an entry that is found covers the address
pub covering_covers : (entries : List MapsEntry) (addr : ℕ) (e : MapsEntry)
    → covering entries addr ≡ Some e → covers addr e ≡ true
covering_covers [] addr e h = cc
covering_covers (f ∷ fs) addr e h = by (covers addr f) refl (λ rest. covering_covers fs addr e rest)
  where
    by : (b : Bool) → covers addr f ≡ b → (covering fs addr ≡ Some e → covers addr e ≡ true) → covers addr e ≡ true
    by true is go =
        let same : Some f ≡ Some e = sym (cond-true (covers addr f) (Some f) (covering fs addr) is) ∙ h in
        let eq : f ≡ e = cc in
        subst (λ x. covers addr x ≡ true) eq is
    by false is go = go (sym (cond-false (covers addr f) (Some f) (covering fs addr) is) ∙ h)

-- where no entry covers an address, each doesn't
none-all : (addr : ℕ) (es : List MapsEntry) → covering es addr ≡ None → All (λ (e : MapsEntry). covers addr e ≡ false) es
none-all addr [] h = All-nil (λ (e : MapsEntry). covers addr e ≡ false)
none-all addr (e ∷ es) h = by (covers addr e) refl (λ rest. none-all addr es rest)
  where
    by : (b : Bool) → covers addr e ≡ b
        → (covering es addr ≡ None → All (λ (f : MapsEntry). covers addr f ≡ false) es)
        → All (λ (f : MapsEntry). covers addr f ≡ false) (e ∷ es)
    by true is go =
        let both : Some e ≡ None = sym (cond-true (covers addr e) (Some e) (covering es addr) is) ∙ h in cc
    by false is go =
        All-cons (λ (f : MapsEntry). covers addr f ≡ false) e es is
        (go (sym (cond-false (covers addr e) (Some e) (covering es addr) is) ∙ h))

-- behind an entry that covers an address no entry does
none_behind : (e : MapsEntry) (es : List MapsEntry) (addr : ℕ) → Ordered (e ∷ es) → addr < e.range.end
    → All (λ (f : MapsEntry). covers addr f ≡ false) es
none_behind e [] addr h lt = All-nil (λ (f : MapsEntry). covers addr f ≡ false)
none_behind e (f ∷ es) addr h lt =
    let up = next_after e f es h in
    none-all addr (f ∷ es) (none_past f es addr (ordered-tail e (f ∷ es) h) (omega (arith, up, lt)))

abbrev IsFound : List MapsEntry → ℕ → MapsEntry → Type 0
IsFound entries addr e = covers addr e ≡ true → covering entries addr ≡ Some e

only_one : (entries : List MapsEntry) (addr : ℕ) → Ordered entries → All (IsFound entries addr) entries
only_one [] addr h = All-nil (IsFound [] addr)
only_one (e ∷ es) addr h = by (covers addr e) refl (only_one es addr (ordered-tail e es h))
  where
    by : (b : Bool) → covers addr e ≡ b → All (IsFound es addr) es → All (IsFound (e ∷ es) addr) (e ∷ es)
    by true is go =
        let first = cond-true (covers addr e) (Some e) (covering es addr) is in
        let parts = and_parts (leb e.range.start addr) (ltb addr e.range.end) is in
        let behind = none_behind e es addr h (ltb-true addr e.range.end parts.1) in
        All-cons (IsFound (e ∷ es) addr) e es (λ k. first)
        (All-weaker (λ (f : MapsEntry). covers addr f ≡ false) (IsFound (e ∷ es) addr)
        (λ f apart k. let both : true ≡ false = sym k ∙ apart in cc) es behind)
    by false is go =
        let rest = cond-false (covers addr e) (Some e) (covering es addr) is in
        All-cons (IsFound (e ∷ es) addr) e es (λ k. let both : true ≡ false = sym k ∙ is in cc)
        (All-weaker (IsFound es addr) (IsFound (e ∷ es) addr) (λ f found k. rest ∙ found k) es go)

-- of entries in order, the one that is found is the one that covers the address
pub covering_only : (entries : List MapsEntry) (addr : ℕ) → in_order entries ≡ true
    → All (λ (e : MapsEntry). covers addr e ≡ true → covering entries addr ≡ Some e) entries
covering_only entries addr h = only_one entries addr (ordered entries h)

-- the entry that is found, if one is, starts by the address
pub starts_by : (entries : List MapsEntry) (addr : ℕ) (o : Option MapsEntry) → o ≡ covering entries addr
    → IfSome o (λ (e : MapsEntry). e.range.start ≤ addr)
starts_by entries addr None h = tt
starts_by entries addr (Some e) h =
    let p = and_parts (leb e.range.start addr) (ltb addr e.range.end) (covering_covers entries addr e (sym h)) in
    leb-true e.range.start addr p.0
