-- What is found of a list of tables is found of it alone.
use Rattle.std.proofs.Common.{◌≡◌, ℕ, ◌<◌, ◌≤◌, List, length, get_or, ◌+◌, ⊎_elim, inl, inr, sym, refl, arith, Bool}
use Rattle.std.proofs.Common.{true, false, Option, Some, None, Decides}
use Rattle.std.proofs.lemmas.List.{get_or_default}
use Rattle.std.proofs.lemmas.List.Elements.{AllWithin-more}
use Rattle.std.specs.Prelude.{All, AllPairs, ◌⊎◌, MatchOption}
use Rattle.std.specs.Option.{is_some}
use mathlib.Core.Bool.{not}
use Rattle.std.specs.List.{AllWithin}
use Rattle.std.proofs.lemmas.Bool.{cases_order, cases_lt, false≢true, true≢false}
use Rattle.py_records.specs.declared.table.RecordTable.{RecordTable}
use Rattle.py_records.specs.Records.{no_records}
use Rattle.py_records.specs.Table.{IsSoundTable, Clash}
use Rattle.py_records.specs.Lists.{ClashAt, IsFirstFrom, IsFirstUnsound, IsFirstClash}

-- a table of no version's records
abbrev no_table : RecordTable
no_table = record { major = 0; minor = 0; first_patch = 0; last_patch = 0; records = no_records }

-- one more table is sound
pub sound_more : (list : List RecordTable) (n : ℕ) (d : RecordTable) → n < length list
    → AllWithin IsSoundTable list 0 n → IsSoundTable (get_or list n d) → AllWithin IsSoundTable list 0 (n + 1)
sound_more list n d within before here =
    AllWithin-more IsSoundTable list 0 n before (λ e. rw (get_or_default list n e d within) here)

pub unsound-not_all : (list : List RecordTable) (t : ℕ) → IsFirstUnsound list t → ¬ All IsSoundTable list
unsound-not_all list t u all = u.unsound no_table (all t no_table u.within)

unsound-not_before : (list : List RecordTable) (s t : ℕ) → IsFirstUnsound list s → IsFirstUnsound list t → ¬ (s < t)
unsound-not_before list s t u v h = u.unsound no_table (v.before s no_table (omega arith) h)

pub unsound-unique : (list : List RecordTable) (s t : ℕ) → IsFirstUnsound list s → IsFirstUnsound list t → s ≡ t
unsound-unique list s t u v =
    let f : ¬ (s < t) = unsound-not_before list s t u v in
    let g : ¬ (t < s) = unsound-not_before list t s v u in
    ⊎_elim (λ e. e) (⊎_elim (λ h. absurd (f h)) (λ h. absurd (g h))) (cases_order s t)

pub clash-not_apart : (list : List RecordTable) (i j : ℕ) → ClashAt list i j → ¬ AllPairs (λ a b. ¬ Clash a b) list
clash-not_apart list i j c apart = apart i j no_table c.order c.within (c.clash no_table)

pub clash-unique : (list : List RecordTable) (a b i j : ℕ) → IsFirstClash list a b → IsFirstClash list i j
    → (a ≡ i) × (b ≡ j)
clash-unique list a b i j c d =
    let p : (a < i) ⊎ ((i ≡ a) × (b ≤ j)) = c.before i j d.clash in
    let q : (i < a) ⊎ ((a ≡ i) × (j ≤ b)) = d.before a b c.clash in
    (omega arith, omega arith)

-- no pair clashes whose first place is below `n`
abbrev pub NoneBelow : List RecordTable → ℕ → Type 0
NoneBelow list n = (i j : ℕ) → i < n → ¬ ClashAt list i j

-- what clashes at one default clashes at each
clash_at : (list : List RecordTable) (i j : ℕ) (d : RecordTable) → i < j → j < length list
    → Clash (get_or list i d) (get_or list j d) → ClashAt list i j
clash_at list i j d order within clash = record {
  order = order;
  within = within;
  clash = λ e.
      let first_is : get_or list i d ≡ get_or list i e = get_or_default list i d e (omega arith) in
      let second_is : get_or list j d ≡ get_or list j e = get_or_default list j d e within in
      rw (← first_is, ← second_is) clash;
}

pub none_all : (list : List RecordTable) → NoneBelow list (length list) → AllPairs (λ a b. ¬ Clash a b) list
none_all list none i j d order within clash = none i j (omega arith) (clash_at list i j d order within clash)

pub none_more : (list : List RecordTable) (n : ℕ) (d : RecordTable) → NoneBelow list n
    → AllWithin (λ l. ¬ Clash (get_or list n d) l) list (n + 1) (length list) → NoneBelow list (n + 1)
none_more list n d none apart i j below c =
    elim (cases_lt i n) [
      | inl lt ↦ none i j lt c
      | inr ge ↦
          let same : i ≡ n = omega arith in
          let at_n : ClashAt list n j = rw (← same) c in
          apart j d (omega (arith, at_n.order)) at_n.within (at_n.clash d)
    ]

pub first_from_with : (list : List RecordTable) (n j : ℕ) (d : RecordTable) → NoneBelow list n
    → IsFirstFrom (Clash (get_or list n d)) list (n + 1) j → IsFirstClash list n j
first_from_with list n j d none f = record {
  clash = clash_at list n j d (omega (arith, f.from)) f.within (f.here d);
  before = λ i k c.
      elim (cases_order n i) [
        | inl same ↦
            let at_n : ClashAt list n k = rw same c in
            elim (cases_lt k j) [
              | inl lt ↦ absurd (f.before k d (omega (arith, at_n.order)) lt (at_n.clash d))
              | inr ge ↦ inr (sym same, ge)
            ]
        | inr other ↦ ⊎_elim inl (λ gt. absurd (none i k gt c)) other
      ];
}

-- that a search found none says that there is none
none_tells : {T : Type 0} (found : Option T) (none : Bool) (P : Type 0) (Q : T → Type 0) → ((x : T) → Q x → ¬ P)
    → MatchOption found P Q → is_some found ≡ not none → Decides none P
none_tells None true P Q excludes h e = (λ _. h, λ _. refl)
none_tells None false P Q excludes h e = absurd (false≢true e)
none_tells (Some x) true P Q excludes h e = absurd (true≢false e)
none_tells (Some x) false P Q excludes h e = (λ t. absurd (false≢true t), λ p. absurd (excludes x h p))

pub unsound-tells : (list : List RecordTable) (found : Option ℕ) (none : Bool)
    → MatchOption found (All IsSoundTable list) (IsFirstUnsound list) → is_some found ≡ not none
    → Decides none (All IsSoundTable list)
unsound-tells list found none h e = none_tells found none (All IsSoundTable list) (IsFirstUnsound list)
    (unsound-not_all list) h e

pub clash-tells : (list : List RecordTable) (found : Option (ℕ × ℕ)) (none : Bool)
    → MatchOption found (AllPairs (λ a b. ¬ Clash a b) list) (λ pair. IsFirstClash list pair.0 pair.1)
    → is_some found ≡ not none → Decides none (AllPairs (λ a b. ¬ Clash a b) list)
clash-tells list found none h e =
    none_tells found none (AllPairs (λ a b. ¬ Clash a b) list) (λ pair. IsFirstClash list pair.0 pair.1)
    (λ pair first. clash-not_apart list pair.0 pair.1 first.clash) h e
