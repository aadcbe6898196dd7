-- Halving a table whose entries ascend and don't meet.
use Rattle.std.proofs.Common.{◌≡◌, ℕ, ◌+◌, ◌*◌, ◌<◌, ◌≤◌, ◌^◌, List, length, get_or, false, sym, ap, subst, ◌∙◌, arith}
use Rattle.std.proofs.Common.{add-one, inl, inr}
use Rattle.std.specs.Prelude.{Some, slice_get}
use Rattle.std.specs.List.{list_any}
use Rattle.std.proofs.Math.Nat.{mul-le-mul_left, pow-suc}
use Rattle.std.proofs.lemmas.Bool.{cases_eq, cases_lt}
use Rattle.std.proofs.lemmas.Bool.Decides.{nat_tests}
use Rattle.std.proofs.lemmas.List.Folds.{list_any_none}
use Rattle.std.proofs.lemmas.Option.{get_or_from_slice_get, slice_get_within}
use Rattle.elf64_core.specs.SpanTables.{AreSpans}
use Rattle.elf64_core.specs.declared.span_table.TableEntry.{TableEntry}
use Rattle.piece_table.specs.Lookups.{HalvesIn}
use Rattle.piece_table.specs.Overlays.{spans}

-- so many steps were counted, and this many entries are left
pub record Halving (whole left before now : ℕ) : Type 0 where
  pub count : ℕ
  pub counted : now ≡ before + count
  pub halved : 2 ^ count * left ≤ whole
  pub few : 2 ^ count ≤ 2 * whole + 1

one_more : (count : ℕ) → 2 ^ (count + 1) ≡ 2 ^ count * 2
one_more count = ap (λ k. 2 ^ k) (add-one count) ∙ pow-suc 2 count

-- no step yet
pub Halving-none : (whole left before : ℕ) → left ≤ whole → Halving whole left before before
Halving-none whole left before le = record { count = 0; counted = omega arith; halved = omega arith; few = omega arith }

-- a step more
pub Halving-more : (whole left less before now next : ℕ) → Halving whole left before now → 0 < left → 2 * less ≤ left → next ≡ now + 1
    → Halving whole less before next
Halving-more whole left less before now next h some half is =
    let p = 2 ^ h.count in
    let twice = one_more h.count in
    let half' : p * (2 * less) ≤ p * left = mul-le-mul_left p half in
    let one : p * 1 ≤ p * left = mul-le-mul_left p some in
    record {
      count = h.count + 1;
      counted = omega (arith, h.counted);
      halved = subst (λ q. q * less ≤ whole) (sym twice) (omega (arith, half', h.halved));
      few = omega (arith, twice, one, h.halved);
    }

pub HalvesIn-of : (whole left before now : ℕ) → Halving whole left before now → HalvesIn whole before now
HalvesIn-of whole left before now h = record { steps = h.count; counted = h.counted; few = h.few }

module _ (table : List TableEntry) (addr : ℕ) (ok : AreSpans table) where
  -- what stands over an entry past the address, and what stands under one before it
  pub over_more : (number : ℕ) (entry : TableEntry) → slice_get table number ≡ Some entry → addr < entry.start → (k : ℕ) (d : TableEntry)
      → number ≤ k → k < length table → addr < (get_or table k d).start
  over_more number entry is below k d le less =
      let at = get_or_from_slice_get table number entry d is in
      elim (cases_eq number k) [
        | inl same ↦
            let at' : get_or table k d ≡ entry = ap (λ i. get_or table i d) (sym same) ∙ at in
            rw at' below
        | inr differs ↦
            let after = ok.ascend number k d (omega arith) less in
            let after' : entry.start + entry.len ≤ (get_or table k d).start = rw at at after in
            omega arith
      ]

  pub under_more : (number : ℕ) (entry : TableEntry) → slice_get table number ≡ Some entry → entry.start + entry.len ≤ addr → (k : ℕ) (d : TableEntry)
      → k < number + 1 → (get_or table k d).start + (get_or table k d).len ≤ addr
  under_more number entry is above k d less =
      let at = get_or_from_slice_get table number entry d is in
      elim (cases_eq k number) [
        | inl same ↦
            let at' : get_or table k d ≡ entry = ap (λ i. get_or table i d) same ∙ at in
            rw at' above
        | inr differs ↦
            let before = ok.ascend k number d (omega arith) (slice_get_within table number entry is) in
            let before' : (get_or table k d).start + (get_or table k d).len ≤ entry.start = rw at at before in
            omega arith
      ]

-- an address between two neighbours is in no entry
pub spans_none : (table : List TableEntry) (addr low high : ℕ) → high ≤ low
    → ((k : ℕ) (d : TableEntry) → k < low → (get_or table k d).start + (get_or table k d).len ≤ addr)
    → ((k : ℕ) (d : TableEntry) → high ≤ k → k < length table → addr < (get_or table k d).start)
    → list_any (spans addr) table ≡ false
spans_none table addr low high le under over =
    list_any_none (spans addr) table (λ k d less. elim (cases_lt k low) [
      | inl below ↦ before (get_or table k d) (under k d below)
      | inr from ↦ after (get_or table k d) (over k d (omega arith) less)
    ])
  where
    before : (r : TableEntry) → r.start + r.len ≤ addr → spans addr r ≡ false
    before r h = grind (arith, nat_tests)

    after : (r : TableEntry) → addr < r.start → spans addr r ≡ false
    after r h = grind (arith, nat_tests)
