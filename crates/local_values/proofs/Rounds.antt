-- Values that are read in rounds.
use Rattle.std.proofs.Common.{◌≡◌, ◌≢◌, ◌≤◌, ℕ, zero, suc, ◌+◌, ◌-◌, ◌*◌, List, length, ap, refl, subst, sym, ◌∙◌, arith}
use Rattle.std.specs.Prelude.{Option, None, min}
use Rattle.process_memory.specs.Memory.{Memory}
use Rattle.py_fields.specs.declared.layout.Layout.{Layout}
use Rattle.py_reprs.specs.declared.kinds.ReprTypes.{ReprTypes}
use Rattle.py_reprs.specs.declared.limits.Limits.{Limits}
use Rattle.py_reprs.specs.Limits.{limits_at}
use Rattle.py_reprs.specs.Trees.{Tree}
use Rattle.py_reprs.specs.Values.{repr_at}
use Rattle.py_fronts.specs.declared.salvaged.SalvagedInterpreter.{SalvagedInterpreter}
use Rattle.local_values.specs.Addresses.{shown_addresses}
use Rattle.local_values.specs.declared.values.LocalValues.{LocalValues}
use Rattle.local_values.specs.Types.{name_among, name_in, type_cost, type_name_at}
use Rattle.local_values.specs.Values.{AreLocalValues, rounds_of, type_in, value_in, values_cost}
use Rattle.local_values.specs.Values.{AreValues, IsRound, held_in, left_by, local_cost, read_of, rounds_cost, value_among}
use Rattle.local_values.specs.Values.{value_at, value_by}

less_one : (rounds : ℕ) → suc rounds - 1 ≡ rounds
less_one rounds = omega arith

pub value_more : (value : ℕ → ℕ → Tree) (rounds : ℕ) (addresses : List ℕ) (a : ℕ) → rounds ≢ 0
    → value_by value rounds addresses a
    ≡ value_among (value rounds) (read_of (value rounds) addresses) (value_by value (rounds - 1) addresses a) a
unfolding value_by
value_more value zero addresses a some = absurd (some refl)
value_more value (suc rounds) addresses a some =
    ap (λ k. value_among (value (suc rounds)) (read_of (value (suc rounds)) addresses) (value_by value k addresses a) a)
    (sym (less_one rounds))

pub left_more : (value : ℕ → ℕ → Tree) (rounds : ℕ) (addresses : List ℕ) → rounds ≢ 0
    → left_by value rounds addresses
    ≡ min (left_by value (rounds - 1) addresses) (length addresses - length (read_of (value rounds) addresses))
unfolding left_by
left_more value zero addresses some = absurd (some refl)
left_more value (suc rounds) addresses some =
    ap (λ k. min (left_by value k addresses) (length addresses - length (read_of (value (suc rounds)) addresses)))
    (sym (less_one rounds))

pub cost_more : (count rounds : ℕ) → rounds ≢ 0
    → rounds_cost count rounds ≡ rounds_cost count (rounds - 1) + count * local_cost (limits_at rounds)
unfolding rounds_cost
cost_more count zero some = absurd (some refl)
cost_more count (suc rounds) some =
    ap (λ k. rounds_cost count k + count * local_cost (limits_at (suc rounds))) (sym (less_one rounds))

-- no round yet
pub rounds_none : (l : Layout) (t : ReprTypes) (m : Memory) (rounds : ℕ) (addresses : List ℕ) (held : ℕ → Option Tree)
    (left : ℕ) → rounds ≡ 0 → ((a : ℕ) → held a ≡ None) → left ≡ length addresses
    → AreValues l t m rounds addresses held left
unfolding value_by left_by
rounds_none l t m rounds addresses held left none empty all = record {
  are = λ a. empty a ∙ sym (ap (λ k. value_by (value_at l t m) k addresses a) none);
  past = all ∙ sym (ap (λ k. left_by (value_at l t m) k addresses) none);
}

-- one round more
pub rounds_more : (l : Layout) (t : ReprTypes) (m : Memory) (rounds : ℕ) (addresses : List ℕ) (limits : Limits)
    (found held : ℕ → Option Tree) (fewer left behind : ℕ) → rounds ≢ 0 → limits ≡ limits_at rounds
    → AreValues l t m (rounds - 1) addresses found fewer
    → IsRound (λ a. repr_at l t limits m limits.levels limits.nodes a) addresses found held behind
    → left ≡ min fewer behind → AreValues l t m rounds addresses held left
rounds_more l t m rounds addresses limits found held fewer left behind some at before round least = record {
  are = λ a. round.are a
      ∙ ap (λ (b : Limits). value_among (λ x. repr_at l t b m b.levels b.nodes x)
      (read_of (λ x. repr_at l t b m b.levels b.nodes x) addresses) (found a) a) at
      ∙ ap (λ o. value_among (value_at l t m rounds) (read_of (value_at l t m rounds) addresses) o a) (before.are a)
      ∙ sym (value_more (value_at l t m) rounds addresses a some);
  past = least ∙ ap (λ n. min n behind) before.past
      ∙ ap (λ n. min (left_by (value_at l t m) (rounds - 1) addresses) n) (round.past
      ∙ ap (λ (b : Limits). length addresses
      - length (read_of (λ x. repr_at l t b m b.levels b.nodes x) addresses)) at)
      ∙ sym (left_more (value_at l t m) rounds addresses some);
}

-- the rounds and the names of types cost what they do together
pub cost_same : (xs zs : List ℕ) (rounds most : ℕ) → xs ≡ zs → rounds ≡ most
    → (rounds_cost (length xs) rounds ≤ values_cost (length zs) most)
    × ((ys : List ℕ) → ys ≡ zs
    → rounds_cost (length xs) rounds + length ys * type_cost ≤ values_cost (length zs) most)
cost_same xs zs rounds most first same =
    let both = ap (λ ks. rounds_cost (length ks) rounds) first ∙ ap (λ k. rounds_cost (length zs) k) same in
    (omega (arith, both), λ ys second. let count = ap (λ ks. length ks) second in omega (arith, both, count))

-- the values of all locals, with the names of their types
pub local_are : (l : Layout) (t : ReprTypes) (times : ℕ) (m : Memory) (interpreters : List SalvagedInterpreter)
    (values : LocalValues) (xs ys : List ℕ) (rounds : ℕ) → xs ≡ shown_addresses interpreters
    → ys ≡ shown_addresses interpreters → rounds ≡ rounds_of times
    → AreValues l t m rounds xs (held_in values.values) values.left_out
    → ((a : ℕ) → name_in values.names a ≡ name_among (type_name_at l t m) ys a)
    → AreLocalValues l t times m interpreters values
unfolding value_in type_in
local_are l t times m interpreters values xs ys rounds first second same found names = record {
  are = subst (λ zs. AreValues l t m (rounds_of times) zs (held_in values.values) values.left_out) first
      (subst (λ k. AreValues l t m k xs (held_in values.values) values.left_out) same found);
  types = λ a. names a ∙ ap (λ zs. name_among (type_name_at l t m) zs a) second;
}
