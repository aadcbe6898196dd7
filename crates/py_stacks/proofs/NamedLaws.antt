-- The stacks with names.
use Rattle.std.proofs.Common.{◌≡◌, ℕ, ◌+◌, ◌*◌, ◌≤◌, List, [], ◌∷◌, map, refl, sym, ◌∙◌, ap, arith}
use Rattle.std.specs.Prelude.{Option, None, Ok, Err}
use Rattle.process_memory.specs.Memory.{Memory, Found, Fault}
use Rattle.process_memory.specs.Seen.{Answers}
use Rattle.py_fields.specs.declared.layout.Layout.{Layout}
use Rattle.py_stacks.specs.declared.asked.Asked.{Asked}
use Rattle.py_stacks.specs.declared.error.StackError.{StackError}
use Rattle.std.specs.Ordering.{nat_cmp}
use Rattle.std.specs.BTreeMap.{BTreeMap, get}
use Rattle.py_names.specs.declared.names.Named.{Named}
use Rattle.py_names.specs.Names.{NamesAre, names_at, names_cost, slots_looked_at}
use Rattle.py_names.proofs.SlotBounds.{slots_most}
use Rattle.py_stacks.specs.Frames.{cost_after}
use Rattle.py_stacks.specs.NamedStacks.{by_name, name_by, named_cost, named_stacks_at, slots_named}
use Rattle.py_stacks.specs.StackError.{stack_fault}
use Rattle.py_stacks.specs.Stacks.{stacks_at, stacks_cost}
use Rattle.py_stacks.specs.Threads.{Trace}

-- names that agree name alike
pub names_alike : (f g : ℕ → Option (List ℕ)) → ((id : ℕ) → f id ≡ g id) → (ts : List Trace) → map (by_name f) ts ≡ map (by_name g) ts
names_alike f g same [] = refl
names_alike f g same (t ∷ ts) =
    ap (λ (n : Option (List ℕ)). record t { thread_name = n } ∷ map (by_name f) ts) (same t.thread_id)
    ∙ ap (λ us. by_name g t ∷ us) (names_alike f g same ts)

module _ (q : Asked) (l : Layout) (m : Memory) (lock interpreter : ℕ) where
  pub named_costs : named_cost q l m lock interpreter
      ≡ stacks_cost q l m lock interpreter + cost_after (stacks_at q l m lock interpreter) (λ traces. names_cost l m interpreter)
  unfolding named_cost
  named_costs = refl

  -- where the stacks were found, the names are read
  pub named_costs_found : {E : Type 0} {fault : E → Option Fault} (unnamed : List Trace)
      → Answers {E = E} fault (stacks_at q l m lock interpreter) (Ok unnamed)
      → named_cost q l m lock interpreter ≡ stacks_cost q l m lock interpreter + names_cost l m interpreter
  named_costs_found unnamed a =
      named_costs ∙ ap (λ d. stacks_cost q l m lock interpreter + cost_after d (λ traces. names_cost l m interpreter)) a.is

  pub named_answer : {E : Type 0} {fault : E → Option Fault} (unnamed named : List Trace) (names : ℕ → Option (List ℕ))
      → Answers {E = E} fault (stacks_at q l m lock interpreter) (Ok unnamed) → ((id : ℕ) → names id ≡ name_by (names_at l m interpreter) id)
      → named ≡ map (by_name names) unnamed → Answers {E = E} fault (named_stacks_at q l m lock interpreter) (Ok named)
  unfolding named_stacks_at
  named_answer unnamed named names a same is = record { is = rw a.is (ap Ok (sym (is ∙ names_alike names (name_by (names_at l m interpreter)) same unnamed))) }

pub named_lost : {d : Found (List Trace)} (e : StackError) → stack_fault e ≡ None → Answers {T = List Trace} stack_fault d (Err e)
named_lost e same = record { is = rw same tt }

-- at most 10 reads, and 12 for each slot, where the stacks were found
pub named_within : (q : Asked) (l : Layout) (m : Memory) (lock interpreter : ℕ)
    → named_cost q l m lock interpreter ≤ stacks_cost q l m lock interpreter + (10 + 12 * slots_named q l m lock interpreter)
unfolding slots_named
named_within q l m lock interpreter =
    let names : cost_after (stacks_at q l m lock interpreter) (λ traces. names_cost l m interpreter) ≤ 10 + 12 * cost_after (stacks_at q l m lock interpreter) (λ traces. slots_looked_at l m interpreter) =
    elim (stacks_at q l m lock interpreter) as (λ v. cost_after v (λ traces. names_cost l m interpreter) ≤ 10 + 12 * cost_after v (λ traces. slots_looked_at l m interpreter))
    [ Ok traces ↦ omega arith | Err e ↦ omega arith ] in
    omega (arith, names, named_costs q l m lock interpreter)

pub slots_few : (q : Asked) (l : Layout) (m : Memory) (lock interpreter : ℕ) → slots_named q l m lock interpreter ≤ 65536
unfolding slots_named
slots_few q l m lock interpreter =
    elim (stacks_at q l m lock interpreter) as (λ v. cost_after v (λ traces. slots_looked_at l m interpreter) ≤ 65536)
    [ Ok traces ↦ slots_most l m interpreter | Err e ↦ omega arith ]

-- a map of the names that were found has them
pub names_held : (d : Found (List Named)) (names : BTreeMap ℕ (List ℕ)) → NamesAre d (Ok names) → (id : ℕ) → get nat_cmp names id ≡ name_by d id
names_held (Ok list) names h id = h id
names_held (Err f) names h id = absurd h
