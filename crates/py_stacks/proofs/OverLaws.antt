-- The stacks with names and values, in the subject's own words; and what they cost.
use Rattle.std.proofs.Common.{◌≡◌, ℕ, ◌+◌, ◌*◌, List, [], ◌∷◌, map, refl, sym, ◌∙◌, ap}
use Rattle.std.specs.Prelude.{Option, None, Result, Ok, Err, IfOk}
use Rattle.std.specs.Global.{Vec}
use Rattle.std.specs.List.{sum_by}
use Rattle.std.proofs.lemmas.List.Sums.{sum_by-cons}
use Rattle.process_memory.specs.Memory.{Memory, Found, Fault, byte_at}
use Rattle.process_memory.specs.Seen.{Seen, Answers, ReadsOf}
use Rattle.process_memory.specs.declared.memory.Span.{Span}
use Rattle.process_memory.specs.Walk.{first_fault, fault_in}
use Rattle.process_memory.specs.Faults.{FaultsAre}
use Rattle.process_memory.proofs.Reading.{reading_here}
use Rattle.process_memory.proofs.Walks.{faults_from_answer}
use Rattle.process_memory.proofs.Founds.{bound, ok_same}
use Rattle.py_fields.specs.declared.layout.Layout.{Layout}
use Rattle.py_names.specs.Names.{names_at}
use Rattle.py_stacks.specs.declared.config.Config.{Config}
use Rattle.py_stacks.specs.declared.error.StackError.{StackError}
use Rattle.py_stacks.specs.declared.trace.StackTrace.{StackTrace}
use Rattle.py_stacks.specs.Asking.{asked_of}
use Rattle.py_stacks.specs.NamedStacks.{by_name, name_by, named_cost, named_stacks_at}
use Rattle.py_stacks.specs.StackError.{stack_fault}
use Rattle.py_stacks.specs.Stacks.{stacks_at, stacks_faults}
use Rattle.py_stacks.specs.StacksOver.{AreStacksOver, stacks_over_at, stacks_over_cost, values_met}
use Rattle.py_stacks.specs.Threads.{Trace, trace_of, traces_of_result}
use Rattle.py_stacks.specs.Values.{by_value, call_visits, trace_visits, traces_visits, value_text, value_visits}
use Rattle.py_stacks.specs.Values.{value_width}
use Rattle.py_stacks.proofs.StackLaws.{from_inner, stacks_found, stacks_same}
use Rattle.py_stacks.proofs.Wholes.{stacks_whole}

module _ (c : Config) (l : Layout) (m : Memory) (lock interpreter : ℕ) where
  over_found : (traces : List Trace) → stacks_over_at c l m lock interpreter ≡ Ok traces → AreStacksOver c l m lock interpreter traces
  unfolding stacks_over_at named_stacks_at
  over_found traces e =
      let named = bound (named_stacks_at (asked_of c) l m lock interpreter) _ traces e in
      let plain = bound (stacks_at (asked_of c) l m lock interpreter) _ named.0 named.1 in
      record {
        walked = plain.0;
        stacks = stacks_found (asked_of c) l m lock interpreter plain.0 plain.1;
        tells = sym (ok_same _ traces named.2) ∙ ap (map (by_value (value_text l m (value_width c.dump_locals)))) (sym (ok_same _ named.0 plain.2));
      }

  pub over_law : (r : Result (Vec StackTrace) StackError) → Answers stack_fault (stacks_over_at c l m lock interpreter) (traces_of_result r)
      → IfOk r (λ traces. AreStacksOver c l m lock interpreter (map trace_of traces.items))
  over_law (Err e) a = tt
  over_law (Ok v) a = over_found (map trace_of v.items) a.is

  pub over_whole : (traces : List Trace) → AreStacksOver c l m lock interpreter traces → stacks_over_at c l m lock interpreter ≡ Ok traces
  unfolding stacks_over_at named_stacks_at
  over_whole traces h = rw (stacks_whole (asked_of c) l m lock interpreter h.walked h.stacks) (ap Ok (sym h.tells))

  -- what is right is the answer, out of memory aside
  pub over_only : (r : Result (Vec StackTrace) StackError) → Answers stack_fault (stacks_over_at c l m lock interpreter) (traces_of_result r)
      → (traces : List Trace) → AreStacksOver c l m lock interpreter traces → Answers stack_fault (Ok traces) (traces_of_result r)
  over_only r a traces h = let is = over_whole traces h in rw is at a

  over_same : first_fault (stacks_faults (asked_of c) l m lock interpreter) ≡ fault_in (stacks_over_at c l m lock interpreter)
  unfolding stacks_over_at named_stacks_at
  over_same = stacks_same (asked_of c) l m lock interpreter
      ∙ from_inner (stacks_at (asked_of c) l m lock interpreter) (map (by_name (name_by (names_at l m interpreter))))
      ∙ from_inner (named_stacks_at (asked_of c) l m lock interpreter) (map (by_value (value_text l m (value_width c.dump_locals))))

  pub over_faults_law : (r : Result (Vec StackTrace) StackError) → Answers stack_fault (stacks_over_at c l m lock interpreter) (traces_of_result r)
      → FaultsAre stack_fault (first_fault (stacks_faults (asked_of c) l m lock interpreter)) r
  over_faults_law (Ok v) a = faults_from_answer stack_fault (stacks_over_at c l m lock interpreter) _ (Ok (map trace_of v.items)) over_same a
  over_faults_law (Err e) a = faults_from_answer {T = List Trace} stack_fault (stacks_over_at c l m lock interpreter) _ (Err e) over_same a

  pub over_costs : stacks_over_cost c l m lock interpreter ≡ named_cost (asked_of c) l m lock interpreter + 8 * values_met c l m lock interpreter
  unfolding stacks_over_cost
  over_costs = refl

  pub over_answer : {E : Type 0} {fault : E → Option Fault} (named shown : List Trace) (width : ℕ) → width ≡ value_width c.dump_locals
      → Answers {E = E} fault (named_stacks_at (asked_of c) l m lock interpreter) (Ok named)
      → shown ≡ map (by_value (value_text l m width)) named
      → Answers {E = E} fault (stacks_over_at c l m lock interpreter) (Ok shown)
  unfolding stacks_over_at
  over_answer named shown width wide a is = record { is = rw a.is (ap Ok (sym (is ∙ ap (λ w. map (by_value (value_text l m w)) named) wide))) }

-- traces whose frames stay have the same visits
pub visits_kept : (visits : ℕ → ℕ) (f : Trace → Trace) → ((t : Trace) → (f t).frames ≡ t.frames) → (ts : List Trace)
    → traces_visits visits (map f ts) ≡ traces_visits visits ts
unfolding traces_visits
visits_kept visits f same [] = refl
visits_kept visits f same (t ∷ ts) =
    sum_by-cons (trace_visits visits) (f t) (map f ts)
    ∙ ap (λ cs. sum_by (call_visits visits) cs + sum_by (trace_visits visits) (map f ts)) (same t)
    ∙ ap (λ n. trace_visits visits t + n) (visits_kept visits f same ts)
    ∙ sym (sum_by-cons (trace_visits visits) t ts)

-- the visits of the values are those of the traces that were found
met_found : (c : Config) (l : Layout) (m : Memory) (lock interpreter : ℕ) (named : List Trace)
    → named_stacks_at (asked_of c) l m lock interpreter ≡ Ok named
    → values_met c l m lock interpreter ≡ traces_visits (value_visits l m (value_width c.dump_locals)) named
unfolding named_stacks_at values_met
met_found c l m lock interpreter named e =
    let plain = bound (stacks_at (asked_of c) l m lock interpreter) _ named e in
    let visits = value_visits l m (value_width c.dump_locals) in
    rw plain.1 (sym (visits_kept visits (by_name (name_by (names_at l m interpreter))) (λ t. refl) plain.0) ∙ ap (traces_visits visits) (ok_same _ named plain.2))

pub over_budget : {allowed : Memory → Span → Type 0} {E : Type 0} {fault : E → Option Fault} {s0 s1 : Seen} {n : ℕ} (c : Config) (l : Layout) (lock interpreter : ℕ) (width : ℕ) (named : List Trace)
    → width ≡ value_width c.dump_locals
    → ReadsOf {E = E} allowed fault n s0 s1 (λ m. named_stacks_at (asked_of c) l m lock interpreter) (Ok named)
    → traces_visits (value_visits l (byte_at s1.pieces) width) named ≡ values_met c l (byte_at s0.pieces) lock interpreter
over_budget {s0 = s0} c l lock interpreter width named wide r =
    let met = met_found c l (byte_at s0.pieces) lock interpreter named (reading_here r).is in
    rw (r.pieces, wide) (sym met)

pub over_lost : {d : Found (List Trace)} (e : StackError) → stack_fault e ≡ None → Answers {T = List Trace} stack_fault d (Err e)
over_lost e same = record { is = rw same tt }
