-- How many visits the values of locals take at most, whatever the memory holds.
use Rattle.std.proofs.Common.{◌≡◌, ℕ, zero, suc, ◌+◌, ◌*◌, ◌≤◌, Bool, true, false, List, [], ◌∷◌, ◌++◌, length}
use Rattle.std.proofs.Common.{length-append, map, refl, sym, ◌∙◌, ap, subst, arith}
use Rattle.std.specs.Prelude.{Option, Some, None, Ok, Err}
use Rattle.std.specs.List.{All, sum_by}
use Rattle.std.proofs.lemmas.List.Elements.{All-cons}
use Rattle.std.proofs.lemmas.List.Sums.{sum_by-cons, sum_by-le}
use Rattle.std.proofs.Math.Nat.{mul-le-mul_left, mul_comm}
use Rattle.process_memory.specs.Memory.{Memory, record_at}
use Rattle.process_memory.proofs.Founds.{bound, ok_same}
use Rattle.py_fields.specs.declared.layout.Layout.{Layout}
use Rattle.py_objects.specs.Nodes.{values_in}
use Rattle.py_objects.proofs.Moving.{show_within}
use Rattle.py_stacks.specs.declared.asked.Asked.{Asked}
use Rattle.py_stacks.specs.declared.config.Config.{Config}
use Rattle.py_stacks.specs.declared.trace.LocalVariable.{LocalVariable}
use Rattle.py_stacks.specs.Asking.{asked_of}
use Rattle.py_stacks.specs.Detail.{Detail, detail_at, detail_with}
use Rattle.py_stacks.specs.Frames.{AreFrames, Call, begins_hidden, cost_after, detailed, plain_by, records_at, shown_at}
use Rattle.py_stacks.specs.Frames.{shown_by, with_detail, with_mark}
use Rattle.py_stacks.specs.Lines.{line_at}
use Rattle.py_stacks.specs.Locals.{asked_locals, count_of, count_or_zero, kept_local, local_at, locals_at, locals_from}
use Rattle.py_stacks.specs.Locals.{names_tuple_of}
use Rattle.py_stacks.specs.Member.{MemberAt}
use Rattle.py_stacks.specs.Stacks.{AreStacks, by_holder, stacks_at}
use Rattle.py_stacks.specs.StacksOver.{values_met, variables_most}
use Rattle.py_stacks.specs.Threads.{AreTracesOf, Trace}
use Rattle.py_stacks.specs.Values.{asked_visits, call_visits, locals_visits, trace_visits, traces_visits}
use Rattle.py_stacks.specs.Values.{local_value_at, value_visits, value_width}
use Rattle.py_stacks.proofs.DetailBounds.{count_most}
use Rattle.py_stacks.proofs.OverLaws.{visits_kept}
use Rattle.py_stacks.proofs.StackLaws.{stacks_found}

-- a value
value_few : (l : Layout) (m : Memory) (width a : ℕ) → value_visits l m width a ≤ 4096
unfolding value_visits local_value_at
value_few l m width a = show_within (values_in l m) 256 width a 0

heads : {A : Type 0} (x y : A) (xs ys : List A) → x ∷ xs ≡ y ∷ ys → x ≡ y
heads x y xs ys e = cc

tails : {A : Type 0} (x y : A) (xs ys : List A) → x ∷ xs ≡ y ∷ ys → xs ≡ ys
tails x y xs ys e = cc

kept_few : (v : Option LocalVariable) → length (kept_local v) ≤ 1
kept_few None = omega arith
kept_few (Some v) = omega arith

module _ (visits : ℕ → ℕ) (few : (a : ℕ) → visits a ≤ 4096) where
  variables_few : (vs : List LocalVariable) → locals_visits visits vs ≤ 4096 * length vs
  variables_few [] = omega arith
  variables_few (v ∷ vs) = omega (arith, sum_by-cons (λ (x : LocalVariable). visits x.addr) v vs, few v.addr, variables_few vs)

  module _ (l : Layout) (m : Memory) where
    from_few : (r : MemberAt) (n index : ℕ) (vs : List LocalVariable) → locals_from l m r index n ≡ Ok vs → length vs ≤ n
    unfolding locals_from
    from_few r zero index vs e = let none = ok_same [] vs e in omega (arith, ap length none)
    from_few r (suc n) index vs e =
        let local = bound (local_at l m r index) _ vs e in
        let rest = bound (locals_from l m r (index + 1) n) _ vs local.2 in
        let all = ok_same (kept_local local.0 ++ rest.0) vs rest.2 in
        let more = from_few r n (index + 1) rest.0 rest.1 in
        omega (arith, ap length all, length-append (kept_local local.0) rest.0, kept_few local.0, more)

    -- the locals of a frame
    locals_few : (r : MemberAt) (vs : List LocalVariable) → locals_at l m r ≡ Ok vs → length vs ≤ 65535
    unfolding locals_at
    locals_few r vs e =
        let count = bound (count_of l r) _ vs e in
        let names = bound (record_at m (names_tuple_of l r) l.tuple.size) _ vs count.2 in
        let counted : count_or_zero (Ok count.0) ≤ 65535 = rw count.1 at (count_most l r) in
        omega (arith, from_few r count.0 0 vs names.2, counted)

    asked_few : (asked : Bool) (r : MemberAt) (vs : Option (List LocalVariable)) → asked_locals asked l m r ≡ Ok vs
        → asked_visits visits vs ≤ 4096 * variables_most asked
    asked_few false r vs e = subst (λ o. asked_visits visits o ≤ 4096 * variables_most false) (ok_same None vs e) (omega arith)
    asked_few true r vs e =
        let found = bound (locals_at l m r) _ vs e in
        subst (λ o. asked_visits visits o ≤ 4096 * variables_most true) (ok_same (Some found.0) vs found.2)
        (omega (arith, variables_few found.0, locals_few r found.0 found.1))

    module _ (q : Asked) where
      detail_few : (r : MemberAt) (d : Detail) → detail_at q l m r ≡ Ok d → asked_visits visits d.locals ≤ 4096 * variables_most q.locals
      unfolding detail_at
      detail_few r d e =
          let line = bound (line_at q.lineno l m r) _ d e in
          let locals = bound (asked_locals q.locals l m r) _ d line.2 in
          subst (λ (x : Detail). asked_visits visits x.locals ≤ 4096 * variables_most q.locals) (ok_same (detail_with line.0 locals.0) d locals.2)
          (asked_few q.locals r locals.0 locals.1)

      detailed_few : (r : MemberAt) (p : Option Call) (c : Call) → detailed q l m r p ≡ Ok (Some c) → call_visits visits c ≤ 4096 * variables_most q.locals
      detailed_few r None c e = let other : None ≡ Some c = ok_same _ _ e in absurd (cc)
      detailed_few r (Some plain) c e =
          let d = bound (detail_at q l m r) _ (Some c) e in
          let same : Some (with_detail plain d.0) ≡ Some c = ok_same _ _ d.2 in
          let is : with_detail plain d.0 ≡ c = cc in
          subst (λ x. call_visits visits x ≤ 4096 * variables_most q.locals) is (detail_few r d.0 d.1)

      call_few : (a : ℕ) (c : Call) → shown_at q l m a ≡ Ok (Some c) → call_visits visits c ≤ 4096 * variables_most q.locals
      unfolding shown_at
      call_few a c e =
          let r = bound (records_at l m a) _ (Some c) e in
          detailed_few r.0 (plain_by l m r.0) c r.2

      shown_few : (last : Bool) (members : List ℕ) (parts : List (Option Call)) → map (shown_at q l m) members ≡ map Ok parts
          → All (λ c. call_visits visits c ≤ 4096 * variables_most q.locals) (shown_by last parts)
      unfolding shown_by
      shown_few last [] [] e = λ k d lt. absurd (omega arith)
      shown_few last [] (p ∷ ps) e = absurd (cc)
      shown_few last (a ∷ rest) [] e = absurd (cc)
      shown_few last (a ∷ rest) (None ∷ ps) e = shown_few last rest ps (tails (shown_at q l m a) (Ok None) _ _ e)
      shown_few last (a ∷ rest) (Some c ∷ ps) e =
          All-cons (λ x. call_visits visits x ≤ 4096 * variables_most q.locals) (with_mark c (begins_hidden last ps)) (shown_by last ps)
          (call_few a c (heads (shown_at q l m a) (Ok (Some c)) _ _ e)) (shown_few last rest ps (tails (shown_at q l m a) (Ok (Some c)) _ _ e))

      -- the frames of a thread
      frames_few : (first : ℕ) (calls : List Call) → AreFrames q l m first calls → sum_by (call_visits visits) calls ≤ 4096 * (4096 * variables_most q.locals)
      frames_few first calls h =
          let each = subst (All (λ c. call_visits visits c ≤ 4096 * variables_most q.locals)) (sym h.shows) (shown_few true h.members h.parts h.each) in
          let sum = sum_by-le (call_visits visits) (4096 * variables_most q.locals) calls each in
          let most = mul-le-mul_left (4096 * variables_most q.locals) h.kept in
          omega (arith, sum, most, mul_comm (length calls) (4096 * variables_most q.locals))

      -- the threads of an interpreter
      threads_few : (threads : List ℕ) (ts : List Trace) → AreTracesOf q l m threads ts
          → sum_by (trace_visits visits) ts ≤ length threads * (4096 * (4096 * variables_most q.locals))
      threads_few [] [] h = omega arith
      threads_few [] (t ∷ ts) h = absurd h
      threads_few (a ∷ rest) [] h = absurd h
      threads_few (a ∷ rest) (t ∷ ts) h =
          let one = frames_few h.0.first t.frames h.0.frames in
          let more = threads_few rest ts h.1 in
          omega (arith, sum_by-cons (trace_visits visits) t ts, one, more)

      threads_sum : (threads : List ℕ) (ts : List Trace) → AreTracesOf q l m threads ts
          → traces_visits visits ts ≤ length threads * (4096 * (4096 * variables_most q.locals))
      unfolding traces_visits
      threads_sum threads ts each = threads_few threads ts each

      stacks_few : (lock interpreter : ℕ) (ts : List Trace) → AreStacks q l m lock interpreter ts
          → traces_visits visits ts ≤ 4096 * (4096 * (4096 * variables_most q.locals))
      stacks_few lock interpreter ts h =
          let same = ap (traces_visits visits) h.marks ∙ visits_kept visits (by_holder h.holder_id) (λ t. refl) h.unmarked in
          let sum = threads_sum h.threads.threads h.unmarked h.threads.each in
          let most = mul-le-mul_left (4096 * (4096 * variables_most q.locals)) h.threads.within in
          omega (arith, same, sum, most, mul_comm (length h.threads.threads) (4096 * (4096 * variables_most q.locals)))

-- all that an interpreter's stacks have
pub values_few : (c : Config) (l : Layout) (m : Memory) (lock interpreter : ℕ)
    → values_met c l m lock interpreter ≤ 4096 * (4096 * (4096 * variables_most (asked_of c).locals))
unfolding values_met
values_few c l m lock interpreter =
    let visits = value_visits l m (value_width c.dump_locals) in
    elim (stacks_at (asked_of c) l m lock interpreter) as (λ v. stacks_at (asked_of c) l m lock interpreter ≡ v → cost_after v (traces_visits visits) ≤ 4096 * (4096 * (4096 * variables_most (asked_of c).locals))) [
      | Ok ts ↦ λ e. stacks_few visits (value_few l m (value_width c.dump_locals)) l m (asked_of c) lock interpreter ts (stacks_found (asked_of c) l m lock interpreter ts e)
      | Err f ↦ λ e. omega arith
    ] refl
