-- The test of one candidate, and what it costs.
use Rattle.std.proofs.Common.{◌≡◌, ℕ, ◌+◌, ◌≤◌, Bool, true, false, List, [], ◌∷◌, refl, ap, ◌∙◌, arith}
use Rattle.std.specs.Prelude.{◌&&◌, Option, Some, None, Result, Ok, Err, MatchOption, option_to_list}
use Rattle.std.proofs.lemmas.Bool.{and_parts}
use Rattle.process_memory.specs.Memory.{Memory, Found, Fault, byte_at}
use Rattle.process_memory.specs.Seen.{Answers, FaultIs, Reading, Seen}
use Rattle.process_memory.proofs.Founds.{ok_same}
use Rattle.process_memory.proofs.Reading.{reading_here, reading_then, reads_within}
use Rattle.py_fields.specs.declared.layout.Layout.{Layout}
use Rattle.py_stacks.specs.declared.error.StackError.{StackError}
use Rattle.py_stacks.specs.StackError.{stack_fault}
use Rattle.py_stacks.specs.Interpreter.{IsInterpreter, bound_from, passes, passes_from, threads_head}
use Rattle.py_stacks.proofs.Candidates.{members_split, passes_law, passes_split, threads_split}
use Rattle.py_process.specs.Candidates.{IsInterpreterIn, ListIs, SearchIs, candidate_cost, candidate_of, head_lies}
use Rattle.py_process.specs.Candidates.{passes_in}
use Rattle.py_process.specs.declared.search_error.SearchError.{SearchError}
use Rattle.py_process.specs.declared.search_error.SearchError.TheVariants.{NotFound, OutOfMemory}

pub outside_maps : (contains : ℕ → Bool) (l : Layout) (m : Memory) (a : ℕ) → contains a ≡ false → passes_in contains l m a ≡ false
unfolding passes_in
outside_maps contains l m a e = ap (λ b. b && (head_lies contains (threads_head l m a) && passes l m a)) e

pub cost_inside : (contains : ℕ → Bool) (l : Layout) (m : Memory) (a : ℕ) → contains a ≡ true → 1 ≤ candidate_cost contains l m a
unfolding candidate_cost
cost_inside contains l m a e = rw e (omega arith)

head_none : (contains : ℕ → Bool) (l : Layout) (m : Memory) (a : ℕ) → head_lies contains (threads_head l m a) ≡ false → passes_in contains l m a ≡ false
unfolding passes_in
head_none contains l m a e = ap (λ b. contains a && (b && passes l m a)) e ∙ and_none (contains a)
  where
    and_none : (b : Bool) → (b && false) ≡ false
    and_none true = refl
    and_none false = refl

known_head : (d : Found ℕ) (head : ℕ) → candidate_of d ≡ head ∷ [] → d ≡ Ok head
known_head (Ok h) head e = let same : h ≡ head = cc in ap (λ x. Ok x) same
known_head (Err f) head e = absurd (cc)

no_head : (contains : ℕ → Bool) (d : Found ℕ) → candidate_of d ≡ [] → head_lies contains d ≡ false
no_head contains (Ok h) e = absurd (cc)
no_head contains (Err f) e = refl

-- the reader of the first thread
pub thread_refused : (d : Found ℕ) (e : StackError) (r : Result (Option ℕ) SearchError) → Answers {T = ℕ} stack_fault d (Err e)
    → MatchOption (stack_fault e) (r ≡ Err OutOfMemory) (λ f. r ≡ Ok None) → ListIs (candidate_of d) r
thread_refused d e r h is = by (stack_fault e) h.is is
  where
    by : (o : Option Fault) → FaultIs d o → MatchOption o (r ≡ Err OutOfMemory) (λ f. r ≡ Ok None) → ListIs (candidate_of d) r
    by None f same = rw same tt
    by (Some x) f same = rw (same, f) refl

pub head_lost : (contains : ℕ → Bool) (l : Layout) (m : Memory) (a : ℕ) (o : Option ℕ) → o ≡ None → candidate_of (threads_head l m a) ≡ option_to_list o
    → passes_in contains l m a ≡ false
head_lost contains l m a o none h = head_none contains l m a (no_head contains (threads_head l m a) (h ∙ ap option_to_list none))

pub head_outside : (contains : ℕ → Bool) (l : Layout) (m : Memory) (a head : ℕ) (o : Option ℕ) → o ≡ Some head → contains head ≡ false
    → candidate_of (threads_head l m a) ≡ option_to_list o → passes_in contains l m a ≡ false
head_outside contains l m a head o some e h =
    head_none contains l m a (ap (head_lies contains) (known_head (threads_head l m a) head (h ∙ ap option_to_list some)) ∙ e)

pub list_lost : {U : Type 0} (xs : List ℕ) (y : U) (e : SearchError) → ListIs xs (Err e) → SearchIs y (Err e)
list_lost xs y NotFound s = s
list_lost xs y OutOfMemory s = tt

passes_whole : (contains : ℕ → Bool) (l : Layout) (m : Memory) (a head : ℕ) → contains a ≡ true → contains head ≡ true → threads_head l m a ≡ Ok head
    → passes_in contains l m a ≡ passes_from l m a head
unfolding passes_in
passes_whole contains l m a head one two is =
    ap (λ b. b && (head_lies contains (threads_head l m a) && passes l m a)) one
    ∙ ap (λ b. b && passes l m a) (ap (head_lies contains) is ∙ two)
    ∙ passes_split l m a head is

cost_whole : (contains : ℕ → Bool) (l : Layout) (m : Memory) (a head : ℕ) → contains a ≡ true → contains head ≡ true → threads_head l m a ≡ Ok head
    → 1 + bound_from l m a head ≤ candidate_cost contains l m a
unfolding candidate_cost
cost_whole contains l m a head one two is =
    let lies : head_lies contains (threads_head l m a) ≡ true = ap (head_lies contains) is ∙ two in
    let threads = threads_split l m a head is in
    let members = members_split l m a head is in
    rw (one, lies) (omega (arith, threads, members))

-- the head was read and lies in a map, and the rest of the test was made
pub tested : {s0 s1 s2 : Seen} {Q : Memory → Type 0} (contains : ℕ → Bool) (l : Layout) (a head : ℕ) (o : Option ℕ) (R : Memory → Type 0)
    → contains a ≡ true → contains head ≡ true → o ≡ Some head
    → Reading 1 s0 s1 (λ m. candidate_of (threads_head l m a) ≡ option_to_list o)
    → Reading (bound_from l (byte_at s1.pieces) a head) s1 s2 Q
    → ((m : Memory) → passes_in contains l m a ≡ passes_from l m a head → Q m → R m)
    → Reading (candidate_cost contains l (byte_at s0.pieces) a) s0 s2 R
tested {s0 = s0} contains l a head o R one two some h r f =
    let known = λ (m : Memory) (x : candidate_of (threads_head l m a) ≡ option_to_list o). known_head (threads_head l m a) head (x ∙ ap option_to_list some) in
    let budget = cost_whole contains l (byte_at s0.pieces) a head one two (known (byte_at s0.pieces) (reading_here h)) in
    let same = ap (λ ps. bound_from l (byte_at ps) a head) h.pieces in
    reads_within _ (reading_then R h r (λ m x y. f m (passes_whole contains l m a head one two (known m x)) y)) (omega (arith, budget, same))

pub answer_is : (l : Layout) (m : Memory) (a head : ℕ) (b : Bool) (t : Bool) → Answers {E = StackError} stack_fault (Ok (passes_from l m a head)) (Ok b) → t ≡ passes_from l m a head → t ≡ b
answer_is l m a head b t r e = e ∙ ok_same (passes_from l m a head) b r.is

-- ---- the law of the test

pub is_one : (contains : ℕ → Bool) (l : Layout) (m : Memory) (a : ℕ) → passes_in contains l m a ≡ true → IsInterpreterIn contains l m a
unfolding passes_in
is_one contains l m a e =
    let lies = and_parts (contains a) (head_lies contains (threads_head l m a) && passes l m a) e in
    let both = and_parts (head_lies contains (threads_head l m a)) (passes l m a) lies.1 in
    by (threads_head l m a) refl lies.0 both.0 ((passes_law l m a (Ok (passes l m a)) (record { is = refl })).0 both.1)
  where
    by : (d : Found ℕ) → threads_head l m a ≡ d → contains a ≡ true → head_lies contains d ≡ true → IsInterpreter l m a → IsInterpreterIn contains l m a
    by (Ok head) is one two h = record { lies = one; head = head; names = is; head_lies = two; is = h }
    by (Err f) is one two h = absurd (cc)

pub one_passes : (contains : ℕ → Bool) (l : Layout) (m : Memory) (a : ℕ) → IsInterpreterIn contains l m a → passes_in contains l m a ≡ true
unfolding passes_in
one_passes contains l m a h =
    ap (λ b. b && (head_lies contains (threads_head l m a) && passes l m a)) h.lies
    ∙ ap (λ b. b && passes l m a) (ap (head_lies contains) h.names ∙ h.head_lies)
    ∙ (passes_law l m a (Ok (passes l m a)) (record { is = refl })).1 h.is

pub not_one : (contains : ℕ → Bool) (l : Layout) (m : Memory) (a : ℕ) → passes_in contains l m a ≡ false → ¬ IsInterpreterIn contains l m a
not_one contains l m a e h = let is = one_passes contains l m a h in absurd (cc)
