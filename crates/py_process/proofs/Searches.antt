-- A search in a list, and in one list after another.
use Rattle.std.proofs.Common.{◌≡◌, ℕ, ◌+◌, ◌*◌, ◌≤◌, Bool, true, false, cond, List, [], ◌∷◌, ◌++◌, length, refl}
use Rattle.std.proofs.Common.{sym, ap, subst, ◌∙◌, arith, zero-add}
use Rattle.std.specs.Prelude.{Option, Some, None, Result, Ok, Err, IfOk, find, option_to_list}
use Rattle.std.specs.Option.{option_or}
use Rattle.std.proofs.lemmas.List.Elements.{All-cons, All-head, All-nil, All-tail}
use Rattle.std.proofs.lemmas.List.Folds.{find-append}
use Rattle.elf64_core.specs.Fields.{u64_in}
use Rattle.process_memory.specs.Memory.{Memory, byte_at, record_at}
use Rattle.process_memory.specs.Memory.Fault.{Missing}
use Rattle.process_memory.specs.Seen.{Answers, FaultIs, IsShort, Reading, ReadingOf, Seen, read_fault}
use Rattle.process_memory.specs.declared.memory.Span.{Span}
use Rattle.process_memory.specs.declared.memory.ReadFault.{ReadFault}
use Rattle.process_memory.specs.declared.memory.ReadFault.TheVariants as read
use Rattle.process_memory.proofs.Reading.{reading_gives, reading_here, reading_none, reading_then, reads_within}
use Rattle.py_fields.specs.declared.version.Version.{Version}
use Rattle.py_fields.specs.declared.layout.Layout.{Layout}
use Rattle.py_process.specs.Candidates.{FirstIs, IsFirstOf, IsInterpreterIn, IsNoneOf, ListIs, NotFoundWhere, SearchIs}
use Rattle.py_process.specs.Candidates.{Searching, Seeking, candidate_cost, candidates_of, head_lies, interpreter_of}
use Rattle.py_process.specs.Candidates.{passes_in, search_bound, search_cost, search_most, section_words, walk_bound}
use Rattle.py_process.specs.Candidates.{words_in, words_of}
use Rattle.py_stacks.specs.Interpreter.{threads_head}
use Rattle.py_stacks.proofs.Candidates.{test_most}
use Rattle.py_process.specs.Facts.{Known}
use Rattle.py_process.specs.Sections.{IsSearched}
use Rattle.py_process.specs.declared.search_error.SearchError.{SearchError}
use Rattle.py_process.specs.declared.search_error.SearchError.TheVariants.{NotFound, OutOfMemory}
use Rattle.py_process.proofs.Tests.{is_one, not_one}
use Rattle.py_process.proofs.Words.{word_first}

-- ---- what one list costs, and what two cost

cost_none : (c : ℕ → Bool) (l : Layout) (m : Memory) (xs ys : List ℕ) → find (passes_in c l m) xs ≡ None → search_cost c l m (xs ++ ys) ≡ search_cost c l m xs + search_cost c l m ys
unfolding search_cost
cost_none c l m [] ys e = sym (zero-add (search_cost c l m ys))
cost_none c l m (x ∷ xs) ys e = by (passes_in c l m x) e (λ h. cost_none c l m xs ys h)
  where
    by : (t : Bool) → cond t (Some x) (find (passes_in c l m) xs) ≡ None → (find (passes_in c l m) xs ≡ None → search_cost c l m (xs ++ ys) ≡ search_cost c l m xs + search_cost c l m ys)
        → candidate_cost c l m x + cond t 0 (search_cost c l m (xs ++ ys)) ≡ candidate_cost c l m x + cond t 0 (search_cost c l m xs) + search_cost c l m ys
    by true e f = absurd (cc)
    by false e f = let h = f e in omega (arith, h)

cost_front : (c : ℕ → Bool) (l : Layout) (m : Memory) (xs ys : List ℕ) → search_cost c l m xs ≤ search_cost c l m (xs ++ ys)
unfolding search_cost
cost_front c l m [] ys = omega arith
cost_front c l m (x ∷ xs) ys = by (passes_in c l m x) (cost_front c l m xs ys)
  where
    by : (t : Bool) → search_cost c l m xs ≤ search_cost c l m (xs ++ ys)
        → candidate_cost c l m x + cond t 0 (search_cost c l m xs) ≤ candidate_cost c l m x + cond t 0 (search_cost c l m (xs ++ ys))
    by true h = omega arith
    by false h = omega (arith, h)

-- a test costs at most what a walk to the limits does
candidate_most : (c : ℕ → Bool) (l : Layout) (m : Memory) (a : ℕ) → candidate_cost c l m a ≤ 3 + 4096 * (2 + 6 * 16384)
unfolding candidate_cost
candidate_most c l m a =
    let walk = walk_bound l m a in
    let tested = test_most l m a in
    elim (c a) as (λ t. cond t (1 + cond (head_lies c (threads_head l m a)) walk 0) 0 ≤ 3 + 4096 * (2 + 6 * 16384)) [
      | true ↦ elim (head_lies c (threads_head l m a)) as (λ t. 1 + cond t walk 0 ≤ 3 + 4096 * (2 + 6 * 16384))
          [ true ↦ omega (arith, tested) | false ↦ omega arith ]
      | false ↦ omega arith
    ]

cost_most : (c : ℕ → Bool) (l : Layout) (m : Memory) (xs : List ℕ)
    → search_cost c l m xs ≤ (3 + 4096 * (2 + 6 * 16384)) * length xs
unfolding search_cost
cost_most c l m [] = omega arith
cost_most c l m (x ∷ xs) =
    let rest = cost_most c l m xs in
    let one = candidate_most c l m x in
    elim (passes_in c l m x) as (λ t. candidate_cost c l m x + cond t 0 (search_cost c l m xs) ≤ (3 + 4096 * (2 + 6 * 16384)) * length (x ∷ xs))
    [ true ↦ omega (arith, one) | false ↦ omega (arith, one, rest) ]

-- the whole search, whatever the memory holds
pub bound_most : (c : ℕ → Bool) (k : Known) (v : Version) (l : Layout) (m : Memory) → search_bound c k v l m ≤ search_most k v l m
unfolding search_bound
bound_most c k v l m = omega (arith, cost_most c l m (candidates_of k v l m))

-- ---- one list after another

found_behind : (p : ℕ → Bool) (xs ys : List ℕ) (r : Result (Option ℕ) SearchError) → find p xs ≡ None → SearchIs (find p ys) r → SearchIs (find p (xs ++ ys)) r
found_behind p xs ys r none s =
    let same : find p (xs ++ ys) ≡ find p ys = find-append p xs ys ∙ ap (λ o. option_or o (find p ys)) none in
    subst (λ v. SearchIs v r) (sym same) s

found_front : (p : ℕ → Bool) (xs ys : List ℕ) (a : ℕ) → find p xs ≡ Some a → find p (xs ++ ys) ≡ Some a
found_front p xs ys a is = find-append p xs ys ∙ ap (λ o. option_or o (find p ys)) is

pub seek_then : {allowed : Memory → Span → Type 0} {s0 s1 s2 : Seen} (c : ℕ → Bool) (l : Layout) (n k : ℕ) (xs ys : Memory → List ℕ) (o : Option ℕ) (r : Result (Option ℕ) SearchError) → o ≡ None
    → Seeking allowed c l n xs s0 s1 (Ok o) → Seeking allowed c l k ys s1 s2 r → Seeking allowed c l (n + k) (λ m. xs m ++ ys m) s0 s2 r
seek_then {s0 = s0} {s1 = s1} c l n k xs ys o r none p q =
    let costs = cost_none c l (byte_at s0.pieces) (xs (byte_at s0.pieces)) (ys (byte_at s0.pieces)) (reading_here p ∙ none) in
    let same : search_cost c l (byte_at s1.pieces) (ys (byte_at s1.pieces)) ≡ search_cost c l (byte_at s0.pieces) (ys (byte_at s0.pieces)) =
    ap (λ ps. search_cost c l (byte_at ps) (ys (byte_at ps))) p.pieces in
    reads_within _ (reading_then (λ m. SearchIs (find (passes_in c l m) (xs m ++ ys m)) r) p q (λ m a b. found_behind (passes_in c l m) (xs m) (ys m) r (a ∙ none) b)) (omega (arith, costs, same))

pub seek_found : {allowed : Memory → Span → Type 0} {s0 s1 : Seen} (c : ℕ → Bool) (l : Layout) (n most : ℕ) (xs ys : Memory → List ℕ) (o : Option ℕ) (a : ℕ) → o ≡ Some a → n ≤ most
    → Seeking allowed c l n xs s0 s1 (Ok o) → Seeking allowed c l most (λ m. xs m ++ ys m) s0 s1 (Ok (Some a))
seek_found {s0 = s0} c l n most xs ys o a is le p =
    let front = cost_front c l (byte_at s0.pieces) (xs (byte_at s0.pieces)) (ys (byte_at s0.pieces)) in
    reading_gives _ _ p (omega (arith, front, le)) (λ m h. found_front (passes_in c l m) (xs m) (ys m) a (h ∙ is))

pub lost : {T U : Type 0} (x : T) (y : U) (e : SearchError) → SearchIs x (Err e) → SearchIs y (Err e)
lost x y NotFound s = s
lost x y OutOfMemory s = tt

pub seek_lost : {allowed : Memory → Span → Type 0} {s0 s1 : Seen} (c : ℕ → Bool) (l : Layout) (n most : ℕ) (xs ys : Memory → List ℕ) (e d : SearchError) → d ≡ e → n ≤ most
    → Seeking allowed c l n xs s0 s1 (Err e) → Seeking allowed c l most (λ m. xs m ++ ys m) s0 s1 (Err d)
seek_lost {s0 = s0} c l n most xs ys e d same le p =
    let front = cost_front c l (byte_at s0.pieces) (xs (byte_at s0.pieces)) (ys (byte_at s0.pieces)) in
    reading_gives _ _ p (omega (arith, front, le)) (λ m h. rw same (lost (find (passes_in c l m) (xs m)) (find (passes_in c l m) (xs m ++ ys m)) e h))

-- ---- candidate by candidate

-- a search in a list that goes on with the rest of it
pub record Going (c : ℕ → Bool) (l : Layout) (all rest : List ℕ) (old new : Seen) : Type 0 where
  pub spent : ℕ
  pub reading : Reading spent old new (λ m. find (passes_in c l m) all ≡ find (passes_in c l m) rest)
  pub budget : spent + search_cost c l (byte_at old.pieces) rest ≤ search_cost c l (byte_at old.pieces) all

going_first : (c : ℕ → Bool) (l : Layout) (all : List ℕ) (s : Seen) → Going c l all all s s
going_first c l all s = record { spent = 0; reading = reading_none 0 s _ (λ m. refl); budget = omega arith }

pub going_words : {s : Seen} (c : ℕ → Bool) (l : Layout) (bytes rest : List ℕ) → rest ≡ bytes → Going c l (words_of bytes) (words_of rest) s s
going_words {s} c l bytes rest e = subst (λ b. Going c l (words_of bytes) (words_of b) s s) (sym e) (going_first c l (words_of bytes) s)

-- the next word stands in front
pub going_word : {s0 s1 : Seen} (c : ℕ → Bool) (l : Layout) (all rest word more : List ℕ) (a : ℕ) → rest ≡ word ++ more → length word ≡ 8 → a ≡ u64_in word 0
    → Going c l all (words_of rest) s0 s1 → Going c l all (a ∷ words_of more) s0 s1
going_word {s0} {s1} c l all rest word more a parts eight is g =
    subst (λ ws. Going c l all ws s0 s1) (ap words_of parts ∙ word_first word more eight ∙ ap (λ x. x ∷ words_of more) (sym is)) g

cost_failed : (c : ℕ → Bool) (l : Layout) (m : Memory) (a : ℕ) (rest : List ℕ) → passes_in c l m a ≡ false → search_cost c l m (a ∷ rest) ≡ candidate_cost c l m a + search_cost c l m rest
unfolding search_cost
cost_failed c l m a rest e = ap (λ t. candidate_cost c l m a + cond t 0 (search_cost c l m rest)) e

cost_one : (c : ℕ → Bool) (l : Layout) (m : Memory) (a : ℕ) (rest : List ℕ) → candidate_cost c l m a ≤ search_cost c l m (a ∷ rest)
unfolding search_cost
cost_one c l m a rest = omega arith

pub going_on : {s0 s1 s2 : Seen} (c : ℕ → Bool) (l : Layout) (all : List ℕ) (a : ℕ) (rest : List ℕ) → Going c l all (a ∷ rest) s0 s1
    → Reading (candidate_cost c l (byte_at s1.pieces) a) s1 s2 (λ m. passes_in c l m a ≡ false) → Going c l all rest s0 s2
going_on {s0 = s0} {s1 = s1} c l all a rest g r =
    let same = ap (λ ps. candidate_cost c l (byte_at ps) a) g.reading.pieces in
    let fails : passes_in c l (byte_at s0.pieces) a ≡ false = subst (λ ps. passes_in c l (byte_at ps) a ≡ false) g.reading.pieces (reading_here r) in
    let costs = cost_failed c l (byte_at s0.pieces) a rest fails in
    let before = g.budget in
    record {
      spent = g.spent + candidate_cost c l (byte_at s1.pieces) a;
      reading = reading_then (λ m. find (passes_in c l m) all ≡ find (passes_in c l m) rest) g.reading r (λ m x y. x ∙ ap (λ t. cond t (Some a) (find (passes_in c l m) rest)) y);
      budget = omega (arith, same, costs, before);
    }

pub going_found : {s0 s1 s2 : Seen} (c : ℕ → Bool) (l : Layout) (all : List ℕ) (a : ℕ) (rest : List ℕ) → Going c l all (a ∷ rest) s0 s1
    → Reading (candidate_cost c l (byte_at s1.pieces) a) s1 s2 (λ m. passes_in c l m a ≡ true) → Seeking IsShort c l 0 (λ m. all) s0 s2 (Ok (Some a))
going_found {s0 = s0} {s1 = s1} c l all a rest g r =
    let same = ap (λ ps. candidate_cost c l (byte_at ps) a) g.reading.pieces in
    let costs = cost_one c l (byte_at s0.pieces) a rest in
    let before = g.budget in
    reads_within _ (reading_then (λ m. find (passes_in c l m) all ≡ Some a) g.reading r (λ m x y. x ∙ ap (λ t. cond t (Some a) (find (passes_in c l m) rest)) y)) (omega (arith, same, costs, before))

pub going_lost : {s0 s1 s2 : Seen} (c : ℕ → Bool) (l : Layout) (all : List ℕ) (a : ℕ) (rest : List ℕ) (e d : SearchError) → d ≡ e → Going c l all (a ∷ rest) s0 s1
    → Reading (candidate_cost c l (byte_at s1.pieces) a) s1 s2 (λ m. SearchIs (passes_in c l m a) (Err e)) → Seeking IsShort c l 0 (λ m. all) s0 s2 (Err d)
going_lost {s0 = s0} {s1 = s1} c l all a rest e d equal g r =
    let same = ap (λ ps. candidate_cost c l (byte_at ps) a) g.reading.pieces in
    let costs = cost_one c l (byte_at s0.pieces) a rest in
    let before = g.budget in
    reads_within _ (reading_then (λ m. SearchIs (find (passes_in c l m) all) (Err d)) g.reading r (λ m x y. rw equal (lost (passes_in c l m a) (find (passes_in c l m) all) e y))) (omega (arith, same, costs, before))

pub going_done : {s0 s1 : Seen} (c : ℕ → Bool) (l : Layout) (all rest : List ℕ) → rest ≡ [] → Going c l all rest s0 s1 → Seeking IsShort c l 0 (λ m. all) s0 s1 (Ok None)
going_done {s0 = s0} c l all rest none g =
    let before = g.budget in
    reading_gives _ _ g.reading (omega (arith, before)) (λ m x. x ∙ ap (find (passes_in c l m)) none)

-- ---- a list of at most one, which was read

one_list : (c : ℕ → Bool) (l : Layout) (m : Memory) (xs : List ℕ) (o : Option ℕ) (a : ℕ) → o ≡ Some a → xs ≡ option_to_list o → xs ≡ a ∷ []
one_list c l m xs o a is e = e ∙ ap option_to_list is

one_budget : {allowed : Memory → Span → Type 0} {s0 s1 : Seen} (c : ℕ → Bool) (l : Layout) (n : ℕ) (xs : Memory → List ℕ) (o : Option ℕ) (a : ℕ) → o ≡ Some a
    → ReadingOf allowed n s0 s1 (λ m. ListIs (xs m) (Ok o)) → candidate_cost c l (byte_at s1.pieces) a ≤ search_cost c l (byte_at s0.pieces) (xs (byte_at s0.pieces))
one_budget {s0 = s0} c l n xs o a is p =
    let list = one_list c l (byte_at s0.pieces) (xs (byte_at s0.pieces)) o a is (reading_here p) in
    let whole = ap (search_cost c l (byte_at s0.pieces)) list in
    let costs = cost_one c l (byte_at s0.pieces) a [] in
    let same = ap (λ ps. candidate_cost c l (byte_at ps) a) p.pieces in
    omega (arith, whole, costs, same)

pub one_found : {allowed : Memory → Span → Type 0} {s0 s1 s2 : Seen} (c : ℕ → Bool) (l : Layout) (n : ℕ) (xs : Memory → List ℕ) (o : Option ℕ) (a : ℕ) → o ≡ Some a
    → ReadingOf allowed n s0 s1 (λ m. ListIs (xs m) (Ok o)) → ReadingOf allowed (candidate_cost c l (byte_at s1.pieces) a) s1 s2 (λ m. passes_in c l m a ≡ true)
    → Seeking allowed c l n xs s0 s2 (Ok (Some a))
one_found c l n xs o a is p q =
    let budget = one_budget c l n xs o a is p in
    reads_within _ (reading_then (λ m. find (passes_in c l m) (xs m) ≡ Some a) p q
    (λ m x y. ap (find (passes_in c l m)) (one_list c l m (xs m) o a is x) ∙ ap (λ t. cond t (Some a) None) y)) (omega (arith, budget))

pub one_failed : {allowed : Memory → Span → Type 0} {s0 s1 s2 : Seen} (c : ℕ → Bool) (l : Layout) (n : ℕ) (xs : Memory → List ℕ) (o : Option ℕ) (a : ℕ) → o ≡ Some a
    → ReadingOf allowed n s0 s1 (λ m. ListIs (xs m) (Ok o)) → ReadingOf allowed (candidate_cost c l (byte_at s1.pieces) a) s1 s2 (λ m. passes_in c l m a ≡ false)
    → Seeking allowed c l n xs s0 s2 (Ok None)
one_failed c l n xs o a is p q =
    let budget = one_budget c l n xs o a is p in
    reads_within _ (reading_then (λ m. find (passes_in c l m) (xs m) ≡ None) p q
    (λ m x y. ap (find (passes_in c l m)) (one_list c l m (xs m) o a is x) ∙ ap (λ t. cond t (Some a) None) y)) (omega (arith, budget))

pub one_lost : {allowed : Memory → Span → Type 0} {s0 s1 s2 : Seen} (c : ℕ → Bool) (l : Layout) (n : ℕ) (xs : Memory → List ℕ) (o : Option ℕ) (a : ℕ) (e d : SearchError) → d ≡ e → o ≡ Some a
    → ReadingOf allowed n s0 s1 (λ m. ListIs (xs m) (Ok o)) → ReadingOf allowed (candidate_cost c l (byte_at s1.pieces) a) s1 s2 (λ m. SearchIs (passes_in c l m a) (Err e))
    → Seeking allowed c l n xs s0 s2 (Err d)
one_lost c l n xs o a e d same is p q =
    let budget = one_budget c l n xs o a is p in
    reads_within _ (reading_then (λ m. SearchIs (find (passes_in c l m) (xs m)) (Err d)) p q (λ m x y. rw same (lost (passes_in c l m a) (find (passes_in c l m) (xs m)) e y))) (omega (arith, budget))

-- ---- the words of a section

pub section_missing : (m : Memory) (addr size : ℕ) (e : ReadFault) (a n : ℕ) → e ≡ read.Unreadable a n → Answers {T = List ℕ} read_fault (record_at m addr size) (Err e) → section_words m addr size ≡ []
section_missing m addr size e a n is h =
    let lost : record_at m addr size ≡ Err (Missing a n) = subst (λ x. FaultIs (record_at m addr size) (read_fault x)) is h.is in
    ap words_in lost

pub section_then : {allowed : Memory → Span → Type 0} {s0 s1 s2 : Seen} (c : ℕ → Bool) (l : Layout) (addr size : ℕ) (bytes read : List ℕ) (r : Result (Option ℕ) SearchError) → read ≡ bytes
    → ReadingOf allowed 1 s0 s1 (λ m. Answers {E = ReadFault} read_fault (record_at m addr size) (Ok bytes)) → Seeking allowed c l 0 (λ m. words_of read) s1 s2 r
    → Seeking allowed c l 1 (λ m. section_words m addr size) s0 s2 r
section_then {s0 = s0} {s1 = s1} c l addr size bytes read r whole p q =
    let words : section_words (byte_at s0.pieces) addr size ≡ words_of read = ap words_in (reading_here p).is ∙ ap words_of (sym whole) in
    let costs = ap (search_cost c l (byte_at s0.pieces)) words in
    let same = ap (λ ps. search_cost c l (byte_at ps) (words_of read)) p.pieces in
    reads_within _ (reading_then (λ m. SearchIs (find (passes_in c l m) (section_words m addr size)) r) p q
    (λ m a b. subst (λ d. SearchIs (find (passes_in c l m) (words_in d)) r) (sym (a.is ∙ ap (λ x. Ok x) (sym whole))) b)) (omega (arith, costs, same))

-- ---- the answer

pub search_found : {s0 s1 : Seen} (c : ℕ → Bool) (k : Known) (v : Version) (l : Layout) (o : Option ℕ) (a : ℕ) → o ≡ Some a → Seeking (IsSearched k) c l 6 (candidates_of k v l) s0 s1 (Ok o)
    → Searching c k v l s0 s1 (λ m. FirstIs (interpreter_of c k v l m) (Ok a))
unfolding search_bound interpreter_of
search_found c k v l o a is p = reading_gives _ _ p (omega arith) (λ m e. e ∙ is)

pub search_failed : {s0 s1 : Seen} (c : ℕ → Bool) (k : Known) (v : Version) (l : Layout) (o : Option ℕ) → o ≡ None → Seeking (IsSearched k) c l 6 (candidates_of k v l) s0 s1 (Ok o)
    → Searching c k v l s0 s1 (λ m. FirstIs (interpreter_of c k v l m) (Err NotFound))
unfolding search_bound interpreter_of
search_failed c k v l o is p = reading_gives _ _ p (omega arith) (λ m e. e ∙ is)

first_lost : (o first : Option ℕ) (e : SearchError) → SearchIs o (Err e) → FirstIs first (Err e)
first_lost o first NotFound s = absurd s
first_lost o first OutOfMemory s = tt

pub search_lost : {s0 s1 : Seen} (c : ℕ → Bool) (k : Known) (v : Version) (l : Layout) (e d : SearchError) → d ≡ e → Seeking (IsSearched k) c l 6 (candidates_of k v l) s0 s1 (Err e)
    → Searching c k v l s0 s1 (λ m. FirstIs (interpreter_of c k v l m) (Err d))
unfolding search_bound interpreter_of
search_lost c k v l e d same p =
    reading_gives _ _ p (omega arith) (λ m h. rw same (first_lost (find (passes_in c l m) (candidates_of k v l m)) (find (passes_in c l m) (candidates_of k v l m)) e h))

-- ---- in the subject's own words

first_of : (c : ℕ → Bool) (l : Layout) (m : Memory) (xs : List ℕ) (a : ℕ) → find (passes_in c l m) xs ≡ Some a → IsFirstOf c l m xs a
first_of c l m [] a e = absurd (cc)
first_of c l m (x ∷ xs) a e = by (passes_in c l m x) refl e (λ h. first_of c l m xs a h)
  where
    by : (t : Bool) → passes_in c l m x ≡ t → cond t (Some x) (find (passes_in c l m) xs) ≡ Some a → (find (passes_in c l m) xs ≡ Some a → IsFirstOf c l m xs a) → IsFirstOf c l m (x ∷ xs) a
    by true is e f =
        let same : x ≡ a = cc in
        record { before = []; after = xs; parts = ap (λ y. y ∷ xs) same; is = is_one c l m a (sym (ap (passes_in c l m) same) ∙ is); none_before = All-nil (λ b. ¬ IsInterpreterIn c l m b) }
    by false is e f =
        let h = f e in
        record {
          before = x ∷ h.before;
          after = h.after;
          parts = ap (λ l. x ∷ l) h.parts;
          is = h.is;
          none_before = All-cons (λ b. ¬ IsInterpreterIn c l m b) x h.before (not_one c l m x is) h.none_before;
        }

none_of : (c : ℕ → Bool) (l : Layout) (m : Memory) (xs : List ℕ) → find (passes_in c l m) xs ≡ None → IsNoneOf c l m xs
none_of c l m [] e = All-nil (λ b. ¬ IsInterpreterIn c l m b)
none_of c l m (x ∷ xs) e = by (passes_in c l m x) refl e (λ h. none_of c l m xs h)
  where
    by : (t : Bool) → passes_in c l m x ≡ t → cond t (Some x) (find (passes_in c l m) xs) ≡ None → (find (passes_in c l m) xs ≡ None → IsNoneOf c l m xs) → IsNoneOf c l m (x ∷ xs)
    by true is e f = absurd (cc)
    by false is e f = All-cons (λ b. ¬ IsInterpreterIn c l m b) x xs (not_one c l m x is) (f e)

some_of : (c : ℕ → Bool) (l : Layout) (m : Memory) (xs : List ℕ) (a : ℕ) → find (passes_in c l m) xs ≡ Some a → ¬ IsNoneOf c l m xs
some_of c l m [] a e none = absurd (cc)
some_of c l m (x ∷ xs) a e none = by (passes_in c l m x) refl e (λ h. some_of c l m xs a h (All-tail (λ b. ¬ IsInterpreterIn c l m b) x xs none))
  where
    by : (t : Bool) → passes_in c l m x ≡ t → cond t (Some x) (find (passes_in c l m) xs) ≡ Some a → (find (passes_in c l m) xs ≡ Some a → ⊥) → ⊥
    by true is e f = All-head (λ b. ¬ IsInterpreterIn c l m b) x xs none (is_one c l m x is)
    by false is e f = f e

pub first_found : (c : ℕ → Bool) (k : Known) (v : Version) (l : Layout) (m : Memory) (r : Result ℕ SearchError) → FirstIs (interpreter_of c k v l m) r → IfOk r (IsFirstOf c l m (candidates_of k v l m))
unfolding interpreter_of
first_found c k v l m (Ok a) e = first_of c l m (candidates_of k v l m) a e
first_found c k v l m (Err x) e = tt

pub not_found : (c : ℕ → Bool) (k : Known) (v : Version) (l : Layout) (m : Memory) (r : Result ℕ SearchError) → FirstIs (interpreter_of c k v l m) r → NotFoundWhere (IsNoneOf c l m (candidates_of k v l m)) r
unfolding interpreter_of
not_found c k v l m (Ok a) e = some_of c l m (candidates_of k v l m) a e
not_found c k v l m (Err NotFound) e = none_of c l m (candidates_of k v l m) e
not_found c k v l m (Err OutOfMemory) e = tt
