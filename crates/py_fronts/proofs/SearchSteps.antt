-- The search, one address after another, and its budget.
use Rattle.std.proofs.Common.{◌≡◌, ℕ, ◌+◌, ◌-◌, ◌*◌, ◌<◌, ◌≤◌, ◌^◌, Bool, true, false, List, [], ◌∷◌}
use Rattle.std.proofs.Common.{◌++◌, length, refl, sym, subst, ◌∙◌, ap, arith, length-append}
use Rattle.std.specs.Prelude.{◌≢◌, min, nat_eq, nat_lt, Option, Some, None, Ok, Err, Result, if◌then◌else◌, option_map}
use Rattle.std.proofs.lemmas.Bool.Decides.{nat_tests}
use Rattle.process_memory.specs.Memory.{Memory, byte_at}
use Rattle.process_memory.specs.Seen.{Reading, Seen}
use Rattle.process_memory.proofs.Reading.{reading_gives, reading_here, reading_none, reading_then}
use Rattle.py_fields.specs.declared.layout.Layout.{Layout}
use Rattle.py_stacks.specs.Threads.{thread_limit}
use Rattle.py_stacks.specs.declared.error.StackError.{StackError}
use Rattle.py_stacks.specs.declared.error.StackError.TheVariants as stack
use Rattle.py_fronts.specs.declared.search.Searching.{Searching}
use Rattle.py_process.specs.Facts.{facts_of}
use Rattle.py_process.specs.declared.binary.BinaryInfo.{BinaryInfo}
use Rattle.py_fronts.specs.Candidates.{bss_count, bss_of_image, runtime_count, runtime_of_image, section_count}
use Rattle.py_fronts.specs.Candidates.{section_there, words_there}
use Rattle.py_fronts.specs.Front.{Ending}
use Rattle.py_fronts.specs.Interpreters.{Finds, Looks, Search, Tried, Walked, after_looks, chain_length, headed_at}
use Rattle.py_fronts.specs.Interpreters.{is_found, look_at, look_within, looks_reads, search_limit, search_of}
use Rattle.py_fronts.specs.Interpreters.{shown_head, shown_where, try_at, walked_by, walked_for, walked_of, whole_head}
use Rattle.py_fronts.specs.Interpreters.{with_head, with_one, words_reads}
use Rattle.py_fronts.proofs.HeadSteps.{walked}
use Rattle.py_fronts.specs.ThreadFronts.{thread_of, threads_front}
use Rattle.py_fronts.proofs.FrontLaws.{front_found}
use Rattle.py_fronts.proofs.SectionSteps.{words_few, words_none, words_split}

-- ---- the members that are walked

pub looks_append : (c : ℕ → Bool) (l : Layout) (m : Memory) (s : Search) (xs ys : List ℕ)
    → after_looks c l m s (xs ++ ys) ≡ after_looks c l m (after_looks c l m s xs) ys
unfolding after_looks
looks_append c l m s [] ys = refl
looks_append c l m s (x ∷ xs) ys = looks_append c l m (look_within c l m s x) xs ys

pub looks_none : (c : ℕ → Bool) (l : Layout) (m : Memory) (s : Search) → after_looks c l m s [] ≡ s
unfolding after_looks
looks_none c l m s = refl

pub looks_one : (c : ℕ → Bool) (l : Layout) (m : Memory) (s : Search) (a : ℕ)
    → after_looks c l m s (a ∷ []) ≡ look_within c l m s a
unfolding after_looks
looks_one c l m s a = refl

within_more : (s : Search) (b : Bool) (walked : ℕ) (next : Search) → next.members ≡ s.members + walked
    → s.members ≤ (if b then next else s).members
within_more s true walked next e = omega arith
within_more s false walked next e = omega arith

one_more : (c : ℕ → Bool) (l : Layout) (m : Memory) (s : Search) (a : ℕ)
    → s.members ≤ (look_within c l m s a).members
one_more c l m s a =
    within_more s (nat_lt s.members search_limit) (walked_for c l m s.finds.found a) (look_at c l m s a) refl

pub looks_more : (c : ℕ → Bool) (l : Layout) (m : Memory) (s : Search) (xs : List ℕ)
    → s.members ≤ (after_looks c l m s xs).members
unfolding after_looks
looks_more c l m s [] = omega arith
looks_more c l m s (x ∷ xs) = omega (arith, one_more c l m s x, looks_more c l m (look_within c l m s x) xs)

-- behind the budget nothing is looked at
spent_one : (c : ℕ → Bool) (l : Layout) (m : Memory) (s : Search) (a : ℕ) → search_limit ≤ s.members
    → look_within c l m s a ≡ s
spent_one c l m s a spent =
    let past : nat_lt s.members search_limit ≡ false = grind (arith, nat_tests) in
    rw past refl

pub looks_spent : (c : ℕ → Bool) (l : Layout) (m : Memory) (s : Search) (xs : List ℕ) → search_limit ≤ s.members
    → after_looks c l m s xs ≡ s
unfolding after_looks
looks_spent c l m s [] spent = refl
looks_spent c l m s (x ∷ xs) spent =
    let one = spent_one c l m s x spent in
    ap (λ t. after_looks c l m t xs) one ∙ looks_spent c l m s xs spent

pub walked_append : (c : ℕ → Bool) (l : Layout) (m : Memory) (s : Search) (xs ys : List ℕ)
    → walked_by c l m s (xs ++ ys) ≡ walked_by c l m s xs + walked_by c l m (after_looks c l m s xs) ys
walked_append c l m s xs ys =
    omega (
      arith,
      ap (λ (t : Search). t.members) (looks_append c l m s xs ys),
      looks_more c l m s xs,
      looks_more c l m (after_looks c l m s xs) ys,
    )

-- a chain of threads has no more than are met
pub chain_few : (l : Layout) (m : Memory) (a : ℕ) (head : Option ℕ) → chain_length l m a head ≤ thread_limit
chain_few l m a None = omega arith
chain_few l m a (Some head) = (front_found (thread_of l a m) thread_limit head).within

found_few : (known : Bool) (n : ℕ) → n ≤ thread_limit → (if known then 0 else n) ≤ thread_limit
found_few true n few = omega arith
found_few false n few = few

one_few : (s : Search) (b : Bool) (next : Search) (walked : ℕ) → nat_lt s.members search_limit ≡ b
    → next.members ≡ s.members + walked → walked ≤ thread_limit → s.members < search_limit + thread_limit
    → (if b then next else s).members < search_limit + thread_limit
one_few s true next walked e is few start =
    let below : s.members < search_limit = grind (arith, nat_tests) in
    omega (arith, is, few, below)
one_few s false next walked e is few start = start

pub looks_few : (c : ℕ → Bool) (l : Layout) (m : Memory) (s : Search) (xs : List ℕ)
    → s.members < search_limit + thread_limit → (after_looks c l m s xs).members < search_limit + thread_limit
unfolding after_looks
looks_few c l m s [] few = few
looks_few c l m s (x ∷ xs) few =
    looks_few c l m (look_within c l m s x) xs
    (one_few s (nat_lt s.members search_limit) (look_at c l m s x) (walked_for c l m s.finds.found x) refl refl
    (found_few (is_found s.finds.found x) (chain_length l m x (headed_at c l m x))
    (chain_few l m x (headed_at c l m x))) few)

-- ---- one after another

pub looks_same : (wanted other : Search) (new : Searching) (result : Result (Unit {0}) StackError) → wanted ≡ other
    → Looks wanted new result → Looks other new result
looks_same wanted other new (Ok u) e h = h ∙ e
looks_same wanted other new (Err f) e h = h

module _ (c : ℕ → Bool) (l : Layout) (start : Search) (xs ys : Memory → List ℕ) where
  pub searched_then : {s0 s1 s2 : Seen} (n k : ℕ) (one two : Searching) (result : Result (Unit {0}) StackError) (t : ℕ)
      → Reading (n + walked_by c l (byte_at s0.pieces) start (xs (byte_at s0.pieces))) s0 s1
      (λ m. search_of one ≡ after_looks c l m start (xs m))
      → Reading (k + walked_by c l (byte_at s1.pieces) (search_of one) (ys (byte_at s1.pieces))) s1 s2
      (λ m. Looks (after_looks c l m (search_of one) (ys m)) two result) → n + k ≤ t
      → Reading (t + walked_by c l (byte_at s0.pieces) start (xs (byte_at s0.pieces) ++ ys (byte_at s0.pieces))) s0 s2
      (λ m. Looks (after_looks c l m start (xs m ++ ys m)) two result)
  searched_then {s0} {s1} {s2} n k one two result t p q le =
      let here = byte_at s0.pieces in
      reading_gives _ _
      (reading_then (λ m. Looks (after_looks c l m start (xs m ++ ys m)) two result) p q
      (λ m a b. looks_same (after_looks c l m (search_of one) (ys m)) (after_looks c l m start (xs m ++ ys m)) two
      result (ap (λ s. after_looks c l m s (ys m)) a ∙ sym (looks_append c l m start (xs m) (ys m))) b))
      (omega (
        arith,
        ap (λ ps. walked_by c l (byte_at ps) (search_of one) (ys (byte_at ps))) p.pieces,
        ap (λ s. walked_by c l here s (ys here)) (reading_here p),
        walked_append c l here start (xs here) (ys here),
        le,
      )) (λ m h. h)

  -- where memory was wanting at the first
  pub searched_first : {s0 s1 : Seen} (n t : ℕ) (e f : StackError)
      → Reading (n + walked_by c l (byte_at s0.pieces) start (xs (byte_at s0.pieces))) s0 s1
      (λ m. f ≡ stack.OutOfMemory) → e ≡ f → n ≤ t
      → Reading (t + walked_by c l (byte_at s0.pieces) start (xs (byte_at s0.pieces) ++ ys (byte_at s0.pieces))) s0 s1
      (λ m. e ≡ stack.OutOfMemory)
  searched_first {s0} {s1} n t e f p same le =
      reading_gives _ _ p
      (omega (arith, walked_append c l (byte_at s0.pieces) start (xs (byte_at s0.pieces)) (ys (byte_at s0.pieces)), le))
      (λ m h. same ∙ h)

-- ---- some addresses

-- those that were looked at so far
pub record Looking_at (c : ℕ → Bool) (l : Layout) (start : Search) (s0 s1 : Seen) (taken : List ℕ)
    (search : Searching) : Type 0 where
  pub reading : Reading (looks_reads c l (byte_at s0.pieces) start taken) s0 s1
      (λ m. search_of search ≡ after_looks c l m start taken)

pub looking_init : (c : ℕ → Bool) (l : Layout) (search : Searching) (s : Seen)
    → Looking_at c l (search_of search) s s [] search
looking_init c l search s =
    record { reading = reading_none _ s _ (λ m. sym (looks_none c l m (search_of search))) }

module _ {c : ℕ → Bool} {l : Layout} {start : Search} {s0 s1 : Seen} {taken : List ℕ} {search : Searching} where
  pub looking_more : {s2 : Seen} (new : Searching) (a : ℕ) → Looking_at c l start s0 s1 taken search
      → Reading (looks_reads c l (byte_at s1.pieces) (search_of search) (a ∷ [])) s1 s2
      (λ m. search_of new ≡ look_within c l m (search_of search) a)
      → Looking_at c l start s0 s2 (taken ++ a ∷ []) new
  looking_more {s2} new a w r = record {
    reading = reading_gives _ _
        (searched_then c l start (λ m. taken) (λ m. a ∷ []) (3 * length taken) 3 search new (Ok tt) (3 * length taken + 3) w.reading
        (reading_gives _ _ r (omega arith) (λ m e. e ∙ sym (looks_one c l m (search_of search) a))) (omega arith))
        (omega (arith, length-append taken (a ∷ []))) (λ m h. h);
  }

  pub looking_lost : {s2 : Seen} (e f : StackError) (a : ℕ) (rest all : List ℕ)
      → Looking_at c l start s0 s1 taken search → all ≡ (taken ++ a ∷ []) ++ rest
      → Reading (looks_reads c l (byte_at s1.pieces) (search_of search) (a ∷ [])) s1 s2 (λ m. f ≡ stack.OutOfMemory)
      → e ≡ f → Reading (looks_reads c l (byte_at s0.pieces) start all) s0 s2 (λ m. e ≡ stack.OutOfMemory)
  looking_lost {s2} e f a rest all w parts r same =
      let here = byte_at s0.pieces in
      reading_gives _ _
      (searched_then c l start (λ m. taken) (λ m. a ∷ []) (3 * length taken) 3 search search (Err e) (3 * length taken + 3) w.reading
      (reading_gives _ _ r (omega arith) (λ m h. same ∙ h)) (omega arith))
      (omega (
        arith,
        walked_append c l here start (taken ++ a ∷ []) rest,
        ap (walked_by c l here start) parts,
        ap length parts,
        length-append (taken ++ a ∷ []) rest,
        length-append taken (a ∷ []),
      )) (λ m h. h)

  pub looking_done : (all : List ℕ) → Looking_at c l start s0 s1 taken search → taken ≡ all
      → Reading (looks_reads c l (byte_at s0.pieces) start all) s0 s1
      (λ m. search_of search ≡ after_looks c l m start all)
  looking_done all w e =
      subst (λ xs. Reading (looks_reads c l (byte_at s0.pieces) start xs) s0 s1
      (λ m. search_of search ≡ after_looks c l m start xs)) e w.reading

-- ---- the words of a section

-- a piece of its words, and the addresses in them
pub piece_looked : {s0 s1 s2 : Seen} (c : ℕ → Bool) (l : Layout) (old new : Searching) (at count : ℕ)
    (words read : List ℕ) (result : Result (Unit {0}) StackError) → 0 < count
    → Reading (1 + count) s0 s1 (λ m. words ≡ words_there m at count) → read ≡ words
    → Reading (looks_reads c l (byte_at s1.pieces) (search_of old) read) s1 s2
    (λ m. Looks (after_looks c l m (search_of old) read) new result)
    → Reading (words_reads c l (byte_at s0.pieces) (search_of old) at count) s0 s2
    (λ m. Looks (after_looks c l m (search_of old) (words_there m at count)) new result)
piece_looked {s0 = s0} c l old new at count words read result some p same q =
    let here = byte_at s0.pieces in
    let is : read ≡ words_there here at count = same ∙ reading_here p in
    reading_gives _ _
    (reading_then (λ m. Looks (after_looks c l m (search_of old) (words_there m at count)) new result) p q
    (λ m a b. looks_same (after_looks c l m (search_of old) read)
    (after_looks c l m (search_of old) (words_there m at count)) new result
    (ap (after_looks c l m (search_of old)) (same ∙ a)) b))
    (omega (
      arith,
      ap (λ ps. walked_by c l (byte_at ps) (search_of old) read) p.pieces,
      ap (walked_by c l here (search_of old)) is,
      ap length is,
      words_few here at count,
    )) (λ m h. h)

-- where it can't be kept
pub piece_lost : {s0 s1 : Seen} (c : ℕ → Bool) (l : Layout) (old : Search) (at count : ℕ) (e f : StackError)
    → 0 < count → Reading (1 + count) s0 s1 (λ m. f ≡ stack.OutOfMemory) → e ≡ f
    → Reading (words_reads c l (byte_at s0.pieces) old at count) s0 s1 (λ m. e ≡ stack.OutOfMemory)
piece_lost c l old at count e f some p same = reading_gives _ _ p (omega arith) (λ m h. same ∙ h)

-- the words that were looked at so far
pub record Passing_words (c : ℕ → Bool) (l : Layout) (start : Search) (at count : ℕ) (s0 s1 : Seen) (done : ℕ)
    (search : Searching) : Type 0 where
  pub within : done ≤ count
  pub reading : Reading (words_reads c l (byte_at s0.pieces) start at done) s0 s1
      (λ m. search_of search ≡ after_looks c l m start (words_there m at done))

pub words_init : (c : ℕ → Bool) (l : Layout) (search : Searching) (at count : ℕ) (s : Seen)
    → Passing_words c l (search_of search) at count s s 0 search
words_init c l search at count s = record {
  within = omega arith;
  reading = reading_none _ s _ (λ m. sym (looks_none c l m (search_of search))
      ∙ ap (after_looks c l m (search_of search)) (sym (words_none m at)));
}

-- fewer words are walked for no more members
words_less : (c : ℕ → Bool) (l : Layout) (here : Memory) (start : Search) (at n k : ℕ)
    → walked_by c l here start (words_there here at n) ≤ walked_by c l here start (words_there here at (n + k))
words_less c l here start at n k =
    omega (
      arith,
      walked_append c l here start (words_there here at n) (words_there here (at + 8 * n) k),
      ap (walked_by c l here start) (words_split here at n k),
    )

module _ {c : ℕ → Bool} {l : Layout} {start : Search} {at count : ℕ} {s0 s1 : Seen} {done : ℕ} {search : Searching} where
  words_next : {s2 : Seen} (new : Searching) (piece : ℕ) (result : Result (Unit {0}) StackError)
      → Passing_words c l start at count s0 s1 done search
      → Reading (words_reads c l (byte_at s1.pieces) (search_of search) (at + 8 * done) piece) s1 s2
      (λ m. Looks (after_looks c l m (search_of search) (words_there m (at + 8 * done) piece)) new result)
      → Reading (words_reads c l (byte_at s0.pieces) start at (done + piece)) s0 s2
      (λ m. Looks (after_looks c l m start (words_there m at (done + piece))) new result)
  words_next {s2} new piece result w r =
      let here = byte_at s0.pieces in
      reading_gives _ _
      (searched_then c l start (λ m. words_there m at done) (λ m. words_there m (at + 8 * done) piece) (5 * done) (5 * piece) search new result (5 * (done + piece))
      w.reading r (omega arith))
      (omega (arith, ap (walked_by c l here start) (words_split here at done piece)))
      (λ m h. looks_same _ _ new result (ap (after_looks c l m start) (sym (words_split m at done piece))) h)

  pub words_more : {s2 : Seen} (new : Searching) (piece : ℕ) → Passing_words c l start at count s0 s1 done search
      → done + piece ≤ count
      → Reading (words_reads c l (byte_at s1.pieces) (search_of search) (at + 8 * done) piece) s1 s2
      (λ m. search_of new ≡ after_looks c l m (search_of search) (words_there m (at + 8 * done) piece))
      → Passing_words c l start at count s0 s2 (done + piece) new
  words_more {s2} new piece w le r = record { within = le; reading = words_next new piece (Ok tt) w r }

  pub words_lost : {s2 : Seen} (e f : StackError) (piece : ℕ) → Passing_words c l start at count s0 s1 done search
      → done + piece ≤ count
      → Reading (words_reads c l (byte_at s1.pieces) (search_of search) (at + 8 * done) piece) s1 s2
      (λ m. f ≡ stack.OutOfMemory) → e ≡ f
      → Reading (words_reads c l (byte_at s0.pieces) start at count) s0 s2 (λ m. e ≡ stack.OutOfMemory)
  words_lost {s2} e f piece w le r same =
      let here = byte_at s0.pieces in
      let left = count - (done + piece) in
      let all : count ≡ (done + piece) + left = omega arith in
      reading_gives _ _
      (words_next search piece (Err e) w (reading_gives _ _ r (omega arith) (λ m h. same ∙ h)))
      (omega (
        arith,
        words_less c l here start at (done + piece) left,
        ap (λ n. walked_by c l here start (words_there here at n)) all,
      )) (λ m h. h)

  pub words_done : Passing_words c l start at count s0 s1 done search → count ≤ done
      → Reading (words_reads c l (byte_at s0.pieces) start at count) s0 s1
      (λ m. search_of search ≡ after_looks c l m start (words_there m at count))
  words_done w all =
      let e : done ≡ count = omega (arith, w.within) in
      subst (λ n. Reading (words_reads c l (byte_at s0.pieces) start at n) s0 s1
      (λ m. search_of search ≡ after_looks c l m start (words_there m at n))) e w.reading

  -- behind the budget
  pub words_spent : Passing_words c l start at count s0 s1 done search
      → search_limit ≤ search.members → Reading (words_reads c l (byte_at s0.pieces) start at count) s0 s1
      (λ m. search_of search ≡ after_looks c l m start (words_there m at count))
  words_spent w spent =
      let le = w.within in
      let here = byte_at s0.pieces in
      let left = count - done in
      let all : count ≡ done + left = omega arith in
      reading_gives _ _ w.reading
      (omega (arith, words_less c l here start at done left, ap (λ n. walked_by c l here start (words_there here at n)) all))
      (λ m h.
      sym (looks_spent c l m (search_of search) (words_there m (at + 8 * done) left) spent)
      ∙ ap (λ s. after_looks c l m s (words_there m (at + 8 * done) left)) h
      ∙ sym (looks_append c l m start (words_there m at done) (words_there m (at + 8 * done) left))
      ∙ ap (after_looks c l m start) (sym (words_split m at done left))
      ∙ ap (λ n. after_looks c l m start (words_there m at n)) (sym all))

-- ---- one address

tried_by : Layout → Memory → ℕ → Option ℕ → Tried
tried_by l m a head = record { head = shown_where true l m a head; members = chain_length l m a head }

try_is : (c : ℕ → Bool) (l : Layout) (m : Memory) (a : ℕ) → try_at c l m a ≡ tried_by l m a (headed_at c l m a)
unfolding shown_head tried_by
try_is c l m a = refl

abbrev pub tried : Option ℕ → ℕ → Tried
tried head members = record { head = head; members = members }

-- one that is no interpreter's
pub tried_none : (c : ℕ → Bool) (l : Layout) (m : Memory) (a : ℕ) (found : Option ℕ) → found ≡ None
    → found ≡ headed_at c l m a → tried None 0 ≡ try_at c l m a
unfolding tried_by
tried_none c l m a found none is =
    let nothing : None ≡ headed_at c l m a = sym none ∙ is in
    ap (tried_by l m a) nothing ∙ sym (try_is c l m a)

-- one that is, by the walk of its chain
pub tried_some : (c : ℕ → Bool) (l : Layout) (m : Memory) (a head members : ℕ) (found result : Option ℕ)
    (ending : Ending) → found ≡ Some head → found ≡ headed_at c l m a
    → walked members ending ≡ walked_of (threads_front l a m head) → result ≡ whole_head ending head
    → tried result members ≡ try_at c l m a
unfolding tried_by
tried_some c l m a head members found result ending some is walk e =
    let there : Some head ≡ headed_at c l m a = sym some ∙ is in
    ap (λ h. tried h members) e
    ∙ ap (λ (w : Walked). tried (whole_head w.ending head) w.members) walk
    ∙ ap (tried_by l m a) there ∙ sym (try_is c l m a)

pub tried_cost : (c : ℕ → Bool) (l : Layout) (m : Memory) (a head : ℕ) (found : Option ℕ) → found ≡ Some head
    → found ≡ headed_at c l m a
    → chain_length l m a (headed_at c l m a) ≡ length (threads_front l a m head).members
tried_cost c l m a head found some is = ap (chain_length l m a) (sym is ∙ some)

-- one that was found before
pub looked_found : (c : ℕ → Bool) (l : Layout) (m : Memory) (s : Search) (a addresses : ℕ) (known : Bool)
    → known ≡ is_found s.finds.found a → known ≡ true → addresses ≡ min (s.addresses + 1) (2 ^ 64 - 1)
    → ◌≡◌ {A = Search} (record { finds = s.finds; addresses = addresses; members = s.members }) (look_at c l m s a)
looked_found c l m s a addresses known is holds more =
    let there : is_found s.finds.found a ≡ true = sym is ∙ holds in
    let all : s.members ≡ s.members + 0 = omega arith in
    rw there (ap (λ n. record { finds = s.finds; addresses = n; members = s.members }) more
    ∙ ap (λ n. record { finds = s.finds; addresses = min (s.addresses + 1) (2 ^ 64 - 1); members = n }) all)

abbrev with_trial : Search → ℕ → ℕ → Tried → Search
with_trial s a addresses t = record {
  finds = with_head s.finds true a t.head;
  addresses = addresses;
  members = s.members + t.members;
}

-- one that was not
pub looked_new : (c : ℕ → Bool) (l : Layout) (m : Memory) (s : Search) (a addresses : ℕ) (known : Bool) (t : Tried)
    (new : Finds) → known ≡ is_found s.finds.found a → known ≡ false
    → addresses ≡ min (s.addresses + 1) (2 ^ 64 - 1) → t ≡ try_at c l m a → new ≡ with_head s.finds true a t.head
    → ◌≡◌ {A = Search} (record { finds = new; addresses = addresses; members = s.members + t.members })
    (look_at c l m s a)
looked_new c l m s a addresses known t new is fails more e h =
    let fresh : is_found s.finds.found a ≡ false = sym is ∙ fails in
    rw fresh (ap (λ r. record { finds = r; addresses = addresses; members = s.members + t.members }) h
    ∙ ap (λ n. with_trial s a n t) more ∙ ap (with_trial s a (min (s.addresses + 1) (2 ^ 64 - 1))) e)

pub no_head : (r : Finds) (a : ℕ) (head : Option ℕ) → head ≡ None → r ≡ with_head r true a head
no_head r a head e = rw e refl

pub new_head : (r new : Finds) (a h : ℕ) (head : Option ℕ) → head ≡ Some h
    → new ≡ with_one r (record { address = a; head = h; searched = true }) → new ≡ with_head r true a head
new_head r new a h head e is = rw e is

pub look_cost : (c : ℕ → Bool) (l : Layout) (m : Memory) (s : Search) (a : ℕ) (known : Bool)
    → known ≡ is_found s.finds.found a → known ≡ false
    → walked_for c l m s.finds.found a ≡ chain_length l m a (headed_at c l m a)
look_cost c l m s a known is fails =
    let fresh : is_found s.finds.found a ≡ false = sym is ∙ fails in
    rw fresh refl

-- within the budget, and behind it
pub within_is : (c : ℕ → Bool) (l : Layout) (m : Memory) (s : Search) (a : ℕ) → s.members < search_limit
    → look_at c l m s a ≡ look_within c l m s a
within_is c l m s a below =
    let yes_it : nat_lt s.members search_limit ≡ true = grind (arith, nat_tests) in
    rw yes_it refl

pub within_spent : (c : ℕ → Bool) (l : Layout) (m : Memory) (s : Search) (a : ℕ) → search_limit ≤ s.members
    → s ≡ look_within c l m s a
within_spent c l m s a spent = sym (spent_one c l m s a spent)

pub within_reads : (c : ℕ → Bool) (l : Layout) (m : Memory) (s : Search) (a : ℕ) → s.members < search_limit
    → 3 + walked_for c l m s.finds.found a ≤ looks_reads c l m s (a ∷ [])
within_reads c l m s a below =
    omega (
      arith,
      ap (λ (t : Search). t.members) (within_is c l m s a below),
      ap (λ (t : Search). t.members) (looks_one c l m s a),
    )

-- ---- the sections of images

pub runtime_none : (m : Memory) (binary : Option BinaryInfo) → binary ≡ None
    → runtime_of_image m (option_map facts_of binary) ≡ []
runtime_none m binary e = rw e refl

if_zero : (addr : ℕ) (words : List ℕ) → addr ≡ 0 → (if nat_eq addr 0 then [] else words) ≡ []
if_zero addr words e = rw e refl

if_some : (addr : ℕ) (words : List ℕ) → addr ≢ 0 → (if nat_eq addr 0 then [] else words) ≡ words
if_some addr words some = let no_it : nat_eq addr 0 ≡ false = grind (arith, nat_tests) in rw no_it refl

pub runtime_zero : (m : Memory) (binary : Option BinaryInfo) (info : BinaryInfo) → binary ≡ Some info
    → info.pyruntime_addr ≡ 0 → runtime_of_image m (option_map facts_of binary) ≡ []
runtime_zero m binary info e none =
    rw e (if_zero info.pyruntime_addr (section_there m info.pyruntime_addr info.pyruntime_size) none)

pub runtime_is : (m : Memory) (binary : Option BinaryInfo) (info : BinaryInfo) → binary ≡ Some info
    → info.pyruntime_addr ≢ 0
    → runtime_of_image m (option_map facts_of binary) ≡ section_there m info.pyruntime_addr info.pyruntime_size
runtime_is m binary info e some =
    rw e (if_some info.pyruntime_addr (section_there m info.pyruntime_addr info.pyruntime_size) some)

pub runtime_count_is : (binary : Option BinaryInfo) (info : BinaryInfo) → binary ≡ Some info
    → runtime_count (option_map facts_of binary) ≡ section_count info.pyruntime_size
runtime_count_is binary info e = rw e refl

pub bss_none : (m : Memory) (binary : Option BinaryInfo) → binary ≡ None
    → bss_of_image m (option_map facts_of binary) ≡ []
bss_none m binary e = rw e refl

pub bss_is : (m : Memory) (binary : Option BinaryInfo) (info : BinaryInfo) → binary ≡ Some info
    → bss_of_image m (option_map facts_of binary) ≡ section_there m info.bss_addr info.bss_size
bss_is m binary info e = rw e refl

pub bss_count_is : (binary : Option BinaryInfo) (info : BinaryInfo) → binary ≡ Some info
    → bss_count (option_map facts_of binary) ≡ section_count info.bss_size
bss_count_is binary info e = rw e refl

-- nothing is looked at
pub nothing_looked : (c : ℕ → Bool) (l : Layout) (k : ℕ) (s : Seen) (search : Searching)
    (xs : Memory → List ℕ) → ((m : Memory) → xs m ≡ [])
    → Reading k s s (λ m. search_of search ≡ after_looks c l m (search_of search) (xs m))
nothing_looked c l k s search xs none =
    reading_none k s _ (λ m. sym (looks_none c l m (search_of search))
    ∙ ap (after_looks c l m (search_of search)) (sym (none m)))

-- a section's words are those of the image
pub section_looked : {s0 s1 : Seen} (c : ℕ → Bool) (l : Layout) (old new : Searching) (addr size n : ℕ)
    (xs : Memory → List ℕ) (result : Result (Unit {0}) StackError)
    → Reading (words_reads c l (byte_at s0.pieces) (search_of old) addr (section_count size)) s0 s1
    (λ m. Looks (after_looks c l m (search_of old) (section_there m addr size)) new result)
    → ((m : Memory) → xs m ≡ section_there m addr size) → n ≡ section_count size
    → Reading (5 * n + walked_by c l (byte_at s0.pieces) (search_of old) (xs (byte_at s0.pieces))) s0 s1
    (λ m. Looks (after_looks c l m (search_of old) (xs m)) new result)
section_looked {s0 = s0} c l old new addr size n xs result p same count =
    let here = byte_at s0.pieces in
    reading_gives _ _ p
    (omega (arith, ap (walked_by c l here (search_of old)) (same here), count))
    (λ m h. looks_same _ _ new result (ap (after_looks c l m (search_of old)) (sym (same m))) h)
