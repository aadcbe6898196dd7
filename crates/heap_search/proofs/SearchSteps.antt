-- The search, one address after another, and its budget.
use Rattle.std.proofs.Common.{◌≡◌, ℕ, ◌+◌, ◌-◌, ◌*◌, ◌<◌, ◌≤◌, ◌^◌, Bool, true, false, List, [], ◌∷◌}
use Rattle.std.proofs.Common.{◌++◌, length, refl, sym, subst, ◌∙◌, ap, arith, length-append}
use Rattle.std.specs.Prelude.{min, nat_lt, Option, Some, None, Ok, Err, Result, if◌then◌else◌}
use Rattle.std.proofs.lemmas.Bool.Decides.{nat_tests}
use Rattle.process_memory.specs.Memory.{Memory, byte_at}
use Rattle.process_memory.specs.Seen.{Reading, Seen}
use Rattle.process_memory.proofs.Reading.{reading_gives, reading_here, reading_none, reading_then}
use Rattle.py_fields.specs.declared.layout.Layout.{Layout}
use Rattle.py_stacks.specs.declared.error.StackError.{StackError}
use Rattle.py_stacks.specs.declared.error.StackError.TheVariants as stack
use Rattle.image_memory.specs.declared.maps.CoreMapRange.{CoreMapRange}
use Rattle.py_fronts.specs.Candidates.{words_there}
use Rattle.py_fronts.specs.declared.interpreters.FoundInterpreter.{FoundInterpreter}
use Rattle.py_fronts.specs.Interpreters.{Finds, Search, Tried, chain_length, headed_at, is_found, search_limit}
use Rattle.py_fronts.specs.Interpreters.{shown_head, shown_where, try_at, walked_for, with_head, with_one}
use Rattle.py_fronts.specs.ThreadFronts.{threads_front}
use Rattle.py_fronts.proofs.FindLaws.{whole_by}
use Rattle.py_fronts.proofs.SectionSteps.{words_few}
use Rattle.heap_search.specs.declared.pieces.HeapPiece.{HeapPiece}
use Rattle.heap_search.specs.declared.search.HeapSearch.{HeapSearch}
use Rattle.heap_search.specs.Known.{has_known}
use Rattle.heap_search.specs.Pieces.{heap_pieces, piece_there, pieces_there, words_in}
use Rattle.heap_search.specs.Search.{Looks, after_looks, known_at, look_at, look_within, looks_reads, piece_reads}
use Rattle.heap_search.specs.Search.{nothing_yet, pieces_reads, search_at, search_of, search_reads, taken_by, taken_head}
use Rattle.heap_search.specs.Search.{walked_by}
use Rattle.heap_search.proofs.PieceSteps.{there_append, there_more, there_none, words_append, words_more}

pub looks_same : (wanted other : Search) (new : HeapSearch) (result : Result (Unit {0}) StackError) → wanted ≡ other
    → Looks wanted new result → Looks other new result
looks_same wanted other new (Ok u) e h = h ∙ e
looks_same wanted other new (Err f) e h = h

within_more : (s : Search) (b : Bool) (walked : ℕ) (next : Search) → next.members ≡ s.members + walked
    → s.members ≤ (if b then next else s).members
within_more s true walked next e = omega arith
within_more s false walked next e = omega arith

shown_try : (c : ℕ → Bool) (l : Layout) (m : Memory) (a : ℕ)
    → (try_at c l m a).head ≡ shown_where true l m a (headed_at c l m a)
unfolding shown_head
shown_try c l m a = refl

module _ (c : ℕ → Bool) (l : Layout) (pointers : List ℕ) (class : ℕ) where
  -- ---- the members that are walked

  pub looks_append : (m : Memory) (s : Search) (xs ys : List ℕ)
      → after_looks c l m pointers class s (xs ++ ys)
      ≡ after_looks c l m pointers class (after_looks c l m pointers class s xs) ys
  unfolding after_looks
  looks_append m s [] ys = refl
  looks_append m s (x ∷ xs) ys = looks_append m (look_within c l m pointers class s x) xs ys

  pub looks_none : (m : Memory) (s : Search) → after_looks c l m pointers class s [] ≡ s
  unfolding after_looks
  looks_none m s = refl

  pub looks_one : (m : Memory) (s : Search) (a : ℕ)
      → after_looks c l m pointers class s (a ∷ []) ≡ look_within c l m pointers class s a
  unfolding after_looks
  looks_one m s a = refl

  one_more : (m : Memory) (s : Search) (a : ℕ) → s.members ≤ (look_within c l m pointers class s a).members
  one_more m s a =
      within_more s (nat_lt s.members search_limit) (walked_for c l m s.finds.found a)
      (look_at c l m pointers class s a) refl

  pub looks_more : (m : Memory) (s : Search) (xs : List ℕ)
      → s.members ≤ (after_looks c l m pointers class s xs).members
  unfolding after_looks
  looks_more m s [] = omega arith
  looks_more m s (x ∷ xs) =
      omega (arith, one_more m s x, looks_more m (look_within c l m pointers class s x) xs)

  -- behind the budget nothing is looked at
  spent_one : (m : Memory) (s : Search) (a : ℕ) → search_limit ≤ s.members
      → look_within c l m pointers class s a ≡ s
  spent_one m s a spent =
      let past : nat_lt s.members search_limit ≡ false = grind (arith, nat_tests) in
      rw past refl

  pub looks_spent : (m : Memory) (s : Search) (xs : List ℕ) → search_limit ≤ s.members
      → after_looks c l m pointers class s xs ≡ s
  unfolding after_looks
  looks_spent m s [] spent = refl
  looks_spent m s (x ∷ xs) spent =
      ap (λ t. after_looks c l m pointers class t xs) (spent_one m s x spent) ∙ looks_spent m s xs spent

  pub walked_append : (m : Memory) (s : Search) (xs ys : List ℕ)
      → walked_by c l m pointers class s (xs ++ ys)
      ≡ walked_by c l m pointers class s xs
      + walked_by c l m pointers class (after_looks c l m pointers class s xs) ys
  walked_append m s xs ys =
      omega (
        arith,
        ap (λ (t : Search). t.members) (looks_append m s xs ys),
        looks_more m s xs,
        looks_more m (after_looks c l m pointers class s xs) ys,
      )

  -- ---- one after another

  pub searched_then : (start : Search) (xs ys : Memory → List ℕ) {s0 s1 s2 : Seen} (n k : ℕ) (one two : HeapSearch)
      (result : Result (Unit {0}) StackError) (t : ℕ)
      → Reading (n + 6 * walked_by c l (byte_at s0.pieces) pointers class start (xs (byte_at s0.pieces))) s0 s1
      (λ m. search_of one ≡ after_looks c l m pointers class start (xs m))
      → Reading (k + 6 * walked_by c l (byte_at s1.pieces) pointers class (search_of one) (ys (byte_at s1.pieces))) s1
      s2 (λ m. Looks (after_looks c l m pointers class (search_of one) (ys m)) two result) → n + k ≤ t
      → Reading (t + 6 * walked_by c l (byte_at s0.pieces) pointers class start
      (xs (byte_at s0.pieces) ++ ys (byte_at s0.pieces))) s0 s2
      (λ m. Looks (after_looks c l m pointers class start (xs m ++ ys m)) two result)
  searched_then start xs ys {s0} {s1} {s2} n k one two result t p q le =
      let here = byte_at s0.pieces in
      reading_gives _ _
      (reading_then (λ m. Looks (after_looks c l m pointers class start (xs m ++ ys m)) two result) p q
      (λ m a b. looks_same (after_looks c l m pointers class (search_of one) (ys m))
      (after_looks c l m pointers class start (xs m ++ ys m)) two result
      (ap (λ s. after_looks c l m pointers class s (ys m)) a ∙ sym (looks_append m start (xs m) (ys m))) b))
      (omega (
        arith,
        ap (λ ps. walked_by c l (byte_at ps) pointers class (search_of one) (ys (byte_at ps))) p.pieces,
        ap (λ s. walked_by c l here pointers class s (ys here)) (reading_here p),
        walked_append here start (xs here) (ys here),
        le,
      )) (λ m h. h)

  -- ---- some addresses

  -- those that were looked at so far
  pub record LookingAt (start : Search) (s0 s1 : Seen) (taken : List ℕ) (search : HeapSearch) : Type 0 where
    pub reading : Reading (looks_reads c l (byte_at s0.pieces) pointers class start taken) s0 s1
        (λ m. search_of search ≡ after_looks c l m pointers class start taken)

  pub looking_init : (search : HeapSearch) (s : Seen) → LookingAt (search_of search) s s [] search
  looking_init search s =
      record { reading = reading_none _ s _ (λ m. sym (looks_none m (search_of search))) }

  pub looking_more : {start : Search} {s0 s1 s2 : Seen} {taken : List ℕ} {search : HeapSearch} (new : HeapSearch)
      (a : ℕ) → LookingAt start s0 s1 taken search
      → Reading (looks_reads c l (byte_at s1.pieces) pointers class (search_of search) (a ∷ [])) s1 s2
      (λ m. search_of new ≡ look_within c l m pointers class (search_of search) a)
      → LookingAt start s0 s2 (taken ++ a ∷ []) new
  looking_more {start} {s0} {s1} {s2} {taken} {search} new a w r = record {
    reading = reading_gives _ _
        (searched_then start (λ m. taken) (λ m. a ∷ []) (4 * length taken) 4 search new (Ok tt)
        (4 * length taken + 4) w.reading
        (reading_gives _ _ r (omega arith) (λ m e. e ∙ sym (looks_one m (search_of search) a))) (omega arith))
        (omega (arith, length-append taken (a ∷ []))) (λ m h. h);
  }

  pub looking_lost : {start : Search} {s0 s1 s2 : Seen} {taken : List ℕ} {search : HeapSearch} (e f : StackError)
      (a : ℕ) (rest all : List ℕ) → LookingAt start s0 s1 taken search → all ≡ (taken ++ a ∷ []) ++ rest
      → Reading (looks_reads c l (byte_at s1.pieces) pointers class (search_of search) (a ∷ [])) s1 s2
      (λ m. f ≡ stack.OutOfMemory) → e ≡ f
      → Reading (looks_reads c l (byte_at s0.pieces) pointers class start all) s0 s2 (λ m. e ≡ stack.OutOfMemory)
  looking_lost {start} {s0} {s1} {s2} {taken} {search} e f a rest all w parts r same =
      let here = byte_at s0.pieces in
      reading_gives _ _
      (searched_then start (λ m. taken) (λ m. a ∷ []) (4 * length taken) 4 search search (Err e)
      (4 * length taken + 4) w.reading
      (reading_gives _ _ r (omega arith) (λ m h. same ∙ h)) (omega arith))
      (omega (
        arith,
        walked_append here start (taken ++ a ∷ []) rest,
        ap (walked_by c l here pointers class start) parts,
        ap length parts,
        length-append (taken ++ a ∷ []) rest,
        length-append taken (a ∷ []),
      )) (λ m h. h)

  pub looking_done : {start : Search} {s0 s1 : Seen} {taken : List ℕ} {search : HeapSearch} (all : List ℕ)
      → LookingAt start s0 s1 taken search → taken ≡ all
      → Reading (looks_reads c l (byte_at s0.pieces) pointers class start all) s0 s1
      (λ m. search_of search ≡ after_looks c l m pointers class start all)
  looking_done {start} {s0} {s1} {taken} {search} all w e =
      subst (λ xs. Reading (looks_reads c l (byte_at s0.pieces) pointers class start xs) s0 s1
      (λ m. search_of search ≡ after_looks c l m pointers class start xs)) e w.reading

  -- ---- the words of a piece

  pub piece_looked : {s0 s1 s2 : Seen} (old new : HeapSearch) (p : HeapPiece) (words read : List ℕ)
      (result : Result (Unit {0}) StackError) → 0 < p.count
      → Reading (1 + p.count) s0 s1 (λ m. words ≡ words_there m p.at p.count) → read ≡ words
      → Reading (looks_reads c l (byte_at s1.pieces) pointers class (search_of old) read) s1 s2
      (λ m. Looks (after_looks c l m pointers class (search_of old) read) new result)
      → Reading (piece_reads c l (byte_at s0.pieces) pointers class (search_of old) p) s0 s2
      (λ m. Looks (after_looks c l m pointers class (search_of old) (piece_there m p)) new result)
  piece_looked {s0} {s1} {s2} old new p words read result some r same q =
      let here = byte_at s0.pieces in
      let is : read ≡ words_there here p.at p.count = same ∙ reading_here r in
      reading_gives _ _
      (reading_then (λ m. Looks (after_looks c l m pointers class (search_of old) (piece_there m p)) new result) r q
      (λ m a b. looks_same (after_looks c l m pointers class (search_of old) read)
      (after_looks c l m pointers class (search_of old) (piece_there m p)) new result
      (ap (after_looks c l m pointers class (search_of old)) (same ∙ a)) b))
      (omega (
        arith,
        ap (λ ps. walked_by c l (byte_at ps) pointers class (search_of old) read) r.pieces,
        ap (walked_by c l here pointers class (search_of old)) is,
        ap length is,
        words_few here p.at p.count,
      )) (λ m h. h)

  pub piece_lost : {s0 s1 : Seen} (old : Search) (p : HeapPiece) (e f : StackError)
      → 0 < p.count → Reading (1 + p.count) s0 s1 (λ m. f ≡ stack.OutOfMemory) → e ≡ f
      → Reading (piece_reads c l (byte_at s0.pieces) pointers class old p) s0 s1 (λ m. e ≡ stack.OutOfMemory)
  piece_lost old p e f some r same = reading_gives _ _ r (omega arith) (λ m h. same ∙ h)

  -- ---- some pieces

  -- those that were looked at so far
  pub record LookingIn (start : Search) (s0 s1 : Seen) (taken : List HeapPiece) (search : HeapSearch) : Type 0 where
    pub reading : Reading (pieces_reads c l (byte_at s0.pieces) pointers class start taken) s0 s1
        (λ m. search_of search ≡ after_looks c l m pointers class start (pieces_there m taken))

  pub pieces_init : (search : HeapSearch) (s : Seen) → LookingIn (search_of search) s s [] search
  pieces_init search s = record {
    reading = reading_none _ s _ (λ m. sym (looks_none m (search_of search))
        ∙ ap (after_looks c l m pointers class (search_of search)) (sym (there_none m)));
  }

  pieces_next : {start : Search} {s0 s1 s2 : Seen} {taken : List HeapPiece} {search : HeapSearch} (new : HeapSearch)
      (p : HeapPiece) (result : Result (Unit {0}) StackError) → LookingIn start s0 s1 taken search
      → Reading (piece_reads c l (byte_at s1.pieces) pointers class (search_of search) p) s1 s2
      (λ m. Looks (after_looks c l m pointers class (search_of search) (piece_there m p)) new result)
      → Reading (pieces_reads c l (byte_at s0.pieces) pointers class start (taken ++ p ∷ [])) s0 s2
      (λ m. Looks (after_looks c l m pointers class start (pieces_there m (taken ++ p ∷ []))) new result)
  pieces_next {start} {s0} {s1} {s2} {taken} {search} new p result w r =
      let here = byte_at s0.pieces in
      reading_gives _ _
      (searched_then start (λ m. pieces_there m taken) (λ m. piece_there m p) (6 * words_in taken) (6 * p.count)
      search new result (6 * words_in taken + 6 * p.count) w.reading r (omega arith))
      (omega (
        arith,
        words_more taken p,
        ap (walked_by c l here pointers class start) (there_more here taken p),
      ))
      (λ m h. looks_same _ _ new result (ap (after_looks c l m pointers class start) (sym (there_more m taken p))) h)

  pub pieces_more : {start : Search} {s0 s1 s2 : Seen} {taken : List HeapPiece} {search : HeapSearch}
      (new : HeapSearch) (p : HeapPiece) → LookingIn start s0 s1 taken search
      → Reading (piece_reads c l (byte_at s1.pieces) pointers class (search_of search) p) s1 s2
      (λ m. search_of new ≡ after_looks c l m pointers class (search_of search) (piece_there m p))
      → LookingIn start s0 s2 (taken ++ p ∷ []) new
  pieces_more new p w r = record { reading = pieces_next new p (Ok tt) w r }

  pub pieces_lost : {start : Search} {s0 s1 s2 : Seen} {taken : List HeapPiece} {search : HeapSearch}
      (e f : StackError) (p : HeapPiece) (rest all : List HeapPiece) → LookingIn start s0 s1 taken search
      → all ≡ (taken ++ p ∷ []) ++ rest
      → Reading (piece_reads c l (byte_at s1.pieces) pointers class (search_of search) p) s1 s2
      (λ m. f ≡ stack.OutOfMemory) → e ≡ f
      → Reading (pieces_reads c l (byte_at s0.pieces) pointers class start all) s0 s2 (λ m. e ≡ stack.OutOfMemory)
  pieces_lost {start} {s0} {s1} {s2} {taken} {search} e f p rest all w parts r same =
      let here = byte_at s0.pieces in
      reading_gives _ _
      (pieces_next search p (Err e) w (reading_gives _ _ r (omega arith) (λ m h. same ∙ h)))
      (omega (
        arith,
        ap words_in parts,
        words_append (taken ++ p ∷ []) rest,
        ap (λ ps. walked_by c l here pointers class start (pieces_there here ps)) parts,
        ap (walked_by c l here pointers class start) (there_append here (taken ++ p ∷ []) rest),
        walked_append here start (pieces_there here (taken ++ p ∷ [])) (pieces_there here rest),
      )) (λ m h. h)

  pub pieces_done : {start : Search} {s0 s1 : Seen} {taken : List HeapPiece} {search : HeapSearch}
      (all : List HeapPiece) → LookingIn start s0 s1 taken search → taken ≡ all
      → Reading (pieces_reads c l (byte_at s0.pieces) pointers class start all) s0 s1
      (λ m. search_of search ≡ after_looks c l m pointers class start (pieces_there m all))
  pieces_done {start} {s0} {s1} {taken} {search} all w e =
      subst (λ ps. Reading (pieces_reads c l (byte_at s0.pieces) pointers class start ps) s0 s1
      (λ m. search_of search ≡ after_looks c l m pointers class start (pieces_there m ps))) e w.reading

  -- behind the budget
  pub pieces_spent : {start : Search} {s0 s1 : Seen} {taken : List HeapPiece} {search : HeapSearch}
      (rest all : List HeapPiece) → LookingIn start s0 s1 taken search → all ≡ taken ++ rest
      → search_limit ≤ search.members
      → Reading (pieces_reads c l (byte_at s0.pieces) pointers class start all) s0 s1
      (λ m. search_of search ≡ after_looks c l m pointers class start (pieces_there m all))
  pieces_spent {start} {s0} {s1} {taken} {search} rest all w parts spent =
      let here = byte_at s0.pieces in
      reading_gives _ _ w.reading
      (omega (
        arith,
        ap words_in parts,
        words_append taken rest,
        ap (λ ps. walked_by c l here pointers class start (pieces_there here ps)) parts,
        ap (walked_by c l here pointers class start) (there_append here taken rest),
        walked_append here start (pieces_there here taken) (pieces_there here rest),
      ))
      (λ m h.
      sym (looks_spent m (search_of search) (pieces_there m rest) spent)
      ∙ ap (λ s. after_looks c l m pointers class s (pieces_there m rest)) h
      ∙ sym (looks_append m start (pieces_there m taken) (pieces_there m rest))
      ∙ ap (after_looks c l m pointers class start) (sym (there_append m taken rest))
      ∙ ap (λ ps. after_looks c l m pointers class start (pieces_there m ps)) (sym parts))

  -- ---- one address

  abbrev pub tried : Option ℕ → ℕ → Tried
  tried head members = record { head = head; members = members }

  -- what is no interpreter, or has a broken chain
  pub known_none : (m : Memory) (a members : ℕ) (head : Option ℕ) → head ≡ None
      → tried head members ≡ try_at c l m a → tried None members ≡ known_at c l m pointers class a
  unfolding taken_head
  known_none m a members head none is =
      let no_head : shown_head true c l m a ≡ None = sym (ap (λ (t : Tried). t.head) is) ∙ none in
      rw no_head (ap (λ n. tried None n) (ap (λ (t : Tried). t.members) is))

  taken_if : (m : Memory) (a head : ℕ) (known : Bool) → known ≡ has_known l m pointers class a head
      → (if known then Some head else None) ≡ taken_by l m pointers class a (Some head)
  taken_if m a head known e = rw e refl

  -- what is one, by whether one of its threads is known
  pub known_some : (m : Memory) (a head members : ℕ) (found : Option ℕ) (known : Bool) (result : Option ℕ)
      → found ≡ Some head → tried found members ≡ try_at c l m a → known ≡ has_known l m pointers class a head
      → result ≡ (if known then Some head else None) → tried result members ≡ known_at c l m pointers class a
  unfolding taken_head
  known_some m a head members found known result some is e same =
      let with_head : shown_head true c l m a ≡ Some head = sym (ap (λ (t : Tried). t.head) is) ∙ some in
      rw with_head (ap (λ h. tried h members) (same ∙ taken_if m a head known e)
      ∙ ap (λ n. tried (taken_by l m pointers class a (Some head)) n) (ap (λ (t : Tried). t.members) is))

  -- one that was found before
  pub looked_found : (m : Memory) (s : Search) (a addresses : ℕ) (known : Bool)
      → known ≡ is_found s.finds.found a → known ≡ true → addresses ≡ min (s.addresses + 1) (2 ^ 64 - 1)
      → ◌≡◌ {A = Search} (record { finds = s.finds; addresses = addresses; members = s.members })
      (look_at c l m pointers class s a)
  looked_found m s a addresses known is holds more =
      let there : is_found s.finds.found a ≡ true = sym is ∙ holds in
      let all : s.members ≡ s.members + 0 = omega arith in
      rw there (ap (λ n. record { finds = s.finds; addresses = n; members = s.members }) more
      ∙ ap (λ n. record { finds = s.finds; addresses = min (s.addresses + 1) (2 ^ 64 - 1); members = n }) all)

  abbrev with_trial : Search → ℕ → ℕ → Tried → Search
  with_trial s a addresses t = record {
    finds = with_head s.finds true a t.head;
    addresses = addresses;
    members = s.members + t.members;
  }

  -- one that was not
  pub looked_new : (m : Memory) (s : Search) (a addresses : ℕ) (known : Bool) (t : Tried)
      (new : Finds) → known ≡ is_found s.finds.found a → known ≡ false
      → addresses ≡ min (s.addresses + 1) (2 ^ 64 - 1) → t ≡ known_at c l m pointers class a
      → new ≡ with_head s.finds true a t.head
      → ◌≡◌ {A = Search} (record { finds = new; addresses = addresses; members = s.members + t.members })
      (look_at c l m pointers class s a)
  looked_new m s a addresses known t new is fails more e h =
      let fresh : is_found s.finds.found a ≡ false = sym is ∙ fails in
      rw fresh (ap (λ r. record { finds = r; addresses = addresses; members = s.members + t.members }) h
      ∙ ap (λ n. with_trial s a n t) more ∙ ap (with_trial s a (min (s.addresses + 1) (2 ^ 64 - 1))) e)

  pub look_cost : (m : Memory) (s : Search) (a : ℕ) (known : Bool) → known ≡ is_found s.finds.found a
      → known ≡ false → walked_for c l m s.finds.found a ≡ chain_length l m a (headed_at c l m a)
  look_cost m s a known is fails =
      let fresh : is_found s.finds.found a ≡ false = sym is ∙ fails in
      rw fresh refl

  -- within the budget, and behind it
  pub within_is : (m : Memory) (s : Search) (a : ℕ) → s.members < search_limit
      → look_at c l m pointers class s a ≡ look_within c l m pointers class s a
  within_is m s a below =
      let yes_it : nat_lt s.members search_limit ≡ true = grind (arith, nat_tests) in
      rw yes_it refl

  pub within_spent : (m : Memory) (s : Search) (a : ℕ) → search_limit ≤ s.members
      → s ≡ look_within c l m pointers class s a
  within_spent m s a spent = sym (spent_one m s a spent)

  pub within_reads : (m : Memory) (s : Search) (a : ℕ) → s.members < search_limit
      → 4 + 6 * walked_for c l m s.finds.found a ≤ looks_reads c l m pointers class s (a ∷ [])
  within_reads m s a below =
      omega (
        arith,
        ap (λ (t : Search). t.members) (within_is m s a below),
        ap (λ (t : Search). t.members) (looks_one m s a),
      )

pub no_head : (r : Finds) (a : ℕ) (head : Option ℕ) → head ≡ None → r ≡ with_head r true a head
no_head r a head e = rw e refl

pub new_head : (r new : Finds) (a h : ℕ) (head : Option ℕ) → head ≡ Some h
    → new ≡ with_one r (record { address = a; head = h; searched = true }) → new ≡ with_head r true a head
new_head r new a h head e is = rw e is

-- as many members were walked as its chain has
pub known_cost : (c : ℕ → Bool) (l : Layout) (m : Memory) (a head members : ℕ) (found : Option ℕ) → found ≡ Some head
    → ◌≡◌ {A = Tried} (record { head = found; members = members }) (try_at c l m a)
    → chain_length l m a (headed_at c l m a) ≡ length (threads_front l a m head).members
known_cost c l m a head members found some is =
    by (headed_at c l m a) refl (sym (shown_try c l m a) ∙ sym (ap (λ (t : Tried). t.head) is) ∙ some)
  where
    by : (h : Option ℕ) → headed_at c l m a ≡ h → shown_where true l m a h ≡ Some head
        → chain_length l m a (headed_at c l m a) ≡ length (threads_front l a m head).members
    by None e shown = absurd (cc)
    by (Some x) e shown =
        let p = whole_by (threads_front l a m x).ending x head shown in
        ap (chain_length l m a) e ∙ ap (λ y. length (threads_front l a m y).members) p.1

-- ---- the whole search

abbrev pub begun : List FoundInterpreter → Search
begun found = record { finds = record { found = found; more = false }; addresses = 0; members = 0 }

pub begins : (found : List FoundInterpreter) → found ≡ [] → begun found ≡ nothing_yet
begins found none = ap begun none

module _ (c : ℕ → Bool) (l : Layout) (pointers : List ℕ) (class : ℕ) (segments : List CoreMapRange)
    (pieces read : List HeapPiece) (start : Search) (none : start ≡ nothing_yet)
    (are : pieces ≡ heap_pieces 16777216 segments) (same : read ≡ pieces) where
  looked_is : (m : Memory)
      → after_looks c l m pointers class start (pieces_there m read) ≡ search_at c l m pointers class segments
  unfolding search_at
  looked_is m =
      ap (λ s. after_looks c l m pointers class s (pieces_there m read)) none
      ∙ ap (λ ps. after_looks c l m pointers class nothing_yet (pieces_there m ps)) (same ∙ are)

  looked_cost : (m : Memory)
      → pieces_reads c l m pointers class start read ≡ search_reads c l m pointers class segments
  looked_cost m =
      omega (
        arith,
        ap words_in (same ∙ are),
        ap (λ (s : Search). s.members) (looked_is m),
        ap (λ (s : Search). s.members) none,
      )

  pub heap_looked : {s0 s1 : Seen} (new : HeapSearch)
      → Reading (pieces_reads c l (byte_at s0.pieces) pointers class start read) s0 s1
      (λ m. search_of new ≡ after_looks c l m pointers class start (pieces_there m read))
      → Reading (search_reads c l (byte_at s0.pieces) pointers class segments) s0 s1
      (λ m. search_of new ≡ search_at c l m pointers class segments)
  heap_looked {s0} new r =
      reading_gives _ _ r (omega (arith, looked_cost (byte_at s0.pieces))) (λ m h. h ∙ looked_is m)

  pub heap_lost : {s0 s1 : Seen} (Q : Memory → Type 0) (f : StackError)
      → Reading (pieces_reads c l (byte_at s0.pieces) pointers class start read) s0 s1 (λ m. f ≡ stack.OutOfMemory)
      → ((m : Memory) → f ≡ stack.OutOfMemory → Q m)
      → Reading (search_reads c l (byte_at s0.pieces) pointers class segments) s0 s1 Q
  heap_lost {s0} Q f r q = reading_gives _ _ r (omega (arith, looked_cost (byte_at s0.pieces))) q
