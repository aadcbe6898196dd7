-- Interpreters with their threads, one after another.
use Rattle.std.proofs.Common.{◌≡◌, ℕ, ◌+◌, ◌≤◌, Bool, List, [], ◌∷◌, ◌++◌, map, refl, sym, ◌∙◌, ap}
use Rattle.std.proofs.Common.{arith}
use Rattle.std.proofs.lemmas.List.{map-append}
use Rattle.std.proofs.lemmas.List.Sums.{sum_by-cons, sum_by_push}
use Rattle.std.specs.Prelude.{sum_by}
use Rattle.process_memory.specs.Memory.{Memory, byte_at}
use Rattle.process_memory.specs.Seen.{ReadingBy, Seen}
use Rattle.process_memory.proofs.Reading.{reading_gives, reading_here, reading_none, reading_then}
use Rattle.py_fields.specs.declared.version.Version.{Version}
use Rattle.py_fields.specs.declared.layout.Layout.{Layout}
use Rattle.py_stacks.specs.declared.asked.Asked.{Asked}
use Rattle.py_stacks.specs.declared.error.StackError.{StackError}
use Rattle.py_stacks.specs.declared.error.StackError.TheVariants as stack
use Rattle.py_process.specs.Facts.{Known}
use Rattle.py_fronts.specs.declared.fronts.InterpreterFront.{InterpreterFront}
use Rattle.py_fronts.specs.declared.interpreters.FoundInterpreter.{FoundInterpreter}
use Rattle.py_fronts.specs.declared.interpreters.InterpreterSearch.{InterpreterSearch}
use Rattle.py_fronts.specs.Interpreters.{Told, told_at, told_of}
use Rattle.py_fronts.specs.Fronts.{FrontsShown, InterpreterShown, Passing, found_left, fronts_at, interpreter_front}
use Rattle.py_fronts.specs.Fronts.{fronts_reads, interpreter_of_front, interpreters_fronts, threads_from}
use Rattle.py_fronts.specs.Interpreters.{interpreters_at}
use Rattle.py_fronts.specs.ThreadFronts.{ReadingThreads, ThreadsShown, left_after, threads_of, threads_reads}

fronts_append : (q : Asked) (l : Layout) (m : Memory) (limit left : ℕ) (xs : List FoundInterpreter) (one : FoundInterpreter)
    → interpreters_fronts q l m limit left (xs ++ one ∷ []) ≡ interpreters_fronts q l m limit left xs ++ interpreter_front q l m limit (found_left q l m limit left xs) one ∷ []
unfolding interpreters_fronts found_left
fronts_append q l m limit left [] one = refl
fronts_append q l m limit left (x ∷ xs) one = ap (λ is. interpreter_front q l m limit left x ∷ is) (fronts_append q l m limit (left_after left (threads_from q l m limit left x).threads) xs one)

left_append : (q : Asked) (l : Layout) (m : Memory) (limit left : ℕ) (xs : List FoundInterpreter) (one : FoundInterpreter)
    → found_left q l m limit left (xs ++ one ∷ []) ≡ left_after (found_left q l m limit left xs) (threads_from q l m limit (found_left q l m limit left xs) one).threads
unfolding found_left
left_append q l m limit left [] one = refl
left_append q l m limit left (x ∷ xs) one = left_append q l m limit (left_after left (threads_from q l m limit left x).threads) xs one

pub passing_init : (q : Asked) (l : Layout) (limit before : ℕ) (s : Seen) → Passing q l limit before s s [] [] before
unfolding interpreters_fronts found_left
passing_init q l limit before s = record { fewer = omega arith; spent = 0; cost = omega arith; reading = reading_none 0 s _ (λ m. (refl, refl)) }

one_front : (q : Asked) (l : Layout) (m : Memory) (limit n : ℕ) (front : InterpreterFront) (one : FoundInterpreter) → front.address ≡ one.address → front.searched ≡ one.searched → threads_of front.threads ≡ threads_from q l m limit n one
    → interpreter_of_front front ≡ interpreter_front q l m limit n one
one_front q l m limit n front one a b e =
    ap (λ x. record { address = x; searched = front.searched; threads = threads_of front.threads }) a
    ∙ ap (λ x. record { address = one.address; searched = x; threads = threads_of front.threads }) b
    ∙ ap (λ x. record { address = one.address; searched = one.searched; threads = x }) e

abbrev cost_of : Asked → List InterpreterShown → ℕ
cost_of q is = sum_by (λ (i : InterpreterShown). threads_reads q i.threads) is

-- those that were found first cost no more than all of them
fronts_part : (q : Asked) (l : Layout) (m : Memory) (limit left : ℕ) (xs ys : List FoundInterpreter)
    → cost_of q (interpreters_fronts q l m limit left xs) ≤ cost_of q (interpreters_fronts q l m limit left (xs ++ ys))
unfolding interpreters_fronts
fronts_part q l m limit left [] ys = omega arith
fronts_part q l m limit left (x ∷ xs) ys =
    let one = interpreter_front q l m limit left x in
    let next = left_after left (threads_from q l m limit left x).threads in
    omega (
      arith,
      sum_by-cons (λ (i : InterpreterShown). threads_reads q i.threads) one (interpreters_fronts q l m limit next xs),
      sum_by-cons (λ (i : InterpreterShown). threads_reads q i.threads) one
          (interpreters_fronts q l m limit next (xs ++ ys)),
      fronts_part q l m limit next xs ys,
    )

module _ {q : Asked} {l : Layout} {limit before : ℕ} {s0 s1 : Seen} {found : List FoundInterpreter} {shown : List InterpreterFront} {left : ℕ} where
  pub passing_more : {s2 : Seen} (one : FoundInterpreter) (front : InterpreterFront) (rest : ℕ) → Passing q l limit before s0 s1 found shown left
      → ReadingThreads q l limit left one.address one.head s1 s2 (λ m. threads_of front.threads ≡ threads_from q l m limit left one) → rest ≡ left_after left (threads_of front.threads).threads
      → rest ≤ left → front.address ≡ one.address → front.searched ≡ one.searched → Passing q l limit before s0 s2 (found ++ one ∷ []) (shown ++ front ∷ []) rest
  passing_more one front rest w r is fewer address searched = record {
    fewer = omega (arith, w.fewer);
    spent = w.spent + threads_reads q (threads_from q l (byte_at s1.pieces) limit left one);
    cost = omega (
      arith,
      w.cost,
      ap (threads_reads q) (reading_here r),
      ap (cost_of q) (map-append interpreter_of_front shown (front ∷ [])),
      sum_by_push (λ (i : InterpreterShown). threads_reads q i.threads) (map interpreter_of_front shown) (interpreter_of_front front),
    );
    reading = reading_then (λ m. (map interpreter_of_front (shown ++ front ∷ []) ≡ interpreters_fronts q l m limit before (found ++ one ∷ [])) × (rest ≡ found_left q l m limit before (found ++ one ∷ []))) w.reading r
        (λ m p e.
        let here : threads_of front.threads ≡ threads_from q l m limit (found_left q l m limit before found) one = e ∙ ap (λ n. threads_from q l m limit n one) p.1 in
        let same : interpreter_of_front front ≡ interpreter_front q l m limit (found_left q l m limit before found) one = one_front q l m limit (found_left q l m limit before found) front one address searched here in (
          map-append interpreter_of_front shown (front ∷ []) ∙ ap (λ is. is ++ interpreter_of_front front ∷ []) p.0 ∙ ap (λ i. interpreters_fronts q l m limit before found ++ i ∷ []) same ∙ sym (fronts_append q l m limit before found one),
          is ∙ ap (λ n. left_after n (threads_of front.threads).threads) p.1 ∙ ap (λ (t : ThreadsShown). left_after (found_left q l m limit before found) t.threads) here ∙ sym (left_append q l m limit before found one),
        ));
  }

  pub passing_lost : {s2 : Seen} {P : Memory → Type 0} (e : StackError) (one : FoundInterpreter) (rest all : List FoundInterpreter) → Passing q l limit before s0 s1 found shown left → all ≡ (found ++ one ∷ []) ++ rest
      → ReadingThreads q l limit left one.address one.head s1 s2 P → ((m : Memory) → P m → e ≡ stack.OutOfMemory)
      → ReadingBy (λ m. fronts_reads q (interpreters_fronts q l m limit before all)) s0 s2 (λ m. e ≡ stack.OutOfMemory)
  passing_lost e one rest all w parts r lost =
      let here = byte_at s0.pieces in
      let p = reading_here w.reading in
      reading_gives _ _ (reading_then (λ m. e ≡ stack.OutOfMemory) w.reading r (λ m p h. lost m h))
      (omega (
        arith,
        w.cost,
        ap (λ ps. threads_reads q (threads_from q l (byte_at ps) limit left one)) w.reading.pieces,
        ap (λ n. threads_reads q (threads_from q l here limit n one)) p.1,
        ap (cost_of q) p.0,
        ap (cost_of q) (fronts_append q l here limit before found one),
        sum_by_push (λ (i : InterpreterShown). threads_reads q i.threads) (interpreters_fronts q l here limit before found) (interpreter_front q l here limit (found_left q l here limit before found) one),
        fronts_part q l here limit before (found ++ one ∷ []) rest,
        ap (λ xs. cost_of q (interpreters_fronts q l here limit before xs)) parts,
      )) (λ m h. h)

  pub passing_done : Passing q l limit before s0 s1 found shown left
      → ReadingBy (λ m. fronts_reads q (interpreters_fronts q l m limit before found)) s0 s1 (λ m. map interpreter_of_front shown ≡ interpreters_fronts q l m limit before found)
  passing_done w = reading_gives _ _ w.reading (omega (arith, w.cost, ap (cost_of q) (reading_here w.reading).0)) (λ m p. p.0)

pub fronts_found : (c : ℕ → Bool) (k : Known) (v : Version) (l : Layout) (m : Memory) (q : Asked) (limit : ℕ)
    (search : InterpreterSearch) (found : List FoundInterpreter) (is : List InterpreterShown)
    → told_of search ≡ told_at c k v l m → found ≡ search.finds.found.items
    → is ≡ interpreters_fronts q l m limit 4194304 found → ◌≡◌ {A = FrontsShown}
    (record { interpreters = is; more = search.finds.more; looked = search.looked }) (fronts_at c k v l m q limit)
unfolding fronts_at
fronts_found c k v l m q limit search found is f e h =
    ap (λ x. record { interpreters = x; more = search.finds.more; looked = search.looked })
    (h ∙ ap (interpreters_fronts q l m limit 4194304) e)
    ∙ ap (λ (t : Told). record {
      interpreters = interpreters_fronts q l m limit 4194304 t.finds.found;
      more = t.finds.more;
      looked = t.looked;
    }) f

pub fronts_cost : (c : ℕ → Bool) (k : Known) (v : Version) (l : Layout) (m : Memory) (q : Asked) (limit : ℕ) (found : List FoundInterpreter) → found ≡ (interpreters_at c k v l m).found
    → fronts_reads q (interpreters_fronts q l m limit 4194304 found) ≡ fronts_reads q (fronts_at c k v l m q limit).interpreters
unfolding fronts_at
fronts_cost c k v l m q limit found e = ap (λ xs. fronts_reads q (interpreters_fronts q l m limit 4194304 xs)) e
