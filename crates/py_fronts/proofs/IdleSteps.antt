-- What the record of an interpreter leads to, one word after another.
use Rattle.std.proofs.Common.{◌≡◌, ◌≢◌, ℕ, zero, suc, ◌+◌, ◌*◌, ◌-◌, ◌<◌, ◌≤◌, List, [], ◌∷◌, ◌++◌, length}
use Rattle.std.proofs.Common.{refl, sym, subst, ◌∙◌, ap, arith, append-nil, append_assoc, length-append}
use Rattle.std.specs.Prelude.{Option, Some, None, Result, Ok, MatchOption, Err}
use Rattle.process_memory.specs.Memory.{Found, Memory, byte_at, word_at, Fault}
use Rattle.process_memory.specs.Seen.{Reading, ReadingBy, Seen, Answers, FaultIs}
use Rattle.process_memory.proofs.Reading.{reading_gives, reading_here, reading_none, reading_then}
use Rattle.py_fields.specs.declared.layout.Layout.{Layout}
use Rattle.py_stacks.specs.Interpreter.{threads_head}
use Rattle.py_stacks.specs.StackError.{stack_fault}
use Rattle.py_stacks.specs.declared.error.StackError.{StackError}
use Rattle.py_stacks.specs.declared.error.StackError.TheVariants as stack
use Rattle.py_fronts.specs.Answers.{IsOrNoMemory}
use Rattle.py_fronts.specs.Candidates.{Following, Leading, behind_idle, found_or_none, idle_limit, led_to, next_by}
use Rattle.py_fronts.specs.Candidates.{passed_by, with_next}

-- ---- behind one without a thread

passed_some : (d : Found ℕ) (next : Option ℕ) (head : ℕ) → d ≡ Ok head → head ≢ 0 → None ≡ passed_by d next
passed_some d next zero e some = absurd (some refl)
passed_some d next (suc n) e some = rw e refl

pub next_none : (l : Layout) (m : Memory) (place a head : ℕ) → threads_head l m a ≡ Ok head → head ≢ 0
    → None ≡ next_by l m place a
next_none l m place a head e some = passed_some (threads_head l m a) (found_or_none (word_at m (a + place))) head e some

pub next_word : (l : Layout) (m : Memory) (place a head : ℕ) (result : Result (Option ℕ) StackError)
    → threads_head l m a ≡ Ok head → head ≡ 0 → IsOrNoMemory (found_or_none (word_at m (a + place))) result
    → IsOrNoMemory (next_by l m place a) result
next_word l m place a head result e null h =
    let none : threads_head l m a ≡ Ok 0 = rw null at e in
    rw none h

-- where its first thread can't be read
pub next_lost : (l : Layout) (m : Memory) (place a : ℕ) (e : StackError) (result : Result (Option ℕ) StackError)
    → Answers {T = ℕ} stack_fault (threads_head l m a) (Err e)
    → MatchOption (stack_fault e) (result ≡ Err stack.OutOfMemory) (λ f. result ≡ Ok None)
    → IsOrNoMemory (next_by l m place a) result
next_lost l m place a e result h is = by (threads_head l m a) (stack_fault e) h.is is
  where
    by : (d : Found ℕ) (o : Option Fault) → FaultIs d o → MatchOption o (result ≡ Err stack.OutOfMemory) (λ f. result ≡ Ok None)
        → IsOrNoMemory (passed_by d (found_or_none (word_at m (a + place)))) result
    by d None f same = rw same refl
    by d (Some x) f same = rw (same, f) refl

behind_next : (l : Layout) (m : Memory) (place turns a next : ℕ) → next_by l m place a ≡ Some next
    → behind_idle l m place (suc turns) a ≡ next ∷ behind_idle l m place turns next
unfolding behind_idle
behind_next l m place turns a next e = rw e refl

behind_none : (l : Layout) (m : Memory) (place turns a : ℕ) → next_by l m place a ≡ None
    → behind_idle l m place (suc turns) a ≡ []
unfolding behind_idle
behind_none l m place turns a e = rw e refl

behind_last : (l : Layout) (m : Memory) (place a : ℕ) → behind_idle l m place 0 a ≡ []
unfolding behind_idle
behind_last l m place a = refl

pub following_init : (l : Layout) (place first : ℕ) (words : List ℕ) (s : Seen)
    → Following l place first s s words words 0 first
following_init l place first words s =
    record { within = omega arith; count = omega arith; reading = reading_none _ s _ (λ m. refl) }

pub following_more : {l : Layout} {place first : ℕ} {s0 s1 s2 : Seen} {start words : List ℕ} {passed at : ℕ}
    (new : List ℕ) (next : ℕ) (found : Option ℕ) → Following l place first s0 s1 start words passed at
    → passed < idle_limit → found ≡ Some next → Reading 2 s1 s2 (λ m. found ≡ next_by l m place at)
    → new ≡ words ++ next ∷ [] → Following l place first s0 s2 start new (passed + 1) next
following_more {l = l} {place = place} {first = first} {start = start} {words = words} {passed = passed} {at = at}
    new next found w below is r pushed =
    let left = idle_limit - (passed + 1) in
    let room : idle_limit - passed ≡ suc left = omega arith in
    let behind = λ (m : Memory). behind_idle l m place left next in
    record {
      within = omega arith;
      count = omega (arith, w.count, ap length pushed, length-append words (next ∷ []));
      reading = reading_gives _ _
          (reading_then (λ m. start ++ behind_idle l m place idle_limit first ≡ new ++ behind m) w.reading r
          (λ m p e. p ∙ ap (λ n. words ++ behind_idle l m place n at) room
          ∙ ap (λ ws. words ++ ws) (behind_next l m place left at next (sym e ∙ is))
          ∙ sym (append_assoc words (next ∷ []) (behind m)) ∙ ap (λ ws. ws ++ behind m) (sym pushed)))
          (omega arith) (λ m h. h);
    }

-- as many follow as were passed by
passed_within : {l : Layout} {place first : ℕ} {s0 s1 : Seen} {start words : List ℕ} {passed at : ℕ}
    → Following l place first s0 s1 start words passed at
    → passed ≤ length (behind_idle l (byte_at s0.pieces) place idle_limit first)
passed_within {l = l} {place = place} {first = first} {s0 = s0} {start = start} {words = words} {passed = passed} {at = at} w =
    let here = byte_at s0.pieces in
    omega (
      arith,
      w.count,
      ap length (reading_here w.reading),
      length-append start (behind_idle l here place idle_limit first),
      length-append words (behind_idle l here place (idle_limit - passed) at),
    )

pub following_done : {l : Layout} {place first : ℕ} {s0 s1 : Seen} {start words : List ℕ} {passed at : ℕ}
    → Following l place first s0 s1 start words passed at → passed ≡ idle_limit
    → ReadingBy (λ m. 2 + 2 * length (behind_idle l m place idle_limit first)) s0 s1 (λ m. words ≡ start ++ behind_idle l m place idle_limit first)
following_done {l = l} {place = place} {words = words} {passed = passed} {at = at} w all =
    let none : idle_limit - passed ≡ 0 = omega arith in
    reading_gives _ _ w.reading (omega (arith, passed_within w))
    (λ m p. sym (p ∙ ap (λ n. words ++ behind_idle l m place n at) none
    ∙ ap (λ ws. words ++ ws) (behind_last l m place at) ∙ append-nil words))

pub following_ends : {l : Layout} {place first : ℕ} {s0 s1 s2 : Seen} {start words : List ℕ} {passed at : ℕ}
    (found : Option ℕ) → Following l place first s0 s1 start words passed at → passed < idle_limit → found ≡ None
    → Reading 2 s1 s2 (λ m. found ≡ next_by l m place at)
    → ReadingBy (λ m. 2 + 2 * length (behind_idle l m place idle_limit first)) s0 s2 (λ m. words ≡ start ++ behind_idle l m place idle_limit first)
following_ends {l = l} {place = place} {first = first} {start = start} {words = words} {passed = passed} {at = at}
    found w below none r =
    let left = idle_limit - (passed + 1) in
    let room : idle_limit - passed ≡ suc left = omega arith in
    reading_gives _ _ (reading_then (λ m. words ≡ start ++ behind_idle l m place idle_limit first) w.reading r
    (λ m p e. sym (p ∙ ap (λ n. words ++ behind_idle l m place n at) room
    ∙ ap (λ ws. words ++ ws) (behind_none l m place left at (sym e ∙ none)) ∙ append-nil words)))
    (omega (arith, passed_within w)) (λ m h. h)

pub following_lost : {l : Layout} {place first : ℕ} {s0 s1 s2 : Seen} {start words : List ℕ} {passed at : ℕ}
    (e f : StackError) → Following l place first s0 s1 start words passed at → passed < idle_limit
    → Reading 2 s1 s2 (λ m. f ≡ stack.OutOfMemory) → e ≡ f
    → ReadingBy (λ m. 2 + 2 * length (behind_idle l m place idle_limit first)) s0 s2 (λ m. e ≡ stack.OutOfMemory)
following_lost e f w below r same =
    reading_gives _ _ (reading_then (λ m. e ≡ stack.OutOfMemory) w.reading r (λ m p h. same ∙ h))
    (omega (arith, passed_within w)) (λ m h. h)

-- where a word that was found can't be kept
pub following_full : {l : Layout} {place first : ℕ} {s0 s1 s2 : Seen} {start words : List ℕ} {passed at : ℕ}
    {Q : Memory → Type 0} (e : StackError) → Following l place first s0 s1 start words passed at
    → passed < idle_limit → Reading 2 s1 s2 Q → e ≡ stack.OutOfMemory
    → ReadingBy (λ m. 2 + 2 * length (behind_idle l m place idle_limit first)) s0 s2 (λ m. e ≡ stack.OutOfMemory)
following_full e w below r is =
    reading_gives _ _ (reading_then (λ m. e ≡ stack.OutOfMemory) w.reading r (λ m p h. is))
    (omega (arith, passed_within w)) (λ m h. h)

-- ---- words, in order

led_append : (l : Layout) (m : Memory) (place : ℕ) (xs : List ℕ) (a : ℕ)
    → led_to l m place (xs ++ a ∷ [])
    ≡ led_to l m place xs ++ (a ∷ behind_idle l m (place + 8 * length xs) idle_limit a)
unfolding led_to
led_append l m place [] a =
    let same : place ≡ place + 8 * 0 = omega arith in
    append-nil _ ∙ ap (λ p. a ∷ behind_idle l m p idle_limit a) same
led_append l m place (x ∷ xs) a =
    let same : place + 8 + 8 * length xs ≡ place + 8 * suc (length xs) = omega arith in
    let first = x ∷ behind_idle l m place idle_limit x in
    ap (λ ws. first ++ ws) (led_append l m (place + 8) xs a)
    ∙ sym
    (append_assoc first (led_to l m (place + 8) xs) (a ∷ behind_idle l m (place + 8 + 8 * length xs) idle_limit a))
    ∙ ap (λ p. (first ++ led_to l m (place + 8) xs) ++ (a ∷ behind_idle l m p idle_limit a)) same

led_none : (l : Layout) (m : Memory) (place : ℕ) → led_to l m place [] ≡ []
unfolding led_to
led_none l m place = refl

-- the first of some words lead to no more than all of them
led_part : (l : Layout) (m : Memory) (place : ℕ) (xs ys : List ℕ)
    → length (led_to l m place xs) ≤ length (led_to l m place (xs ++ ys))
unfolding led_to
led_part l m place [] ys = omega arith
led_part l m place (x ∷ xs) ys =
    let first = x ∷ behind_idle l m place idle_limit x in
    omega (
      arith,
      length-append first (led_to l m (place + 8) xs),
      length-append first (led_to l m (place + 8) (xs ++ ys)),
      led_part l m (place + 8) xs ys,
    )

-- the reads of one word more
led_more : {l : Layout} {s0 s1 : Seen} {start taken candidates : List ℕ} {place : ℕ} (a : ℕ)
    → Leading l s0 s1 start taken candidates place
    → 2 * length (led_to l (byte_at s0.pieces) 0 taken)
    + (2 + 2 * length (behind_idle l (byte_at s1.pieces) place idle_limit a))
    ≡ 2 * length (led_to l (byte_at s0.pieces) 0 (taken ++ a ∷ []))
led_more {l = l} {s0 = s0} {s1 = s1} {taken = taken} {place = place} a w =
    let here = byte_at s0.pieces in
    let at : place ≡ 0 + 8 * length taken = omega (arith, w.stands) in
    omega (
      arith,
      ap (λ ps. length (behind_idle l (byte_at ps) place idle_limit a)) w.reading.pieces,
      ap (λ n. length (behind_idle l here n idle_limit a)) at,
      ap length (led_append l here 0 taken a),
      length-append (led_to l here 0 taken) (a ∷ behind_idle l here (0 + 8 * length taken) idle_limit a),
    )

pub leading_init : (l : Layout) (start : List ℕ) (s : Seen) → Leading l s s start [] start 0
leading_init l start s = record {
  stands = omega arith;
  reading = reading_none _ s _ (λ m. sym (append-nil start) ∙ ap (λ ws. start ++ ws) (sym (led_none l m 0)));
}

pub leading_more : {l : Layout} {s0 s1 s2 : Seen} {start taken candidates : List ℕ} {place : ℕ}
    (pushed new : List ℕ) (a : ℕ) → Leading l s0 s1 start taken candidates place → pushed ≡ candidates ++ a ∷ []
    → ReadingBy (λ m. 2 + 2 * length (behind_idle l m place idle_limit a)) s1 s2 (λ m. new ≡ pushed ++ behind_idle l m place idle_limit a)
    → Leading l s0 s2 start (taken ++ a ∷ []) new (place + 8)
leading_more {l = l} {start = start} {taken = taken} {candidates = candidates} {place = place} pushed new a w p r =
    let same : place ≡ 0 + 8 * length taken = omega (arith, w.stands) in
    record {
      stands = omega (arith, w.stands, length-append taken (a ∷ []));
      reading = reading_gives _ _ (reading_then (λ m. new ≡ start ++ led_to l m 0 (taken ++ a ∷ [])) w.reading r
          (λ m led e. e ∙ ap (λ ws. ws ++ behind_idle l m place idle_limit a) p
          ∙ append_assoc candidates (a ∷ []) (behind_idle l m place idle_limit a)
          ∙ ap (λ ws. ws ++ (a ∷ behind_idle l m place idle_limit a)) led
          ∙ append_assoc start (led_to l m 0 taken) (a ∷ behind_idle l m place idle_limit a)
          ∙ ap (λ n. start ++ (led_to l m 0 taken ++ (a ∷ behind_idle l m n idle_limit a))) same
          ∙ ap (λ ws. start ++ ws) (sym (led_append l m 0 taken a))))
          (omega (arith, led_more a w)) (λ m h. h);
    }

pub leading_done : {l : Layout} {s0 s1 : Seen} {start taken candidates : List ℕ} {place : ℕ} (words : List ℕ)
    → Leading l s0 s1 start taken candidates place → taken ≡ words
    → ReadingBy (λ m. 2 * length (led_to l m 0 words)) s0 s1 (λ m. candidates ≡ start ++ led_to l m 0 words)
leading_done {l = l} {s0 = s0} {s1 = s1} {start = start} {candidates = candidates} words w e =
    subst (λ ws. ReadingBy (λ m. 2 * length (led_to l m 0 ws)) s0 s1 (λ m. candidates ≡ start ++ led_to l m 0 ws)) e w.reading

pub leading_lost : {l : Layout} {s0 s1 s2 : Seen} {start taken candidates : List ℕ} {place : ℕ} (e f : StackError)
    (a : ℕ) (rest words : List ℕ) → Leading l s0 s1 start taken candidates place → words ≡ (taken ++ a ∷ []) ++ rest
    → ReadingBy (λ m. 2 + 2 * length (behind_idle l m place idle_limit a)) s1 s2 (λ m. f ≡ stack.OutOfMemory) → e ≡ f
    → ReadingBy (λ m. 2 * length (led_to l m 0 words)) s0 s2 (λ m. e ≡ stack.OutOfMemory)
leading_lost {l = l} {s0 = s0} {taken = taken} e f a rest words w parts r same =
    let here = byte_at s0.pieces in
    reading_gives _ _ (reading_then (λ m. e ≡ stack.OutOfMemory) w.reading r (λ m p h. same ∙ h))
    (omega (
      arith,
      led_more a w,
      led_part l here 0 (taken ++ a ∷ []) rest,
      ap (λ ws. length (led_to l here 0 ws)) parts,
    )) (λ m h. h)

pub leading_full : {l : Layout} {s0 s1 : Seen} {start taken candidates : List ℕ} {place : ℕ} (e : StackError)
    (rest words : List ℕ) → Leading l s0 s1 start taken candidates place → words ≡ taken ++ rest
    → e ≡ stack.OutOfMemory → ReadingBy (λ m. 2 * length (led_to l m 0 words)) s0 s1 (λ m. e ≡ stack.OutOfMemory)
leading_full {l = l} {s0 = s0} {taken = taken} e rest words w parts is =
    let here = byte_at s0.pieces in
    reading_gives _ _ w.reading
    (omega (arith, led_part l here 0 taken rest, ap (λ ws. length (led_to l here 0 ws)) parts)) (λ m h. is)

-- ---- how many they are

next_few : (next : Option ℕ) (rest : ℕ → List ℕ) (n : ℕ) → ((a : ℕ) → length (rest a) ≤ n)
    → length (with_next next rest) ≤ suc n
next_few None rest n h = omega arith
next_few (Some a) rest n h = omega (arith, h a)

behind_few : (l : Layout) (m : Memory) (place turns a : ℕ) → length (behind_idle l m place turns a) ≤ turns
unfolding behind_idle
behind_few l m place zero a = omega arith
behind_few l m place (suc turns) a =
    next_few (next_by l m place a) (λ next. behind_idle l m place turns next) turns
    (λ next. behind_few l m place turns next)

pub led_few : (l : Layout) (m : Memory) (place : ℕ) (ws : List ℕ)
    → length (led_to l m place ws) ≤ 65 * length ws
unfolding led_to
led_few l m place [] = omega arith
led_few l m place (a ∷ rest) =
    let first = a ∷ behind_idle l m place idle_limit a in
    omega (
      arith,
      length-append first (led_to l m (place + 8) rest),
      behind_few l m place idle_limit a,
      led_few l m (place + 8) rest,
    )
