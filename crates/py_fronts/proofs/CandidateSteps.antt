-- Candidates, one after another.
use Rattle.std.proofs.Common.{◌≡◌, ℕ, suc, ◌*◌, ◌/◌, ◌<◌, ◌≤◌, min, Bool, true, false, not, List, [], ◌∷◌, ◌++◌, length, refl, sym, ◌∙◌, ap, arith}
use Rattle.std.proofs.Common.{append-nil, append_assoc}
use Rattle.std.specs.Prelude.{Ok, Err, Option, Some, None, Result, if◌then◌else◌, nat_eq, option_to_list}
use Rattle.elf64_core.specs.Fields.{u64_in}
use Rattle.process_memory.specs.Memory.{Found, Memory, record_at}
use Rattle.process_memory.proofs.Records.{record_length}
use Rattle.process_memory.specs.Seen.{Answers, read_fault}
use Rattle.process_memory.specs.declared.memory.ReadFault.{ReadFault}
use Rattle.process_memory.specs.declared.memory.ReadFault.TheVariants as read
use Rattle.py_fields.specs.declared.version.Version.{Version}
use Rattle.py_fields.specs.declared.layout.Layout.{Layout}
use Rattle.py_process.specs.Facts.{Known}
use Rattle.py_process.specs.Candidates.{ListIs, head_by, head_from, section_words, words_in, words_of}
use Rattle.py_process.specs.declared.search_error.SearchError.{SearchError}
use Rattle.py_process.proofs.Searches.{section_missing}
use Rattle.py_process.proofs.Words.{word_first, word_none}
use Rattle.py_stacks.specs.declared.error.StackError.{StackError}
use Rattle.py_fronts.specs.Answers.{IsOrNoMemory}
use Rattle.py_fronts.specs.Candidates.{AddsWords, head_given, head_in_sections, led_to}
use Rattle.py_fronts.specs.Candidates.{named_candidates, or_else, other_than, others_led_to, runtime_in}
use Rattle.py_fronts.specs.Candidates.{record_candidates, record_words}
use Rattle.py_fronts.specs.Candidates.{record_most, record_words_limit, with_records}
use Rattle.py_fronts.proofs.IdleSteps.{led_few}

pub words_start : (start bytes rest : List ℕ) → rest ≡ bytes → start ++ words_of rest ≡ start ++ words_of bytes
words_start start bytes rest e = ap (λ bs. start ++ words_of bs) e

pub words_more : (all words rest word more : List ℕ) (a : ℕ) → rest ≡ word ++ more → length word ≡ 8 → a ≡ u64_in word 0 → words ++ words_of rest ≡ all → (words ++ a ∷ []) ++ words_of more ≡ all
words_more all words rest word more a parts eight is h =
    append_assoc words (a ∷ []) (words_of more) ∙ ap (λ x. words ++ x ∷ words_of more) is ∙ ap (λ ws. words ++ ws) (sym (word_first word more eight)) ∙ ap (λ bs. words ++ words_of bs) (sym parts) ∙ h

pub words_done : (all words rest : List ℕ) → length rest < 8 → words ++ words_of rest ≡ all → words ≡ all
words_done all words rest few h = sym (append-nil words) ∙ ap (λ ws. words ++ ws) (sym (word_none rest few)) ∙ h

pub section_lost : (m : Memory) (addr size : ℕ) (e : ReadFault) (a n : ℕ) (words : List ℕ) → e ≡ read.Unreadable a n → Answers {T = List ℕ} read_fault (record_at m addr size) (Err e) → words ≡ words ++ section_words m addr size
section_lost m addr size e a n words is h = sym (append-nil words) ∙ ap (λ ws. words ++ ws) (sym (section_missing m addr size e a n is h))

pub section_there : (m : Memory) (addr size : ℕ) (bytes read old new : List ℕ) → read ≡ bytes → Answers {E = ReadFault} read_fault (record_at m addr size) (Ok bytes) → new ≡ old ++ words_of read → new ≡ old ++ section_words m addr size
section_there m addr size bytes read old new whole a h = h ∙ ap (λ bs. old ++ words_of bs) whole ∙ ap (λ d. old ++ words_in d) (sym a.is)

-- ---- those that are named

or_found : (xs ys : List ℕ) (found : Option ℕ) (a : ℕ) → found ≡ Some a → xs ≡ option_to_list found
    → or_else xs ys ≡ a ∷ []
or_found xs ys found a e h =
    let there : xs ≡ a ∷ [] = rw e at h in
    rw there refl

or_next : (xs ys : List ℕ) (found : Option ℕ) (next : Result (Option ℕ) SearchError) → found ≡ None
    → xs ≡ option_to_list found → ListIs ys next → ListIs (or_else xs ys) next
or_next xs ys found next e h rest =
    let none : xs ≡ [] = rw e at h in
    rw none rest

pub sections_next : (k : Known) (v : Version) (l : Layout) (m : Memory) (program library found : Option ℕ)
    (next : Result (Option ℕ) SearchError) → program ≡ runtime_in k.program → library ≡ runtime_in k.library
    → found ≡ None → head_from l.head v l m program ≡ option_to_list found
    → ListIs (head_from l.head v l m library) next → ListIs (head_in_sections k v l m) next
sections_next k v l m program library found next p q none h rest =
    or_next (head_from l.head v l m (runtime_in k.program)) (head_from l.head v l m (runtime_in k.library)) found next
    none (rw p at h) (rw q at rest)

pub given_found : (k : Known) (v : Version) (l : Layout) (m : Memory) (found : Option ℕ) (a : ℕ) → found ≡ Some a
    → head_by l.head k v l m ≡ option_to_list found → head_given k v l m ≡ a ∷ []
unfolding head_given
given_found k v l m found a e h = or_found (head_by l.head k v l m) (head_in_sections k v l m) found a e h

pub given_next : (k : Known) (v : Version) (l : Layout) (m : Memory) (found : Option ℕ)
    (next : Result (Option ℕ) SearchError) → found ≡ None → head_by l.head k v l m ≡ option_to_list found
    → ListIs (head_in_sections k v l m) next → ListIs (head_given k v l m) next
unfolding head_given
given_next k v l m found next none h rest =
    or_next (head_by l.head k v l m) (head_in_sections k v l m) found next none h rest

behind_head : (l : Layout) (m : Memory) (values : List ℕ) (head : ℕ) → values ≡ head ∷ []
    → head ∷ record_candidates l m head ≡ with_records l m values
behind_head l m values head e = rw e (ap (λ xs. head ∷ xs) (sym (append-nil (record_candidates l m head))))

pub head_named : (k : Known) (v : Version) (l : Layout) (m : Memory) (head : ℕ) (read : Result (Option ℕ) SearchError)
    (result : Result (List ℕ) StackError) → read ≡ Ok (Some head) → ListIs (head_given k v l m) read
    → IsOrNoMemory (head ∷ record_candidates l m head) result → IsOrNoMemory (named_candidates k v l m) result
unfolding named_candidates
head_named k v l m head read (Ok words) e is h =
    let there : head_given k v l m ≡ head ∷ [] = rw e at is in
    h ∙ behind_head l m (head_given k v l m) head there
head_named k v l m head read (Err f) e is h = h

pub none_named : (k : Known) (v : Version) (l : Layout) (m : Memory) (words : List ℕ)
    (read : Result (Option ℕ) SearchError) → read ≡ Ok None → ListIs (head_given k v l m) read → words ≡ []
    → words ≡ named_candidates k v l m
unfolding named_candidates
none_named k v l m words read e is h =
    let none : head_given k v l m ≡ [] = rw e at is in
    h ∙ ap (with_records l m) (sym none)

-- ---- those that a record leads to

pub words_recorded : (l : Layout) (m : Memory) (a count : ℕ) (words one : List ℕ) → words ≡ []
    → count ≡ min (l.interpreter.threads / 8) 1024 → one ≡ words ++ section_words m a (8 * count)
    → one ≡ record_words l m a
unfolding record_words
words_recorded l m a count words one none is h =
    h ∙ ap (λ ws. ws ++ section_words m a (8 * count)) none ∙ ap (λ n. section_words m a (8 * n)) is

pub record_added : (l : Layout) (m : Memory) (a : ℕ) (words read old new : List ℕ)
    (result : Result (Unit {0}) StackError) → words ≡ record_words l m a → read ≡ words
    → AddsWords old (led_to l m 0 read) new result → AddsWords old (record_candidates l m a) new result
unfolding record_candidates
record_added l m a words read old new (Ok u) is same h = h ∙ ap (λ ws. old ++ led_to l m 0 ws) (same ∙ is)
record_added l m a words read old new (Err e) is same h = h

kept_few : (b : Bool) (x : ℕ) (xs : List ℕ) (n : ℕ) → length xs ≤ n → length (if b then x ∷ xs else xs) ≤ suc n
kept_few true x xs n h = omega (arith, h)
kept_few false x xs n h = omega (arith, h)

others_few : (a : ℕ) (xs : List ℕ) → length (other_than a xs) ≤ length xs
others_few a [] = omega arith
others_few a (x ∷ xs) = kept_few (not (nat_eq x a)) x (other_than a xs) (length xs) (others_few a xs)

-- its reads, by what is read
pub record_cost : (l : Layout) (m : Memory) (a : ℕ) (words read : List ℕ) → words ≡ record_words l m a → read ≡ words
    → length (led_to l m 0 read) ≡ length (record_candidates l m a)
unfolding record_candidates
record_cost l m a words read is same = ap (λ ws. length (led_to l m 0 ws)) (same ∙ is)

pub others_within : (l : Layout) (m : Memory) (a : ℕ) (words : List ℕ) → words ≡ others_led_to l m a
    → length words ≤ length (record_candidates l m a)
unfolding others_led_to
others_within l m a words e = omega (arith, ap length e, others_few a (record_candidates l m a))

pub record_led : (l : Layout) (m : Memory) (a : ℕ) (words one others : List ℕ) → words ≡ []
    → one ≡ words ++ record_candidates l m a → others ≡ other_than a one → others ≡ others_led_to l m a
unfolding others_led_to
record_led l m a words one others h p e =
    e ∙ ap (other_than a) (p ∙ ap (λ ws. ws ++ record_candidates l m a) h)

words_few : (bytes : List ℕ) → 8 * length (words_of bytes) ≤ length bytes
unfolding words_of
words_few [] = omega arith
words_few (a ∷ []) = omega arith
words_few (a ∷ b ∷ []) = omega arith
words_few (a ∷ b ∷ c ∷ []) = omega arith
words_few (a ∷ b ∷ c ∷ d ∷ []) = omega arith
words_few (a ∷ b ∷ c ∷ d ∷ f ∷ []) = omega arith
words_few (a ∷ b ∷ c ∷ d ∷ f ∷ g ∷ []) = omega arith
words_few (a ∷ b ∷ c ∷ d ∷ f ∷ g ∷ h ∷ []) = omega arith
words_few (a ∷ b ∷ c ∷ d ∷ f ∷ g ∷ h ∷ i ∷ rest) = omega (arith, words_few rest)

few_in : (m : Memory) (a n : ℕ) (d : Found (List ℕ)) → record_at m a n ≡ d → 8 * length (words_in d) ≤ n
few_in m a n (Ok bytes) e = omega (arith, words_few bytes, record_length m a n bytes e)
few_in m a n (Err f) e = omega arith

pub words_few_recorded : (l : Layout) (m : Memory) (a : ℕ) (words : List ℕ) → words ≡ record_words l m a
    → length words ≤ min (l.interpreter.threads / 8) record_words_limit
unfolding record_words
words_few_recorded l m a words e =
    let size = 8 * min (l.interpreter.threads / 8) 1024 in
    let few = few_in m a size (record_at m a size) refl in
    omega (arith, few, ap length e)

pub candidates_few : (l : Layout) (m : Memory) (a : ℕ) → length (record_candidates l m a) ≤ record_most l
unfolding record_candidates
candidates_few l m a =
    omega (arith, led_few l m 0 (record_words l m a), words_few_recorded l m a (record_words l m a) refl)

pub record_few : (l : Layout) (m : Memory) (a : ℕ) (words : List ℕ) → words ≡ others_led_to l m a
    → length words ≤ record_most l
unfolding others_led_to
record_few l m a words e =
    omega (arith, others_few a (record_candidates l m a), candidates_few l m a, ap length e)
