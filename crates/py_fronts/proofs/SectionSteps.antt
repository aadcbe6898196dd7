-- Words of sections, of which some may be missing.
use Rattle.std.proofs.Common.{◌≡◌, ℕ, zero, suc, ◌+◌, ◌-◌, ◌*◌, ◌/◌, ◌<◌, ◌≤◌, ◌^◌, Bool, true, false, ltb, List, [], ◌∷◌, ◌++◌}
use Rattle.std.proofs.Common.{length, refl, sym, ◌∙◌, ap, arith, add-zero, append-nil, append_assoc, length-append}
use Rattle.std.specs.Prelude.{Ok, Err, Option, Some, None, if◌then◌else◌}
use Rattle.std.specs.Int.{w64, from_le_bytes}
use Rattle.std.proofs.lemmas.Bool.Decides.{nat_tests}
use Rattle.process_memory.specs.Memory.{Fault, Memory, Region, ◌>>=◌, byte_at, bytes_at, found_or, in_front, outside}
use Rattle.process_memory.specs.Memory.{record_at, word_at}
use Rattle.process_memory.specs.Memory.Fault.{Missing}
use Rattle.process_memory.specs.Seen.{Answers, Reading, Seen, read_fault}
use Rattle.process_memory.specs.declared.memory.ReadFault.{ReadFault}
use Rattle.process_memory.specs.declared.memory.ReadFault.TheVariants as read
use Rattle.process_memory.proofs.Founds.{ok_same}
use Rattle.process_memory.proofs.Reading.{reading_gives, reading_none, reading_then}
use Rattle.process_memory.proofs.Records.{Within, byte_at-above, in_front_some, record_length}
use Rattle.py_process.specs.Candidates.{words_of}
use Rattle.py_process.proofs.Words.{word_none}
use Rattle.py_stacks.specs.declared.error.StackError.{StackError}
use Rattle.py_stacks.specs.declared.error.StackError.TheVariants as stack
use Rattle.py_fronts.specs.Candidates.{Adding, word_or_none}
use Rattle.py_fronts.specs.Candidates.{words_there}

-- ---- a memory has nothing behind the last address

abbrev pub IsBounded : Memory → Type 0
IsBounded m = (a : ℕ) → 2 ^ 64 ≤ a → m a ≡ None

none_of : (o w : Option ℕ) → ((b : ℕ) → o ≡ Some b → w ≡ Some b) → w ≡ None → o ≡ None
none_of None w f e = refl
none_of (Some b) w f e = absurd (let h = f b refl in cc)

bounded : (ps : List Region) (m : Memory) → Within m (byte_at ps) → IsBounded m
bounded ps m within a past = none_of (m a) (byte_at ps a) (within a) (byte_at-above ps a (omega arith))

-- what follows in each of those that are read
pub reading_bounded : {n : ℕ} {s0 s1 : Seen} {P : Memory → Type 0} (Q : Memory → Type 0) → Reading n s0 s1 P
    → ((m : Memory) → IsBounded m → P m → Q m) → Reading n s0 s1 Q
reading_bounded {s0 = s0} Q p f = record {
  pieces = p.pieces;
  counter = p.counter;
  memory = p.memory;
  ranges = p.ranges;
  here = p.here;
  only = p.only;
  cost = p.cost;
  holds = λ m c. f m (bounded s0.pieces m c.agrees) (p.holds m c);
}

-- ---- one word

by_word : (t : Bool) (o : Option (List ℕ)) (a w : ℕ)
    → ((if t then found_or o (Missing a 8) else outside 8) >>= (λ bytes. Ok (from_le_bytes w64 bytes))) ≡ Ok w
    → word_or_none o ≡ w ∷ []
by_word true None a w e = absurd (cc)
by_word true (Some bytes) a w e = ap (λ x. x ∷ []) (ok_same (from_le_bytes w64 bytes) w e)
by_word false o a w e = absurd (cc)

by_fault : (t : Bool) (o : Option (List ℕ)) (a : ℕ) (f : Fault)
    → ((if t then found_or o (Missing a 8) else outside 8) >>= (λ bytes. Ok (from_le_bytes w64 bytes))) ≡ Err f
    → (t ≡ false → o ≡ None) → word_or_none o ≡ []
by_fault true None a f e past = refl
by_fault true (Some bytes) a f e past = absurd (cc)
by_fault false o a f e past = rw (past refl) refl

is_there : (m : Memory) (a w : ℕ) → word_at m a ≡ Ok w → word_or_none (bytes_at m a 8) ≡ w ∷ []
unfolding word_at record_at
is_there m a w e = by_word (ltb a (2 ^ 64)) (bytes_at m a 8) a w e

none_from : (m : Memory) (a n : ℕ) → m a ≡ None → bytes_at m a (suc n) ≡ None
unfolding bytes_at
none_from m a n e = rw e refl

none_past : (m : Memory) (a : ℕ) → IsBounded m → ltb a (2 ^ 64) ≡ false → bytes_at m a 8 ≡ None
none_past m a least e =
    let past : 2 ^ 64 ≤ a = grind (arith, nat_tests) in
    none_from m a 7 (least a past)

is_missing : (m : Memory) (a : ℕ) (f : Fault) → IsBounded m → word_at m a ≡ Err f → word_or_none (bytes_at m a 8) ≡ []
unfolding word_at record_at
is_missing m a f least e = by_fault (ltb a (2 ^ 64)) (bytes_at m a 8) a f e (none_past m a least)

pub word_added : (m : Memory) (a w : ℕ) (old new : List ℕ) → new ≡ old ++ w ∷ []
    → Answers {E = ReadFault} read_fault (word_at m a) (Ok w) → new ≡ old ++ word_or_none (bytes_at m a 8)
word_added m a w old new e h = e ∙ ap (λ ws. old ++ ws) (sym (is_there m a w h.is))

pub word_missing : (m : Memory) (a : ℕ) (words : List ℕ) (e : ReadFault) (addr len : ℕ) → IsBounded m
    → e ≡ read.Unreadable addr len → Answers {T = ℕ} read_fault (word_at m a) (Err e)
    → words ≡ words ++ word_or_none (bytes_at m a 8)
word_missing m a words e addr len least is h =
    let lost : word_at m a ≡ Err (Missing addr len) = rw is at h.is in
    sym (append-nil words) ∙ ap (λ ws. words ++ ws) (sym (is_missing m a (Missing addr len) least lost))

-- ---- words, one after another

pub words_split : (m : Memory) (a n k : ℕ)
    → words_there m a (n + k) ≡ words_there m a n ++ words_there m (a + 8 * n) k
unfolding words_there
words_split m a zero k =
    let same : zero + k ≡ k = omega arith in
    let here : a + 8 * 0 ≡ a = omega arith in
    rw (same, here) refl
words_split m a (suc n) k =
    let more : suc n + k ≡ suc (n + k) = omega arith in
    let next : a + 8 * suc n ≡ (a + 8) + 8 * n = omega arith in
    rw (more, next) (ap (λ ws. word_or_none (bytes_at m a 8) ++ ws) (words_split m (a + 8) n k)
    ∙ sym (append_assoc (word_or_none (bytes_at m a 8)) (words_there m (a + 8) n) (words_there m ((a + 8) + 8 * n) k)))

pub words_none : (m : Memory) (a : ℕ) → words_there m a 0 ≡ []
unfolding words_there
words_none m a = refl

words_one : (m : Memory) (a : ℕ) → words_there m a 1 ≡ word_or_none (bytes_at m a 8)
unfolding words_there
words_one m a = append-nil (word_or_none (bytes_at m a 8))

one_most : (o : Option (List ℕ)) → length (word_or_none o) ≤ 1
one_most None = omega arith
one_most (Some bytes) = omega arith

pub words_few : (m : Memory) (a n : ℕ) → length (words_there m a n) ≤ n
unfolding words_there
words_few m a zero = omega arith
words_few m a (suc n) =
    omega (
      arith,
      one_most (bytes_at m a 8),
      words_few m (a + 8) n,
      length-append (word_or_none (bytes_at m a 8)) (words_there m (a + 8) n),
    )

pub adding_init : (at count : ℕ) (s : Seen) (words : List ℕ) → Adding at count s s words words 0
adding_init at count s words = record {
  within = omega arith;
  reading = reading_none 0 s _ (λ m. sym (append-nil words) ∙ ap (λ ws. words ++ ws) (sym (words_none m at)));
}

pub adding_more : {at count : ℕ} {s0 s1 s2 : Seen} {start words : List ℕ} {done : ℕ} (new : List ℕ)
    → Adding at count s0 s1 start words done → done < count
    → Reading 1 s1 s2 (λ m. new ≡ words ++ word_or_none (bytes_at m (at + 8 * done) 8))
    → Adding at count s0 s2 start new (done + 1)
adding_more {at = at} {start = start} {words = words} {done = done} new w below r = record {
  within = omega arith;
  reading = reading_then (λ m. new ≡ start ++ words_there m at (done + 1)) w.reading r (λ m before e.
      e ∙ ap (λ ws. ws ++ word_or_none (bytes_at m (at + 8 * done) 8)) before
      ∙ append_assoc start (words_there m at done) (word_or_none (bytes_at m (at + 8 * done) 8))
      ∙ ap (λ ws. start ++ ws) (ap (λ ws. words_there m at done ++ ws) (sym (words_one m (at + 8 * done)))
      ∙ sym (words_split m at done 1)));
}

pub adding_done : {at : ℕ} {s0 s1 : Seen} {start words : List ℕ} {done : ℕ} (count : ℕ)
    → Adding at count s0 s1 start words done → count ≤ done
    → Reading count s0 s1 (λ m. words ≡ start ++ words_there m at count)
adding_done {at = at} {start = start} {done = done} count w all =
    let e : done ≡ count = omega (arith, w.within) in
    reading_gives count _ w.reading (omega arith) (λ m h. h ∙ ap (λ n. start ++ words_there m at n) e)

pub adding_lost : {at : ℕ} {s0 s1 s2 : Seen} {start words : List ℕ} {done : ℕ} (count : ℕ) (e f : StackError)
    → Adding at count s0 s1 start words done → done < count → Reading 1 s1 s2 (λ m. f ≡ stack.OutOfMemory) → e ≡ f
    → Reading count s0 s2 (λ m. e ≡ stack.OutOfMemory)
adding_lost count e f w below r same =
    reading_gives count _ (reading_then (λ m. e ≡ stack.OutOfMemory) w.reading r (λ m p h. same ∙ h)) (omega arith)
    (λ m h. h)

-- ---- the words of bytes that are all there

abbrev joined : Option (List ℕ) → Option (List ℕ) → Option (List ℕ)
joined None ys = None
joined (Some xs) None = None
joined (Some xs) (Some ys) = Some (xs ++ ys)

joined_front : (b : Option ℕ) (xs ys : Option (List ℕ)) → joined (in_front b xs) ys ≡ in_front b (joined xs ys)
joined_front None None ys = refl
joined_front None (Some xs) ys = refl
joined_front (Some b) None ys = refl
joined_front (Some b) (Some xs) None = refl
joined_front (Some b) (Some xs) (Some ys) = refl

joined_none : (ys : Option (List ℕ)) → joined (Some []) ys ≡ ys
joined_none None = refl
joined_none (Some ys) = refl

bytes_split : (m : Memory) (a n k : ℕ) → bytes_at m a (n + k) ≡ joined (bytes_at m a n) (bytes_at m (a + n) k)
unfolding bytes_at
bytes_split m a zero k =
    let same : zero + k ≡ k = omega arith in
    rw (same, add-zero) (sym (joined_none (bytes_at m a k)))
bytes_split m a (suc n) k =
    let more : suc n + k ≡ suc (n + k) = omega arith in
    let next : a + suc n ≡ (a + 1) + n = omega arith in
    rw (more, next) (ap (in_front (m a)) (bytes_split m (a + 1) n k) ∙ sym (joined_front (m a) (bytes_at m (a + 1) n)
    (bytes_at m ((a + 1) + n) k)))

joined_some : (o p : Option (List ℕ)) (bs : List ℕ) → joined o p ≡ Some bs
    → (xs : List ℕ) × (ys : List ℕ) × (o ≡ Some xs) × (p ≡ Some ys) × (bs ≡ xs ++ ys)
joined_some None p bs e = absurd (cc)
joined_some (Some xs) None bs e = absurd (cc)
joined_some (Some xs) (Some ys) bs e = (xs, ys, refl, refl, let h : bs ≡ xs ++ ys = cc in h)

bytes_length : (m : Memory) (a n : ℕ) (bs : List ℕ) → bytes_at m a n ≡ Some bs → length bs ≡ n
unfolding bytes_at
bytes_length m a zero bs e = let h : [] ≡ bs = cc in rw (← h) refl
bytes_length m a (suc n) bs e =
    let p = in_front_some (m a) (bytes_at m (a + 1) n) bs e in
    ap length p.4 ∙ ap suc (bytes_length m (a + 1) n p.1 p.3)

first_word : (word rest : List ℕ) → length word ≡ 8
    → words_of (word ++ rest) ≡ from_le_bytes w64 word ∷ words_of rest
unfolding words_of
first_word [] rest e = absurd (omega arith)
first_word (a ∷ []) rest e = absurd (omega arith)
first_word (a ∷ b ∷ []) rest e = absurd (omega arith)
first_word (a ∷ b ∷ c ∷ []) rest e = absurd (omega arith)
first_word (a ∷ b ∷ c ∷ d ∷ []) rest e = absurd (omega arith)
first_word (a ∷ b ∷ c ∷ d ∷ f ∷ []) rest e = absurd (omega arith)
first_word (a ∷ b ∷ c ∷ d ∷ f ∷ g ∷ []) rest e = absurd (omega arith)
first_word (a ∷ b ∷ c ∷ d ∷ f ∷ g ∷ h ∷ []) rest e = absurd (omega arith)
first_word (a ∷ b ∷ c ∷ d ∷ f ∷ g ∷ h ∷ i ∷ []) rest e = refl
first_word (a ∷ b ∷ c ∷ d ∷ f ∷ g ∷ h ∷ i ∷ j ∷ more) rest e = absurd (omega arith)

pub words_whole : (m : Memory) (a k r : ℕ) (bs : List ℕ) → r < 8 → bytes_at m a (8 * k + r) ≡ Some bs
    → words_of bs ≡ words_there m a k
unfolding words_there
words_whole m a zero r bs few e =
    let same : 8 * 0 + r ≡ r = omega arith in
    word_none bs (omega (arith, bytes_length m a (8 * 0 + r) bs e, same))
words_whole m a (suc k) r bs few e =
    let more : 8 * suc k + r ≡ 8 + (8 * k + r) = omega arith in
    let p = joined_some (bytes_at m a 8) (bytes_at m (a + 8) (8 * k + r)) bs
    (sym (bytes_split m a 8 (8 * k + r)) ∙ ap (bytes_at m a) (sym more) ∙ e) in
    ap words_of p.4 ∙ first_word p.0 p.1 (bytes_length m a 8 p.0 p.2)
    ∙ ap (λ ws. from_le_bytes w64 p.0 ∷ ws) (words_whole m (a + 8) k r p.1 few p.3)
    ∙ ap (λ o. word_or_none o ++ words_there m (a + 8) k) (sym p.2)

bytes_of_record : (t : Bool) (o : Option (List ℕ)) (a n : ℕ) (bs : List ℕ)
    → (if t then found_or o (Missing a (suc n)) else outside (suc n)) ≡ Ok bs → o ≡ Some bs
bytes_of_record true None a n bs e = absurd (cc)
bytes_of_record true (Some x) a n bs e = ap Some (ok_same x bs e)
bytes_of_record false o a n bs e = absurd (cc)

record_bytes : (m : Memory) (a n : ℕ) (bs : List ℕ) → record_at m a (suc n) ≡ Ok bs → bytes_at m a (suc n) ≡ Some bs
unfolding record_at
record_bytes m a n bs e = bytes_of_record (ltb a (2 ^ 64)) (bytes_at m a (suc n)) a n bs e

-- the words of a record, of which none is missing
pub record_there : (m : Memory) (a size : ℕ) (bs : List ℕ) → record_at m a size ≡ Ok bs
    → words_of bs ≡ words_there m a (size / 8)
record_there m a zero bs e =
    let none : 0 / 8 ≡ 0 = omega arith in
    word_none bs (omega (arith, record_length m a 0 bs e)) ∙ sym (ap (words_there m a) none ∙ words_none m a)
record_there m a (suc n) bs e =
    let k = suc n / 8 in
    let r = suc n - 8 * k in
    let parts : 8 * k + r ≡ suc n = omega arith in
    words_whole m a k r bs (omega arith) (ap (bytes_at m a) parts ∙ record_bytes m a n bs e)

-- ---- a piece, as it is read

pub piece_whole : (m : Memory) (a count : ℕ) (bytes read words new : List ℕ) → words ≡ []
    → Answers {E = ReadFault} read_fault (record_at m a (8 * count)) (Ok bytes) → read ≡ bytes
    → new ≡ words ++ words_of read → new ≡ words_there m a count
piece_whole m a count bytes read words new none h same e =
    let all : (8 * count) / 8 ≡ count = omega arith in
    e ∙ ap (λ ws. ws ++ words_of read) none ∙ ap words_of same ∙ record_there m a (8 * count) bytes h.is
    ∙ ap (words_there m a) all

pub piece_parts : (m : Memory) (a count : ℕ) (words new : List ℕ) → words ≡ [] → new ≡ words ++ words_there m a count
    → new ≡ words_there m a count
piece_parts m a count words new none e = e ∙ ap (λ ws. ws ++ words_there m a count) none
