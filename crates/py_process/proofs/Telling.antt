-- What sources tell, one after another, and that they tell one thing alone.
use Rattle.std.proofs.Common.{◌≡◌, ℕ, ◌+◌, ◌<◌, ◌≤◌, List, [], ◌∷◌, ◌++◌, refl, sym, ap, subst, ◌∙◌, arith, inl, inr}
use Rattle.std.specs.Prelude.{◌⊎◌, Option, Some, None, Result, Ok, Err, option_map}
use Rattle.std.specs.Int.{w32, from_le_bytes}
use Rattle.std.proofs.lemmas.Bool.{cases_lt}
use Rattle.process_memory.specs.Memory.{Memory, Found, Fault, record_at}
use Rattle.process_memory.specs.Memory.Fault.{Missing}
use Rattle.process_memory.specs.Seen.{Answers, ReadingOf, Seen, read_fault}
use Rattle.process_memory.specs.declared.memory.Span.{Span}
use Rattle.process_memory.specs.declared.memory.ReadFault.{ReadFault}
use Rattle.process_memory.specs.declared.memory.ReadFault.TheVariants as read
use Rattle.process_memory.proofs.Reading.{reading_gives, reading_then, reads_within}
use Rattle.py_fields.specs.Spelling.{IsLeftmost, SpellsAt}
use Rattle.py_fields.specs.declared.version.Version.{Version}
use Rattle.py_fields.proofs.Scans.{not_none}
use Rattle.py_fields.proofs.Unique.{spells_once}
use Rattle.py_process.specs.Causes.{version_unread}
use Rattle.py_process.specs.Facts.{facts_of}
use Rattle.py_process.specs.Sources.{BytesTell, FirstTells, IsVersionTold, SectionTells, VersionSource, TellsVersion}
use Rattle.py_process.specs.Sources.{TellsBefore, TextTells, ToldBy, VersionIs, bss_of, version_number_at}
use Rattle.py_process.specs.Sources.{text_source_at, version_of_number}
use Rattle.py_process.specs.Sources.VersionSource.{Number, Text, Section, Path}
use Rattle.py_process.specs.declared.binary.BinaryInfo.{BinaryInfo}
use Rattle.py_process.specs.declared.version_error.VersionError.{VersionError}
use Rattle.py_process.specs.declared.version_error.VersionError.TheVariants.{Unreadable, NotFound, OutOfMemory}

-- ---- one source

pub number_told : (m : Memory) (addr : ℕ) (bytes : List ℕ) (n : ℕ) (v : Version) → n ≡ from_le_bytes w32 bytes → v ≡ version_of_number n
    → Answers {E = ReadFault} read_fault (record_at m addr 4) (Ok bytes) → Ok (Some v) ≡ version_number_at m addr
number_told m addr bytes n v is of a = rw (a.is, of, is) refl

pub section_unread : (m : Memory) (addr size : ℕ) (e : ReadFault) (d : VersionError) → d ≡ version_unread e
    → Answers {T = List ℕ} read_fault (record_at m addr size) (Err e) → ToldBy (TellsVersion m (Section addr size)) (Err d)
section_unread m addr size (read.Unreadable a n) d is answers = rw (is, answers.is) refl
section_unread m addr size read.OutOfMemory d is answers = rw is tt

pub section_told : (m : Memory) (addr size : ℕ) (bytes : List ℕ) (r : Result (Option Version) VersionError)
    → Answers {E = ReadFault} read_fault (record_at m addr size) (Ok bytes) → ToldBy (SectionTells (Ok bytes)) r → ToldBy (TellsVersion m (Section addr size)) r
section_told m addr size bytes r a t = subst (λ d. ToldBy (SectionTells d) r) (sym a.is) t

pub told_one : (m : Memory) (source : VersionSource) (r : Result (Option Version) VersionError) → ToldBy (TellsVersion m source) r → ToldBy (FirstTells m (source ∷ [])) r
unfolding FirstTells
told_one m source (Ok None) t = (Ok None, t, refl)
told_one m source (Ok (Some v)) t = (Ok (Some v), t, refl)
told_one m source (Err (Unreadable a n)) t = (Err (Missing a n), t, refl)
told_one m source (Err NotFound) t = t
told_one m source (Err OutOfMemory) t = tt

pub told_symbol : (m : Memory) (symbol : Option ℕ) (addr : ℕ) (r : Result (Option Version) VersionError) → symbol ≡ Some addr
    → ToldBy (TellsVersion m (Text addr)) r → ToldBy (FirstTells m (text_source_at symbol)) r
told_symbol m symbol addr r is t = rw is (told_one m (Text addr) r t)

pub no_symbol : (m : Memory) (symbol : Option ℕ) → symbol ≡ None → FirstTells m (text_source_at symbol) (Ok None)
unfolding FirstTells
no_symbol m symbol is = rw is refl

pub told_bss : (m : Memory) (info : Option BinaryInfo) (binary : BinaryInfo) (r : Result (Option Version) VersionError) → info ≡ Some binary
    → ToldBy (TellsVersion m (Section binary.bss_addr binary.bss_size)) r → ToldBy (FirstTells m (bss_of (option_map facts_of info))) r
told_bss m info binary r is t = rw is (told_one m (Section binary.bss_addr binary.bss_size) r t)

pub no_bss : (m : Memory) (info : Option BinaryInfo) → info ≡ None → FirstTells m (bss_of (option_map facts_of info)) (Ok None)
unfolding FirstTells
no_bss m info is = rw is refl

-- ---- one after another

before_none : (own told : Found (Option Version)) (P Q : Found (Option Version) → Type 0) → (P (Ok None) → Q told) → TellsBefore own P (Ok None) → TellsBefore own Q told
before_none (Ok None) told P Q f b = f b
before_none (Ok (Some v)) told P Q f b = absurd (cc)
before_none (Err e) told P Q f b = absurd (cc)

before_same : (own told : Found (Option Version)) (P Q : Found (Option Version) → Type 0) → (P told → Q told) → TellsBefore own P told → TellsBefore own Q told
before_same (Ok None) told P Q f b = f b
before_same (Ok (Some v)) told P Q f b = b
before_same (Err e) told P Q f b = b

none_then : (m : Memory) (xs ys : List VersionSource) (told : Found (Option Version)) → FirstTells m xs (Ok None) → FirstTells m ys told → FirstTells m (xs ++ ys) told
unfolding FirstTells
none_then m [] ys told none t = t
none_then m (x ∷ xs) ys told (own, tells, before) t = (own, tells, before_none own told (FirstTells m xs) (FirstTells m (xs ++ ys)) (λ b. none_then m xs ys told b t) before)

some_then : (m : Memory) (xs ys : List VersionSource) (v : Version) → FirstTells m xs (Ok (Some v)) → FirstTells m (xs ++ ys) (Ok (Some v))
unfolding FirstTells
some_then m [] ys v t = absurd (cc)
some_then m (x ∷ xs) ys v (own, tells, before) = (own, tells, before_same own (Ok (Some v)) (FirstTells m xs) (FirstTells m (xs ++ ys)) (λ b. some_then m xs ys v b) before)

fault_then : (m : Memory) (xs ys : List VersionSource) (f : Fault) → FirstTells m xs (Err f) → FirstTells m (xs ++ ys) (Err f)
unfolding FirstTells
fault_then m [] ys f t = absurd (cc)
fault_then m (x ∷ xs) ys f (own, tells, before) = (own, tells, before_same own (Err f) (FirstTells m xs) (FirstTells m (xs ++ ys)) (λ b. fault_then m xs ys f b) before)

error_then : (m : Memory) (xs ys : List VersionSource) (e : VersionError) → ToldBy (FirstTells m xs) (Err e) → ToldBy (FirstTells m (xs ++ ys)) (Err e)
error_then m xs ys (Unreadable a n) t = fault_then m xs ys (Missing a n) t
error_then m xs ys NotFound t = t
error_then m xs ys OutOfMemory t = tt

told_then : (m : Memory) (xs ys : List VersionSource) (r : Result (Option Version) VersionError) → FirstTells m xs (Ok None) → ToldBy (FirstTells m ys) r → ToldBy (FirstTells m (xs ++ ys)) r
told_then m xs ys (Ok v) none t = none_then m xs ys (Ok v) none t
told_then m xs ys (Err (Unreadable a n)) none t = none_then m xs ys (Err (Missing a n)) none t
told_then m xs ys (Err NotFound) none t = t
told_then m xs ys (Err OutOfMemory) none t = tt

pub reads_on : {allowed : Memory → Span → Type 0} {n k : ℕ} {s0 s1 s2 : Seen} (most : ℕ) (xs ys : List VersionSource) (o : Option Version) (r : Result (Option Version) VersionError) → o ≡ None
    → ReadingOf allowed n s0 s1 (λ m. ToldBy (FirstTells m xs) (Ok o)) → ReadingOf allowed k s1 s2 (λ m. ToldBy (FirstTells m ys) r) → n + k ≤ most
    → ReadingOf allowed most s0 s2 (λ m. ToldBy (FirstTells m (xs ++ ys)) r)
reads_on most xs ys o r none p q le =
    reads_within most (reading_then (λ m. ToldBy (FirstTells m (xs ++ ys)) r) p q (λ m a b. told_then m xs ys r (subst (λ x. FirstTells m xs (Ok x)) none a) b)) le

pub reads_version : {allowed : Memory → Span → Type 0} {n : ℕ} {s0 s1 : Seen} (most : ℕ) (xs ys : List VersionSource) (o : Option Version) (v : Version) → o ≡ Some v
    → ReadingOf allowed n s0 s1 (λ m. ToldBy (FirstTells m xs) (Ok o)) → n ≤ most
    → ReadingOf allowed most s0 s1 (λ m. ToldBy (FirstTells m (xs ++ ys)) (Ok (Some v)))
reads_version most xs ys o v is p le = reading_gives most _ p le (λ m t. some_then m xs ys v (subst (λ x. FirstTells m xs (Ok x)) is t))

pub reads_error : {allowed : Memory → Span → Type 0} {n : ℕ} {s0 s1 : Seen} (most : ℕ) (xs ys : List VersionSource) (e d : VersionError) → d ≡ e
    → ReadingOf allowed n s0 s1 (λ m. ToldBy (FirstTells m xs) (Err e)) → n ≤ most
    → ReadingOf allowed most s0 s1 (λ m. ToldBy (FirstTells m (xs ++ ys)) (Err d))
reads_error most xs ys e d same p le = reading_gives most _ p le (λ m t. rw same (error_then m xs ys e t))

-- the same of an equal symbol
pub reads_along : {allowed : Memory → Span → Type 0} {n : ℕ} {s0 s1 : Seen} (a b : Option ℕ) (r : Result (Option Version) VersionError) → a ≡ b
    → ReadingOf allowed n s0 s1 (λ m. ToldBy (FirstTells m (text_source_at a)) r) → ReadingOf allowed n s0 s1 (λ m. ToldBy (FirstTells m (text_source_at b)) r)
reads_along {n = n} a b r e p = reading_gives n _ p (omega arith) (λ m t. subst (λ s. ToldBy (FirstTells m (text_source_at s)) r) e t)

-- ---- one thing alone

leftmost_once : (bytes : List ℕ) (v w : Version) → IsLeftmost bytes v → IsLeftmost bytes w → v ≡ w
leftmost_once bytes v w a b = by (cases_lt a.place b.place) (cases_lt b.place a.place)
  where
    by : (a.place < b.place) ⊎ (b.place ≤ a.place) → (b.place < a.place) ⊎ (a.place ≤ b.place) → v ≡ w
    by (inl lt) other = absurd (b.first a.place a.text v lt a.here)
    by (inr le) (inl lt) = absurd (a.first b.place b.text w lt b.here)
    by (inr le) (inr ge) =
        let same : b.place ≡ a.place = omega arith in
        (spells_once bytes a.place a.text b.text v w a.here (let here : SpellsAt bytes a.place b.text w = rw same at b.here in here)).1

bytes_once : (bytes : List ℕ) (a b : Option Version) → BytesTell bytes a → BytesTell bytes b → a ≡ b
bytes_once bytes None None p q = refl
bytes_once bytes None (Some w) p q = absurd (not_none bytes w q p)
bytes_once bytes (Some v) None p q = absurd (not_none bytes v p q)
bytes_once bytes (Some v) (Some w) p q = ap (λ x. Some x) (leftmost_once bytes v w p q)

text_once : (d : Found (List ℕ)) (a b : Found (Option Version)) → TextTells d a → TextTells d b → a ≡ b
text_once (Ok bytes) (Ok v) (Ok w) p q = ap (λ x. Ok x) (bytes_once bytes v w p q)
text_once (Ok bytes) (Ok v) (Err f) p q = absurd q
text_once (Ok bytes) (Err f) b p q = absurd p
text_once (Err f) a b p q = p ∙ sym q

section_once : (d : Found (List ℕ)) (a b : Found (Option Version)) → SectionTells d a → SectionTells d b → a ≡ b
section_once (Ok bytes) (Ok v) (Ok w) p q = ap (λ x. Ok x) (bytes_once bytes v w p q)
section_once (Ok bytes) (Ok v) (Err f) p q = absurd q
section_once (Ok bytes) (Err f) b p q = absurd p
section_once (Err f) a b p q = p ∙ sym q

source_once : (m : Memory) (source : VersionSource) (a b : Found (Option Version)) → TellsVersion m source a → TellsVersion m source b → a ≡ b
source_once m (Number addr) a b p q = p ∙ sym q
source_once m (Text addr) a b p q = text_once (record_at m addr 128) a b p q
source_once m (Section addr size) a b p q = section_once (record_at m addr size) a b p q
source_once m (Path path) a b p q = p ∙ sym q

before_once : (own own' a b : Found (Option Version)) (P : Found (Option Version) → Type 0) → own ≡ own' → (P a → P b → a ≡ b) → TellsBefore own P a → TellsBefore own' P b → a ≡ b
before_once own own' a b P e f p q = by own p (let back : TellsBefore own P b = rw e q in back)
  where
    by : (own : Found (Option Version)) → TellsBefore own P a → TellsBefore own P b → a ≡ b
    by (Ok None) p q = f p q
    by (Ok (Some v)) p q = p ∙ sym q
    by (Err e) p q = p ∙ sym q

pub told_once : (m : Memory) (sources : List VersionSource) (a b : Found (Option Version)) → FirstTells m sources a → FirstTells m sources b → a ≡ b
unfolding FirstTells
told_once m [] a b p q = p ∙ sym q
told_once m (s ∷ ss) a b (own, tells, before) (own', tells', before') =
    before_once own own' a b (FirstTells m ss) (source_once m s own own' tells tells') (λ p q. told_once m ss a b p q) before before'

-- what is right is the answer
pub told_is : (m : Memory) (sources : List VersionSource) (r : Result Version VersionError) (told : Found (Option Version))
    → VersionIs m sources r → FirstTells m sources told → IsVersionTold told r
told_is m sources (Ok v) told p q = told_once m sources told (Ok (Some v)) q p
told_is m sources (Err (Unreadable a n)) told p q = told_once m sources told (Err (Missing a n)) q p
told_is m sources (Err NotFound) told p q = told_once m sources told (Ok None) q p
told_is m sources (Err OutOfMemory) told p q = tt

pub version_by : (m : Memory) (sources : List VersionSource) (e : VersionError) → ToldBy (FirstTells m sources) (Err e) → VersionIs m sources (Err e)
version_by m sources (Unreadable a n) t = t
version_by m sources NotFound t = absurd t
version_by m sources OutOfMemory t = tt
