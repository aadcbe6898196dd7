-- What reads some sections of an image reads those of a process.
use Rattle.std.proofs.Common.{◌≡◌, ℕ, inl, inr}
use Rattle.std.specs.Prelude.{Option, Some, option_map}
use Rattle.process_memory.specs.Memory.{Memory}
use Rattle.process_memory.specs.Seen.{IsRange, IsShortOr, Reading, ReadingOf, Seen}
use Rattle.process_memory.specs.declared.memory.Span.{Span}
use Rattle.process_memory.proofs.Reading.{reading_wider}
use Rattle.py_process.specs.Facts.{Known, facts_of}
use Rattle.py_process.specs.Sections.{IsSearched, IsSection, IsSectionIn}
use Rattle.py_process.specs.declared.binary.BinaryInfo.{BinaryInfo}

-- what holds of other ranges, where one is short or another
pub others_wider : (P Q : Memory → Span → Type 0) → ((m : Memory) (s : Span) → P m s → Q m s) → (m : Memory) (s : Span) → IsShortOr P m s → IsShortOr Q m s
others_wider P Q f m s (inl short) = inl short
others_wider P Q f m s (inr other) = inr (f m s other)

pub bss_in : (image : Option BinaryInfo) (b : BinaryInfo) → image ≡ Some b → (m : Memory) (s : Span) → IsRange b.bss_addr b.bss_size m s → IsSectionIn (option_map facts_of image) m s
bss_in image b is m s h = rw is (inr h)

pub program_searched : (k : Known) (m : Memory) (s : Span) → IsShortOr (IsSectionIn k.program) m s → IsSearched k m s
program_searched k = others_wider (IsSectionIn k.program) (IsSection k) (λ m s section. inl section)

pub library_searched : (k : Known) (m : Memory) (s : Span) → IsShortOr (IsSectionIn k.library) m s → IsSearched k m s
library_searched k = others_wider (IsSectionIn k.library) (IsSection k) (λ m s section. inr section)

-- the same of readers
pub searching : {n : ℕ} {s0 s1 : Seen} {Q : Memory → Type 0} (k : Known) → Reading n s0 s1 Q → ReadingOf (IsSearched k) n s0 s1 Q
searching k p = reading_wider (IsSearched k) p (λ m s short. inl short)

pub searching_sections : {n : ℕ} {s0 s1 : Seen} {Q : Memory → Type 0} (k : Known) → ReadingOf (IsSection k) n s0 s1 Q → ReadingOf (IsSearched k) n s0 s1 Q
searching_sections k p = reading_wider (IsSearched k) p (λ m s section. inr section)

pub program_sections : {n : ℕ} {s0 s1 : Seen} {Q : Memory → Type 0} (k : Known) → ReadingOf (IsSectionIn k.program) n s0 s1 Q → ReadingOf (IsSection k) n s0 s1 Q
program_sections k p = reading_wider (IsSection k) p (λ m s section. inl section)

pub library_sections : {n : ℕ} {s0 s1 : Seen} {Q : Memory → Type 0} (k : Known) → ReadingOf (IsSectionIn k.library) n s0 s1 Q → ReadingOf (IsSection k) n s0 s1 Q
library_sections k p = reading_wider (IsSection k) p (λ m s section. inr section)
