-- Which error a refusal is, and that the refusals shut each other out.
use Rattle.std.proofs.Common.{◌≡◌, ◌≢◌, ◌⊎◌, ℕ, List, Result, Ok, Err, refl, sym, ap, inl, inr, ◌∙◌}
use Rattle.std.specs.Prelude.{IsErrOf, IfErr, IfOk}
use Rattle.elf64_core.specs.declared.error.ElfError.{ElfError}
use Rattle.elf64_core.specs.declared.error.ElfError.TheVariants as elf
use Rattle.image_memory.specs.Cores.{IsCore, RefusesCore}
use Rattle.image_memory.specs.Dumps.{dump_refusal_of}
use Rattle.image_memory.specs.declared.dump_error.DumpError.{DumpError}
use Rattle.image_memory.specs.declared.dump_error.DumpError.TheVariants.{NotElf64, BadHeader, NoNotes, BadNote}
use Rattle.image_memory.specs.declared.dump_error.DumpError.TheVariants.{OutOfMemory}

same_error : {T E : Type 0} (e d : E) → ◌≡◌ {A = Result T E} (Err e) (Err d) → e ≡ d
same_error e d h = cc

pub error_is : {T E : Type 0} (r : Result T E) (e d : E) → r ≡ Err e → IsErrOf r d → e ≡ d
error_is {T} r e d is h = same_error {T = T} e d (sym is ∙ h)

-- a bad note of a core is one of its file
pub bad_note_from : (e : ElfError) → dump_refusal_of e ≡ BadNote → e ≡ elf.BadNote
bad_note_from elf.NotElf64 h = absurd (cc)
bad_note_from elf.BadHeader h = absurd (cc)
bad_note_from elf.BadNote h = refl
bad_note_from elf.OutOfMemory h = absurd (cc)

pub note_errors : (e : ElfError) → e ≢ elf.NotElf64 → e ≢ elf.BadHeader → (dump_refusal_of e ≡ BadNote) ⊎ (dump_refusal_of e ≡ OutOfMemory)
note_errors elf.NotElf64 n b = absurd (n refl)
note_errors elf.BadHeader n b = absurd (b refl)
note_errors elf.BadNote n b = inl refl
note_errors elf.OutOfMemory n b = inr refl

-- bytes that are refused are no core's
pub no_core : (bytes : List ℕ) (e : DumpError) → RefusesCore bytes e → e ≢ OutOfMemory → IsCore bytes → ⊥
no_core bytes NotElf64 h ne is = h is.accepted.header
no_core bytes BadHeader h ne is = h.1 is.accepted.readable
no_core bytes NoNotes h ne is = is.noted h.1
no_core bytes BadNote h ne is = h.1 is.notes is.entries is.found
no_core bytes OutOfMemory h ne is = ne refl

-- and by one error alone, but for out of memory
pub one_refusal : (bytes : List ℕ) (e f : DumpError) → RefusesCore bytes e → RefusesCore bytes f → e ≢ OutOfMemory
    → f ≢ OutOfMemory → e ≡ f
one_refusal bytes NotElf64 NotElf64 h g ne nf = refl
one_refusal bytes NotElf64 BadHeader h g ne nf = absurd (h g.0)
one_refusal bytes NotElf64 NoNotes h g ne nf = absurd (h g.0.header)
one_refusal bytes NotElf64 BadNote h g ne nf = absurd (h g.0.accepted.header)
one_refusal bytes NotElf64 OutOfMemory h g ne nf = absurd (nf refl)
one_refusal bytes BadHeader NotElf64 h g ne nf = absurd (g h.0)
one_refusal bytes BadHeader BadHeader h g ne nf = refl
one_refusal bytes BadHeader NoNotes h g ne nf = absurd (h.1 g.0.readable)
one_refusal bytes BadHeader BadNote h g ne nf = absurd (h.1 g.0.accepted.readable)
one_refusal bytes BadHeader OutOfMemory h g ne nf = absurd (nf refl)
one_refusal bytes NoNotes NotElf64 h g ne nf = absurd (g h.0.header)
one_refusal bytes NoNotes BadHeader h g ne nf = absurd (g.1 h.0.readable)
one_refusal bytes NoNotes NoNotes h g ne nf = refl
one_refusal bytes NoNotes BadNote h g ne nf = absurd (g.0.noted h.1)
one_refusal bytes NoNotes OutOfMemory h g ne nf = absurd (nf refl)
one_refusal bytes BadNote NotElf64 h g ne nf = absurd (g h.0.accepted.header)
one_refusal bytes BadNote BadHeader h g ne nf = absurd (g.1 h.0.accepted.readable)
one_refusal bytes BadNote NoNotes h g ne nf = absurd (h.0.noted g.1)
one_refusal bytes BadNote BadNote h g ne nf = refl
one_refusal bytes BadNote OutOfMemory h g ne nf = absurd (nf refl)
one_refusal bytes OutOfMemory f h g ne nf = absurd (ne refl)

is_memory : (e : DumpError) → (e ≡ OutOfMemory) ⊎ (e ≢ OutOfMemory)
is_memory NotElf64 = inr (λ e. absurd (cc))
is_memory BadHeader = inr (λ e. absurd (cc))
is_memory NoNotes = inr (λ e. absurd (cc))
is_memory BadNote = inr (λ e. absurd (cc))
is_memory OutOfMemory = inl refl

-- a right answer about some bytes is the one that they call for, or out of memory
pub only_refusal : {T : Type 0} (bytes : List ℕ) (r : Result T DumpError) → IfErr r (RefusesCore bytes) → IfOk r (λ _. IsCore bytes)
    → (e : DumpError) → RefusesCore bytes e → (r ≡ Err e) ⊎ (r ≡ Err OutOfMemory) ⊎ (e ≡ OutOfMemory)
only_refusal {T} bytes (Ok x) right core e h =
    or_memory (is_memory e) (λ ne. absurd (no_core bytes e h ne core))
  where
    or_memory : (e ≡ OutOfMemory) ⊎ (e ≢ OutOfMemory) → (e ≢ OutOfMemory → ◌≡◌ {A = Result T DumpError} (Ok x) (Err e))
        → (◌≡◌ {A = Result T DumpError} (Ok x) (Err e)) ⊎ (◌≡◌ {A = Result T DumpError} (Ok x) (Err OutOfMemory)) ⊎ (e ≡ OutOfMemory)
    or_memory (inl m) f = inr (inr m)
    or_memory (inr ne) f = inl (f ne)
only_refusal {T} bytes (Err d) right core e h = by_memory (is_memory d) (is_memory e)
  where
    by_memory : (d ≡ OutOfMemory) ⊎ (d ≢ OutOfMemory) → (e ≡ OutOfMemory) ⊎ (e ≢ OutOfMemory)
        → (◌≡◌ {A = Result T DumpError} (Err d) (Err e)) ⊎ (◌≡◌ {A = Result T DumpError} (Err d) (Err OutOfMemory)) ⊎ (e ≡ OutOfMemory)
    by_memory m (inl f) = inr (inr f)
    by_memory (inl f) (inr ne) = inr (inl (ap (λ x. Err x) f))
    by_memory (inr nd) (inr ne) = inl (ap (λ x. Err x) (one_refusal bytes d e right h nd ne))
