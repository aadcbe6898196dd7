use Rattle.std.proofs.Common.{ℕ, List, [], subst, ◌≡◌, Bool, true, false}
use Rattle.std.specs.Bool.{MatchBool}
use Rattle.image_memory.specs.Cores.{RefusesCore, IsEarly, HasNotes}
use Rattle.image_memory.specs.Notes.{note_segments}
use Rattle.image_memory.specs.declared.dump_error.DumpError.{DumpError as Refusal}
use Rattle.image_memory.specs.declared.dump_error.DumpError.TheVariants.{NotElf64, BadHeader, NoNotes, BadNote}
use Rattle.image_memory.specs.declared.dump_error.DumpError.TheVariants.{OutOfMemory}
use Rattle.image_memory.proofs.contents.accept.Goals as goal

early_refused : (bytes : List ℕ) (e : Refusal) → HasNotes bytes → IsEarly e → RefusesCore bytes e → ⊥
early_refused bytes NotElf64 is early h = h is.accepted.header
early_refused bytes BadHeader is early h = h.1 is.accepted.readable
early_refused bytes NoNotes is early h = is.noted h.1
early_refused bytes BadNote is early h = early
early_refused bytes OutOfMemory is early h = early

none_noted : (bytes : List ℕ) (b : Bool) → b ≡ false → MatchBool b (note_segments bytes ≡ [] → ⊥) (note_segments bytes ≡ []) → note_segments bytes ≡ []
none_noted bytes b is h = subst (λ x. MatchBool x (note_segments bytes ≡ [] → ⊥) (note_segments bytes ≡ [])) is h

some_noted : (bytes : List ℕ) (b : Bool) → b ≡ true → MatchBool b (note_segments bytes ≡ [] → ⊥) (note_segments bytes ≡ []) → note_segments bytes ≡ [] → ⊥
some_noted bytes b is h = subst (λ x. MatchBool x (note_segments bytes ≡ [] → ⊥) (note_segments bytes ≡ [])) is h

pub returns-then-not-has_notes-clause-right : goal.returns-then-not-has_notes-clause-right
returns-then-not-has_notes-clause-right c = (
  c.in_ok-elf.ensures.accepted,
  subst (λ bytes. note_segments bytes ≡ []) c.in_ok-elf.ensures.same (none_noted c.in_ok-elf.elf c.has_notes.result c.if-not-has_notes.true c.has_notes.ensures),
)

pub returns-clause-noted : goal.returns-clause-noted
returns-clause-noted c = record {
  accepted = c.in_ok-elf.ensures.accepted;
  noted = subst (λ bytes. (note_segments bytes ≡ [] → ⊥)) c.in_ok-elf.ensures.same (some_noted c.in_ok-elf.elf c.has_notes.result c.if-not-has_notes.false c.has_notes.ensures);
}

pub returns-clause-early : goal.returns-clause-early
returns-clause-early c = λ error early h. absurd (early_refused c.args.bytes.now error (returns-clause-noted c) early h)
