-- What is found of a build id is found once.
use Rattle.std.proofs.Common.{◌≡◌, ◌≢◌, ℕ, ◌≤◌, Bool, true, false, List, [], ◌∷◌, ◌++◌, length, Option, Some, None, Ok}
use Rattle.std.proofs.Common.{Err, inl, inr, refl, sym, ap, subst, ◌∙◌, arith}
use Rattle.std.specs.Prelude.{All, MatchOption}
use Rattle.std.specs.Bool.{MatchBool}
use Rattle.std.proofs.lemmas.List.Elements.{All-push, All-head, All-tail}
use Rattle.elf64_core.specs.Sections.{sections_of, contents_of}
use Rattle.elf64_core.specs.Notes.{Noted, IsNote, NotesThen}
use Rattle.elf64_core.specs.BuildIds.{FoundBuildId, IsOther, Ends, NotesHoldBuildId, SectionSays, SectionsSay}
use Rattle.elf64_core.specs.BuildIds.{BuildIdIs}
use Rattle.elf64_core.specs.declared.section.Section.{Section}
use Rattle.elf64_core.specs.declared.error.ElfError.TheVariants.{NotElf64, BadHeader, BadNote, OutOfMemory}
use Rattle.elf64_core.proofs.Notes.{IsPlaced-from_note, IsNote-once, NotesThen-more}

-- notes of other types, up to a rest
pub record Passes (bytes rest : List ℕ) : Type 0 where
  pub before : List Noted
  pub up_to : NotesThen bytes before rest
  pub others : All IsOther before

pub Passes-more : (bytes mid rest : List ℕ) (note : Noted) → Passes bytes mid → IsNote mid rest note → IsOther note
    → Passes bytes rest
Passes-more bytes mid rest note h here other = record {
  before = h.before ++ note ∷ [];
  up_to = NotesThen-more bytes h.before note mid rest h.up_to here;
  others = All-push IsOther h.before note h.others other;
}

long : (bytes rest : List ℕ) (note : Noted) → IsNote bytes rest note → 12 ≤ length bytes
long bytes rest note h = let p = IsPlaced-from_note bytes rest note h in p.long

same_desc : (m n : Noted) → m ≡ n → m.desc ≡ n.desc
same_desc m n e = ap (λ (x : Noted). x.desc) e

same_kind : (m n : Noted) → m ≡ n → m.kind ≡ n.kind
same_kind m n e = ap (λ (x : Noted). x.kind) e

Ends-once : (bytes : List ℕ) (r s : FoundBuildId) → Ends bytes r → Ends bytes s → r ≡ s
Ends-once bytes (Ok (Some x)) (Ok (Some y)) h k =
    let same = IsNote-once bytes h.0 k.0 _ _ h.1 k.1 in
    ap (λ d. Ok (Some d)) (same_desc _ _ same.0)
Ends-once bytes (Ok (Some x)) (Ok None) h k = let w = long bytes h.0 _ h.1 in absurd (omega (arith, w, k))
Ends-once bytes (Ok (Some x)) (Err BadNote) h k = absurd (k.1 _ _ h.1)
Ends-once bytes (Ok (Some x)) (Err NotElf64) h k = absurd k
Ends-once bytes (Ok (Some x)) (Err BadHeader) h k = absurd k
Ends-once bytes (Ok (Some x)) (Err OutOfMemory) h k = absurd k
Ends-once bytes (Ok None) (Ok (Some y)) h k = let w = long bytes k.0 _ k.1 in absurd (omega (arith, w, h))
Ends-once bytes (Ok None) (Ok None) h k = refl
Ends-once bytes (Ok None) (Err BadNote) h k = absurd (omega (arith, h, k.0))
Ends-once bytes (Ok None) (Err NotElf64) h k = absurd k
Ends-once bytes (Ok None) (Err BadHeader) h k = absurd k
Ends-once bytes (Ok None) (Err OutOfMemory) h k = absurd k
Ends-once bytes (Err BadNote) (Ok (Some y)) h k = absurd (h.1 _ _ k.1)
Ends-once bytes (Err BadNote) (Ok None) h k = absurd (omega (arith, k, h.0))
Ends-once bytes (Err BadNote) (Err BadNote) h k = refl
Ends-once bytes (Err BadNote) (Err NotElf64) h k = absurd k
Ends-once bytes (Err BadNote) (Err BadHeader) h k = absurd k
Ends-once bytes (Err BadNote) (Err OutOfMemory) h k = absurd k
Ends-once bytes (Err NotElf64) s h k = absurd h
Ends-once bytes (Err BadHeader) s h k = absurd h
Ends-once bytes (Err OutOfMemory) s h k = absurd h

-- no search ends where a note of another type stands
ends_later : (bytes rest : List ℕ) (note : Noted) (r : FoundBuildId) → IsNote bytes rest note → IsOther note → Ends bytes r → ⊥
ends_later bytes rest note (Ok (Some x)) here other h =
    let same = IsNote-once bytes rest h.0 note _ here h.1 in other (same_kind _ _ same.0)
ends_later bytes rest note (Ok None) here other h = let w = long bytes rest note here in omega (arith, w, h)
ends_later bytes rest note (Err BadNote) here other h = h.1 note rest here
ends_later bytes rest note (Err NotElf64) here other h = h
ends_later bytes rest note (Err BadHeader) here other h = h
ends_later bytes rest note (Err OutOfMemory) here other h = h

says_once : (bytes : List ℕ) (ms ns : List Noted) (x y : List ℕ) (r s : FoundBuildId)
    → NotesThen bytes ms x → All IsOther ms → Ends x r → NotesThen bytes ns y → All IsOther ns → Ends y s → r ≡ s
says_once bytes [] [] x y r s h a e k b f =
    Ends-once bytes r s (subst (λ bs. Ends bs r) (sym h) e) (subst (λ bs. Ends bs s) (sym k) f)
says_once bytes [] (n ∷ ns) x y r s h a e k b f =
    absurd (ends_later bytes k.0 n r k.1 (All-head IsOther n ns b) (subst (λ bs. Ends bs r) (sym h) e))
says_once bytes (m ∷ ms) [] x y r s h a e k b f =
    absurd (ends_later bytes h.0 m s h.1 (All-head IsOther m ms a) (subst (λ bs. Ends bs s) (sym k) f))
says_once bytes (m ∷ ms) (n ∷ ns) x y r s h a e k b f =
    let same = IsNote-once bytes h.0 k.0 m n h.1 k.1 in
    says_once h.0 ms ns x y r s h.2 (All-tail IsOther m ms a) e
    (subst (λ bs. NotesThen bs ns y) (sym same.1) k.2) (All-tail IsOther n ns b) f

pub NotesSay-once : (bytes : List ℕ) (r s : FoundBuildId) → NotesHoldBuildId bytes r → NotesHoldBuildId bytes s → r ≡ s
NotesSay-once bytes r s h k =
    says_once bytes h.before k.before h.rest k.rest r s h.up_to h.others h.ends k.up_to k.others k.ends

abbrev SaysBy : Bool → Option (List ℕ) → FoundBuildId → Type 0
SaysBy is_note contents result =
    MatchBool is_note (MatchOption contents (result ≡ Err BadHeader) (λ bytes. NotesHoldBuildId bytes result)) (result ≡ Ok None)

SaysBy-once : (is_note : Bool) (contents : Option (List ℕ)) (r s : FoundBuildId)
    → SaysBy is_note contents r → SaysBy is_note contents s → r ≡ s
SaysBy-once true (Some bytes) r s h k = NotesSay-once bytes r s h k
SaysBy-once true None r s h k = h ∙ sym k
SaysBy-once false contents r s h k = h ∙ sym k

SectionSays-once : (bytes : List ℕ) (section : Section) (r s : FoundBuildId)
    → SectionSays bytes section r → SectionSays bytes section s → r ≡ s
SectionSays-once bytes section r s h k = SaysBy-once _ (contents_of bytes section) r s h k

SectionsSay-once : (bytes : List ℕ) (sections : List Section) (r s : FoundBuildId)
    → SectionsSay bytes sections r → SectionsSay bytes sections s → r ≡ s
SectionsSay-once bytes [] r s h k = h ∙ sym k
SectionsSay-once bytes (x ∷ xs) r s (inl h) (inl k) = SectionSays-once bytes x r s h.0 k.0
SectionsSay-once bytes (x ∷ xs) r s (inl h) (inr k) = absurd (h.1 (SectionSays-once bytes x r (Ok None) h.0 k.0))
SectionsSay-once bytes (x ∷ xs) r s (inr h) (inl k) = absurd (k.1 (SectionSays-once bytes x s (Ok None) k.0 h.0))
SectionsSay-once bytes (x ∷ xs) r s (inr h) (inr k) = SectionsSay-once bytes xs r s h.1 k.1

pub BuildIdIs-once : (bytes : List ℕ) (r s : FoundBuildId) → BuildIdIs bytes r → BuildIdIs bytes s → r ≡ s
BuildIdIs-once bytes r s (inl h) (inl k) = h.1 ∙ sym k.1
BuildIdIs-once bytes r s (inl h) (inr k) = absurd (h.0 k.0)
BuildIdIs-once bytes r s (inr h) (inl k) = absurd (k.0 h.0)
BuildIdIs-once bytes r s (inr h) (inr k) = SectionsSay-once bytes (sections_of bytes) r s h.1 k.1

-- a search has come from all sections to those that are left, and found none
pub record IsSearched (bytes : List ℕ) (all left : List Section) : Type 0 where
  pub goes : (r : FoundBuildId) → SectionsSay bytes left r → SectionsSay bytes all r

pub IsSearched-more : (bytes : List ℕ) (all left rest : List Section) (section : Section)
    → IsSearched bytes all left → left ≡ section ∷ rest → SectionSays bytes section (Ok None) → IsSearched bytes all rest
IsSearched-more bytes all left rest section h is none =
    record { goes = λ r k. h.goes r (subst (λ ss. SectionsSay bytes ss r) (sym is) (inr (none, k))) }

pub found_here : (bytes : List ℕ) (all left rest : List Section) (section : Section) (r : FoundBuildId)
    → IsSearched bytes all left → left ≡ section ∷ rest → SectionSays bytes section r → r ≢ Ok None → SectionsSay bytes all r
found_here bytes all left rest section r h is says some =
    h.goes r (subst (λ ss. SectionsSay bytes ss r) (sym is) (inl (says, some)))

pub found_none : (bytes : List ℕ) (all left : List Section)
    → IsSearched bytes all left → left ≡ [] → SectionsSay bytes all (Ok None)
found_none bytes all left h is = h.goes (Ok None) (subst (λ ss. SectionsSay bytes ss (Ok None)) (sym is) refl)
