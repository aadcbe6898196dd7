-- What is told of the notes of segments so far, and of a segment more.
use Rattle.std.proofs.Common.{◌≡◌, Bool, true, false, cond, List, [], ◌∷◌, ◌++◌, length, reverse, refl, sym, ap, subst}
use Rattle.std.proofs.Common.{◌∙◌, ℕ, arith, append_assoc, Option, Some, None}
use Rattle.std.specs.Prelude.{All, filter, filter_map, find, nat_le, option_and_then, ◌&&◌}
use Rattle.std.specs.Option.{option_or}
use Rattle.std.proofs.lemmas.Bool.{eqb-true, le-leb}
use Rattle.std.proofs.lemmas.List.{append-nil, reverse-append}
use Rattle.std.proofs.lemmas.List.Elements.{All-append, All-head, All-tail, All-cons, filter-append, filter_map-append}
use Rattle.std.proofs.lemmas.List.Folds.{find-append}
use Rattle.elf64_core.specs.Notes.{AreNotes, Noted}
use Rattle.elf64_core.specs.declared.segment.Segment.{Segment}
use Rattle.image_memory.specs.Contents.{IsBadSegment, SegmentsSay}
use Rattle.image_memory.specs.Cores.{HasBadNote}
use Rattle.image_memory.specs.FileTables.{Entry}
use Rattle.image_memory.specs.Maps.{entry_for, starts_at}
use Rattle.image_memory.specs.Notes.{IsWhole, NotesOf, TablesSay, is_of_kind, is_table, last_process, note_segments, process_in}
use Rattle.image_memory.specs.Notes.{process_kind, process_of, segment_bytes, status_noted}
use Rattle.image_memory.specs.declared.records.elf_prpsinfo.{elf_prpsinfo}
use Rattle.image_memory.specs.declared.records.elf_prstatus.{elf_prstatus}
use Rattle.image_memory.proofs.Noted.{NotesOf-more}

All-back : {A : Type 0} (P : A → Type 0) (xs ys : List A) → All P (xs ++ ys) → All P ys
All-back P [] ys h = h
All-back P (x ∷ xs) ys h = All-back P xs ys (All-tail P x (xs ++ ys) h)

All-front : {A : Type 0} (P : A → Type 0) (xs ys : List A) → All P (xs ++ ys) → All P xs
All-front P [] ys h = λ k d less. absurd (omega arith)
All-front P (x ∷ xs) ys h = All-cons P x xs (All-head P x (xs ++ ys) h) (All-front P xs ys (All-tail P x (xs ++ ys) h))

All-reverse : {A : Type 0} (P : A → Type 0) (xs : List A) → All P xs → All P (reverse xs)
All-reverse P [] h = h
All-reverse P (x ∷ xs) h =
    subst (All P) (sym (reverse-append (x ∷ []) xs))
    (All-append P (reverse xs) (x ∷ []) (All-reverse P xs (All-tail P x xs h)) (All-front P (x ∷ []) xs h))

-- what is found of items is one of them, and passes
found_is : {A : Type 0} (P : A → Type 0) (p : A → Bool) (xs : List A) (y : A) → All P xs → find p xs ≡ Some y
    → (p y ≡ true) × P y
found_is P p [] y h is = absurd (cc)
found_is P p (x ∷ xs) y h is = by_test (p x) refl is (found_is P p xs y (All-tail P x xs h))
  where
    by_test : (b : Bool) → p x ≡ b → cond b (Some x) (find p xs) ≡ Some y → (find p xs ≡ Some y → (p y ≡ true) × P y)
        → (p y ≡ true) × P y
    by_test true test is rest =
        let same : x ≡ y = cc in (subst (λ z. p z ≡ true) same test, subst P same (All-head P x xs h))
    by_test false test is rest = rest is

-- a process record that is whole says something
process_said : (note : Noted) → IsWhole note → is_of_kind process_kind note ≡ true → process_of note ≡ Some (process_in note.desc)
process_said note whole kind =
    let long : nat_le 136 (length note.desc) ≡ true = le-leb 136 (length note.desc) (whole.process (eqb-true note.kind process_kind kind)) in
    ap (λ b. cond (b && nat_le 136 (length note.desc)) (Some (process_in note.desc)) None) kind
    ∙ ap (λ b. cond b (Some (process_in note.desc)) None) long

-- the last process record of notes, and of others behind them that are whole
last_or : (found before : Option Noted)
    → ((note : Noted) → found ≡ Some note → (is_of_kind process_kind note ≡ true) × IsWhole note)
    → option_and_then process_of (option_or found before) ≡ option_or (option_and_then process_of found) (option_and_then process_of before)
last_or None before h = refl
last_or (Some note) before h =
    let it = h note refl in
    let said = process_said note it.1 it.0 in
    said ∙ sym (ap (λ o. option_or o (option_and_then process_of before)) said)

last_process-append : (before after : List Noted) → All IsWhole after
    → last_process (before ++ after) ≡ option_or (last_process after) (last_process before)
last_process-append before after whole =
    let p = is_of_kind process_kind in
    ap (λ ns. option_and_then process_of (find p ns)) (reverse-append before after)
    ∙ ap (option_and_then process_of) (find-append p (reverse after) (reverse before))
    ∙ last_or (find p (reverse after)) (find p (reverse before))
    (λ note is. found_is IsWhole p (reverse after) note (All-reverse IsWhole after whole) is)

TablesSay-append : (tables others : List Noted) (entries more : List Entry) → TablesSay tables entries → TablesSay others more
    → TablesSay (tables ++ others) (entries ++ more)
TablesSay-append [] others entries more h k = subst (λ es. TablesSay others (es ++ more)) (sym h) k
TablesSay-append (t ∷ ts) others entries more h k =
    (h.0, h.1 ++ more, h.2, TablesSay-append ts others h.1 more h.3 k, ap (λ es. es ++ more) h.4 ∙ append_assoc h.0 h.1 more)

-- the tables in the middle say something
TablesSay-front : (tables others : List Noted) (entries : List Entry) → TablesSay (tables ++ others) entries
    → (own : List Entry) × TablesSay tables own
TablesSay-front [] others entries h = ([], refl)
TablesSay-front (t ∷ ts) others entries h =
    let rest = TablesSay-front ts others h.1 h.3 in (h.0 ++ rest.0, (h.0, rest.0, h.2, rest.1, refl))

TablesSay-back : (tables others : List Noted) (entries : List Entry) → TablesSay (tables ++ others) entries
    → (own : List Entry) × TablesSay others own
TablesSay-back [] others entries h = (entries, h)
TablesSay-back (t ∷ ts) others entries h = TablesSay-back ts others h.1 h.3

one_segment : (bytes : List ℕ) (s : Segment) (notes : List Noted) → NotesOf bytes (s ∷ []) notes → AreNotes (segment_bytes bytes s) notes
one_segment bytes s notes h =
    let same : notes ≡ h.0 = h.4 ∙ ap (λ ns. h.0 ++ ns) h.3 ∙ append-nil h.0 in
    subst (AreNotes (segment_bytes bytes s)) (sym same) h.2

pub SegmentsSay-more : (bytes : List ℕ) (segments : List Segment) (s : Segment) (statuses more : List elf_prstatus)
    (process other : Option elf_prpsinfo) (entries others : List Entry) → SegmentsSay bytes segments statuses process entries
    → SegmentsSay bytes (s ∷ []) more other others
    → SegmentsSay bytes (segments ++ s ∷ []) (statuses ++ more) (option_or other process) (entries ++ others)
SegmentsSay-more bytes segments s statuses more process other entries others h k = record {
  notes = h.notes ++ k.notes;
  together = NotesOf-more bytes segments h.notes s k.notes h.together (one_segment bytes s k.notes k.together);
  whole = All-append IsWhole h.notes k.notes h.whole k.whole;
  tables = subst (λ ts. TablesSay ts (entries ++ others)) (sym (filter-append is_table h.notes k.notes))
      (TablesSay-append (filter is_table h.notes) (filter is_table k.notes) entries others h.tables k.tables);
  statuses_are = ap (λ xs. xs ++ more) h.statuses_are ∙ ap (λ xs. filter_map status_noted h.notes ++ xs) k.statuses_are
      ∙ sym (filter_map-append status_noted h.notes k.notes);
  process_is = ap (λ o. option_or o process) k.process_is ∙ ap (option_or (last_process k.notes)) h.process_is
      ∙ sym (last_process-append h.notes k.notes k.whole);
}

-- the last entry of some at an address, with others behind them
pub entry_for-append : (entries others : List Entry) (addr : ℕ)
    → entry_for (entries ++ others) addr ≡ option_or (entry_for others addr) (entry_for entries addr)
entry_for-append entries others addr =
    ap (find (starts_at addr)) (reverse-append entries others) ∙ find-append (starts_at addr) (reverse others) (reverse entries)

-- the notes of a segment among others are some of all
NotesOf-part : (bytes : List ℕ) (before after : List Segment) (s : Segment) (notes : List Noted)
    → NotesOf bytes (before ++ s ∷ after) notes
    → (front own back : List Noted) × AreNotes (segment_bytes bytes s) own × (notes ≡ front ++ (own ++ back))
NotesOf-part bytes [] after s notes h = ([], h.0, h.1, h.2, h.4)
NotesOf-part bytes (t ∷ ts) after s notes h =
    let rest = NotesOf-part bytes ts after s h.1 h.3 in
    (h.0 ++ rest.0, rest.1, rest.2, rest.3, h.4 ∙ ap (λ ns. h.0 ++ ns) rest.4 ∙ sym (append_assoc h.0 rest.0 (rest.1 ++ rest.2)))

-- a core with a segment whose notes say nothing has a bad note
pub bad_core : (bytes : List ℕ) (before after : List Segment) (s : Segment) → note_segments bytes ≡ before ++ s ∷ after
    → IsBadSegment bytes s → HasBadNote bytes
bad_core bytes before after s is bad notes entries h =
    let part = NotesOf-part bytes before after s notes (subst (λ ss. NotesOf bytes ss notes) is h.together) in
    let whole = All-front IsWhole part.1 part.2 (All-back IsWhole part.0 (part.1 ++ part.2) (subst (All IsWhole) part.4 h.whole)) in
    let tables = filter is_table in
    let split : tables notes ≡ tables part.0 ++ (tables part.1 ++ tables part.2) =
    ap tables part.4 ∙ filter-append is_table part.0 (part.1 ++ part.2) ∙ ap (λ ts. tables part.0 ++ ts) (filter-append is_table part.1 part.2) in
    let back = TablesSay-back (tables part.0) (tables part.1 ++ tables part.2) entries (subst (λ ts. TablesSay ts entries) split h.tables) in
    let own = TablesSay-front (tables part.1) (tables part.2) back.0 back.1 in
    bad part.1 own.0 part.3 whole own.1
