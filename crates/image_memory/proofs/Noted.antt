-- The notes of segments so far, and that a core has one list of notes at most.
use Rattle.std.proofs.Common.{◌≡◌, ℕ, List, [], ◌∷◌, ◌++◌, refl, sym, ap, subst, ◌∙◌, append_assoc}
use Rattle.std.specs.Prelude.{Option, Some, None, filter, filter_map, is_some, map, option_and_then, option_map}
use Rattle.std.specs.Prelude.{slice_get}
use Rattle.std.proofs.lemmas.Option.{slice_get-map}
use Rattle.std.proofs.lemmas.List.{append-nil}
use Rattle.elf64_core.specs.Notes.{Noted, AreNotes, AreNoNotes, bytes_of_range}
use Rattle.elf64_core.specs.declared.segment.Segment.{Segment}
use Rattle.elf64_core.proofs.Notes.{AreNotes-once}
use Rattle.image_memory.specs.Cores.{IsCore}
use Rattle.image_memory.specs.FileTables.{Entry}
use Rattle.image_memory.specs.Maps.{AreMaps, ArePlaces, IsFilePlace, entry_for, is_named, map_by, file_place_by}
use Rattle.image_memory.specs.Notes.{AreCoreNotes, AreNotesOfCore, AreStatuses, IsProcess, NotesOf, TablesSay, is_table, last_process}
use Rattle.image_memory.specs.Notes.{note_segments, status_noted}
use Rattle.image_memory.specs.Pieces.{loads_of}
use Rattle.image_memory.specs.declared.file_table.FilePlace.{FilePlace}
use Rattle.image_memory.specs.declared.maps.CoreMapRange.{CoreMapRange}
use Rattle.image_memory.specs.declared.records.elf_prstatus.{elf_prstatus}
use Rattle.image_memory.specs.declared.records.elf_prpsinfo.{elf_prpsinfo}
use Rattle.image_memory.proofs.Tables.{TablesSay-once}

abbrev pub range_of : List ℕ → Segment → List ℕ
range_of bytes s = bytes_of_range bytes s.offset s.file_size

-- a segment more
pub NotesOf-more : (bytes : List ℕ) (segments : List Segment) (notes : List Noted) (s : Segment) (own : List Noted)
    → NotesOf bytes segments notes → AreNotes (range_of bytes s) own → NotesOf bytes (segments ++ s ∷ []) (notes ++ own)
NotesOf-more bytes [] notes s own h k = (own, [], k, refl, ap (λ ns. ns ++ own) h ∙ sym (append-nil own))
NotesOf-more bytes (t ∷ ts) notes s own h k =
    (h.0, h.1 ++ own, h.2, NotesOf-more bytes ts h.1 s own h.3 k, ap (λ ns. ns ++ own) h.4 ∙ append_assoc h.0 h.1 own)

-- a segment whose bytes are no notes
pub NotesOf-none : (bytes : List ℕ) (before after : List Segment) (s : Segment) (notes : List Noted)
    → AreNoNotes (range_of bytes s) → NotesOf bytes (before ++ s ∷ after) notes → ⊥
NotesOf-none bytes [] after s notes none h = none h.0 h.2
NotesOf-none bytes (t ∷ ts) after s notes none h = NotesOf-none bytes ts after s h.1 none h.3

pub NotesOf-once : (bytes : List ℕ) (segments : List Segment) (one other : List Noted) → NotesOf bytes segments one
    → NotesOf bytes segments other → one ≡ other
NotesOf-once bytes [] one other h k = h ∙ sym k
NotesOf-once bytes (s ∷ ss) one other h k =
    let own = AreNotes-once (range_of bytes s) h.0 k.0 h.2 k.2 in
    let others = NotesOf-once bytes ss h.1 k.1 h.3 k.3 in
    h.4 ∙ ap (λ ns. ns ++ h.1) own ∙ ap (λ ns. k.0 ++ ns) others ∙ sym k.4

-- the notes of its segments are the notes of a core
pub core_notes_are : (bytes : List ℕ) (notes : List Noted) → IsCore bytes → NotesOf bytes (note_segments bytes) notes
    → AreNotesOfCore bytes notes
core_notes_are bytes notes core own =
    let same = NotesOf-once bytes (note_segments bytes) core.notes notes core.found.together own in
    record { entries = core.entries; found = subst (λ ns. AreCoreNotes bytes ns core.entries) same core.found }

pub notes_same : (bytes : List ℕ) (m n : List Noted) (a b : List Entry) → AreCoreNotes bytes m a → AreCoreNotes bytes n b
    → m ≡ n
notes_same bytes m n a b h k = NotesOf-once bytes (note_segments bytes) m n h.together k.together

pub entries_same : (bytes : List ℕ) (m n : List Noted) (a b : List Entry) → AreCoreNotes bytes m a → AreCoreNotes bytes n b
    → a ≡ b
entries_same bytes m n a b h k =
    let notes = notes_same bytes m n a b h k in
    TablesSay-once (filter is_table n) a b (subst (λ ns. TablesSay (filter is_table ns) a) notes h.tables) k.tables

pub AreMaps-once : (bytes : List ℕ) (one other : List CoreMapRange) → AreMaps bytes one → AreMaps bytes other → one ≡ other
AreMaps-once bytes one other h k =
    h.says ∙ ap (λ es. map (map_by es) (loads_of bytes)) (entries_same bytes h.notes k.notes h.entries k.entries h.found k.found)
    ∙ sym k.says

pub AreStatuses-once : (bytes : List ℕ) (one other : List elf_prstatus) → AreStatuses bytes one → AreStatuses bytes other
    → one ≡ other
AreStatuses-once bytes one other h k =
    h.says ∙ ap (filter_map status_noted) (notes_same bytes h.notes k.notes h.entries k.entries h.found k.found) ∙ sym k.says

pub IsProcess-once : (bytes : List ℕ) (one other : Option elf_prpsinfo) → IsProcess bytes one → IsProcess bytes other
    → one ≡ other
IsProcess-once bytes one other h k =
    h.says ∙ ap last_process (notes_same bytes h.notes k.notes h.entries k.entries h.found k.found) ∙ sym k.says

then-map : {A B C : Type 0} (h : B → Option C) (f : A → B) (o : Option A) → option_and_then h (option_map f o) ≡ option_and_then (λ x. h (f x)) o
then-map h f None = refl
then-map h f (Some x) = refl

pub IsFilePlace-of : (bytes : List ℕ) (index : ℕ) (places : List (Option FilePlace)) → ArePlaces bytes places
    → IsFilePlace bytes index (option_and_then (λ place. place) (slice_get places index))
IsFilePlace-of bytes index places h = record {
  notes = h.notes;
  entries = h.entries;
  found = h.found;
  says = ap (λ ps. option_and_then (λ place. place) (slice_get ps index)) h.says
      ∙ ap (option_and_then (λ place. place)) (slice_get-map (file_place_by h.entries) (loads_of bytes) index)
      ∙ then-map (λ place. place) (file_place_by h.entries) (slice_get (loads_of bytes) index);
}

pub IsFilePlace-once : (bytes : List ℕ) (index : ℕ) (one other : Option FilePlace) → IsFilePlace bytes index one → IsFilePlace bytes index other
    → one ≡ other
IsFilePlace-once bytes index one other h k =
    h.says ∙ ap (λ es. option_and_then (file_place_by es) (slice_get (loads_of bytes) index)) (entries_same bytes h.notes k.notes h.entries k.entries h.found k.found)
    ∙ sym k.says

-- a map has a place exactly where it has a name
both_or_none : {A B C : Type 0} (f : A → B) (g : A → C) (o : Option A) → is_some (option_map f o) ≡ is_some (option_map g o)
both_or_none f g None = refl
both_or_none f g (Some x) = refl

placed_named : (entries : List Entry) (o : Option Segment) → is_some (option_and_then (file_place_by entries) o)
    ≡ is_some (option_and_then (λ s. (map_by entries s).pathname) o)
placed_named entries None = refl
placed_named entries (Some s) = both_or_none (λ e. e.place) (λ e. e.name) (entry_for entries s.addr)

pub place_is_named : (bytes : List ℕ) (index : ℕ) (place : Option FilePlace) (maps : List CoreMapRange) → IsFilePlace bytes index place → AreMaps bytes maps
    → is_some place ≡ is_named maps index
place_is_named bytes index place maps h m =
    let same = entries_same bytes h.notes m.notes h.entries m.entries h.found m.found in
    let loads = loads_of bytes in
    ap is_some (h.says ∙ ap (λ es. option_and_then (file_place_by es) (slice_get loads index)) same)
    ∙ placed_named m.entries (slice_get loads index)
    ∙ ap is_some (sym (ap (λ ms. option_and_then (λ n. n.pathname) (slice_get ms index)) m.says
    ∙ ap (option_and_then (λ n. n.pathname)) (slice_get-map (map_by m.entries) loads index)
    ∙ then-map (λ n. n.pathname) (map_by m.entries) (slice_get loads index)))
