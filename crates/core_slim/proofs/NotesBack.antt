-- The notes of a slim core say what those of the core say.
use Rattle.std.proofs.Common.{◌≡◌, ℕ, ◌+◌, ◌-◌, ◌≤◌, List, [], ◌∷◌, ◌++◌, length, map, refl, sym, ap, ap₂, subst, ◌∙◌}
use Rattle.std.proofs.Common.{arith, inl, inr, append_assoc, append-nil, length-append}
use Rattle.std.specs.List.{flat_map}
use Rattle.std.proofs.lemmas.List.{length-replicate}
use Rattle.elf64_core.specs.Notes.{AreNotes, IsDescPadding, IsNote, Noted, NotesThen, padded}
use Rattle.elf64_core.specs.declared.segment.Segment.{Segment}
use Rattle.image_memory.specs.FileTables.{Entry}
use Rattle.image_memory.specs.Notes.{AreCoreNotes, NotesOf, note_bytes, note_segments, segment_bytes}
use Rattle.core_slim.specs.Files.{zeros}
use Rattle.core_slim.specs.Slim.{filled}

-- the bytes that fill others to a multiple of 4
abbrev fill : List ℕ → List ℕ
fill bytes = zeros (padded (length bytes) - length bytes)

length-fill : (bytes : List ℕ) → length (fill bytes) ≡ padded (length bytes) - length bytes
length-fill bytes = length-replicate (padded (length bytes) - length bytes) 0

same_missing : (front after name desc : ℕ) → front ≡ 12 + padded name + padded desc
    → padded (front + after) - (front + after) ≡ padded after - after
same_missing front after name desc is = omega (arith, is)

rest_missing : (bytes name desc padding : ℕ) → bytes ≡ 12 + padded name + desc + padding → desc + padding ≤ padded desc
    → desc + (padding + (padded bytes - bytes)) ≡ padded desc
rest_missing bytes name desc padding is le = omega (arith, is, le)

behind : (a b c d : List ℕ) → ((a ++ b) ++ c) ++ d ≡ a ++ ((b ++ c) ++ d)
behind a b c d = simp append_assoc

-- a note whose padding is whole
note_whole : (bytes after rest : List ℕ) (note : Noted) (n : IsNote bytes after note)
    → length note.desc + length n.desc_padding ≡ padded (length note.desc)
    → IsNote (filled bytes ++ rest) (filled after ++ rest) note
note_whole bytes after rest note n whole =
    let one = n.header ++ n.name in
    let two = one ++ n.name_padding in
    let three = two ++ note.desc in
    let front = three ++ n.desc_padding in
    let long : length front ≡ 12 + padded (length n.name) + padded (length note.desc) = omega (
      arith,
      length-append three n.desc_padding,
      length-append two note.desc,
      length-append one n.name_padding,
      length-append n.header n.name,
      n.header_size,
      n.name_padded,
      whole,
    ) in
    let sum : length bytes ≡ length front + length after = ap length n.together ∙ length-append front after in
    let missing : padded (length bytes) - length bytes ≡ padded (length after) - length after =
    ap (λ k. padded k - k) sum ∙ same_missing (length front) (length after) (length n.name) (length note.desc) long in
    record {
      header = n.header;
      name = n.name;
      name_padding = n.name_padding;
      desc_padding = n.desc_padding;
      together = ap₂ (λ b k. (b ++ zeros k) ++ rest) n.together missing ∙ behind front after (fill after) rest;
      header_size = n.header_size;
      name_size = n.name_size;
      desc_size = n.desc_size;
      kind = n.kind;
      name_padded = n.name_padded;
      desc_padded = inl whole;
    }

-- the last note, whose padding is filled
note_last : (bytes after rest : List ℕ) (note : Noted) (n : IsNote bytes after note) → after ≡ []
    → length note.desc + length n.desc_padding ≤ padded (length note.desc)
    → IsNote (filled bytes ++ rest) (filled after ++ rest) note
note_last bytes after rest note n last le =
    let one = n.header ++ n.name in
    let two = one ++ n.name_padding in
    let three = two ++ note.desc in
    let front = three ++ n.desc_padding in
    let whole : bytes ≡ front = n.together ∙ ap (λ a. front ++ a) last ∙ append-nil front in
    let long : length bytes ≡ 12 + padded (length n.name) + length note.desc + length n.desc_padding = omega (
      arith,
      ap length whole,
      length-append three n.desc_padding,
      length-append two note.desc,
      length-append one n.name_padding,
      length-append n.header n.name,
      n.header_size,
      n.name_padded,
    ) in
    record {
      header = n.header;
      name = n.name;
      name_padding = n.name_padding;
      desc_padding = n.desc_padding ++ fill bytes;
      together =
          ap (λ b. (b ++ fill bytes) ++ rest) whole
          ∙ ap (λ b. b ++ rest) (append_assoc three n.desc_padding (fill bytes))
          ∙ sym (ap (λ a. (three ++ (n.desc_padding ++ fill bytes)) ++ (filled a ++ rest)) last);
      header_size = n.header_size;
      name_size = n.name_size;
      desc_size = n.desc_size;
      kind = n.kind;
      name_padded = n.name_padded;
      desc_padded = inl (omega (
        arith,
        length-append n.desc_padding (fill bytes),
        length-fill bytes,
        rest_missing (length bytes) (length n.name) (length note.desc) (length n.desc_padding) long le,
      ));
    }

note_filled : (bytes after rest : List ℕ) (note : Noted) (n : IsNote bytes after note)
    → IsDescPadding (length note.desc) n.desc_padding after
    → IsNote (filled bytes ++ rest) (filled after ++ rest) note
note_filled bytes after rest note n (inl whole) = note_whole bytes after rest note n whole
note_filled bytes after rest note n (inr last) = note_last bytes after rest note n last.0 last.1

-- notes that are filled, with others behind them
notes_filled : (bytes rest : List ℕ) (notes : List Noted) → AreNotes bytes notes
    → NotesThen (filled bytes ++ rest) notes rest
notes_filled bytes rest [] is = ap (λ b. filled b ++ rest) is
notes_filled bytes rest (note ∷ notes) h =
    (filled h.0 ++ rest, note_filled bytes h.0 rest note h.1 h.1.desc_padded, notes_filled h.0 rest notes h.2)

notes_append : (a b c : List ℕ) (own others : List Noted) → NotesThen a own b → NotesThen b others c
    → NotesThen a (own ++ others) c
notes_append a b c [] others is more = subst (λ x. NotesThen x others c) (sym is) more
notes_append a b c (note ∷ notes) others h more = (h.0, h.1, notes_append h.0 b c notes others h.2 more)

all_filled : (bytes rest : List ℕ) (segments : List Segment) (notes : List Noted) → NotesOf bytes segments notes
    → NotesThen (flat_map filled (map (segment_bytes bytes) segments) ++ rest) notes rest
all_filled bytes rest [] notes is = subst (λ ns. NotesThen rest ns rest) (sym is) refl
all_filled bytes rest (s ∷ ss) notes h =
    let further = flat_map filled (map (segment_bytes bytes) ss) in
    subst (λ ns. NotesThen ((filled (segment_bytes bytes s) ++ further) ++ rest) ns rest) (sym h.4)
    (subst (λ b. NotesThen b (h.0 ++ h.1) rest) (sym (append_assoc (filled (segment_bytes bytes s)) further rest))
    (notes_append _ (further ++ rest) rest h.0 h.1 (notes_filled (segment_bytes bytes s) (further ++ rest) h.0 h.2)
    (all_filled bytes rest ss h.1 h.3)))

-- a file whose one note segment has a core's notes, filled
pub notes_kept : (core file : List ℕ) (s : Segment) (notes : List Noted) (entries : List Entry)
    → note_segments file ≡ s ∷ []
    → segment_bytes file s ≡ flat_map filled (note_bytes core) → AreCoreNotes core notes entries
    → AreCoreNotes file notes entries
notes_kept core file s notes entries one bytes is =
    let whole : AreNotes (flat_map filled (note_bytes core)) notes =
    subst (λ b. NotesThen b notes []) (append-nil (flat_map filled (note_bytes core)))
    (all_filled core [] (note_segments core) notes is.together) in
    let here : AreNotes (segment_bytes file s) notes = subst (λ b. AreNotes b notes) (sym bytes) whole in
    let alone : NotesOf file (s ∷ []) notes = (notes, [], here, refl, sym (append-nil notes)) in
    record { together = subst (λ ss. NotesOf file ss notes) (sym one) alone; whole = is.whole; tables = is.tables }
