-- A note stands at fixed places of its bytes, so bytes are those of one list of notes at most.
use Rattle.std.proofs.Common.{◌≡◌, ◌⊎◌, ℕ, ◌+◌, ◌-◌, ◌<◌, ◌≤◌, min, List, [], ◌∷◌, ◌++◌, length, take, drop, inl, inr}
use Rattle.std.proofs.Common.{⊎_elim, Result, Ok, Err, refl, sym, ap, subst, ◌∙◌, arith, append_assoc, length-append}
use Rattle.std.proofs.Common.{length-drop}
use Rattle.std.proofs.lemmas.List.{take_all, drop_all, length-take, drop-drop, take-append-drop, drop-append-le}
use Rattle.std.proofs.lemmas.List.{take-append-le, length-take-le}
use Rattle.std.proofs.lemmas.List.Folds.{drop_split}
use Rattle.std.proofs.lemmas.Bool.{cases_lt}
use Rattle.std.proofs.Math.Seq.{drop-append_seam, take-append_seam}
use Rattle.std.specs.Prelude.{slice_range, IfOk, IsErr}
use Rattle.std.specs.Int.{w32, from_le_bytes}
use Rattle.elf64_core.specs.Fields.{u32_in}
use Rattle.elf64_core.specs.Notes.{Noted, padded, IsNote, BeginsNoNote, NotesThen, AreNotes, AreNoNotes, AreNotesOnce}

-- where the descriptor of the first note begins, and where its padding ends
abbrev pub desc_start : List ℕ → ℕ
desc_start bytes = 12 + padded (u32_in bytes 0)

abbrev pub desc_end : List ℕ → ℕ
desc_end bytes = desc_start bytes + u32_in bytes 4

abbrev pub note_end : List ℕ → ℕ
note_end bytes = desc_start bytes + padded (u32_in bytes 4)

abbrev pub first_noted : List ℕ → Noted
first_noted bytes = record { kind = u32_in bytes 8; desc = slice_range bytes (desc_start bytes) (desc_end bytes) }

-- a note at its places
pub record IsPlaced (bytes rest : List ℕ) (note : Noted) : Type 0 where
  pub long : 12 ≤ length bytes
  pub fits : desc_end bytes ≤ length bytes
  pub says : note ≡ first_noted bytes
  pub after : rest ≡ drop (note_end bytes) bytes

u32_in-front : (xs ys : List ℕ) (at : ℕ) → at + 4 ≤ length xs → u32_in (xs ++ ys) at ≡ u32_in xs at
unfolding u32_in
u32_in-front xs ys at le =
    let long : at + 4 - at ≤ length (drop at xs) = omega (arith, length-drop at xs) in
    ap (λ zs. from_le_bytes w32 (take (at + 4 - at) zs)) (drop-append-le at xs ys (omega arith))
    ∙ ap (from_le_bytes w32) (take-append-le (at + 4 - at) (drop at xs) ys long)

drop_front : (k : ℕ) (xs ys : List ℕ) → length xs ≡ k → drop k (xs ++ ys) ≡ ys
drop_front k xs ys e = ap (λ n. drop n (xs ++ ys)) (sym e) ∙ drop-append_seam xs ys

take_front : (k : ℕ) (xs ys : List ℕ) → length xs ≡ k → take k (xs ++ ys) ≡ xs
take_front k xs ys e = ap (λ n. take n (xs ++ ys)) (sym e) ∙ take-append_seam xs ys

nested : (a b c d e f : List ℕ) → a ++ b ++ c ++ d ++ e ++ f ≡ a ++ (b ++ (c ++ (d ++ (e ++ f))))
nested a b c d e f = simp append_assoc

regroup : (a b c d : List ℕ) → a ++ (b ++ (c ++ d)) ≡ (a ++ (b ++ c)) ++ d
regroup a b c d = simp append_assoc

lengths : (a b c d : List ℕ) → length (a ++ (b ++ (c ++ d))) ≡ length a + (length b + (length c + length d))
lengths a b c d = simp length-append

same_note : {k l : ℕ} {xs ys : List ℕ} → k ≡ l → xs ≡ ys
    → ◌≡◌ {A = Noted} (record { kind = k; desc = xs }) (record { kind = l; desc = ys })
same_note a b = cc

-- `IsDescPadding`, with the padded size written out
abbrev IsPaddedTo : (end size : ℕ) → (padding rest : List ℕ) → Type 0
IsPaddedTo end size padding rest = (size + length padding ≡ end) ⊎ ((rest ≡ []) × (size + length padding ≤ end))

rest_after : (end : ℕ) (desc padding rest : List ℕ) → IsPaddedTo end (length desc) padding rest
    → drop end (desc ++ (padding ++ rest)) ≡ rest
rest_after end desc padding rest h = ⊎_elim
    (λ (whole : length desc + length padding ≡ end).
    ap (drop end) (sym (append_assoc desc padding rest)) ∙ drop_front end (desc ++ padding) rest (length-append desc padding ∙ whole))
    (λ (last : (rest ≡ []) × (length desc + length padding ≤ end)).
    drop_all end (desc ++ (padding ++ rest))
    (omega (arith, last.1, ap length last.0, length-append desc (padding ++ rest), length-append padding rest))
    ∙ sym last.0)
    h

pub IsPlaced-from_note : (bytes rest : List ℕ) (note : Noted) → IsNote bytes rest note → IsPlaced bytes rest note
IsPlaced-from_note bytes rest note h =
    let tail = h.name ++ (h.name_padding ++ (note.desc ++ (h.desc_padding ++ rest))) in
    let before = h.header ++ (h.name ++ h.name_padding) in
    let together : bytes ≡ h.header ++ tail = h.together ∙ nested h.header h.name h.name_padding note.desc h.desc_padding rest in
    let number = λ (at : ℕ) (le : at + 4 ≤ length h.header).
    ap (λ bs. u32_in bs at) together ∙ u32_in-front h.header tail at le in
    let name_size : u32_in bytes 0 ≡ length h.name = number 0 (omega (arith, h.header_size)) ∙ h.name_size in
    let desc_size : u32_in bytes 4 ≡ length note.desc = number 4 (omega (arith, h.header_size)) ∙ h.desc_size in
    let kind : u32_in bytes 8 ≡ note.kind = number 8 (omega (arith, h.header_size)) ∙ h.kind in
    let width : length before ≡ 12 + padded (length h.name) = omega (arith, length-append h.header (h.name ++ h.name_padding), length-append h.name h.name_padding, h.header_size, h.name_padded) in
    let start : length before ≡ desc_start bytes = width ∙ ap (λ n. 12 + padded n) (sym name_size) in
    let cut : bytes ≡ before ++ (note.desc ++ (h.desc_padding ++ rest)) = together ∙ regroup h.header h.name h.name_padding (note.desc ++ (h.desc_padding ++ rest)) in
    let from : drop (desc_start bytes) bytes ≡ note.desc ++ (h.desc_padding ++ rest) = ap (drop (desc_start bytes)) cut ∙ drop_front (desc_start bytes) before (note.desc ++ (h.desc_padding ++ rest)) start in
    let whole : length bytes ≡ length before + (length note.desc + (length h.desc_padding + length rest)) = ap length cut ∙ lengths before note.desc h.desc_padding rest in
    let desc : slice_range bytes (desc_start bytes) (desc_end bytes) ≡ note.desc = ap (take (desc_end bytes - desc_start bytes)) from ∙ take_front (desc_end bytes - desc_start bytes) note.desc (h.desc_padding ++ rest) (omega (arith, desc_size)) in
    let past : drop (note_end bytes) bytes ≡ drop (padded (u32_in bytes 4)) (note.desc ++ (h.desc_padding ++ rest)) = sym (drop-drop (padded (u32_in bytes 4)) (desc_start bytes) bytes) ∙ ap (drop (padded (u32_in bytes 4))) from in
    let size : padded (length note.desc) ≡ padded (u32_in bytes 4) = ap padded (sym desc_size) in
    record {
      long = omega (arith, whole, width);
      fits = omega (arith, whole, start, desc_size);
      says = same_note (sym kind) (sym desc);
      after = sym (past ∙ rest_after (padded (u32_in bytes 4)) note.desc h.desc_padding rest (subst (λ n. IsPaddedTo n (length note.desc) h.desc_padding rest) size h.desc_padded));
    }

length_range : (xs : List ℕ) (a b n : ℕ) → b ≡ a + n → b ≤ length xs → length (slice_range xs a b) ≡ n
length_range xs a b n is le =
    length-take-le (b - a) (drop a xs) (omega (arith, length-drop a xs)) ∙ (omega (arith, is))

-- a note stands wherever the places of one lie in the bytes
pub IsNote-from_places : (bytes : List ℕ) → 12 ≤ length bytes → desc_end bytes ≤ length bytes
    → IsNote bytes (drop (note_end bytes) bytes) (first_noted bytes)
IsNote-from_places bytes long fits =
    let n = u32_in bytes 0 in
    let d = u32_in bytes 4 in
    let start = desc_start bytes in
    let end = desc_end bytes in
    let past = note_end bytes in
    let header = take 12 bytes in
    let header_size : length header ≡ 12 = length-take-le 12 bytes long in
    let front = λ (at : ℕ) (le : at + 4 ≤ 12).
    sym (ap (λ bs. u32_in bs at) (sym (take-append-drop 12 bytes)) ∙ u32_in-front header (drop 12 bytes) at (omega (arith, header_size))) in
    let name_size : length (slice_range bytes 12 (12 + n)) ≡ n = length_range bytes 12 (12 + n) n refl (omega arith) in
    let padding_size : length (slice_range bytes (12 + n) start) ≡ padded n - n = length_range bytes (12 + n) start (padded n - n) (omega arith) (omega arith) in
    let desc_size : length (slice_range bytes start end) ≡ d = length_range bytes start end d refl (omega arith) in
    record {
      header = header;
      name = slice_range bytes 12 (12 + n);
      name_padding = slice_range bytes (12 + n) start;
      desc_padding = slice_range bytes end past;
      together = sym (take-append-drop 12 bytes)
          ∙ ap (λ bs. header ++ bs) (drop_split bytes 12 (12 + n) (omega arith)
          ∙ ap (λ bs. slice_range bytes 12 (12 + n) ++ bs) (drop_split bytes (12 + n) start (omega arith)
          ∙ ap (λ bs. slice_range bytes (12 + n) start ++ bs) (drop_split bytes start end (omega arith)
          ∙ ap (λ bs. slice_range bytes start end ++ bs) (drop_split bytes end past (omega arith)))))
          ∙ sym (nested header (slice_range bytes 12 (12 + n)) (slice_range bytes (12 + n) start) (slice_range bytes start end) (slice_range bytes end past) (drop past bytes));
      header_size = header_size;
      name_size = front 0 (omega arith) ∙ sym name_size;
      desc_size = front 4 (omega arith) ∙ sym desc_size;
      kind = front 8 (omega arith);
      name_padded = omega (arith, name_size, padding_size, ap padded name_size);
      desc_padded = ⊎_elim
          (λ (cut : length bytes < past). inr (
            drop_all past bytes (omega arith),
            omega (arith, length-take (past - end) (drop end bytes), length-drop end bytes, desc_size, ap padded desc_size),
          ))
          (λ (whole : past ≤ length bytes).
          inl (omega (arith, desc_size, ap padded desc_size, length_range bytes end past (padded d - d) (omega arith) whole)))
          (cases_lt (length bytes) past);
    }

drop_min : (bytes : List ℕ) (end : ℕ) → drop (min (length bytes) end) bytes ≡ drop end bytes
drop_min bytes end = ⊎_elim
    (λ (cut : length bytes < end).
    let least : min (length bytes) end ≡ length bytes = omega arith in
    ap (λ n. drop n bytes) least ∙ drop_all (length bytes) bytes (omega arith) ∙ sym (drop_all end bytes (omega arith)))
    (λ (whole : end ≤ length bytes). let least : min (length bytes) end ≡ end = omega arith in ap (λ n. drop n bytes) least)
    (cases_lt (length bytes) end)

-- the same, for the numbers that are read there
pub IsNote-by : (bytes : List ℕ) (kind start end after : ℕ) → 12 ≤ length bytes → end ≤ length bytes
    → kind ≡ u32_in bytes 8 → start ≡ desc_start bytes → end ≡ desc_end bytes → after ≡ min (length bytes) (note_end bytes)
    → IsNote bytes (take (length bytes - after) (drop after bytes)) (record { kind = kind; desc = slice_range bytes start end })
IsNote-by bytes kind start end after long fits kind_is start_is end_is after_is =
    let rest : take (length bytes - after) (drop after bytes) ≡ drop (note_end bytes) bytes =
    take_all (length bytes - after) (drop after bytes) (omega (arith, length-drop after bytes))
    ∙ ap (λ n. drop n bytes) after_is ∙ drop_min bytes (note_end bytes) in
    let desc : slice_range bytes start end ≡ slice_range bytes (desc_start bytes) (desc_end bytes) =
    ap (λ n. slice_range bytes n end) start_is ∙ ap (slice_range bytes (desc_start bytes)) end_is in
    let note = same_note kind_is desc in
    subst (λ (r : List ℕ). IsNote bytes r (record { kind = kind; desc = slice_range bytes start end })) (sym rest)
    (subst (IsNote bytes (drop (note_end bytes) bytes)) (sym note) (IsNote-from_places bytes long (omega (arith, end_is))))

-- one note at most, and one rest
pub IsNote-once : (bytes r s : List ℕ) (m n : Noted) → IsNote bytes r m → IsNote bytes s n → (m ≡ n) × (r ≡ s)
IsNote-once bytes r s m n h k =
    let p = IsPlaced-from_note bytes r m h in
    let q = IsPlaced-from_note bytes s n k in
    (p.says ∙ sym q.says, p.after ∙ sym q.after)

AreNotes-once-more : (bytes : List ℕ) (ms ns : List Noted) → AreNotes bytes ms → AreNotes bytes ns → ms ≡ ns
AreNotes-once-more bytes [] [] h k = refl
AreNotes-once-more bytes [] (n ∷ ns) h k =
    let p = IsPlaced-from_note bytes k.0 n k.1 in absurd (omega (arith, p.long, ap length h))
AreNotes-once-more bytes (m ∷ ms) [] h k =
    let p = IsPlaced-from_note bytes h.0 m h.1 in absurd (omega (arith, p.long, ap length k))
AreNotes-once-more bytes (m ∷ ms) (n ∷ ns) h k =
    let same = IsNote-once bytes h.0 k.0 m n h.1 k.1 in
    let rest = AreNotes-once-more h.0 ms ns h.2 (subst (λ r. AreNotes r ns) (sym same.1) k.2) in
    ap (λ x. x ∷ ms) same.0 ∙ ap (λ xs. n ∷ xs) rest

pub AreNotes-once : (bytes : List ℕ) → AreNotesOnce bytes
AreNotes-once bytes = AreNotes-once-more bytes

-- a note more
pub NotesThen-more : (bytes : List ℕ) (notes : List Noted) (note : Noted) (mid rest : List ℕ)
    → NotesThen bytes notes mid → IsNote mid rest note → NotesThen bytes (notes ++ note ∷ []) rest
NotesThen-more bytes [] note mid rest h k = (rest, subst (λ bs. IsNote bs rest note) (sym h) k, refl)
NotesThen-more bytes (m ∷ ms) note mid rest h k = (h.0, h.1, NotesThen-more h.0 ms note mid rest h.2 k)

-- what all notes of the bytes are, where some are known
pub AreNotes-rest : (bytes : List ℕ) (notes : List Noted) (mid : List ℕ) (all : List Noted)
    → NotesThen bytes notes mid → AreNotes bytes all → (others : List Noted) × AreNotes mid others
AreNotes-rest bytes [] mid all h k = (all, subst (λ bs. AreNotes bs all) h k)
AreNotes-rest bytes (m ∷ ms) mid [] h k =
    let p = IsPlaced-from_note bytes h.0 m h.1 in absurd (omega (arith, p.long, ap length k))
AreNotes-rest bytes (m ∷ ms) mid (n ∷ ns) h k =
    let same = IsNote-once bytes h.0 k.0 m n h.1 k.1 in
    AreNotes-rest h.0 ms mid ns h.2 (subst (λ r. AreNotes r ns) (sym same.1) k.2)

-- no notes have bytes that go on where no note stands
pub AreNoNotes-from_rest : (bytes : List ℕ) (notes : List Noted) (mid : List ℕ)
    → NotesThen bytes notes mid → 0 < length mid → BeginsNoNote mid → AreNoNotes bytes
AreNoNotes-from_rest bytes notes mid h some none all k =
    let others = AreNotes-rest bytes notes mid all h k in none_left mid others.0 some none others.1
  where
    none_left : (mid : List ℕ) (others : List Noted) → 0 < length mid → BeginsNoNote mid → AreNotes mid others → ⊥
    none_left mid [] some none is = omega (arith, ap length is)
    none_left mid (n ∷ ns) some none is = none n is.0 is.1

-- where no list of notes has the bytes, an answer that is one when it is Ok is an error
pub refused_by : {T E : Type 0} (bytes : List ℕ) (notes : T → List Noted) (r : Result T E)
    → IfOk r (λ v. AreNotes bytes (notes v)) → AreNoNotes bytes → IsErr r
refused_by bytes notes (Ok v) is none = absurd (none (notes v) is)
refused_by bytes notes (Err e) is none = refl
