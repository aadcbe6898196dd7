-- The notes of a built core are read as they were written.
use Rattle.std.proofs.Common.{true, ◌≡◌, ℕ, ◌-◌, ◌<◌, ◌≤◌, ◌^◌, List, [], ◌∷◌, ◌++◌, length, refl, sym, ap, ◌∙◌, arith}
use Rattle.std.proofs.Common.{take, drop, inl, append_assoc, append-nil}
use Rattle.std.specs.Prelude.{Some, None, slice_get, All, filter, filter_map, position, nat_le, if◌then◌else◌}
use Rattle.std.specs.Int.{w16, w32, cast_signed}
use Rattle.std.proofs.Math.ListN.{replicate}
use Rattle.std.proofs.lemmas.List.{length-replicate}
use Rattle.std.proofs.lemmas.List.Elements.{All-cons, All-nil}
use Rattle.elf64_core.specs.Fields.{u64_in, u32_in, u16_in}
use Rattle.elf64_core.specs.Notes.{AreNotes, IsNote, Noted, padded}
use Rattle.image_memory.specs.FileTables.{Entry, IsFileTable, entry_at}
use Rattle.elf64_core.specs.Nul.{is_nul}
use Rattle.image_memory.specs.Notes.{IsWhole, TablesSay, is_table, last_process, process_in, status_in, status_noted}
use Rattle.std.specs.List.{cons_option}
use Rattle.std.proofs.lemmas.Bool.{le-leb}
use Rattle.object_builder.specs.Objects.{bytes_of}
use Rattle.object_builder.specs.Placing.{Stands}
use Rattle.object_builder.proofs.Placing.{stands_left, stands_right}
use Rattle.image_builder.specs.CoreFacts.{built_process, built_status}
use Rattle.image_builder.specs.CoreFiles.{core_notes, image_path, laid_note, owner_name, owner_padding, process_fields}
use Rattle.image_builder.specs.CoreFiles.{process_name, process_record, status_fields, table_fields}
use Rattle.image_builder.specs.ElfRecords.{note_fields}
use Rattle.image_builder.specs.Records.{filled, record_of}
use Rattle.image_builder.proofs.Appending.{length-filled, length-record}
use Rattle.image_builder.proofs.Lengths.{length-process, length-status, length-table}
use Rattle.image_builder.proofs.Reading.{file_stands, part_file, u16_field, u32_field, u64_field}

abbrev pub status_note : Noted
status_note = record { kind = 1; desc = record_of status_fields }

abbrev pub process_note : Noted
process_note = record { kind = 3; desc = process_record }

abbrev pub table_note : Noted
table_note = record { kind = 0x46494c45; desc = record_of table_fields }

abbrev pub three_notes : List Noted
three_notes = status_note ∷ process_note ∷ table_note ∷ []

-- ---- each note

in_parts : (h o p d z rest : List ℕ) → (h ++ ((o ++ p) ++ (d ++ z))) ++ rest ≡ ((((h ++ o) ++ p) ++ d) ++ z) ++ rest
in_parts h o p d z rest =
    ap (λ xs. xs ++ rest) (sym (append_assoc h (o ++ p) (d ++ z)) ∙ ap (λ xs. xs ++ (d ++ z)) (sym (append_assoc h o p))
    ∙ sym (append_assoc ((h ++ o) ++ p) d z))

note_is : (n : Noted) (rest : List ℕ) → n.kind < 2 ^ 32 → length n.desc < 2 ^ 16
    → IsNote (laid_note n.kind n.desc ++ rest) rest n
unfolding laid_note filled
note_is n rest kind short =
    let fields = note_fields 5 (length n.desc) n.kind in
    let header = record_of fields in
    let size : length header ≡ 12 = length-record fields in
    let s : Stands (slice_get header) 0 header = file_stands header (omega (arith, size)) in
    let zeros = length-replicate {A = ℕ} (padded (length n.desc) - length n.desc) 0 in
    record {
      header = header;
      name = owner_name;
      name_padding = owner_padding;
      desc_padding = replicate (padded (length n.desc) - length n.desc) 0;
      together = in_parts header owner_name owner_padding n.desc
          (replicate (padded (length n.desc) - length n.desc) 0) rest;
      header_size = size;
      name_size = u32_field header 0 fields s 0 5 refl (omega arith);
      desc_size = u32_field header 0 fields s 1 (length n.desc) refl (omega (arith, short));
      kind = u32_field header 0 fields s 2 n.kind refl kind;
      name_padded = refl;
      desc_padded = inl (omega (arith, zeros));
    }

last_is : (n : Noted) → n.kind < 2 ^ 32 → length n.desc < 2 ^ 16 → IsNote (laid_note n.kind n.desc) [] n
last_is n kind short =
    let is = note_is n [] kind short in
    record {
      header = is.header;
      name = is.name;
      name_padding = is.name_padding;
      desc_padding = is.desc_padding;
      together = sym (append-nil (laid_note n.kind n.desc)) ∙ is.together;
      header_size = is.header_size;
      name_size = is.name_size;
      desc_size = is.desc_size;
      kind = is.kind;
      name_padded = is.name_padded;
      desc_padded = is.desc_padded;
    }

pub notes_back : AreNotes core_notes three_notes
unfolding core_notes
notes_back =
    let two = laid_note 3 process_record in
    let three = laid_note 0x46494c45 (record_of table_fields) in (
      two ++ three,
      note_is status_note (two ++ three) (omega arith) (omega (arith, length-status)),
      (
        three,
        note_is process_note three (omega arith) (omega (arith, length-process)),
        ([], last_is table_note (omega arith) (omega (arith, length-table)), refl),
      ),
    )

whole_if : (n : Noted) → (n.kind ≡ 1 → 112 ≤ length n.desc) → (n.kind ≡ 3 → 136 ≤ length n.desc) → IsWhole n
whole_if n one three = record { status = one; process = three }

pub notes_whole : All IsWhole three_notes
notes_whole =
    All-cons IsWhole status_note (process_note ∷ table_note
    ∷ []) (whole_if status_note (λ e. omega (arith, length-status)) (λ e. absurd (omega (arith, e))))
    (All-cons IsWhole process_note (table_note ∷ []) (whole_if process_note (λ e. absurd (omega (arith, e)))
    (λ e. omega (arith, length-process)))
    (All-cons IsWhole table_note [] (whole_if table_note (λ e. absurd (omega (arith, e)))
    (λ e. absurd (omega (arith, e)))) (All-nil IsWhole)))

-- ---- the file table

abbrev table : List ℕ
table = record_of table_fields

table_stands : Stands (slice_get table) 0 table
table_stands = file_stands table (omega (arith, length-table))

abbrev pub core_entry : Entry
core_entry = record { start = 0x40_0000; place = record { pages = 0; page_size = 4096 }; name = image_path }

entry_is : entry_at table 0 image_path ≡ core_entry
entry_is =
    let start : u64_in table 16 ≡ 0x40_0000 = u64_field table 0 table_fields table_stands 2 0x40_0000 refl
    (omega arith) in
    let pages : u64_in table 32 ≡ 0 = u64_field table 0 table_fields table_stands 4 0 refl (omega arith) in
    let size : u64_in table 8 ≡ 4096 = u64_field table 0 table_fields table_stands 1 4096 refl (omega arith) in
    λ i. record { start = start i; place = record { pages = pages i; page_size = size i }; name = image_path }

path_behind : drop 40 table ≡ image_path ++ 0 ∷ []
unfolding record_of bytes_of
path_behind = refl

pub table_is : IsFileTable table (core_entry ∷ [])
table_is = record {
  names = image_path ∷ [];
  rest = [];
  header = omega (arith, length-table);
  count = u64_field table 0 table_fields table_stands 0 1 refl (omega arith);
  whole = omega (arith, length-table);
  named = (
    [],
    record {
      size = 16;
      ends = ap (position is_nul) path_behind;
      name_is = ap (take 16) (sym path_behind);
      rest_is = ap (drop 17) (sym path_behind);
    },
    refl,
  );
  says = ap (λ e. e ∷ []) (sym entry_is);
}

pub tables_say : TablesSay (filter is_table three_notes) (core_entry ∷ [])
tables_say = (core_entry ∷ [], [], table_is, refl, refl)

-- ---- what they say

status_stands : Stands (slice_get (record_of status_fields)) 0 (record_of status_fields)
status_stands = file_stands (record_of status_fields) (omega (arith, length-status))

status_is : status_in (record_of status_fields) ≡ built_status
unfolding status_in
status_is =
    let desc = record_of status_fields in
    let signal : u16_in desc 12 ≡ 6 = u16_field desc 0 status_fields status_stands 3 6 refl (omega arith) in
    let pid : u32_in desc 32 ≡ 1 = u32_field desc 0 status_fields status_stands 7 1 refl (omega arith) in
    λ i. record { pr_cursig = cast_signed w16 (signal i); pr_pid = cast_signed w32 (pid i) }

chosen : {T : Type 0} (n least : ℕ) (x : T) → least ≤ n → (if nat_le least n then Some x else None) ≡ Some x
chosen n least x h = let holds : nat_le least n ≡ true = le-leb least n h in ap (λ t. if t then Some x else None) holds

pub statuses_say : filter_map status_noted three_notes ≡ built_status ∷ []
statuses_say = ap (λ o. cons_option o []) (chosen (length (record_of status_fields)) 112
    (status_in (record_of status_fields)) (omega (arith, length-status)) ∙ ap Some status_is)

process_stands : Stands (slice_get process_record) 0 (record_of process_fields
    ++ (filled 16 process_name ++ filled 80 process_name))
unfolding process_record
process_stands = file_stands process_record (omega (arith, length-process))

fields_stand : Stands (slice_get process_record) 0 (record_of process_fields)
fields_stand = stands_left (record_of process_fields) (filled 16 process_name ++ filled 80 process_name) process_stands

names_stand : Stands (slice_get process_record) 40 (filled 16 process_name ++ filled 80 process_name)
names_stand = rw (length-record process_fields) at (stands_right (record_of process_fields) (filled 16 process_name
    ++ filled 80 process_name) process_stands)

length-fname : length (filled 16 process_name) ≡ 16
length-fname = length-filled 16 process_name (omega arith)

fname_is : take 16 (drop 40 process_record) ≡ filled 16 process_name
fname_is = ap (λ n. take n (drop 40 process_record)) (sym length-fname)
    ∙ part_file process_record 40 (filled 16 process_name) (stands_left (filled 16 process_name)
    (filled 80 process_name) names_stand)

psargs_is : take 80 (drop 56 process_record) ≡ filled 80 process_name
psargs_is =
    let s : Stands (slice_get process_record) 56 (filled 80 process_name) =
    rw length-fname at (stands_right (filled 16 process_name) (filled 80 process_name) names_stand) in
    ap (λ n. take n (drop 56 process_record)) (sym (length-filled 80 process_name (omega arith)))
    ∙ part_file process_record 56 (filled 80 process_name) s

process_is : process_in process_record ≡ built_process
unfolding process_in
process_is =
    let pid : u32_in process_record 24 ≡ 1 = u32_field process_record 0 process_fields fields_stand 5 1 refl
    (omega arith) in
    λ i. record { pr_pid = cast_signed w32 (pid i); pr_fname = fname_is i; pr_psargs = psargs_is i }

pub process_says : Some built_process ≡ last_process three_notes
process_says = sym (chosen (length process_record) 136 (process_in process_record) (omega (arith, length-process))
    ∙ ap Some process_is)
