-- The notes of a core by which its first thread alone is told.
use Rattle.std.specs.Prelude.{nat_le, ◌++◌, ◌&&◌, ◌||◌, Bool, true, false, List, [], ◌∷◌, length}
use Rattle.elf64_core.specs.Notes.{Noted}
use Rattle.image_memory.specs.Notes.{is_of_kind, status_kind}

-- a note is a status record (`elf_prstatus` of Linux's `linux/elfcore.h`)
abbrev pub is_status : Noted → Bool
is_status note = is_of_kind status_kind note && nat_le 112 (length note.desc)

-- a note, unless it is left out
abbrev pub kept_unless : (is_left_out : Bool) → Noted → List Noted
kept_unless true note = []
kept_unless false note = note ∷ []

-- notes without the status records behind the first one, which may have been met
unfoldable pub notes_behind : (is_met : Bool) → List Noted → List Noted
notes_behind is_met [] = []
notes_behind is_met (n ∷ ns) = kept_unless (is_met && is_status n) n ++ notes_behind (is_met || is_status n) ns

-- the notes of a core without the status records of other threads than the first
abbrev pub notes_of_first : List Noted → List Noted
notes_of_first notes = notes_behind false notes
