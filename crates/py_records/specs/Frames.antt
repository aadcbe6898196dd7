-- Code, frames and tracebacks; when the groups of these are sound, and what a table says of them. From the
-- structs of CPython that the groups' docs name; the form of the file is this project's own.
use Rattle.std.specs.Prelude.{Bool, List, [], ◌∷◌, None, IfSome, is_some, option_map, codes}
use Rattle.std.specs.Option.{option_or}
use Rattle.toml.specs.Data.{Members}
use Rattle.py_layout.specs.Values.{group_at, number_at}
use Rattle.py_fields.specs.Places.{Place}
use Rattle.py_fields.specs.Sound.{IsRecord}
use Rattle.py_records.specs.Places.{ArePlain, any_both}
use Rattle.py_records.specs.declared.frames.CodeRecord.{CodeRecord}
use Rattle.py_records.specs.declared.frames.CodeNamesRecord.{CodeNamesRecord}
use Rattle.py_records.specs.declared.frames.CodeKindsRecord.{CodeKindsRecord}
use Rattle.py_records.specs.declared.frames.FrameObjectRecord.{FrameObjectRecord}
use Rattle.py_records.specs.declared.frames.OwnerRecord.{OwnerRecord}
use Rattle.py_records.specs.declared.frames.ShimRecord.{ShimRecord}
use Rattle.py_records.specs.declared.frames.EntryRecord.{EntryRecord}
use Rattle.py_records.specs.declared.frames.CframeRecord.{CframeRecord}
use Rattle.py_records.specs.declared.frames.TracebackRecord.{TracebackRecord}
use Rattle.py_records.specs.declared.frames.FrameRecords.{FrameRecords}

-- offsets and widths, in bytes, in a `PyCodeObject`: `co_flags`, `co_stacksize`
unfoldable pub code_places : CodeRecord → List Place
code_places r = (r.flags, 4) ∷ (r.stack_size, 4) ∷ []

-- a `PyCodeObject`: its fields stand inside its size, of 1 to 65535 bytes, and no two meet
abbrev pub IsSoundCode : CodeRecord → Type 0
IsSoundCode r = IsRecord r.size (code_places r)

-- each offset of the group `code_names` (`co_code`, `co_cellvars`, `co_freevars`) is below 2^20
abbrev pub IsSoundCodeNames : CodeNamesRecord → Type 0
IsSoundCodeNames r = ArePlain (r.bytecode ∷ r.cells ∷ r.frees ∷ [])

-- each offset of the group `code_kinds` (`co_nlocalsplus`, `co_localspluskinds`, `co_qualname`) is below 2^20
abbrev pub IsSoundCodeKinds : CodeKindsRecord → Type 0
IsSoundCodeKinds r = ArePlain (r.count ∷ r.kinds ∷ r.qualname ∷ [])

-- offset and width, in bytes, of `f_frame` in a `PyFrameObject` from 3.11 on
unfoldable pub frame_object_places : FrameObjectRecord → List Place
frame_object_places r = (r.frame, 8) ∷ []

-- a `PyFrameObject` from 3.11 on: its field stands inside its size, of 1 to 65535 bytes
abbrev pub IsSoundFrameObject : FrameObjectRecord → Type 0
IsSoundFrameObject r = IsRecord r.size (frame_object_places r)

-- the offset of `owner` and the three values of it are below 2^20
abbrev pub IsSoundOwner : OwnerRecord → Type 0
IsSoundOwner r = ArePlain (r.place ∷ r.thread ∷ r.generator ∷ r.frame_object ∷ [])

-- `FRAME_OWNED_BY_CSTACK` is below 2^20
abbrev pub IsSoundShim : ShimRecord → Type 0
IsSoundShim r = ArePlain (r.owner ∷ [])

-- the offset of `is_entry` is below 2^20
abbrev pub IsSoundEntry : EntryRecord → Type 0
IsSoundEntry r = ArePlain (r.place ∷ [])

-- offsets and widths, in bytes, in a `_PyCFrame`: `current_frame`, `previous`
unfoldable pub cframe_places : CframeRecord → List Place
cframe_places r = (r.current, 8) ∷ (r.previous, 8) ∷ []

-- a `_PyCFrame`: its fields stand inside its size, of 1 to 65535 bytes, and no two meet
abbrev pub IsSoundCframe : CframeRecord → Type 0
IsSoundCframe r = IsRecord r.size (cframe_places r)

-- offsets and widths, in bytes, in a `PyTracebackObject`: `tb_next`, `tb_frame`, `tb_lasti`, `tb_lineno`
unfoldable pub traceback_places : TracebackRecord → List Place
traceback_places r = (r.next, 8) ∷ (r.frame, 8) ∷ (r.lasti, 4) ∷ (r.line, 4) ∷ []

-- a `PyTracebackObject`: its fields stand inside its size, of 1 to 65535 bytes, and no two meet
abbrev pub IsSoundTraceback : TracebackRecord → Type 0
IsSoundTraceback r = IsRecord r.size (traceback_places r)

-- each group of code, frames and tracebacks that is there is sound
pub record AreSoundFrames (r : FrameRecords) : Type 0 where
  pub code : IfSome r.code IsSoundCode
  pub code_names : IfSome r.code_names IsSoundCodeNames
  pub code_kinds : IfSome r.code_kinds IsSoundCodeKinds
  pub frame_object : IfSome r.frame_object IsSoundFrameObject
  pub owner : IfSome r.owner IsSoundOwner
  pub shim : IfSome r.shim IsSoundShim
  pub entry : IfSome r.entry IsSoundEntry
  pub cframe : IfSome r.cframe IsSoundCframe
  pub traceback : IfSome r.traceback IsSoundTraceback

-- the group `code`: size and field offsets of a `PyCodeObject` (Include/code.h)
abbrev pub code_in : Members → CodeRecord
code_in ms = record {
  size = number_at ms None (codes "size");
  flags = number_at ms None (codes "flags");
  stack_size = number_at ms None (codes "stack_size");
}

-- the group `code_names`: the offsets of `co_code`, `co_cellvars`, `co_freevars` in a `PyCodeObject` up to 3.10
abbrev pub code_names_in : Members → CodeNamesRecord
code_names_in ms = record {
  bytecode = number_at ms None (codes "bytecode");
  cells = number_at ms None (codes "cells");
  frees = number_at ms None (codes "frees");
}

-- the group `code_kinds`: offsets of `co_nlocalsplus`, `co_localspluskinds` and `co_qualname`, from 3.11 on
abbrev pub code_kinds_in : Members → CodeKindsRecord
code_kinds_in ms = record {
  count = number_at ms None (codes "count");
  kinds = number_at ms None (codes "kinds");
  qualname = number_at ms None (codes "qualname");
}

-- the group `frame_object`: size and the field's offset of a `PyFrameObject` from 3.11 on (pycore_frame.h)
abbrev pub frame_object_in : Members → FrameObjectRecord
frame_object_in ms = record {
  size = number_at ms None (codes "size");
  frame = number_at ms None (codes "frame");
}

-- the group `owner`: where `_PyInterpreterFrame` has `owner`, and three values, `FRAME_OWNED_BY_..`
abbrev pub owner_in : Members → OwnerRecord
owner_in ms = record {
  place = number_at ms None (codes "place");
  thread = number_at ms None (codes "thread");
  generator = number_at ms None (codes "generator");
  frame_object = number_at ms None (codes "frame_object");
}

-- the group `shim`: a frame's `owner` where C called Python, `FRAME_OWNED_BY_CSTACK`, from 3.12 on
abbrev pub shim_in : Members → ShimRecord
shim_in ms = record {
  owner = number_at ms None (codes "owner");
}

-- the group `entry`: where `_PyInterpreterFrame` of 3.11 has `is_entry`
abbrev pub entry_in : Members → EntryRecord
entry_in ms = record {
  place = number_at ms None (codes "place");
}

-- the group `cframe`: size and field offsets of a `_PyCFrame` (Include/cpython/pystate.h)
abbrev pub cframe_in : Members → CframeRecord
cframe_in ms = record {
  size = number_at ms None (codes "size");
  current = number_at ms None (codes "current");
  previous = number_at ms None (codes "previous");
}

-- the group `traceback`: size and field offsets of a `PyTracebackObject` (Include/traceback.h)
abbrev pub traceback_in : Members → TracebackRecord
traceback_in ms = record {
  size = number_at ms None (codes "size");
  next = number_at ms None (codes "next");
  frame = number_at ms None (codes "frame");
  lasti = number_at ms None (codes "lasti");
  line = number_at ms None (codes "line");
}

-- the groups of code, frames and tracebacks that a table has
unfoldable pub frames_from : Members → FrameRecords
frames_from ms = record {
  code = option_map code_in (group_at ms (codes "code"));
  code_names = option_map code_names_in (group_at ms (codes "code_names"));
  code_kinds = option_map code_kinds_in (group_at ms (codes "code_kinds"));
  frame_object = option_map frame_object_in (group_at ms (codes "frame_object"));
  owner = option_map owner_in (group_at ms (codes "owner"));
  shim = option_map shim_in (group_at ms (codes "shim"));
  entry = option_map entry_in (group_at ms (codes "entry"));
  cframe = option_map cframe_in (group_at ms (codes "cframe"));
  traceback = option_map traceback_in (group_at ms (codes "traceback"));
}

-- no group is there
abbrev pub no_frames : FrameRecords
no_frames = record {
  code = None;
  code_names = None;
  code_kinds = None;
  frame_object = None;
  owner = None;
  shim = None;
  entry = None;
  cframe = None;
  traceback = None;
}

-- each group of the first that is there, and else of the second
unfoldable pub joined_frames : FrameRecords → FrameRecords → FrameRecords
joined_frames a b = record {
  code = option_or a.code b.code;
  code_names = option_or a.code_names b.code_names;
  code_kinds = option_or a.code_kinds b.code_kinds;
  frame_object = option_or a.frame_object b.frame_object;
  owner = option_or a.owner b.owner;
  shim = option_or a.shim b.shim;
  entry = option_or a.entry b.entry;
  cframe = option_or a.cframe b.cframe;
  traceback = option_or a.traceback b.traceback;
}

-- whether a group is there in both
unfoldable pub share_frames : FrameRecords → FrameRecords → Bool
share_frames a b = any_both (is_some a.code ∷ is_some a.code_names ∷ is_some a.code_kinds ∷ is_some a.frame_object
    ∷ is_some a.owner ∷ is_some a.shim ∷ is_some a.entry ∷ is_some a.cframe ∷ is_some a.traceback ∷ [])
    (is_some b.code ∷ is_some b.code_names ∷ is_some b.code_kinds ∷ is_some b.frame_object ∷ is_some b.owner
    ∷ is_some b.shim ∷ is_some b.entry ∷ is_some b.cframe ∷ is_some b.traceback ∷ [])
