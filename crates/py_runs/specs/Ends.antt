-- Where a run ends, by version: each frame up to 3.10 (Python/ceval.c calls itself for each); `is_entry` of
-- `_PyInterpreterFrame` in 3.11, and FRAME_OWNED_BY_CSTACK from 3.12 on (Include/internal/pycore_frame.h).
use Rattle.std.specs.Prelude.{nat_eq, nat_lt, ◌||◌, ◌&&◌, Bool, if◌then◌else◌, Option, Some, None}
use Rattle.py_fields.specs.declared.version.Version.{Version}
use Rattle.py_records.specs.declared.frames.CframeRecord.{CframeRecord}
use Rattle.py_records.specs.declared.frames.EntryRecord.{EntryRecord}
use Rattle.py_records.specs.declared.frames.FrameRecords.{FrameRecords}
use Rattle.py_records.specs.declared.frames.OwnerRecord.{OwnerRecord}
use Rattle.py_records.specs.declared.frames.ShimRecord.{ShimRecord}
use Rattle.py_runs.specs.declared.run_rule.RunEnd.{RunEnd}
use Rattle.py_runs.specs.declared.run_rule.RunEnd.TheVariants.{Each, Entry, Shim}

-- whether the interpreter's loop calls itself for each Python frame: up to 3.10
abbrev pub has_calls : Version → Bool
has_calls v = nat_lt v.major 3 || (nat_eq v.major 3 && nat_lt v.minor 11)

-- a run ends at a frame that the C stack owns; none where the place of `owner` is not known
abbrev pub by_shim : ShimRecord → Option OwnerRecord → Option RunEnd
by_shim s None = None
by_shim s (Some o) = Some (Shim o.place s.owner)

-- a run ends at a frame with `is_entry`, by `_PyCFrame` (3.11); none where a record is not known
abbrev pub by_entry : Option EntryRecord → Option CframeRecord → Option RunEnd
by_entry (Some e) (Some c) = Some (Entry e.place c.current c.previous)
by_entry _ _ = None

-- by the owner of frames from 3.12 on, else by `is_entry`
abbrev pub by_two : Option ShimRecord → FrameRecords → Option RunEnd
by_two None r = by_entry r.entry r.cframe
by_two (Some s) r = by_shim s r.owner

-- what the records of a version say
abbrev pub by_records : FrameRecords → Option RunEnd
by_records r = by_two r.shim r

-- where the runs of a version end; none where its records don't tell
abbrev pub run_end : Version → FrameRecords → Option RunEnd
run_end v r = if has_calls v then Some Each else by_records r
