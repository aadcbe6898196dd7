-- What a report shows of a program that was written: the program itself, in its own words. This knows of no memory and
-- no object: threads and frames are in the program's order, lines are those of its own ranges, and values are shown by
-- the rule of values over its own. Where values stand in memory is no part of it.
use Rattle.std.specs.Prelude.{◌≡◌, ℕ, ◌+◌, nat_eq, nat_lt, pos, Bool, true, false, Option, Some, None, option_map, List}
use Rattle.std.specs.Prelude.{[], ◌∷◌, map}
use Rattle.py_fields.specs.declared.layout.Layout.{Layout}
use Rattle.py_fields.specs.declared.version.Version.{Version}
use Rattle.py_stacks.specs.declared.config.Config.{Config}
use Rattle.py_stacks.specs.declared.trace.LocalVariable.{LocalVariable}
use Rattle.py_stacks.specs.Asking.{asked_of}
use Rattle.py_stacks.specs.Frames.{Call}
use Rattle.py_stacks.specs.Threads.{Trace}
use Rattle.py_stacks.specs.Values.{value_width}
use Rattle.py_process.specs.Reports.{Reported, bare_trace}
use Rattle.memory_builder.specs.Program.{Frame, Local, Program, Thread}
use Rattle.memory_builder.specs.Told.{line_told, told_text}
use Rattle.image_builder.specs.CoreFiles.{process_name}

-- ---- frames

-- locals from an index on, of which those below `args` are arguments, each with its value as text within a width. The
-- address of each value is left 0
abbrev pub locals_shown : (width args index : ℕ) → List Local → List LocalVariable
locals_shown width args index [] = []
locals_shown width args index (v ∷ vs) =
    record { name = v.name; addr = 0; arg = nat_lt index args; repr = Some (told_text width v.value) }
    ∷ locals_shown width args (index + 1) vs

-- those of a frame, where locals are asked for
abbrev pub shown_locals : Bool → (width : ℕ) → Frame → Option (List LocalVariable)
shown_locals false width f = None
shown_locals true width f = Some (locals_shown width f.args 0 f.locals)

-- a frame, which is the last of its thread, or is called by the next one
abbrev pub shown_frame : Config → (is_last : Bool) → Frame → Call
shown_frame c is_last f = record {
  name = f.name;
  filename = f.filename;
  «module» = None;
  short_filename = None;
  line = line_told c.lineno f;
  locals = shown_locals (asked_of c).locals (value_width c.dump_locals) f;
  is_entry = true;
  is_shim_entry = is_last;
}

-- whether no frame follows
abbrev pub is_none_left : List Frame → Bool
is_none_left [] = true
is_none_left (f ∷ fs) = false

-- the frames of a thread, the newest first, the last one marked
abbrev pub shown_frames : Config → List Frame → List Call
shown_frames c [] = []
shown_frames c (f ∷ fs) = shown_frame c (is_none_left fs) f ∷ shown_frames c fs

-- ---- threads

-- a thread without a name, since the program has no module `threading`, and with its id as the system's where the
-- layout has one
abbrev pub shown_thread : Config → Layout → (owns_lock : Bool) → Thread → Trace
shown_thread c l owns_lock t = record {
  pid = pos 0;
  thread_id = t.id;
  thread_name = None;
  os_thread_id = option_map (λ at. t.id) l.thread.native_id;
  active = true;
  owns_gil = owns_lock;
  frames = shown_frames c t.frames;
}

-- whether the thread of an index is the one that holds the lock
abbrev pub is_owner : Option ℕ → (index : ℕ) → Bool
is_owner None index = false
is_owner (Some owner) index = nat_eq owner index

-- threads from an index on
abbrev pub shown_threads : Config → Layout → (owner : Option ℕ) → (index : ℕ) → List Thread → List Trace
shown_threads c l owner index [] = []
shown_threads c l owner index (t ∷ ts) =
    shown_thread c l (is_owner owner index) t ∷ shown_threads c l owner (index + 1) ts

-- ---- the report

-- the signal and the process are those that each core has that is written
abbrev pub shown_report : Config → Layout → Version → Program → Reported
shown_report c l v p = record {
  signal = Some (pos 6);
  process = Some (pos 1, process_name);
  version = v;
  traces = shown_threads c l p.owner 0 p.threads;
}

-- ---- addresses aside

-- a report with 0 for the address of each local
abbrev pub unplaced_local : LocalVariable → LocalVariable
unplaced_local v = record v { addr = 0 }

-- a call with 0 for the address of each of its locals
abbrev pub unplaced_call : Call → Call
unplaced_call c = record c { locals = option_map (map unplaced_local) c.locals }

-- a trace with 0 for the address of each local
abbrev pub unplaced_trace : Trace → Trace
unplaced_trace t = record t { frames = map unplaced_call t.frames }

-- a report with 0 for the address of each local
abbrev pub without_addresses : Reported → Reported
without_addresses r = record r { traces = map unplaced_trace r.traces }

-- ---- names and marks alone

-- two reports of one version, whose threads have the same ids, in order, and whose frames the same names and marks
pub record HaveSameFrames (r s : Reported) : Type 0 where
  pub version : r.version ≡ s.version
  pub threads : map bare_trace r.traces ≡ map bare_trace s.traces
