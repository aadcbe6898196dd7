-- The runs of a thread.
use Rattle.std.specs.Prelude.{ℕ, ◌+◌, Bool, true, false, List, [], map, Option, Some, None}
use Rattle.process_memory.specs.Memory.{Memory}
use Rattle.py_fields.specs.declared.layout.Layout.{Layout}
use Rattle.py_runs.specs.Cuts.{c_runs, plain_run, shim_run, spans_of}
use Rattle.py_runs.specs.Members.{c_frames_from, current_of, members_from, named_by}
use Rattle.py_runs.specs.declared.cut.Run.{Run}
use Rattle.py_runs.specs.declared.cut.Span.{Span}
use Rattle.py_runs.specs.declared.run_rule.RunEnd.{RunEnd}
use Rattle.py_runs.specs.declared.run_rule.RunEnd.TheVariants.{Each, Entry, Shim}

-- whether a run ends at a frame that is no Python function's: from 3.12 on
abbrev pub has_shims : RunEnd → Bool
has_shims Each = false
has_shims (Entry place current previous) = false
has_shims (Shim place owner) = true

-- runs with their borders, where the thread names what it does, and so many of its frames are asked for; at most 16 C
-- frames more are met (this project's rule: each run has one at least)
abbrev pub bordered : RunEnd → Memory → (count named : ℕ) → List Span → List Run
bordered Each m count named rs = map plain_run rs
bordered (Entry place current previous) m count named rs =
    c_runs (c_frames_from current previous m (count + 16) named) rs
bordered (Shim place owner) m count named rs = map shim_run rs

-- a thread's members in runs, from its newest frame on; none where that is not known
abbrev pub spans_by : Layout → RunEnd → Memory → (count : ℕ) → Option ℕ → List Span
spans_by l e m count (Some first) = spans_of (has_shims e) (members_from l e m count first)
spans_by l e m count None = []

-- the runs of a thread by what it names; none where that is not in memory
abbrev pub runs_by : Layout → RunEnd → Memory → (count : ℕ) → Option ℕ → List Run
runs_by l e m count (Some named) =
    bordered e m count named (spans_by l e m count (current_of m l.cframe named))
runs_by l e m count None = []

-- those of a thread, of whose frames so many are asked for, from the newest on
abbrev pub runs_at : Layout → RunEnd → Memory → (thread count : ℕ) → List Run
runs_at l e m thread count = runs_by l e m count (named_by l m thread)
