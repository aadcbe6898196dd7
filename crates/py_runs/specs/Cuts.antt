-- A thread's members in runs.
use Rattle.std.specs.Prelude.{◌+◌, nat_eq, Bool, true, false, if◌then◌else◌, List, [], ◌∷◌, ◌++◌, map}
use Rattle.std.specs.Prelude.{Option, Some, None}
use Rattle.py_runs.specs.declared.c_frame.CFrame.{CFrame}
use Rattle.py_runs.specs.declared.cut.Run.{Run}
use Rattle.py_runs.specs.declared.cut.Span.{Span}
use Rattle.py_runs.specs.declared.member.Member.{Member}

-- a run of one member: the frame at which a run ends from 3.12 on is no Python function's (`shims`)
abbrev pub alone : (shims : Bool) → Member → Span
alone shims x = record {
  begins = x.address;
  ends = x.address;
  frames = if x.is_last then (if shims then 0 else 1) else 1;
  is_whole = x.is_last;
}

-- a run in front of whose members another one stands
abbrev pub joined : Span → Span → Span
joined first behind = record {
  begins = first.begins;
  ends = behind.ends;
  frames = first.frames + behind.frames;
  is_whole = behind.is_whole;
}

-- a run that isn't whole goes on with the first of those behind it
abbrev pub onto : Span → List Span → List Span
onto first [] = first ∷ []
onto first (r ∷ rs) = joined first r ∷ rs

-- the runs with one more member in front, which is a run of its own where one ends there
abbrev pub in_front : (is_last : Bool) → Span → List Span → List Span
in_front true x rs = x ∷ rs
in_front false x rs = onto x rs

-- each run goes up to and with the first member at which one ends; behind the last of these the rest is a run that
-- isn't whole
unfoldable pub spans_of : (shims : Bool) → List Member → List Span
spans_of shims [] = []
spans_of shims (x ∷ xs) = in_front x.is_last (alone shims x) (spans_of shims xs)

-- the first run of some, open up to here, if there is one, and then those behind it
abbrev pub with_open : Option Span → List Span → List Span
with_open None rs = rs
with_open (Some first) rs = onto first rs

-- one more member behind a run that is open
abbrev pub opened : Option Span → Span → Span
opened None own = own
opened (Some first) own = joined first own

-- a run in a list, where it is whole; else nothing
abbrev pub pushed_if : Span → List Span
pushed_if r = if r.is_whole then r ∷ [] else []

-- a run that isn't whole, and so is still open
abbrev pub open_if : Span → Option Span
open_if r = if r.is_whole then None else Some r

-- ---- borders

-- a run whose border is not known
abbrev pub plain_run : Span → Run
plain_run r = record { frames = r.frames; border = None }

-- from 3.12 on: the frame at which the run ends, where it is whole
abbrev pub shim_run : Span → Run
shim_run r = record { frames = r.frames; border = if r.is_whole then Some r.ends else None }

-- in 3.11: the first run, where a C frame's current frame begins it, and those that are left then
abbrev pub taken : CFrame → List Span → List Run
taken c [] = []
taken c (r ∷ rs) = if nat_eq c.current r.begins then record { frames = r.frames; border = Some c.address } ∷ [] else []

-- the runs that are left behind a C frame: all but the first, where its current frame begins that
abbrev pub left_by : CFrame → List Span → List Span
left_by c [] = []
left_by c (r ∷ rs) = if nat_eq c.current r.begins then rs else r ∷ rs

-- of both lists, in order; runs that are left over have no border
unfoldable pub c_runs : List CFrame → List Span → List Run
c_runs [] rs = map plain_run rs
c_runs (c ∷ cs) rs = taken c rs ++ c_runs cs (left_by c rs)
