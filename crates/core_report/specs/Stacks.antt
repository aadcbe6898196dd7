-- What the code's own values of an opened process stand for.
use Rattle.std.specs.Prelude.{List, map, Option, option_map, Result, Ok, Err, Vec}
use Rattle.std.specs.Global.{Global}
use Rattle.py_stacks.specs.Threads.{trace_of}
use Rattle.py_stacks.specs.declared.trace.LocalVariable.{LocalVariable}
use Rattle.py_process.specs.declared.core_error.CoreError.{CoreError}
use Rattle.core_report.specs.declared.merge_command.Threads.{Threads}
use Rattle.core_report.specs.declared.reach_command.Stacks.{Stacks}
use Rattle.core_report.specs.Stacked.{Stacked}

-- the stacks that were read, as contracts see them
abbrev pub stacked : Stacks → Stacked
stacked s = record {
  pieces = s.process.pieces;
  layout = s.process.finding.layout;
  traces = map trace_of s.traces.items;
}

-- a result with the stacks that were read
abbrev pub stacked_in : Result Stacks CoreError → Result Stacked CoreError
stacked_in (Ok s) = Ok (stacked s)
stacked_in (Err e) = Err e

-- the locals of a frame, where they were asked for
abbrev pub locals_of : Option (Vec LocalVariable Global) → Option (List LocalVariable)
locals_of locals = option_map (λ (v : Vec LocalVariable Global). v.items) locals

-- the same of a process that is opened with Python's binaries
abbrev pub threads_stacked : Threads → Stacked
threads_stacked t = record {
  pieces = t.process.pieces;
  layout = t.process.finding.layout;
  traces = map trace_of t.traces.items;
}

-- a result with the stacks of threads
abbrev pub threads_in : Result Threads CoreError → Result Stacked CoreError
threads_in (Ok t) = Ok (threads_stacked t)
threads_in (Err e) = Err e
