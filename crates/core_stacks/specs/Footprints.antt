-- The ranges of a process's memory from which its stacks can be read.
use Rattle.std.specs.Prelude.{◌+◌, ◌^◌, ◌<◌, ◌≤◌, List, All, length, map, Result, Ok, Err, Vec}
use Rattle.std.specs.Global.{Global}
use Rattle.process_memory.specs.Memory.{Memory}
use Rattle.process_memory.specs.Seen.{HoldsSpan, IsPartWith}
use Rattle.process_memory.specs.declared.memory.Span.{Span}
use Rattle.py_builtins.specs.Consulted.{IsConsulted}
use Rattle.py_stacks.specs.declared.config.Config.{Config}
use Rattle.py_stacks.specs.declared.trace.StackTrace.{StackTrace}
use Rattle.py_stacks.specs.Threads.{Trace, trace_of}
use Rattle.py_process.specs.Findings.{Finding}
use Rattle.py_process.specs.Reports.{HasStacks}
use Rattle.core_stacks.specs.Reached.{finding_cost}

-- the traces of an answer that has them with ranges
abbrev pub traces_with : {E : Type 0} → Result (Vec StackTrace Global × Vec Span Global) E → Result (List Trace) E
traces_with (Ok x) = Ok (map trace_of x.0.items)
traces_with (Err e) = Err e

-- these ranges are a footprint of these traces
pub record IsFootprint (m : Memory) (f : Finding) (config : Config) (traces : List Trace)
    (ranges : List Span) : Type 0 where
  -- all bytes of each are in memory, and they are fewer than 65536
  pub held : All (HoldsSpan m) ranges
  pub short : All (λ s. s.len < 2 ^ 16) ranges
  -- each is one that is consulted: as long as a field or as a record of the layout, or exactly the characters of a text
  -- or the bytes of a bytes object
  pub consulted : All (IsConsulted f.layout m) ranges
  -- there are at most as many as there are reads
  pub few : length ranges ≤ 13 + finding_cost config m f
  -- they are the stacks over every part of this memory that holds all of them
  pub enough : (part : Memory) → IsPartWith m ranges part → HasStacks part f config traces
