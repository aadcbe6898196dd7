-- What is asked for of stacks, and so of each frame.
use Rattle.std.specs.Prelude.{nat_eq, not, Bool, false, Option, Some, None}
use Rattle.std.specs.Borrow.{Bor}
use Rattle.py_stacks.specs.declared.asked.Asked.{Asked}
use Rattle.py_stacks.specs.declared.asked.LineNo.{LineNo}
use Rattle.py_stacks.specs.declared.asked.LineNo.TheVariants.{NoLine, LastInstruction}
use Rattle.py_stacks.specs.declared.config.Config.{Config}

-- nothing beside the line of the last instruction
abbrev pub default_config : Config
default_config = record {
  native = false;
  subprocesses = false;
  gil_only = false;
  dump_json = false;
  dump_locals = 0;
  full_filenames = false;
  lineno = LastInstruction;
}

-- what is asked for of each frame: which line, and whether its locals
abbrev pub asks : LineNo → Bool → Asked
asks lineno locals = record { lineno = lineno; locals = locals }

-- neither a line nor locals
abbrev pub nothing : Asked
nothing = record { lineno = NoLine; locals = false }

-- a line as it says, and locals where their width isn't 0
abbrev pub asked_of : Config → Asked
asked_of c = record { lineno = c.lineno; locals = not (nat_eq c.dump_locals 0) }

-- the same; nothing without a `Config`
abbrev pub asked_by : Option (Bor Config) → Asked
asked_by None = nothing
asked_by (Some c) = asked_of c.now
