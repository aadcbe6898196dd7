-- The stacks of an interpreter, with the names of its threads and the values of locals, as a `Config` asks for them.
use Rattle.std.specs.Prelude.{◌≡◌, ℕ, ◌+◌, ◌*◌, Bool, true, false, List, map, Ok}
use Rattle.process_memory.specs.Memory.{Memory, Found, ◌>>=◌}
use Rattle.py_fields.specs.declared.layout.Layout.{Layout}
use Rattle.py_names.specs.Names.{names_at}
use Rattle.py_stacks.specs.declared.config.Config.{Config}
use Rattle.py_stacks.specs.Asking.{asked_of}
use Rattle.py_stacks.specs.Frames.{cost_after}
use Rattle.py_stacks.specs.NamedStacks.{by_name, name_by, named_cost, named_stacks_at}
use Rattle.py_stacks.specs.Stacks.{AreStacks, stacks_at}
use Rattle.py_stacks.specs.Threads.{Trace}
use Rattle.py_stacks.specs.Values.{by_value, traces_visits, value_text, value_visits, value_width}

-- the stacks, each trace with the name of its thread, and each local with the text of its value
unfoldable pub stacks_over_at : Config → Layout → Memory → ℕ → ℕ → Found (List Trace)
stacks_over_at c l m lock interpreter = do
  traces ← named_stacks_at (asked_of c) l m lock interpreter
  Ok (map (by_value (value_text l m (value_width c.dump_locals))) traces)

-- how many visits the values of all locals take
unfoldable pub values_met : Config → Layout → Memory → ℕ → ℕ → ℕ
values_met c l m lock interpreter = cost_after (stacks_at (asked_of c) l m lock interpreter)
    (traces_visits (value_visits l m (value_width c.dump_locals)))

-- the reads of the stacks and of the names, and at most eight for each visit
unfoldable pub stacks_over_cost : Config → Layout → Memory → ℕ → ℕ → ℕ
stacks_over_cost c l m lock interpreter = named_cost (asked_of c) l m lock interpreter
    + 8 * values_met c l m lock interpreter

-- how many locals a frame has at most
abbrev pub variables_most : Bool → ℕ
variables_most false = 0
variables_most true = 65535

-- ---- in the subject's own words

-- the traces are the interpreter's stacks, each with the name that the map of names has for its id, if there is one,
-- and each local with the text that its value shows as in the width that is asked for
pub record AreStacksOver (c : Config) (l : Layout) (m : Memory) (lock interpreter : ℕ)
    (traces : List Trace) : Type 0 where
  pub walked : List Trace
  pub stacks : AreStacks (asked_of c) l m lock interpreter walked
  pub tells : traces ≡ map (by_value (value_text l m (value_width c.dump_locals)))
      (map (by_name (name_by (names_at l m interpreter))) walked)
