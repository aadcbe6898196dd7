-- A program of the code, in plain terms.
use Rattle.std.specs.Prelude.{map}
use Rattle.memory_builder.specs.declared.parts.Program as p
use Rattle.memory_builder.specs.declared.parts.ProgramThread as t
use Rattle.memory_builder.specs.declared.parts.ProgramFrame as f
use Rattle.memory_builder.specs.declared.parts.ProgramLocal as l
use Rattle.memory_builder.specs.declared.parts.ProgramValue as v
use Rattle.memory_builder.specs.declared.parts.ProgramValue.TheVariants as vs
use Rattle.memory_builder.specs.declared.parts.ProgramItem as i
use Rattle.memory_builder.specs.declared.parts.ProgramItem.TheVariants as ks
use Rattle.memory_builder.specs.Program.{Item, Held, Local, Frame, Thread, Program}
use Rattle.memory_builder.specs.Program.Item.{Number, Words}
use Rattle.memory_builder.specs.Program.Held.{Single, Items}

-- an item of a list in plain terms
abbrev pub item_in : i.ProgramItem → Item
item_in (ks.Number n) = Number n
item_in (ks.Words text) = Words text

-- a local's value in plain terms
abbrev pub program_value : v.ProgramValue → Held
program_value (vs.Number n) = Single (Number n)
program_value (vs.Words text) = Single (Words text)
program_value (vs.List items) = Items (map item_in items.items)

-- a local in plain terms
abbrev pub local_in : l.ProgramLocal → Local
local_in x = record { name = x.name; value = program_value x.value }

-- a call in plain terms
abbrev pub frame_in : f.ProgramFrame → Frame
frame_in x = record {
  name = x.name;
  filename = x.filename;
  first = x.first;
  ranges = x.ranges.items;
  offset = x.offset;
  args = x.args;
  locals = map local_in x.locals.items;
}

-- a thread in plain terms
abbrev pub program_thread : t.ProgramThread → Thread
program_thread x = record { id = x.id; frames = map frame_in x.frames.items }

-- a whole program in plain terms
abbrev pub program_in : p.Program → Program
program_in x = record { threads = map program_thread x.threads.items; owner = x.owner }
