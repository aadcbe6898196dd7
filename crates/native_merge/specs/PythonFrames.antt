-- Frames of Python: which end a part of their stack, and their locals.
use Rattle.std.specs.Prelude.{Bool, ◌||◌, List, Option, option_map, map, Vec}
use Rattle.std.specs.Global.{Global}
use Rattle.py_stacks.specs.declared.trace.Frame.{Frame}
use Rattle.py_stacks.specs.declared.trace.LocalVariable.{LocalVariable}
use Rattle.py_stacks.specs.Frames.{Call, call_of}

-- a frame ends a part: a C call entered it, or its caller is not shown
abbrev pub is_marked : Frame → Bool
is_marked f = f.is_entry || f.is_shim_entry

-- the same of what a frame says of its call
abbrev pub ends_part : Call → Bool
ends_part c = c.is_entry || c.is_shim_entry

-- the variables as a list, where there are some
abbrev pub locals_listed : Option (Vec LocalVariable Global) → Option (List LocalVariable)
locals_listed o = option_map (λ (v : Vec LocalVariable Global). v.items) o

-- what frames say of their calls
abbrev pub calls : List Frame → List Call
calls fs = map call_of fs
