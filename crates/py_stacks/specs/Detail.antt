-- The detail of a kept member: its line and its locals. What walks along frames knows of it these three words
-- alone, and never opens them: what it is, how many reads it takes, and its faults in order.
use Rattle.std.specs.Prelude.{ℕ, ◌+◌, Option, List, Result, Ok, Err, ℤ}
use Rattle.process_memory.specs.Memory.{Memory, Found, Fault, ◌>>=◌}
use Rattle.py_fields.specs.declared.layout.Layout.{Layout}
use Rattle.py_stacks.specs.declared.asked.Asked.{Asked}
use Rattle.py_stacks.specs.declared.detail.Detail as read
use Rattle.py_stacks.specs.declared.trace.LocalVariable.{LocalVariable}
use Rattle.py_stacks.specs.Lines.{line_at, line_cost}
use Rattle.py_stacks.specs.Locals.{asked_faults, asked_locals, locals_cost, locals_of}
use Rattle.py_stacks.specs.Member.{MemberAt}

-- a member's line, which is 0 where there is none, and its locals where they are asked for
pub record Detail : Type 0 where
  pub line : ℤ
  pub locals : Option (List LocalVariable)

-- a detail of this line and these locals
abbrev pub detail_with : ℤ → Option (List LocalVariable) → Detail
detail_with line locals = record { line = line; locals = locals }

-- the line, and then the locals
unfoldable pub detail_at : Asked → Layout → Memory → MemberAt → Found Detail
detail_at q l m r = do
  line ← line_at q.lineno l m r
  locals ← asked_locals q.locals l m r
  Ok (detail_with line locals)

-- how many reads a detail takes at most: those of the line and those of the locals
unfoldable pub detail_cost : Asked → Layout → Memory → MemberAt → ℕ
detail_cost q l m r = line_cost q.lineno + locals_cost q.locals l r

-- the faults of a detail, in order; a line has none
unfoldable pub detail_faults : Asked → Layout → Memory → MemberAt → List Fault
detail_faults q l m r = asked_faults q.locals l m r

-- a detail as it was read, in plain terms
abbrev pub detail_of : read.Detail → Detail
detail_of d = record { line = d.line; locals = locals_of d.locals }

-- a result with the detail in plain terms
abbrev pub detail_of_result : {E : Type 0} → Result read.Detail E → Result Detail E
detail_of_result (Ok d) = Ok (detail_of d)
detail_of_result (Err e) = Err e
