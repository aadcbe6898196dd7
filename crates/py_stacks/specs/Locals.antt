-- The locals of a frame: the variables of its code, in order, each with its name, which the tuple of names has,
-- and its slot in the frame. Where these stand a layout says. That a slot's lowest bit is no part of an address,
-- and that a slot of 0 holds no value, is CPython's; the limit, and which counts can't be, are this project's
-- rules.
use Rattle.std.specs.Prelude.{ℕ, zero, suc, ◌+◌, ◌*◌, ◌/◌, ◌^◌, nat_le, nat_lt, Bool, true, false, if◌then◌else◌}
use Rattle.std.specs.Prelude.{Option, Some, None, List, [], ◌∷◌, ◌++◌, Result, Ok, Err, option_map, Vec}
use Rattle.std.specs.Global.{Global}
use Rattle.std.specs.Int.{w32, cast_signed}
use Rattle.elf64_core.specs.Fields.{u32_in, u64_in}
use Rattle.process_memory.specs.Memory.{Memory, Found, Fault, ◌>>=◌, record_at, word_at}
use Rattle.process_memory.specs.Memory.Fault.{Missing, BadValue, LocalsLimit}
use Rattle.process_memory.specs.Faults.{faults_then}
use Rattle.py_fields.specs.declared.layout.Layout.{Layout}
use Rattle.py_builtins.specs.Texts.{text_at}
use Rattle.py_stacks.specs.declared.trace.LocalVariable.{LocalVariable}
use Rattle.py_stacks.specs.Member.{MemberAt}

-- a stated count of variables, where it can be one: neither negative, which is a number from 2^31 on, nor above
-- 65535
abbrev pub count_of_locals : ℕ → ℕ → Found ℕ
count_of_locals frame n =
    if nat_lt n (2 ^ 31)
    then (if nat_le n 65535 then Ok n else Err (LocalsLimit (cast_signed w32 n)))
    else Err (BadValue frame)

-- how many variables a frame has
unfoldable pub count_of : Layout → MemberAt → Found ℕ
count_of l r = count_of_locals r.frame_at (u32_in r.code l.code.nlocals)

-- whether the variable at an index is an argument: there are more arguments. A negative count of them is a
-- number from 2^31 on, so that it is greater than all indexes
unfoldable pub is_argument : Layout → MemberAt → ℕ → Bool
is_argument l r index = nat_lt index (u32_in r.code l.code.argcount)

-- the address of the tuple of names
abbrev pub names_tuple_of : Layout → MemberAt → ℕ
names_tuple_of l r = u64_in r.code l.code.varnames

-- why a variable of the frame at an address has no name: a range isn't in memory, or what is there is no text
abbrev pub name_fault : ℕ → Fault → Fault
name_fault frame (Missing addr len) = Missing addr len
name_fault frame _ = BadValue frame

-- the name of a variable, or why the variable of this frame has none
abbrev pub named_local : ℕ → Found (List ℕ) → Found (List ℕ)
named_local frame (Ok name) = Ok name
named_local frame (Err f) = Err (name_fault frame f)

-- the name of a variable of the frame at an address, by the text that it is
unfoldable pub variable_name_at : Layout → Memory → ℕ → ℕ → Found (List ℕ)
variable_name_at l m frame a = named_local frame (text_at l m a)

-- the variable at an index, by its name and the address of its value; none where that is 0
unfoldable pub local_by : Layout → MemberAt → ℕ → List ℕ → ℕ → Option LocalVariable
local_by l r index name zero = None
local_by l r index name (suc addr) =
    Some (record { name = name; addr = suc addr; arg = is_argument l r index; repr = None })

-- a slot with its lowest bit cleared
abbrev pub cleared : ℕ → ℕ
cleared slot = slot / 2 * 2

-- the variable at an index, or the first fault: of the word of the tuple that names it, of its name, of its slot
unfoldable pub local_at : Layout → Memory → MemberAt → ℕ → Found (Option LocalVariable)
local_at l m r index = do
  name_at ← word_at m (names_tuple_of l r + l.tuple.at + 8 * index)
  name ← variable_name_at l m r.frame_at name_at
  slot ← word_at m (r.frame_at + l.frame.locals + 8 * index)
  Ok (local_by l r index name (cleared slot))

-- the variable in a list, and nothing where its slot holds no value
abbrev pub kept_local : Option LocalVariable → List LocalVariable
kept_local None = []
kept_local (Some v) = v ∷ []

-- the variables at so many indexes from one on that have a value, in order
unfoldable pub locals_from : Layout → Memory → MemberAt → ℕ → ℕ → Found (List LocalVariable)
locals_from l m r index zero = Ok []
locals_from l m r index (suc n) = do
  local ← local_at l m r index
  rest ← locals_from l m r (index + 1) n
  Ok (kept_local local ++ rest)

-- the locals of a frame. The tuple of names is read first, also where there is no variable; its length isn't
-- looked at
unfoldable pub locals_at : Layout → Memory → MemberAt → Found (List LocalVariable)
locals_at l m r = do
  count ← count_of l r
  names ← record_at m (names_tuple_of l r) l.tuple.size
  locals_from l m r 0 count

-- the same, where they are asked for
abbrev pub asked_locals : Bool → Layout → Memory → MemberAt → Found (Option (List LocalVariable))
asked_locals false l m r = Ok None
asked_locals true l m r = locals_at l m r >>= (λ locals. Ok (Some locals))

-- ---- how many reads

-- the count of variables, where it can be one; else 0
abbrev pub count_or_zero : Found ℕ → ℕ
count_or_zero (Ok n) = n
count_or_zero (Err f) = 0

-- how many variables are read of a frame: those that it has, where it is asked for them and so many can be
unfoldable pub locals_read : Bool → Layout → MemberAt → ℕ
locals_read false l r = 0
locals_read true l r = count_or_zero (count_of l r)

-- one for the tuple, and four for each variable: two words, and two for the name
unfoldable pub locals_cost : Bool → Layout → MemberAt → ℕ
locals_cost false l r = 0
locals_cost true l r = 1 + 4 * count_or_zero (count_of l r)

-- ---- the faults, in order

-- the first fault of each of so many variables, from an index on
unfoldable pub each_faults : Layout → Memory → MemberAt → ℕ → ℕ → List Fault
each_faults l m r index zero = []
each_faults l m r index (suc n) =
    faults_then (local_at l m r index) (λ local. each_faults l m r (index + 1) n)

-- a count that can't be, the missing tuple, and the fault of each variable
unfoldable pub locals_faults : Layout → Memory → MemberAt → List Fault
locals_faults l m r = faults_then (count_of l r)
    (λ count. faults_then (record_at m (names_tuple_of l r) l.tuple.size) (λ names. each_faults l m r 0 count))

-- the faults of the locals, where they are asked for
abbrev pub asked_faults : Bool → Layout → Memory → MemberAt → List Fault
asked_faults false l m r = []
asked_faults true l m r = locals_faults l m r

-- ---- results

-- the variables as a list, where there are some
abbrev pub locals_of : Option (Vec LocalVariable Global) → Option (List LocalVariable)
locals_of o = option_map (λ (v : Vec LocalVariable Global). v.items) o

-- a result with its variables as a list
abbrev pub locals_of_result : {E : Type 0} → Result (Option (Vec LocalVariable Global)) E
    → Result (Option (List LocalVariable)) E
locals_of_result (Ok o) = Ok (locals_of o)
locals_of_result (Err e) = Err e
