-- The values of locals, by their addresses. That all of a process have so many nodes together is this project's bound.
use Rattle.std.specs.Prelude.{◌≡◌, ℕ, zero, suc, ◌+◌, ◌-◌, ◌*◌, max, min, nat_eq, if◌then◌else◌, List, [], ◌∷◌}
use Rattle.std.specs.Prelude.{length, Option}
use Rattle.std.specs.Prelude.{Some, None, option_map}
use Rattle.std.specs.BTreeMap.{BTreeMap, get}
use Rattle.std.specs.List.{list_any}
use Rattle.std.specs.Ordering.{nat_cmp}
use Rattle.process_memory.specs.Memory.{Memory}
use Rattle.py_fields.specs.declared.layout.Layout.{Layout}
use Rattle.py_fronts.specs.declared.salvaged.SalvagedInterpreter.{SalvagedInterpreter}
use Rattle.py_reprs.specs.declared.kinds.ReprTypes.{ReprTypes}
use Rattle.py_reprs.specs.declared.limits.Limits.{Limits}
use Rattle.py_reprs.specs.declared.repr.Repr.{Repr}
use Rattle.py_reprs.specs.Limits.{limits_at}
use Rattle.py_reprs.specs.Trees.{Tree, tree_of}
use Rattle.py_reprs.specs.Values.{repr_at, value_cost}
use Rattle.local_values.specs.Addresses.{shown_addresses}
use Rattle.local_values.specs.Nodes.{nodes_of}
use Rattle.local_values.specs.Types.{name_among, name_in, type_cost, type_name_at}
use Rattle.local_values.specs.declared.values.LocalValues.{LocalValues}

-- how many nodes all of them have together, until no other is begun
abbrev pub node_limit : ℕ
node_limit = 1048576

-- those of some addresses whose values are read, where so many nodes are left: the first, until none is left
unfoldable pub within : (ℕ → Tree) → (left : ℕ) → List ℕ → List ℕ
within value left [] = []
within value zero (a ∷ rest) = []
within value (suc left) (a ∷ rest) = a ∷ within value (suc left - nodes_of (value a)) rest

-- the value at an address, where that is among these; else the one that was there before
abbrev pub value_among : (ℕ → Tree) → List ℕ → (before : Option Tree) → ℕ → Option Tree
value_among value addresses before a = if list_any (nat_eq a) addresses then Some (value a) else before

-- the value that a map has at an address
abbrev pub held_in : BTreeMap ℕ Repr → ℕ → Option Tree
held_in values a = option_map tree_of (get nat_cmp values a)

-- the value that was read at an address
unfoldable pub value_in : LocalValues → ℕ → Option Tree
value_in values a = held_in values.values a

-- one more value at an address
abbrev pub with_value : (ℕ → Option Tree) → ℕ → Tree → ℕ → Option Tree
with_value held addr value a = if nat_eq a addr then Some value else held a

-- those of some addresses that are within the limit
abbrev pub read_of : (ℕ → Tree) → List ℕ → List ℕ
read_of value addresses = within value node_limit addresses

-- the value at an address by so many `-l`
abbrev pub value_at : Layout → ReprTypes → Memory → (times : ℕ) → ℕ → Tree
value_at l t m times a = repr_at l t (limits_at times) m (limits_at times).levels (limits_at times).nodes a

-- the values of some addresses are read by one `-l`, then by two, and so on: the value at an address is that of the
-- last round in which it is within the limit
unfoldable pub value_by : (ℕ → ℕ → Tree) → (rounds : ℕ) → List ℕ → ℕ → Option Tree
value_by value zero addresses a = None
value_by value (suc rounds) addresses a =
    value_among (value (suc rounds)) (read_of (value (suc rounds)) addresses) (value_by value rounds addresses a) a

-- how many of them have none: they are past the limit in each round
unfoldable pub left_by : (ℕ → ℕ → Tree) → (rounds : ℕ) → List ℕ → ℕ
left_by value zero addresses = length addresses
left_by value (suc rounds) addresses =
    min (left_by value rounds addresses) (length addresses - length (read_of (value (suc rounds)) addresses))

-- the values of some addresses, by so many rounds: each has the one of memory, no other address has one, and how many
-- have none is told
pub record AreValues (l : Layout) (t : ReprTypes) (m : Memory) (rounds : ℕ) (addresses : List ℕ)
    (held : ℕ → Option Tree) (left : ℕ) : Type 0 where
  pub are : (a : ℕ) → held a ≡ value_by (value_at l t m) rounds addresses a
  pub past : left ≡ left_by (value_at l t m) rounds addresses

-- how many rounds there are by so many `-l`
abbrev pub rounds_of : ℕ → ℕ
rounds_of times = min (max times 1) 5

-- the name of the type of the value at an address
unfoldable pub type_in : LocalValues → ℕ → Option (List ℕ)
type_in values a = name_in values.names a

-- the values of the locals of all frames that are shown, by so many `-l`, and the names of their types
pub record AreLocalValues (l : Layout) (t : ReprTypes) (times : ℕ) (m : Memory)
    (interpreters : List SalvagedInterpreter) (values : LocalValues) : Type 0 where
  pub are : AreValues l t m (rounds_of times) (shown_addresses interpreters) (value_in values) values.left_out
  pub types : (a : ℕ) → type_in values a ≡ name_among (type_name_at l t m) (shown_addresses interpreters) a

-- how many reads one value takes at most
abbrev pub local_cost : Limits → ℕ
local_cost b = value_cost b b.nodes

-- and so many addresses, in so many rounds
unfoldable pub rounds_cost : (count rounds : ℕ) → ℕ
rounds_cost count zero = 0
rounds_cost count (suc rounds) = rounds_cost count rounds + count * local_cost (limits_at (suc rounds))

-- and with the names of their types
abbrev pub values_cost : (count rounds : ℕ) → ℕ
values_cost count rounds = rounds_cost count rounds + count * type_cost

-- ---- as it is read

-- the values after a round, and how many addresses are past its limit
pub record IsRound (value : ℕ → Tree) (addresses : List ℕ) (old new : ℕ → Option Tree) (behind : ℕ) : Type 0 where
  pub are : (a : ℕ) → new a ≡ value_among value (read_of value addresses) (old a) a
  pub past : behind ≡ length addresses - length (read_of value addresses)
