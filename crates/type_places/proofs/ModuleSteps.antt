-- The slots that are looked at for a type, from one step to the next.
use Rattle.std.proofs.Common.{◌≡◌, ℕ, ◌≤◌, List, refl, arith}
use Rattle.std.specs.Prelude.{Option, Some, None, Ok}
use Rattle.process_memory.specs.Memory.{Memory, Fault, byte_at}
use Rattle.process_memory.specs.declared.memory.Span.{Span}
use Rattle.process_memory.specs.Seen.{Seen, ReadsOf}
use Rattle.process_memory.proofs.Reading.{reading_here}
use Rattle.py_fields.specs.declared.layout.Layout.{Layout}
use Rattle.py_builtins.specs.declared.keys.Slots.{Slots}
use Rattle.py_builtins.specs.declared.types.ObjectType.{ObjectType}
use Rattle.py_builtins.specs.Dicts.{dict_slots}
use Rattle.py_builtins.specs.Types.{type_at}
use Rattle.py_names.specs.Names.{module_slots, search_looked, slot_limit}
use Rattle.py_names.specs.Search.{find_from, find_looked}
use Rattle.py_names.specs.Typed.{plain_slots}
use Rattle.py_names.proofs.SlotBounds.{find_most, looked_most, search_sum}
use Rattle.type_places.specs.ModuleTypes.{module_entry_looked, module_slots_looked_at}

pub entry_counts : {a1 a2 : Memory → Span → Type 0} {E1 E2 : Type 0} {f1 : E1 → Option Fault} {f2 : E2
    → Option Fault} {n1 n2 : ℕ}
    {s0 s1 s2 : Seen} {t : ObjectType} {slots : Slots} (l : Layout) (name : List ℕ) (a left : ℕ)
    → ReadsOf {E = E1} a1 f1 n1 s0 s1 (λ m. type_at l m a) (Ok t)
    → ReadsOf {E = E2} a2 f2 n2 s1 s2 (λ m. plain_slots l m a t) (Ok slots)
    → module_entry_looked l (byte_at s0.pieces) name (Some a) left ≡ find_looked l
    (byte_at s2.pieces) name slots slots.count 0 left
unfolding module_entry_looked module_slots
entry_counts l name a left p q =
    let one = (reading_here p).is in
    let two = rw p.pieces at (reading_here q).is in
    rw (q.pieces, p.pieces, one, two) refl

pub dict_counts : {allowed : Memory → Span → Type 0} {E : Type 0} {fault : E
    → Option Fault} {n : ℕ} {s0 s1 : Seen} {slots : Slots}
    (l : Layout) (modules : ℕ) (module_name type_name : List ℕ)
    → ReadsOf {E = E} allowed fault n s0 s1 (λ m. dict_slots l m modules) (Ok slots)
    → module_slots_looked_at l (byte_at s0.pieces) modules module_name type_name
    ≡ search_looked l (byte_at s1.pieces) module_name slot_limit (module_entry_looked l
    (byte_at s1.pieces) type_name) slots
unfolding module_slots_looked_at
dict_counts l modules module_name type_name p = let one = (reading_here p).is in rw (p.pieces, one) refl

module _ (l : Layout) (m : Memory) where
  entry_most : (name : List ℕ) (found : Option ℕ) (left : ℕ) → module_entry_looked l m name found left ≤ left
  unfolding module_entry_looked
  entry_most name None left = omega arith
  entry_most name (Some a) left = looked_most l m (module_slots l m a) _ left
      (λ slots. find_most l m name slots slots.count 0 left)

  pub looked_at_most : (modules : ℕ) (module_name type_name : List ℕ)
      → module_slots_looked_at l m modules module_name type_name ≤ 65536
  unfolding module_slots_looked_at
  looked_at_most modules module_name type_name = looked_most l m (dict_slots l m modules) _ 65536
      (λ slots. search_sum l m module_name slot_limit slots (find_from l m module_name slots slots.count 0 slot_limit)
      (module_entry_looked l m type_name) refl (entry_most type_name))
