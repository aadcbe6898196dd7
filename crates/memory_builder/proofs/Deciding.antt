-- What tests of items in the code's own lists say of the mapped ones.
use Rattle.std.proofs.Common.{◌<◌, ◌≤◌, Bool, List, length, map, arith}
use Rattle.std.specs.Prelude.{◌↔◌, IsTrue}
use Rattle.std.specs.List.{AllByRecursion}
use Rattle.memory_builder.specs.declared.parts.ProgramFrame.{ProgramFrame}
use Rattle.memory_builder.specs.declared.parts.ProgramItem.{ProgramItem}
use Rattle.memory_builder.specs.Mirror.{frame_in, item_in, local_in}
use Rattle.memory_builder.specs.Program.Held.{Items}
use Rattle.memory_builder.specs.Validity.{HasValidLocals, IsValidHeld, IsValidItem, IsValidLocal}
use Rattle.memory_builder.proofs.Lists.{all_map, all_unmap, length_map}

pub list_tells : (b : Bool) (items : List ProgramItem) → length items < 65536
    → (IsTrue b ↔ AllByRecursion (λ x. IsValidItem (item_in x)) items)
    → IsTrue b ↔ IsValidHeld (Items (map item_in items))
list_tells b items small h = (
  λ t. (omega (arith, length_map item_in items), all_map IsValidItem item_in items (h.0 t)),
  λ v. h.1 (all_unmap IsValidItem item_in items v.1),
)

pub locals_tell : (b : Bool) (f : ProgramFrame) → f.args ≤ length f.locals.items → length f.locals.items ≤ 65535
    → (IsTrue b ↔ AllByRecursion (λ x. IsValidLocal (local_in x)) f.locals.items)
    → IsTrue b ↔ HasValidLocals (frame_in f)
locals_tell b f args few h = (
  λ t. record {
    args = omega (arith, length_map local_in f.locals.items);
    few = omega (arith, length_map local_in f.locals.items);
    each = all_map IsValidLocal local_in f.locals.items (h.0 t);
  },
  λ v. h.1 (all_unmap IsValidLocal local_in f.locals.items v.each),
)
