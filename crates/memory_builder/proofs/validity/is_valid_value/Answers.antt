use Rattle.std.proofs.Common.{List, subst, sym, arith}
use Rattle.std.specs.Prelude.{◌↔◌, IsTrue}
use Rattle.std.specs.List.{AllByRecursion}
use Rattle.memory_builder.specs.declared.parts.ProgramItem.{ProgramItem}
use Rattle.memory_builder.specs.Mirror.{item_in, program_value}
use Rattle.memory_builder.specs.Validity.{IsValidHeld, IsValidItem}
use Rattle.memory_builder.proofs.Deciding.{list_tells}
use Rattle.memory_builder.proofs.validity.is_valid_value.Goals as goal

pub returns-then-len-lt-ITEM_LIMIT : goal.returns-then-len-lt-ITEM_LIMIT
returns-then-len-lt-ITEM_LIMIT c =
    let b = c.are_valid_items.result in
    let each = subst (λ (xs : List ProgramItem). IsTrue b ↔ AllByRecursion (λ x. IsValidItem (item_in x)) xs)
    c.deref.ensures.value c.are_valid_items.ensures in
    let held = list_tells b c.in-List.items.items (omega (
      arith,
      c.len.ensures,
      c.if-len-lt-ITEM_LIMIT.true,
      c.in-List.items.ok.0,
    )) each in
    subst (λ v. IsTrue b ↔ IsValidHeld (program_value v)) (sym c.in-List.is) held
