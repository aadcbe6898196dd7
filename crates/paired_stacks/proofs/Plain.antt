-- The tree of paired stacks has no float.
use Rattle.std.proofs.Common.{◌≡◌, ℕ, Bool, false, List, [], ◌∷◌, Option, Some, None, refl, ap, ◌∙◌}
use Rattle.std.specs.Prelude.{◌||◌}
use Rattle.serde_json.specs.Written.{has_float}
use Rattle.native_pairs.specs.declared.item.Item.{Item}
use Rattle.native_pairs.specs.declared.item.Item.TheVariants.{Python, Native, NotFound, Beside}
use Rattle.paired_stacks.specs.Trees.{all_tree, item_tree, items_tree, stack_tree_if}
use Rattle.paired_stacks.specs.declared.stack.PairedStack.{PairedStack}

item : (hidden : List Bool) (x : Item) → has_float (item_tree hidden x) ≡ false
item hidden (Python n) = refl
item hidden (Native n) = refl
item hidden NotFound = refl
item hidden Beside = refl

items : (hidden : List Bool) (xs : List Item) → has_float (items_tree hidden xs) ≡ false
items hidden [] = refl
items hidden (x ∷ xs) = ap (λ b. b || has_float (items_tree hidden xs)) (item hidden x) ∙ items hidden xs

stack : (s : Option PairedStack) → has_float (stack_tree_if s) ≡ false
stack None = refl
stack (Some s) = λ i. items s.hidden.items s.items.items i || (false || (false || false))

pub no_float : (ss : List (Option PairedStack)) → has_float (all_tree ss) ≡ false
no_float [] = refl
no_float (s ∷ ss) = ap (λ b. b || has_float (all_tree ss)) (stack s) ∙ no_float ss
