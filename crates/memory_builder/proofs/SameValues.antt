-- The rule of values shows what is laid as it shows the program's values.
use Rattle.std.proofs.Common.{◌≡◌, ℕ, zero, suc, ◌+◌, ◌-◌, ◌<◌, ◌≤◌, leb, cond, List, length, refl, sym, ap, ◌∙◌, arith}
use Rattle.std.proofs.Common.{get_or}
use Rattle.std.specs.Prelude.{pos, Some, Option, Ok, slice_get, codes, encode_utf8_all}
use Rattle.std.proofs.lemmas.Option.{slice_get-get_or}
use Rattle.process_memory.specs.Memory.{Memory}
use Rattle.py_fields.specs.declared.layout.Layout.{Layout}
use Rattle.py_objects.specs.Shown.{Shown, ◌>>=◌, give, visit, goes_on_shown}
use Rattle.py_objects.specs.Shows.{Source, child_shown, enclosed, looked_at, node_shown, part_at, part_then, parts_at}
use Rattle.py_objects.specs.Shows.{parts_shown, show_at}
use Rattle.py_objects.specs.Shows.Brackets.{Square}
use Rattle.py_objects.specs.Shows.Node.{Whole, Quoted, Many}
use Rattle.py_objects.specs.Shows.Child.{Item as ItemChild}
use Rattle.py_objects.specs.Nodes.{child_at, node_at, values_in}
use Rattle.py_objects.specs.Nodes.PartsPlace.{ItemsAt}
use Rattle.py_builtins.specs.declared.items.Items.{Items as ItemsOf}
use Rattle.py_objects.specs.ShownTexts.{dots, number_text}
use Rattle.memory_builder.specs.Program.{Item, Held}
use Rattle.memory_builder.specs.Program.Item.{Number, Words}
use Rattle.memory_builder.specs.Program.Held.{Single, Items}
use Rattle.memory_builder.specs.Told.{told_child, told_values}

-- ---- what an address has to be to show as a value

abbrev pub IsItemAt : Layout → Memory → ℕ → Item → Type 0
IsItemAt l m a (Number z) = node_at l m a ≡ Ok (Whole (number_text (codes "int") z))
IsItemAt l m a (Words cs) = node_at l m a ≡ Ok (Quoted (encode_utf8_all cs))

pub record AreItemsAt (l : Layout) (m : Memory) (a : ℕ) (xs : List Item) : Type 0 where
  pub items : ItemsOf
  pub node : node_at l m a ≡ Ok (Many Square (length xs) (ItemsAt items))
  pub each : (k : ℕ) (x : Item) → slice_get xs k ≡ Some x →
      (b : ℕ) × (child_at m (ItemsAt items) k ≡ Ok (ItemChild b)) × IsItemAt l m b x

abbrev pub IsValueAt : Layout → Memory → ℕ → Held → Type 0
IsValueAt l m a (Single x) = IsItemAt l m a x
IsValueAt l m a (Items xs) = AreItemsAt l m a xs

-- ---- the rule

-- parts that show the same at each index
parts_same : (f g : ℕ → ℕ → Shown (Option (List ℕ))) (n k : ℕ) → ((j w : ℕ) → k ≤ j → j < k + n → f j w ≡ g j w)
    → (w : ℕ) → parts_at f n k w ≡ parts_at g n k w
unfolding parts_at
parts_same f g zero k same w = refl
parts_same f g (suc n) k same w = λ i. same k w (omega arith) (omega arith) i >>=
    (λ o. part_then w (λ left. parts_same f g n (k + 1) (λ j v from below. same j v (omega arith) (omega arith)) left i)
    o)

-- a part that is an item
item_part : {V P : Type 0} (s : Source V P) (show : ℕ → V → Shown (List ℕ)) (parts : P) (k w : ℕ) (v : V)
    → s.child parts k ≡ Ok (ItemChild v)
    → part_at s show Square parts k w ≡ (λ n. goes_on_shown (show w v n) (λ t. give (Some t)))
unfolding part_at child_shown looked_at ◌>>=◌
item_part s show parts k w v e = rw e refl

module _ (l : Layout) (m : Memory) where
  single_same : (levels w a : ℕ) (x : Item) → IsItemAt l m a x
      → show_at (values_in l m) levels w a ≡ show_at told_values levels w (Single x)
  unfolding show_at node_shown ◌>>=◌
  single_same zero w a x h = refl
  single_same (suc levels) w a (Number z) h = rw h refl
  single_same (suc levels) w a (Words cs) h = rw h refl

  item_same : (levels w k : ℕ) (xs : List Item) (items : ItemsOf)
      → ((k : ℕ) (x : Item) → slice_get xs k ≡ Some x → (b : ℕ) × (child_at m (ItemsAt items) k ≡ Ok (ItemChild b))
      × IsItemAt l m b x) → k < length xs
      → part_at (values_in l m) (λ w2 a2. show_at (values_in l m) levels w2 a2) Square (ItemsAt items) k w
      ≡ part_at told_values (λ w2 a2. show_at told_values levels w2 a2) Square xs k w
  item_same levels w k xs items each lt =
      let x = get_or xs k (Number (pos 0)) in
      let here : slice_get xs k ≡ Some x = slice_get-get_or xs k (Number (pos 0)) lt in
      let h = each k x here in
      let wrap : Shown (List ℕ) → Shown (Option (List ℕ)) = λ c n. goes_on_shown (c n) (λ t. give (Some t)) in
      let child : told_child xs k ≡ Ok (ItemChild (Single x)) = rw here refl in
      item_part (values_in l m) (λ w2 a2. show_at (values_in l m) levels w2 a2) (ItemsAt items) k w h.0 h.1
      ∙ ap wrap (single_same levels w h.0 x h.2)
      ∙ sym (item_part told_values (λ w2 a2. show_at told_values levels w2 a2) xs k w (Single x) child)

  -- what stands in memory as a value shows as the value
  pub value_same : (levels w a : ℕ) (v : Held) → IsValueAt l m a v
      → show_at (values_in l m) levels w a ≡ show_at told_values levels w v
  unfolding show_at node_shown parts_shown ◌>>=◌
  value_same levels w a (Single x) h = single_same levels w a x h
  value_same zero w a (Items xs) h = refl
  value_same (suc levels) w a (Items xs) h =
      let parts = parts_same (part_at (values_in l m) (λ w2 a2. show_at (values_in l m) levels w2 a2) Square
      (ItemsAt h.items)) (part_at told_values (λ w2 a2. show_at told_values levels w2 a2) Square xs) (length xs) 0
      (λ k w from below. item_same levels w k xs h.items h.each (omega arith)) (w - 2) in
      let wrap : Shown (List (List ℕ)) → Shown (List ℕ) = λ c. cond (leb w 5) (give dots)
      (λ n. goes_on_shown (visit n) (λ u n. goes_on_shown (c n) (λ ts. give (enclosed Square ts)))) in
      rw h.node (ap wrap parts)
