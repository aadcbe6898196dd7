-- There is one stack of both for each thread.
use Rattle.std.proofs.Common.{◌≡◌, ℕ, Bool, true, false, List, [], ◌∷◌, length, map, refl, sym, ap}
use Rattle.std.proofs.Common.{◌∙◌, Option, Some, None}
use Rattle.std.specs.Prelude.{Result, Ok, Err, IfOk, Vec}
use Rattle.std.specs.Global.{Global}
use Rattle.process_memory.specs.Memory.{Memory}
use Rattle.py_fields.specs.declared.layout.Layout.{Layout}
use Rattle.native_pairs.specs.Items.{merged_items}
use Rattle.native_pairs.specs.Order.{ordered}
use Rattle.native_pairs.specs.Pairs.{lies_by}
use Rattle.native_pairs.specs.declared.item.Item.{Item}
use Rattle.native_pairs.specs.declared.part.Part.{Part}
use Rattle.native_pairs.proofs.Paired.{paired_only}
use Rattle.native_stacks.specs.Threads.{NativeShown}
use Rattle.py_runs.specs.declared.cut.Run.{Run}
use Rattle.py_runs.specs.declared.run_rule.RunEnd.{RunEnd}
use Rattle.py_runs.specs.declared.run_rule.RunEnd.TheVariants.{Each, Entry, Shim}
use Rattle.paired_stacks.specs.Laid.{IsApart, IsByAddress, IsByOrder, IsLaid, IsLaidIf, IsLaidWhere, IsMerged}
use Rattle.paired_stacks.specs.Laid.{IsOrdered, border_of}
use Rattle.paired_stacks.specs.Stacks.{ArePaired, IsPairedBy, IsPairedIf, IsPairedStack, first_start, other_starts}
use Rattle.paired_stacks.specs.Stacks.{PairedSeen, seen_if, stack_seen, walked_by}
use Rattle.paired_stacks.specs.declared.code.OwnCode.{OwnCode}
use Rattle.paired_stacks.specs.declared.laid.Pairing.{Pairing}
use Rattle.paired_stacks.specs.declared.laid.Pairing.TheVariants.{Address, Order}
use Rattle.paired_stacks.specs.declared.stack.PairedStack.{PairedStack}
use Rattle.paired_stacks.specs.declared.walked.Walked.{Walked}

-- the same pairing and the same items
abbrev AreSame : Pairing → Pairing → List Item → List Item → Type 0
AreSame p q xs ys = (p ≡ q) × (xs ≡ ys)

apart_same : (natives : ℕ) (frames : List ℕ) (p q : Pairing) (xs ys : List Item) → IsApart natives frames p xs
    → IsApart natives frames q ys → AreSame p q xs ys
apart_same natives frames p q xs ys a b = (a.by ∙ sym b.by, a.are ∙ sym b.are)

merged_same : (by : Pairing) (sizes : List ℕ) (t u : List Bool) (p q : Pairing) (xs ys : List Item) → t ≡ u
    → IsMerged by t sizes p xs → IsMerged by u sizes q ys → AreSame p q xs ys
merged_same by sizes t u p q xs ys same a b =
    (a.by ∙ sym b.by, a.are ∙ ap (λ ts. merged_items ts sizes) same ∙ sym b.are)

ordered_same : (o : Option (List Bool)) (natives : ℕ) (sizes frames : List ℕ) (p q : Pairing) (xs ys : List Item)
    → IsOrdered o natives sizes frames p xs → IsOrdered o natives sizes frames q ys → AreSame p q xs ys
ordered_same None natives sizes frames p q xs ys a b = apart_same natives frames p q xs ys a b
ordered_same (Some takes) natives sizes frames p q xs ys a b = merged_same Order sizes takes takes p q xs ys refl a b

address_same : (parts : List Part) (sizes : List ℕ) (runs : List Run) (p q : Pairing) (xs ys : List Item)
    → IsByAddress parts sizes runs p xs → IsByAddress parts sizes runs q ys → AreSame p q xs ys
address_same parts sizes runs p q xs ys a b =
    let same : a.takes ≡ b.takes
    = paired_only (lies_by parts (map border_of runs)) (length parts) a.takes b.takes a.paired b.paired in
    merged_same Address sizes a.takes b.takes p q xs ys same a.merged b.merged

laid_same : (e : RunEnd) (parts : List Part) (steps : List Bool) (sizes : List ℕ) (runs : List Run) (frames : List ℕ)
    (p q : Pairing) (xs ys : List Item) → IsLaid e parts steps sizes runs frames p xs
    → IsLaid e parts steps sizes runs frames q ys → AreSame p q xs ys
laid_same Each parts steps sizes runs frames p q xs ys a b =
    ordered_same (ordered steps (length sizes)) (length steps) sizes frames p q xs ys a b
laid_same (Entry place current previous) parts steps sizes runs frames p q xs ys a b =
    address_same parts sizes runs p q xs ys a b
laid_same (Shim place owner) parts steps sizes runs frames p q xs ys a b = address_same parts sizes runs p q xs ys a b

where_same : (are_all : Bool) (e : RunEnd) (parts : List Part) (steps : List Bool) (runs : List Run) (frames : List ℕ)
    (p q : Pairing) (xs ys : List Item) → IsLaidWhere are_all e parts steps runs frames p xs
    → IsLaidWhere are_all e parts steps runs frames q ys → AreSame p q xs ys
where_same true e parts steps runs frames p q xs ys a b = laid_same e parts steps _ runs frames p q xs ys a b
where_same false e parts steps runs frames p q xs ys a b = apart_same (length steps) frames p q xs ys a b

module _ (l : Layout) (m : Memory) where
  by_same : (e : Option RunEnd) (parts : List Part) (steps : List Bool) (w : Walked) (p q : Pairing) (xs ys : List Item)
      → IsPairedBy e l m parts steps w p xs → IsPairedBy e l m parts steps w q ys → AreSame p q xs ys
  by_same None parts steps w p q xs ys a b = apart_same (length steps) w.frames p q xs ys a b
  by_same (Some e) parts steps w p q xs ys a b = where_same _ e parts steps _ w.frames p q xs ys a b

  stack_same : (e : Option RunEnd) (own : OwnCode) (start : Option ℕ) (t : NativeShown) (w : Walked)
      (x y : PairedStack) → IsPairedStack e l m own start t w x → IsPairedStack e l m own start t w y
      → stack_seen x ≡ stack_seen y
  stack_same e own start t w x y a b =
      let s = by_same e _ _ w x.pairing y.pairing x.items.items y.items.items a.stack b.stack in
      λ i. record {
        thread = (a.thread ∙ sym b.thread) i;
        pairing = s.0 i;
        items = s.1 i;
        hidden = (a.hidden ∙ sym b.hidden) i;
      }

  if_same : (e : Option RunEnd) (own : OwnCode) (start : Option ℕ) (t : NativeShown) (w : Option Walked)
      (x y : Option PairedStack) → IsPairedIf e l m own start t w x → IsPairedIf e l m own start t w y
      → seen_if x ≡ seen_if y
  if_same e own start t None x y a b = ap seen_if (a ∙ sym b)
  if_same e own start t (Some w) None y a b = absurd a
  if_same e own start t (Some w) (Some x) None a b = absurd b
  if_same e own start t (Some w) (Some x) (Some y) a b = ap Some (stack_same e own start t w x y a b)

  pub all_same : (e : Option RunEnd) (own : OwnCode) (threads : List Walked) (starts : List (Option ℕ))
      (ts : List NativeShown) (xs ys : List (Option PairedStack)) → ArePaired e l m own threads starts ts xs
      → ArePaired e l m own threads starts ts ys → map seen_if xs ≡ map seen_if ys
  unfolding ArePaired
  all_same e own threads starts [] xs ys a b = ap (map seen_if) (a ∙ sym b)
  all_same e own threads starts (t ∷ ts) [] ys a b = absurd a
  all_same e own threads starts (t ∷ ts) (x ∷ xs) [] a b = absurd b
  all_same e own threads starts (t ∷ ts) (x ∷ xs) (y ∷ ys) a b =
      let first : seen_if x ≡ seen_if y
      = if_same e own (first_start starts) t (walked_by threads t.whose) x y a.0 b.0 in
      let others : map seen_if xs ≡ map seen_if ys = all_same e own threads (other_starts starts) ts xs ys a.1 b.1 in
      λ i. first i ∷ others i

  pub only_stacks : {E : Type 0} (e : Option RunEnd) (own : OwnCode) (threads : List Walked) (starts : List (Option ℕ))
      (ts : List NativeShown) (r : Result (Vec (Option PairedStack) Global) E) (other : List (Option PairedStack))
      → IfOk r (λ stacks. ArePaired e l m own threads starts ts stacks.items)
      → ArePaired e l m own threads starts ts other
      → IfOk r (λ stacks. map seen_if stacks.items ≡ map seen_if other)
  only_stacks e own threads starts ts (Ok stacks) other a b = all_same e own threads starts ts stacks.items other a b
  only_stacks e own threads starts ts (Err error) other a b = tt
