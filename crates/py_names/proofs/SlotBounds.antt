-- How many slots are looked at for names, at most.
use Rattle.std.proofs.Common.{◌≡◌, ℕ, zero, suc, ◌+◌, ◌≤◌, List, refl, ap, arith}
use Rattle.std.specs.Prelude.{Option, Some, None, Ok, Err, codes}
use Rattle.std.specs.Int.{w64, cast_unsigned}
use Rattle.process_memory.specs.Memory.{Memory, Found}
use Rattle.process_memory.proofs.Founds.{bound, ok_same}
use Rattle.py_fields.specs.declared.layout.Layout.{Layout}
use Rattle.py_builtins.specs.declared.keys.Slots.{Slots}
use Rattle.py_builtins.specs.declared.dicts.Slot.{Slot}
use Rattle.py_builtins.specs.declared.dicts.Slot.TheVariants.{Empty, Entry}
use Rattle.py_builtins.specs.Dicts.{dict_slots, slot_at}
use Rattle.py_builtins.specs.Integers.{long_at}
use Rattle.py_names.specs.declared.names.Given.{Given}
use Rattle.py_names.specs.declared.search.Looked.{Looked}
use Rattle.py_names.specs.Names.{each_looked, entry_in, entry_looked, given, module_looked, module_slots, modules_slots}
use Rattle.py_names.specs.Names.{given_name_at, slot_limit, slot_looked, slots_looked_at, thread_at, thread_in}
use Rattle.py_names.specs.Names.{thread_looked, thread_slots, threads_looked}
use Rattle.py_names.specs.Search.{find_from, find_looked, looked, looked_behind, looked_in, or_go_on, named_value_at}
use Rattle.py_builtins.specs.Types.{type_at}
use Rattle.py_names.specs.Typed.{typed_slots}

behind_most : (v : Found (Option ℕ)) (rest : ℕ) → looked_behind v rest ≤ rest
behind_most (Ok None) rest = omega arith
behind_most (Ok (Some value)) rest = omega arith
behind_most (Err f) rest = omega arith

-- what is looked at, and what may be looked at then
go_on_sum : (o : Option ℕ) (rest : Found Looked) (count left : ℕ) (r : Looked) → or_go_on o left rest ≡ Ok r
    → (rest ≡ Ok r → count + r.left ≤ left) → 1 + looked_behind (Ok o) count + r.left ≤ suc left
go_on_sum None rest count left r e h = omega (arith, h e)
go_on_sum (Some value) rest count left r e h = let is = ok_same (looked (Some value) left) r e in omega (arith, ap (λ (x : Looked). x.left) is)

module _ (l : Layout) (m : Memory) where
  module _ (name : List ℕ) (s : Slots) where
    pub find_most : (n number left : ℕ) → find_looked l m name s n number left ≤ left
    unfolding find_looked
    find_most zero number left = omega arith
    find_most (suc n) number zero = omega arith
    find_most (suc n) number (suc left) =
        omega (arith, behind_most (named_value_at l m name s number) (find_looked l m name s n (number + 1) left), find_most n (number + 1) left)

    find_sum : (n number left : ℕ) (r : Looked) → find_from l m name s n number left ≡ Ok r → find_looked l m name s n number left + r.left ≤ left
    unfolding find_from find_looked
    find_sum zero number left r e = let is = ok_same (looked None left) r e in omega (arith, ap (λ (x : Looked). x.left) is)
    find_sum (suc n) number zero r e = absurd (cc)
    find_sum (suc n) number (suc left) r e =
        let v = bound (named_value_at l m name s number) _ r e in
        rw v.1 (go_on_sum v.0 (find_from l m name s n (number + 1) left) (find_looked l m name s n (number + 1) left) left r v.2
        (λ h. find_sum n (number + 1) left r h))

  pub looked_most : {T : Type 0} (d : Found T) (count : T → ℕ) (left : ℕ) → ((x : T) → count x ≤ left) → looked_in d count ≤ left
  looked_most (Ok x) count left h = h x
  looked_most (Err f) count left h = omega arith

  entry_most : (key value left : ℕ) → entry_looked l m key value left ≤ left
  unfolding entry_looked
  entry_most key value left = looked_most (thread_slots l m key value) _ left (λ slots. find_most (codes "_name") slots slots.count 0 left)

  entry_sum : (key value left : ℕ) (g : Given) → entry_in l m key value left ≡ Ok g → entry_looked l m key value left + g.left ≤ left
  unfolding entry_in entry_looked thread_slots
  entry_sum key value left g e =
      let id = bound (long_at l m key) _ g e in
      let t = bound (type_at l m value) _ g id.2 in
      let slots = bound (typed_slots l m value t.0) _ g t.2 in
      let search = bound (find_from l m (codes "_name") slots.0 slots.0.count 0 left) _ g slots.2 in
      let name = bound (given_name_at l m (cast_unsigned w64 id.0.0) search.0.found) _ g search.2 in
      let is = ok_same (given name.0 search.0.left) g name.2 in
      rw (id.1, t.1, slots.1) (omega (arith, ap (λ (x : Given). x.left) is, find_sum (codes "_name") slots.0 slots.0.count 0 left search.0 search.1))

  slot_most : (left : ℕ) (slot : Slot) → slot_looked l m left slot ≤ left
  slot_most left Empty = omega arith
  slot_most left (Entry key value) = entry_most key value left

  slot_sum : (left : ℕ) (slot : Slot) (g : Given) → thread_in l m left slot ≡ Ok g → slot_looked l m left slot + g.left ≤ left
  unfolding thread_in
  slot_sum left Empty g e = let is = ok_same (given None left) g e in omega (arith, ap (λ (x : Given). x.left) is)
  slot_sum left (Entry key value) g e = entry_sum key value left g e

  module _ (s : Slots) where
    thread_most : (number left : ℕ) → thread_looked l m s number left ≤ left
    unfolding thread_looked
    thread_most number left = looked_most (slot_at m s number) _ left (slot_most left)

    thread_sum : (number left : ℕ) (g : Given) → thread_at l m s number left ≡ Ok g → thread_looked l m s number left + g.left ≤ left
    unfolding thread_at thread_looked
    thread_sum number left g e =
        let slot = bound (slot_at m s number) _ g e in
        rw slot.1 (slot_sum left slot.0 g slot.2)

    behind_sum : (number left : ℕ) (d : Found Given) (count : ℕ → ℕ) → thread_at l m s number left ≡ d → ((k : ℕ) → count k ≤ k)
        → thread_looked l m s number left + looked_in d (λ thread. count thread.left) ≤ left
    behind_sum number left (Ok g) count e h = omega (arith, thread_sum number left g e, h g.left)
    behind_sum number left (Err f) count e h = omega (arith, thread_most number left)

    each_most : (n number left : ℕ) → each_looked l m s n number left ≤ left
    unfolding each_looked
    each_most zero number left = omega arith
    each_most (suc n) number zero = omega arith
    each_most (suc n) number (suc left) =
        omega (arith, behind_sum number left (thread_at l m s number left) (λ k. each_looked l m s n (number + 1) k) refl (λ k. each_most n (number + 1) k))

  threads_most : (found : Option ℕ) (left : ℕ) → threads_looked l m found left ≤ left
  unfolding threads_looked
  threads_most None left = omega arith
  threads_most (Some dict) left = looked_most (dict_slots l m dict) _ left (λ slots. each_most slots slots.count 0 left)

  pub search_sum : (name : List ℕ) (left : ℕ) (slots : Slots) (d : Found Looked) (behind : Option ℕ → ℕ → ℕ) → find_from l m name slots slots.count 0 left ≡ d
      → ((found : Option ℕ) (k : ℕ) → behind found k ≤ k)
      → find_looked l m name slots slots.count 0 left + looked_in d (λ search. behind search.found search.left) ≤ left
  search_sum name left slots (Ok r) behind e h = omega (arith, find_sum name slots slots.count 0 left r e, h r.found r.left)
  search_sum name left slots (Err f) behind e h = omega (arith, find_most name slots slots.count 0 left)

  module_most : (found : Option ℕ) (left : ℕ) → module_looked l m found left ≤ left
  unfolding module_looked
  module_most None left = omega arith
  module_most (Some a) left = looked_most (module_slots l m a) _ left
      (λ slots. search_sum (codes "_active") left slots (find_from l m (codes "_active") slots slots.count 0 left) (threads_looked l m) refl threads_most)

  pub slots_most : (interpreter : ℕ) → slots_looked_at l m interpreter ≤ 65536
  unfolding slots_looked_at
  slots_most interpreter = looked_most (modules_slots l m interpreter) _ 65536
      (λ slots. search_sum (codes "threading") slot_limit slots (find_from l m (codes "threading") slots slots.count 0 slot_limit) (module_looked l m) refl module_most)
