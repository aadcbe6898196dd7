-- The steps of reading dicts.
use Rattle.std.proofs.Common.{◌≡◌, ◌≢◌, ℕ, zero, suc, ◌+◌, ◌-◌, ◌*◌, ◌<◌, ◌≤◌, ◌^◌, leb, Bool, true, false, cond, refl}
use Rattle.std.proofs.Common.{ap, arith}
use Rattle.std.specs.Prelude.{Option, Some, None, IfSome, Ok, Err, nat_eq}
use Rattle.std.specs.Int.{bit_at}
use Rattle.std.specs.Int.Bits.{bit_and}
use Rattle.std.proofs.lemmas.Nat.Bits.{and_pow, bit_at-lt}
use Rattle.std.proofs.lemmas.Bool.Decides.{nat_tests}
use Rattle.process_memory.specs.Memory.{Memory, ◌>>=◌, word_at, address_before}
use Rattle.process_memory.specs.Memory.Fault.{BadDict}
use Rattle.py_fields.specs.declared.layout.HeapAt.{HeapAt}
use Rattle.py_fields.specs.declared.layout.Layout.{Layout}
use Rattle.py_builtins.specs.declared.dicts.Slot.TheVariants.{Empty, Entry}
use Rattle.py_builtins.specs.Dicts.{dict_slots, held_slots, shared_slots, values_of, value_by, slot_by, entry_width}
use Rattle.py_builtins.specs.Dicts.{key_at}

-- ---- slots

module _ (m : Memory) where
  pub slot_empty : (values number key value : ℕ) → key ≡ 0 → slot_by m values number key value ≡ Ok Empty
  unfolding slot_by
  slot_empty values number key value e = rw e refl

  pub slot_beside : (values number key value : ℕ) → key ≢ 0 → values ≡ 0 → slot_by m values number key value ≡ Ok (Entry key value)
  unfolding slot_by value_by
  slot_beside values number zero value some e = absurd (some refl)
  slot_beside values number (suc key) value some e = rw e refl

  pub slot_apart : (values number key value : ℕ) → key ≢ 0 → values ≢ 0 → slot_by m values number key value ≡ (word_at m (values + 8 * number) >>= (λ held. Ok (Entry key held)))
  unfolding slot_by value_by
  slot_apart values number zero value some apart = absurd (some refl)
  slot_apart zero number (suc key) value some apart = absurd (apart refl)
  slot_apart (suc values) number (suc key) value some apart = refl

-- ---- managed dicts

module _ (l : Layout) (m : Memory) (h : HeapAt) (a t flags : ℕ) where
  pub held_values : (values dict : ℕ) → values ≢ 0 → held_slots l m h a t flags values dict ≡ shared_slots l m h t (values_of h a flags values)
  unfolding held_slots
  held_values zero dict some = absurd (some refl)
  held_values (suc values) dict some = refl

  pub held_dict : (values dict : ℕ) → values ≡ 0 → dict ≢ 0 → held_slots l m h a t flags values dict ≡ dict_slots l m dict
  unfolding held_slots
  held_dict values zero e some = absurd (some refl)
  held_dict values (suc dict) e some = rw e refl

  pub held_nothing : (values dict : ℕ) → values ≡ 0 → dict ≡ 0 → held_slots l m h a t flags values dict ≡ Err BadDict
  unfolding held_slots
  held_nothing values dict e f = rw (e, f) refl

pub before_within : (a k : ℕ) → k ≤ a → address_before a k ≡ a - k
unfolding address_before
before_within a k le = let is : leb k a ≡ true = grind (arith, nat_tests) in rw is refl

pub before_outside : (a k : ℕ) → a < k → address_before a k ≡ 2 ^ 64
unfolding address_before
before_outside a k lt = let is : leb k a ≡ false = grind (arith, nat_tests) in rw is refl

-- where the key and the value of an entry are, from its end
pub key_place : (has_hash : Bool) → entry_width has_hash - 16 ≡ key_at has_hash
key_place true = refl
key_place false = refl

pub value_place : (has_hash : Bool) → entry_width has_hash - 8 ≡ key_at has_hash + 8
value_place true = refl
value_place false = refl

pub some_holds : {P : ℕ → Type 0} (o : Option ℕ) → ((at : ℕ) → o ≡ Some at → P at) → IfSome o P
some_holds None f = tt
some_holds (Some at) f = f at refl

-- ---- flags

pub values_inside : (h : HeapAt) (a flags values : ℕ) → bit_and flags 4 ≢ 0 → values_of h a flags values ≡ a + h.inline
values_inside h a flags values some =
    let bit : bit_at flags 2 ≡ 1 = omega (arith, and_pow flags 2, bit_at-lt flags 2, some) in
    let is : nat_eq (bit_at flags 2) 1 ≡ true = grind (arith, nat_tests) in
    ap (λ b. cond b (a + h.inline) values) is

pub values_apart : (h : HeapAt) (a flags values : ℕ) → bit_and flags 4 ≡ 0 → values_of h a flags values ≡ values
values_apart h a flags values none =
    let bit : bit_at flags 2 ≡ 0 = omega (arith, and_pow flags 2, none) in
    let is : nat_eq (bit_at flags 2) 1 ≡ false = grind (arith, nat_tests) in
    ap (λ b. cond b (a + h.inline) values) is
