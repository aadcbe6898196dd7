-- The locals of a frame that was laid read back.
use Rattle.std.proofs.Common.{◌≡◌, ◌≢◌, ℕ, zero, suc, ◌+◌, ◌*◌, ◌/◌, ◌%◌, ltb, List, [], ◌∷◌, length, refl, arith}
use Rattle.std.specs.Prelude.{Some, None, Ok}
use Rattle.std.specs.List.{AllByRecursion}
use Rattle.elf64_core.specs.Fields.{u32_in}
use Rattle.process_memory.specs.Memory.{Memory, word_at}
use Rattle.py_fields.specs.Sound.{IsSound}
use Rattle.py_fields.specs.declared.layout.Layout.{Layout}
use Rattle.py_stacks.specs.Member.{MemberAt}
use Rattle.py_stacks.specs.Locals.{names_tuple_of, local_at, local_by, is_argument, variable_name_at, locals_from}
use Rattle.py_stacks.specs.Locals.{cleared}
use Rattle.object_builder.specs.Placing.{Stands}
use Rattle.object_builder.specs.Room.{HasRoom}
use Rattle.memory_builder.specs.Program.{Local}
use Rattle.object_builder.specs.Texts.{text_object}
use Rattle.memory_builder.specs.Validity.{IsBriefText}
use Rattle.memory_builder.specs.Sizes.{local_size, name_size}
use Rattle.memory_builder.specs.declared.values.TypesAt.{TypesAt}
use Rattle.memory_builder.specs.Chains.{laid_chain, addresses_from}
use Rattle.memory_builder.specs.Values.{address_array, laid_all, laid_name, laid_local}
use Rattle.memory_builder.proofs.Plain.{locals_for}
use Rattle.object_builder.proofs.Placing.{stands_left, stands_right, stands_last}
use Rattle.object_builder.proofs.TextsBack.{text_back}
use Rattle.memory_builder.proofs.ValuesBack.{word_first, words_rest, length-local, length-name, local_even}

module _ (l : Layout) (sound : IsSound l) (room : HasRoom l) (t : TypesAt) (m : Memory) (r : MemberAt) (args : ℕ)
    (args_is : u32_in r.code l.code.argcount ≡ args) where
  variable : (index : ℕ) (name : List ℕ) (a : ℕ) → a ≢ 0 → a % 2 ≡ 0
      → local_by l r index name (cleared a) ≡ Some (record { name = name; addr = a; arg = ltb index args; repr = None })
  unfolding local_by is_argument
  variable index name zero some even = absurd (some refl)
  variable index name (suc a) some even =
      let same : suc a / 2 * 2 ≡ suc a = omega arith in
      rw (same, args_is) refl

  name_back : (a : ℕ) (v : Local) → IsBriefText v.name → Stands m a (laid_name l v)
      → variable_name_at l m r.frame_at a ≡ Ok v.name
  unfolding variable_name_at laid_name
  name_back a v short s = rw (text_back l sound room m a None v.name short (stands_last (text_object l None v.name) s))
      refl

  -- the variables that are laid behind others
  pub locals_back : (vs : List Local) (index na va : ℕ) → va ≢ 0 → va % 16 ≡ 0
      → AllByRecursion (λ (v : Local). IsBriefText v.name) vs
      → Stands m (names_tuple_of l r + l.tuple.at + 8 * index) (address_array (addresses_from (name_size l) na vs))
      → Stands m (r.frame_at + l.frame.locals + 8 * index) (address_array (addresses_from (local_size l) va vs))
      → Stands m na (laid_all (name_size l) (λ at v. laid_name l v) na vs)
      → Stands m va (laid_all (local_size l) (laid_local l t) va vs)
      → locals_from l m r index (length vs) ≡ Ok (locals_for l args index va vs)
  unfolding locals_from local_at laid_chain
  locals_back [] index na va some mul short words slots names values = refl
  locals_back (v ∷ vs) index na va some mul short words slots names values =
      let to_names = na + name_size l v in
      let to_values = va + local_size l v in
      let w : word_at m (names_tuple_of l r + l.tuple.at + 8 * index) ≡ Ok na =
      word_first na (addresses_from (name_size l) to_names vs) (omega (arith, names.ends)) words in
      let n : variable_name_at l m r.frame_at na ≡ Ok v.name = name_back na v short.0 (stands_left _ _ names) in
      let s : word_at m (r.frame_at + l.frame.locals + 8 * index) ≡ Ok va =
      word_first va (addresses_from (local_size l) to_values vs) (omega (arith, values.ends)) slots in
      let is = variable index v.name va some (omega arith) in
      let more : names_tuple_of l r + l.tuple.at + 8 * index + 8 ≡ names_tuple_of l r + l.tuple.at + 8 * (index + 1) =
      omega arith in
      let more2 : r.frame_at + l.frame.locals + 8 * index + 8 ≡ r.frame_at + l.frame.locals + 8 * (index + 1) =
      omega arith in
      let words2 : Stands m (names_tuple_of l r + l.tuple.at + 8 * (index + 1))
      (address_array (addresses_from (name_size l) to_names vs)) =
      rw more at (words_rest na (addresses_from (name_size l) to_names vs) words) in
      let slots2 : Stands m (r.frame_at + l.frame.locals + 8 * (index + 1))
      (address_array (addresses_from (local_size l) to_values vs)) =
      rw more2 at (words_rest va (addresses_from (local_size l) to_values vs) slots) in
      let names2 : Stands m to_names (laid_all (name_size l) (λ at v. laid_name l v) to_names vs) =
      rw (length-name l sound v) at (stands_right (laid_name l v) _ names) in
      let values2 : Stands m to_values (laid_all (local_size l) (laid_local l t) to_values vs) =
      rw (length-local l sound t va v) at (stands_right (laid_local l t va v) _ values) in
      let rest = locals_back vs (index + 1) to_names to_values (omega arith) (omega (
        arith,
        local_even l sound v,
      )) short.1 words2 slots2 names2 values2 in
      rw (w, n, s, is, rest) refl
