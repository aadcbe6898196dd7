-- A program that stands in memory reads back.
use Rattle.std.proofs.Common.{get_or, ◌≡◌, ◌≢◌, ℕ, zero, suc, ◌+◌, ◌%◌, ◌<◌, ◌≤◌, ◌^◌, eqb, List, [], ◌∷◌, ◌++◌, length}
use Rattle.std.proofs.Common.{map, refl, sym, ap, subst, ◌∙◌, arith, take, length-append}
use Rattle.std.specs.Prelude.{if◌then◌else◌, Some, None, Option, Ok, IfSome, codes}
use Rattle.std.specs.List.{AllByRecursion}
use Rattle.elf64_core.specs.Fields.{u64_in, u32_in}
use Rattle.process_memory.specs.Memory.{Memory, Found, ◌>>=◌, record_at, word_at}
use Rattle.py_fields.specs.Places.{Place, IsGroup, optional_place, interpreter_places, klass_places, gil_places}
use Rattle.py_fields.specs.Sound.{IsSound, IsRecord}
use Rattle.py_fields.proofs.Fields.{some_is}
use Rattle.py_fields.specs.declared.layout.GilAt.{GilAt}
use Rattle.py_fields.specs.declared.layout.Layout.{Layout}
use Rattle.py_stacks.specs.declared.asked.Asked.{Asked}
use Rattle.py_stacks.specs.Holder.{gil_holder_at, holder_at, holder_id_at, holder_through, id_of, thread_id_at}
use Rattle.py_stacks.specs.Stacks.{AreStacks}
use Rattle.py_stacks.specs.Asking.{nothing}
use Rattle.py_stacks.specs.Interpreter.{IsInterpreter, named_at, interpreter_named_by, threads_head}
use Rattle.py_stacks.proofs.Holders.{holder_id_none, holder_id_some, id_none, id_some}
use Rattle.py_stacks.specs.Threads.{AreTraces, IsTraceOf, Trace}
use Rattle.object_builder.specs.Objects.{object, optional_write, write_place, aligned}
use Rattle.memory_builder.specs.Sizes.{gil_size, interpreter_len, program_size, rounded, shared_size, thread_size}
use Rattle.memory_builder.specs.Sizes.{type_size, word_end}
use Rattle.std.specs.List.{sum_by}
use Rattle.object_builder.specs.Objects.Value.{U64, Bytes}
use Rattle.object_builder.specs.Placing.{Stands}
use Rattle.object_builder.specs.Room.{HasRoom}
use Rattle.memory_builder.specs.Program.{Program, Thread}
use Rattle.memory_builder.specs.Chains.{AllAt, laid_chain, head_of, addresses_from}
use Rattle.memory_builder.proofs.Chains.{length-chain, place_below}
use Rattle.memory_builder.specs.declared.values.TypesAt.{TypesAt}
use Rattle.memory_builder.proofs.Plain.{IsThread, stacks_for, trace_for, traces_for}
use Rattle.memory_builder.specs.Threads.{laid_thread, laid_threads}
use Rattle.memory_builder.specs.Laid.{first_place, gil_place, gil_writes, interpreter_object, interpreter_writes}
use Rattle.memory_builder.specs.Laid.{is_held, laid_gil, laid_program, laid_type, owner_id, owner_place, place_or_none}
use Rattle.memory_builder.specs.Laid.{three_types, type_name, type_writes, types_at, types_place}
use Rattle.object_builder.proofs.Objects.{length-object, u64_read, u32_read}
use Rattle.object_builder.proofs.Placing.{record_stands_first, stands_left, stands_right, stands_object, stands_last}
use Rattle.object_builder.proofs.Placing.{stands_rest, length-aligned, word_stands}
use Rattle.object_builder.proofs.TextsBack.{place_optional}
use Rattle.memory_builder.proofs.ThreadsBack.{length-thread, first_named, threads_back, threads_each}

gil_within : (o : Option ℕ) (n : ℕ) → word_end o ≤ n → (optional_place o 8).0 + (optional_place o 8).1 ≤ n
gil_within None n h = omega arith
gil_within (Some at) n h = h

name_group : (name : List ℕ) → length name ≤ 128 → IsGroup 128
    (map write_place (record { at = 0; value = Bytes name } ∷ []))
name_group name short = record { inside = (omega (arith, short), tt); apart = (tt, tt) }

pub length-type_name : (name : List ℕ) → length name ≤ 128 → length (type_name name) ≡ 128
length-type_name name short = length-object 128 (record { at = 0; value = Bytes name } ∷ []) (name_group name short)

module _ (l : Layout) (sound : IsSound l) where
  interpreter_group : (first gil : ℕ) → IsGroup (interpreter_len l) (map write_place (interpreter_writes l first gil))
  unfolding interpreter_places
  interpreter_group first gil =
      let g : IsGroup (interpreter_len l) ((l.interpreter.threads, 8) ∷ (l.interpreter.modules, 8)
      ∷ optional_place l.interpreter.gil 8 ∷ []) = record {
        inside = (omega arith, (omega arith, (gil_within l.interpreter.gil (interpreter_len l) (omega arith), tt)));
        apart = sound.interpreter.apart;
      } in
      subst (λ (p : Place). IsGroup (interpreter_len l) ((l.interpreter.threads, 8) ∷ (l.interpreter.modules, 8) ∷ p
      ∷ [])) (sym (place_optional l.interpreter.gil (U64 gil))) g

  gil_group : (g : GilAt) → l.gil ≡ Some g → (holder : ℕ) → IsGroup g.size (map write_place (gil_writes g holder))
  unfolding gil_places
  gil_group g e holder = (some_is l.gil (λ (g : GilAt). IsRecord g.size (gil_places g)) g sound.groups.gil e).group

  type_group : (name flags : ℕ) → IsGroup l.klass.size (map write_place (type_writes l name flags))
  unfolding klass_places
  type_group name flags = sound.objects.klass.group

  length-gil : (o : Option GilAt) → l.gil ≡ o → (holder : ℕ) → length (laid_gil o holder) ≡ gil_size o
  unfolding laid_gil
  length-gil None e holder = refl
  length-gil (Some g) e holder = length-aligned (object g.size (gil_writes g holder))
      ∙ ap rounded (length-object g.size _ (gil_group g e holder))

  pub length-type : (a flags : ℕ) (name : List ℕ) → length name ≤ 128 → length (laid_type l a flags name) ≡ type_size l
  unfolding laid_type
  length-type a flags name short =
      let o = object l.klass.size (type_writes l (a + rounded l.klass.size) flags) in
      let n1 : length o ≡ l.klass.size = length-object l.klass.size _ (type_group (a + rounded l.klass.size) flags) in
      let n2 : length (type_name name) ≡ 128 = length-type_name name short in
      omega (
        arith,
        length-append (aligned o) (aligned (type_name name)),
        length-aligned (type_name name),
        ap rounded n2,
        length-aligned o,
        ap rounded n1,
      )

  pub gil_even : (o : Option GilAt) → gil_size o % 16 ≡ 0
  gil_even None = refl
  gil_even (Some g) = omega arith

  length-types : (a : ℕ) → length (three_types l (types_at l a)) ≡ type_size l + type_size l + type_size l
  unfolding three_types
  length-types a =
      let t1 = laid_type l a (2 ^ 24) (codes "int") in
      let t2 = laid_type l (a + type_size l) (2 ^ 28) (codes "str") in
      let t3 = laid_type l (a + type_size l + type_size l) (2 ^ 25) (codes "list") in
      omega (
        arith,
        length-append t1 (t2 ++ t3),
        length-append t2 t3,
        length-type a (2 ^ 24) (codes "int") (omega arith),
        length-type (a + type_size l) (2 ^ 28) (codes "str") (omega arith),
        length-type (a + type_size l + type_size l) (2 ^ 25) (codes "list") (omega arith),
      )

  -- what stands of a program
  pub record StandProgram (m : Memory) (a : ℕ) (p : Program) : Type 0 where
    pub interpreter : Stands m a (interpreter_object l a p)
    pub gil : Stands m (gil_place l a) (laid_gil l.gil (owner_place l a p))
    pub types : Stands m (types_place l a) (three_types l (types_at l (types_place l a)))
    pub threads : Stands m (first_place l a) (laid_threads l (types_at l (types_place l a)) a
        (first_place l a) p.threads)

  pub stand_program : (m : Memory) (a : ℕ) (p : Program) → Stands m a (laid_program l a p) → StandProgram m a p
  unfolding laid_program
  stand_program m a p s =
      let o = interpreter_object l a p in
      let n = length-object (interpreter_len l) _ (interpreter_group (head_of (first_place l a) p.threads)
      (gil_place l a)) in
      let s1 = stands_rest o _ (interpreter_len l) n s in
      let gil = laid_gil l.gil (owner_place l a p) in
      let s2 : Stands m (types_place l a) (three_types l (types_at l (types_place l a))
      ++ laid_threads l (types_at l (types_place l a)) a (first_place l a) p.threads) =
      rw (length-gil l.gil refl (owner_place l a p)) at (stands_right gil _ s1) in
      let far : types_place l a + length (three_types l (types_at l (types_place l a))) ≡ first_place l a =
      omega (arith, length-types (types_place l a)) in
      record {
        interpreter = stands_object o _ s;
        gil = stands_left gil _ s1;
        types = stands_left (three_types l (types_at l (types_place l a))) _ s2;
        threads = rw far at (stands_right (three_types l (types_at l (types_place l a))) _ s2);
      }

-- how long a program is
pub length-program : (l : Layout) (sound : IsSound l) (a : ℕ) (p : Program)
    → length (laid_program l a p) ≡ program_size l p
unfolding laid_program laid_threads program_size shared_size
length-program l sound a p =
    let o = interpreter_object l a p in
    let gil = laid_gil l.gil (owner_place l a p) in
    let types = three_types l (types_at l (types_place l a)) in
    let lay = laid_thread l (types_at l (types_place l a)) a in
    let threads = laid_chain (thread_size l) lay (first_place l a) p.threads in
    let head = head_of (first_place l a) p.threads in
    let writes = interpreter_writes l head (gil_place l a) in
    let group = interpreter_group l sound head (gil_place l a) in
    let n : length o ≡ interpreter_len l = length-object (interpreter_len l) writes group in
    omega (
      arith,
      length-append (aligned o) (gil ++ (types ++ threads)),
      length-append gil (types ++ threads),
      length-append types threads,
      length-aligned o,
      ap rounded n,
      length-gil l sound l.gil refl (owner_place l a p),
      length-types l sound (types_place l a),
      length-chain (thread_size l) lay (length-thread l sound (types_at l (types_place l a)) a)
          (first_place l a) p.threads,
    )

-- what a program has to be
pub record IsWhole (l : Layout) (p : Program) : Type 0 where
  pub some : p.threads ≢ []
  pub few : length p.threads ≤ 4096
  pub threads : AllByRecursion (IsThread l) p.threads
  pub owner : IfSome p.owner (λ i. i < length p.threads)

module _ (l : Layout) (sound : IsSound l) (room : HasRoom l) (m : Memory) (a : ℕ) (p : Program) (some : a ≢ 0)
    (mul : a % 16 ≡ 0) (is : IsWhole l p) (st : StandProgram l sound m a p) where
  abbrev first : ℕ
  first = first_place l a

  abbrev types : TypesAt
  types = types_at l (types_place l a)

  first_even : first % 16 ≡ 0
  first_even = omega (arith, gil_even l sound l.gil)

  pub head_word : word_at m (a + l.interpreter.threads) ≡ Ok (head_of first p.threads)
  head_word = word_stands (interpreter_len l) (interpreter_writes l (head_of first p.threads) (gil_place l a)) 0
      l.interpreter.threads (head_of first p.threads)
      (interpreter_group l sound (head_of first p.threads) (gil_place l a)) refl (below p.threads) st.interpreter
    where
      below : (ts : List Thread) → head_of first ts < 2 ^ 64
      below [] = omega arith
      below (t ∷ ts) = omega (arith, st.threads.ends)

  pub modules_word : word_at m (a + l.interpreter.modules) ≡ Ok 0
  modules_word = word_stands (interpreter_len l) (interpreter_writes l (head_of first p.threads) (gil_place l a)) 1
      l.interpreter.modules 0
      (interpreter_group l sound (head_of first p.threads) (gil_place l a)) refl (omega arith) st.interpreter

  pub gil_word : (at : ℕ) → l.interpreter.gil ≡ Some at → word_at m (a + at) ≡ Ok (gil_place l a)
  gil_word at e = word_stands (interpreter_len l) (interpreter_writes l (head_of first p.threads) (gil_place l a)) 2 at
      (gil_place l a)
      (interpreter_group l sound (head_of first p.threads) (gil_place l a))
      (ap (λ o. Some (optional_write o (U64 (gil_place l a)))) e) (omega (arith, st.gil.ends)) st.interpreter

  -- the traces of the threads
  pub program_traces : (q : Asked) → AreTraces q l m a (traces_for q l first p.threads)
  program_traces q = threads_back l sound room types q m a first p.threads (omega (arith, st.interpreter.ends))
      (omega arith) first_even is.few is.threads head_word st.threads

  pub program_named : named_at l m a ≡ Ok a
  unfolding named_at
  program_named = named p.threads is.some head_word is.threads st.threads
    where
      named : (ts : List Thread) → ts ≢ [] → word_at m (a + l.interpreter.threads) ≡ Ok (head_of first ts)
          → AllByRecursion (IsThread l) ts → Stands m first (laid_threads l types a first ts)
          → (threads_head l m a >>= interpreter_named_by l m) ≡ Ok a
      named [] any word all s = absurd (any refl)
      named (t ∷ ts) any word all s = rw word (first_named l sound room types m a first t ts (omega (
        arith,
        st.interpreter.ends,
      )) (omega arith) first_even all s)

  pub program_is : IsInterpreter l m a
  program_is = record {
    named = program_named;
    traces = traces_for nothing l first p.threads;
    are =
        program_traces nothing;
  }

  -- ---- the lock

  thread_id : (at : ℕ) (t : Thread) → IsTraceOf nothing l m at (trace_for nothing l at t)
      → thread_id_at l m at ≡ Ok t.id
  unfolding thread_id_at
  thread_id at t h = rw h.read (ap (λ (x : Trace). Ok x.thread_id) (sym h.fields))

  ids : (at : ℕ) (ts : List Thread) (i : ℕ) → at ≢ 0 → i < length ts
      → AllAt (thread_size l) (λ at t. IsTraceOf nothing l m at (trace_for nothing l at t)) at ts
      → (get_or (addresses_from (thread_size l) at ts) i 0 ≢ 0)
      × (thread_id_at l m (get_or (addresses_from (thread_size l) at ts) i 0)
      ≡ Ok (get_or (map (λ (t : Thread). t.id) ts) i 0))
  ids at [] i some lt h = absurd (omega arith)
  ids at (t ∷ ts) zero some lt h = (some, thread_id at t h.0)
  ids at (t ∷ ts) (suc i) some lt h = ids (at + thread_size l t) ts i (omega arith) (omega arith) h.1

  pub owner_back : id_of l m (owner_place l a p) ≡ Ok (owner_id p)
  owner_back = by p.owner is.owner
    where
      by : (o : Option ℕ) → IfSome o (λ i. i < length p.threads)
          → id_of l m (place_or_none (addresses_from (thread_size l) first p.threads) o)
          ≡ Ok (place_or_none (map (λ (t : Thread). t.id) p.threads) o)
      by None h = id_none l m
      by (Some i) h =
          let each = threads_each l sound room types nothing m a first p.threads (omega (arith, st.interpreter.ends))
          (omega arith) first_even is.threads st.threads in
          let found = ids first p.threads i (omega arith) h each.1 in
          id_some l m _ found.0 ∙ found.1

  pub stacks_unlocked : (q : Asked) → AreStacks q l m 0 a (stacks_for q l a 0 p)
  stacks_unlocked q = record {
    holder_id = 0;
    held = holder_id_none l m;
    unmarked = traces_for q l first p.threads;
    threads = program_traces q;
    marks = refl;
  }

  -- whoever the owner is
  pub stacks_held : (q : Asked) (lock owner : ℕ) → holder_id_at l m lock ≡ Ok owner
      → AreStacks q l m lock a (stacks_for q l a owner p)
  stacks_held q lock owner held = record {
    holder_id = owner;
    held = held;
    unmarked = traces_for q l first p.threads;
    threads = program_traces q;
    marks = refl;
  }

  -- by the lock's record, or by the word that names the holder
  pub owner_held : (lock : ℕ) → lock ≢ 0 → holder_at l m lock ≡ Ok (owner_place l a p)
      → holder_id_at l m lock ≡ Ok (owner_id p)
  owner_held lock some_lock holder = holder_id_some l m lock some_lock ∙ rw holder owner_back

  threads_end : first + sum_by (thread_size l) p.threads < 2 ^ 64
  unfolding laid_threads
  threads_end = omega (
    arith,
    st.threads.ends,
    length-chain (thread_size l) (laid_thread l types a)
        (length-thread l sound types a) first p.threads,
  )

  pub owner_below : owner_place l a p < 2 ^ 64
  owner_below = below p.owner
    where
      below : (o : Option ℕ) → place_or_none (addresses_from (thread_size l) first p.threads) o < 2 ^ 64
      below None = omega arith
      below (Some i) = place_below (thread_size l) (2 ^ 64) first p.threads i threads_end

  -- the lock's record names the holder
  pub gil_back : (g : GilAt) → l.gil ≡ Some g → holder_at l m (gil_place l a) ≡ Ok (owner_place l a p)
  unfolding holder_at gil_holder_at laid_gil gil_places
  gil_back g e =
      let ws = gil_writes g (owner_place l a p) in
      let group = gil_group l sound g e (owner_place l a p) in
      let r = some_is l.gil (λ (g : GilAt). IsRecord g.size (gil_places g)) g sound.groups.gil e in
      let s : Stands m (gil_place l a) (laid_gil (Some g) (owner_place l a p)) =
      subst (λ o. Stands m (gil_place l a) (laid_gil o (owner_place l a p))) e st.gil in
      let o = object g.size ws in
      let read : record_at m (gil_place l a) g.size ≡ Ok (take g.size o) =
      record_stands_first g.size (stands_last o s) (omega (arith, length-object g.size ws group)) in
      let locked : u32_in (take g.size o) g.locked ≡ is_held (owner_place l a p) =
      u32_read g.size ws group g.size (omega arith) 0 g.locked (is_held (owner_place l a p)) refl
      (held_small (owner_place l a p)) r.group.inside.0 in
      let holder : u64_in (take g.size o) g.holder ≡ owner_place l a p =
      u64_read g.size ws group g.size (omega arith) 1 g.holder
      (owner_place l a p) refl owner_below r.group.inside.1.0 in
      ap (λ o. holder_through o m (gil_place l a)) e ∙ rw (read, locked, holder) (held (owner_place l a p))
    where
      held_small : (n : ℕ) → is_held n < 2 ^ 32
      held_small zero = omega arith
      held_small (suc n) = omega arith

      held : (n : ℕ) → ◌≡◌ {A = Found ℕ} (Ok (if eqb (is_held n) 0 then 0 else n)) (Ok n)
      held zero = refl
      held (suc n) = refl
