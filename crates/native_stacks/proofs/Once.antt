-- The threads that are told are one answer alone, where tables ascend.
use Rattle.std.proofs.Common.{◌≡◌, ◌∙◌, ℕ, Bool, true, false, List, [], ◌∷◌, map, sym, ap, subst}
use Rattle.std.specs.Prelude.{Option, Some, None, Result, Ok, Err, IfOk}
use Rattle.elf64_core.specs.Header.{machine_of}
use Rattle.elf64_core.specs.Notes.{Noted}
use Rattle.elf64_core.specs.declared.header.Machine.{Machine as ElfMachine}
use Rattle.frame_rows.specs.declared.row.Machine.{Machine}
use Rattle.image_memory.specs.Images.{Pushed}
use Rattle.process_memory.specs.Memory.{Memory}
use Rattle.core_unwind.specs.declared.place.Mapping.{Mapping}
use Rattle.core_unwind.specs.declared.state.State.{State}
use Rattle.core_unwind.specs.Stacks.{AllAscend}
use Rattle.native_frames.specs.Limits.{code_bits, frame_machine}
use Rattle.native_frames.specs.Threads.{StackShown}
use Rattle.native_frames.specs.Mapped.{mapping_shown}
use Rattle.native_frames.proofs.MapLaws.{mapped_once}
use Rattle.native_frames.proofs.Once.{pair_once}
use Rattle.native_frames.proofs.Same.{pair_same}
use Rattle.thread_registers.specs.Threads.{ThreadShown, thread_noted}
use Rattle.thread_registers.specs.declared.threads.PythonThread.{PythonThread}
use Rattle.thread_registers.specs.declared.threads.Whose.{Whose}
use Rattle.native_stacks.specs.declared.stacks.NativeStacks.{NativeStacks}
use Rattle.native_stacks.specs.Stacks.{AreNativeStacks, MappedAscend, StacksShown, stacks_shown}
use Rattle.native_stacks.specs.Threads.{AreThreads, HasStacks, IsThread, NativeShown, ThreadThen, left_behind, state_by}

module _ (machine : ElfMachine) (pythons : List PythonThread) (mappings : List Mapping) (bits : ℕ) (m : Memory)
    (strict : Bool) (ascends : AllAscend mappings) where
  halves_once : (left : ℕ) (standing : Option (Machine × State)) (a b c d : Option StackShown)
      → HasStacks mappings bits m strict left standing a b → HasStacks mappings bits m strict left standing c d
      → (a ≡ c) × (b ≡ d)
  halves_once left None a b c d p q = (p.0 ∙ sym q.0, p.1 ∙ sym q.1)
  halves_once left (Some s) a b c d p q =
      let same : (p.0, b) ≡ (q.0, d) =
      pair_once mappings m ascends s.0 bits strict left s.1 (p.0, b) (q.0, d) p.2 q.2 in (
        p.1 ∙ ap (λ (t : StackShown × Option StackShown). Some t.0) same ∙ sym q.1,
        ap (λ (t : StackShown × Option StackShown). t.1) same,
      )

  thread_once : (is_first : Bool) (left : ℕ) (known : ThreadShown) (status : List ℕ) (x y : NativeShown)
      → IsThread machine mappings bits m strict is_first left known status x
      → IsThread machine mappings bits m strict is_first left known status y → x ≡ y
  thread_once is_first left known status x y p q =
      let halves = halves_once left (state_by (frame_machine machine) status) x.stack x.guessed y.stack y.guessed
      p.stacks q.stacks in
      ap (λ (n : ℕ). record {
        system_id = n;
        whose = x.whose;
        is_crashed = x.is_crashed;
        stack = x.stack;
        guessed = x.guessed;
      }) (p.id ∙ sym q.id)
      ∙ ap (λ (w : Whose). record {
        system_id = y.system_id;
        whose = w;
        is_crashed = x.is_crashed;
        stack = x.stack;
        guessed = x.guessed;
      }) (p.whose ∙ sym q.whose)
      ∙ ap (λ (b : Bool). record {
        system_id = y.system_id;
        whose = y.whose;
        is_crashed = b;
        stack = x.stack;
        guessed = x.guessed;
      }) (p.crashed ∙ sym q.crashed)
      ∙ ap (λ (s : Option StackShown). record {
        system_id = y.system_id;
        whose = y.whose;
        is_crashed = y.is_crashed;
        stack = s;
        guessed = x.guessed;
      }) halves.0
      ∙ ap (λ (s : Option StackShown). record {
        system_id = y.system_id;
        whose = y.whose;
        is_crashed = y.is_crashed;
        stack = y.stack;
        guessed = s;
      }) halves.1

  then_once : (known : Option ThreadShown) (status : List ℕ) (notes : List Noted) (is_first : Bool) (left : ℕ)
      (xs ys : List NativeShown)
      → ((f : Bool) (l : ℕ) (us vs : List NativeShown) → AreThreads machine pythons mappings bits m strict notes f l us
      → AreThreads machine pythons mappings bits m strict notes f l vs → us ≡ vs)
      → ThreadThen known (λ k t. IsThread machine mappings bits m strict is_first left k status t)
      (AreThreads machine pythons mappings bits m strict notes) is_first left xs
      → ThreadThen known (λ k t. IsThread machine mappings bits m strict is_first left k status t)
      (AreThreads machine pythons mappings bits m strict notes) is_first left ys → xs ≡ ys
  then_once None status notes is_first left xs ys rest p q = rest is_first left xs ys p q
  then_once (Some known) status notes is_first left xs ys rest p q =
      let same : p.0 ≡ q.0 = thread_once is_first left known status p.0 q.0 p.3 q.3 in
      let behind : p.1 ≡ q.1 = rest false (left_behind left q.0) p.1 q.1
      (subst (λ (t : NativeShown). AreThreads machine pythons mappings bits m strict notes false (left_behind left t) p.1)
      same p.4) q.4 in
      p.2 ∙ ap (λ (t : NativeShown). t ∷ p.1) same ∙ ap (λ (ts : List NativeShown). q.0 ∷ ts) behind ∙ sym q.2

  pub threads_once : (notes : List Noted) (is_first : Bool) (left : ℕ) (xs ys : List NativeShown)
      → AreThreads machine pythons mappings bits m strict notes is_first left xs
      → AreThreads machine pythons mappings bits m strict notes is_first left ys → xs ≡ ys
  unfolding AreThreads
  threads_once [] is_first left xs ys p q = p ∙ sym q
  threads_once (note ∷ notes) is_first left xs ys p q =
      then_once (thread_noted machine pythons note) note.desc notes is_first left xs ys (λ f l us vs h k.
      threads_once notes f l us vs h k) p q

-- ---- over mappings that show the same

module _ (machine : ElfMachine) (pythons : List PythonThread) (ms ns : List Mapping)
    (e : map mapping_shown ms ≡ map mapping_shown ns) (bits : ℕ) (m : Memory) (strict : Bool) where
  halves_same : (left : ℕ) (standing : Option (Machine × State)) (a b : Option StackShown)
      → HasStacks ns bits m strict left standing a b → HasStacks ms bits m strict left standing a b
  halves_same left None a b h = h
  halves_same left (Some s) a b h = (h.0, h.1, pair_same ms ns e m s.0 bits strict left s.1 (h.0, b) h.2)

  thread_same : (is_first : Bool) (left : ℕ) (known : ThreadShown) (status : List ℕ) (x : NativeShown)
      → IsThread machine ns bits m strict is_first left known status x
      → IsThread machine ms bits m strict is_first left known status x
  thread_same is_first left known status x h = record {
    id = h.id;
    whose = h.whose;
    crashed = h.crashed;
    stacks = halves_same left (state_by (frame_machine machine) status) x.stack x.guessed h.stacks;
  }

  then_same : (known : Option ThreadShown) (status : List ℕ) (notes : List Noted) (is_first : Bool) (left : ℕ)
      (xs : List NativeShown)
      → ((f : Bool) (l : ℕ) (us : List NativeShown) → AreThreads machine pythons ns bits m strict notes f l us
      → AreThreads machine pythons ms bits m strict notes f l us)
      → ThreadThen known (λ k t. IsThread machine ns bits m strict is_first left k status t)
      (AreThreads machine pythons ns bits m strict notes) is_first left xs
      → ThreadThen known (λ k t. IsThread machine ms bits m strict is_first left k status t)
      (AreThreads machine pythons ms bits m strict notes) is_first left xs
  then_same None status notes is_first left xs rest h = rest is_first left xs h
  then_same (Some known) status notes is_first left xs rest h =
      (h.0, h.1, h.2, thread_same is_first left known status h.0 h.3, rest false (left_behind left h.0) h.1 h.4)

  threads_same : (notes : List Noted) (is_first : Bool) (left : ℕ) (xs : List NativeShown)
      → AreThreads machine pythons ns bits m strict notes is_first left xs
      → AreThreads machine pythons ms bits m strict notes is_first left xs
  unfolding AreThreads
  threads_same [] is_first left xs h = h
  threads_same (note ∷ notes) is_first left xs h =
      then_same (thread_noted machine pythons note) note.desc notes is_first left xs (λ f l us k.
      threads_same notes f l us k) h

module _ (core : List ℕ) (notes : List Noted) (images : Pushed) (m : Memory) (pythons : List PythonThread)
    (strict : Bool) (ascends : MappedAscend core notes images) where
  stacks_once : (x y : StacksShown) → AreNativeStacks core notes images m pythons strict x
      → AreNativeStacks core notes images m pythons strict y → x ≡ y
  stacks_once x y h k =
      let machine = machine_of core in
      let bits = code_bits (machine_of core) notes in
      let mapped = mapped_once core notes images x.files y.files h.mappings k.mappings h.mapped k.mapped in
      let over = threads_same machine pythons h.mappings k.mappings mapped.1 bits m strict notes true 4194304 y.threads
      k.threads in
      let threads = threads_once machine pythons h.mappings bits m strict (ascends x.files h.mappings h.mapped) notes true
      4194304 x.threads y.threads h.threads over in
      ap (λ (fs : List (List ℕ)). record { files = fs; threads = x.threads }) mapped.0
      ∙ ap (λ (ts : List NativeShown). record { files = y.files; threads = ts }) threads

  pub stacks_only : {E : Type 0} (r : Result NativeStacks E)
      → IfOk r (λ stacks. AreNativeStacks core notes images m pythons strict (stacks_shown stacks))
      → (other : StacksShown) → AreNativeStacks core notes images m pythons strict other
      → IfOk r (λ stacks. stacks_shown stacks ≡ other)
  stacks_only (Ok stacks) h other k = stacks_once (stacks_shown stacks) other h k
  stacks_only (Err error) h other k = tt
