-- The threads of the notes so far, and that the rest follows.
use Rattle.std.proofs.Common.{◌≡◌, ℕ, Bool, true, false, List, [], ◌∷◌, ◌++◌, refl, sym, ap, ◌∙◌, subst}
use Rattle.std.proofs.Common.{append_assoc, append-nil}
use Rattle.std.specs.Prelude.{Option, Some, None, option_to_list}
use Rattle.std.specs.BTreeMap.{BTreeMap, get, is_at}
use Rattle.std.specs.Map.{lookup}
use Rattle.std.specs.Ordering.{nat_cmp}
use Rattle.elf64_core.specs.Notes.{Noted}
use Rattle.elf64_core.specs.Symbols.{SymbolEntry}
use Rattle.native_frames.specs.Kept.{AreKept}
use Rattle.elf64_core.specs.declared.header.Machine.{Machine}
use Rattle.process_memory.specs.Memory.{Memory}
use Rattle.frame_rows.specs.declared.row.Machine.{Machine as FrameMachine}
use Rattle.core_unwind.specs.declared.place.Mapping.{Mapping}
use Rattle.core_unwind.specs.declared.state.State.{State}
use Rattle.native_frames.specs.Threads.{StackPair, StackShown}
use Rattle.thread_registers.specs.Threads.{ThreadShown, thread_noted}
use Rattle.thread_registers.specs.declared.threads.PythonThread.{PythonThread}
use Rattle.native_stacks.specs.Threads.{AreThreads, HasStacks, IsThread, IsThreadOf, NativeShown, first_after}
use Rattle.native_stacks.specs.Threads.{left_after, left_behind}

module _ (machine : Machine) (pythons : List PythonThread) (mappings : List Mapping) (code_bits : ℕ)
    (strict : Bool) where
  -- where threads are those of the rest, all are those so far and then these
  abbrev pub SoFar : Memory → (all rest : List Noted) → (is_first : Bool) → (left : ℕ) → List NativeShown → Type 0
  SoFar m all rest is_first left threads =
      (more : List NativeShown) → AreThreads machine pythons mappings code_bits m strict rest is_first left more
      → AreThreads machine pythons mappings code_bits m strict all true 4194304 (threads ++ more)

  pub far_begin : (m : Memory) (all : List Noted) → SoFar m all all true 4194304 []
  far_begin m all = λ more h. h

  far_skip : (m : Memory) (all behind : List Noted) (note : Noted) (is_first : Bool) (left : ℕ)
      (threads : List NativeShown)
      → ◌≡◌ {A = Option ThreadShown} (thread_noted machine pythons note) None
      → SoFar m all (note ∷ behind) is_first left threads → SoFar m all behind is_first left threads
  unfolding AreThreads
  far_skip m all behind note is_first left threads none inv = λ more h. inv more (rw none h)

  far_more : (m : Memory) (all behind : List Noted) (note : Noted) (is_first : Bool) (left : ℕ)
      (threads : List NativeShown) (known : ThreadShown) (t : NativeShown)
      → thread_noted machine pythons note ≡ Some known
      → IsThread machine mappings code_bits m strict is_first left known note.desc t
      → SoFar m all (note ∷ behind) is_first left threads
      → SoFar m all behind false (left_behind left t) (threads ++ t ∷ [])
  unfolding AreThreads
  far_more m all behind note is_first left threads known t some here inv = λ more h.
      subst (AreThreads machine pythons mappings code_bits m strict all true 4194304)
      (sym (append_assoc threads (t ∷ []) more)) (inv (t ∷ more) (rw some ((t, more, refl, here, h))))

  far_by : (m : Memory) (all behind : List Noted) (note : Noted) (is_first : Bool) (left : ℕ)
      (threads : List NativeShown) (o : Option NativeShown) (known : Option ThreadShown)
      → thread_noted machine pythons note ≡ known
      → IsThreadOf machine mappings code_bits m strict is_first left note.desc known o
      → SoFar m all (note ∷ behind) is_first left threads
      → SoFar m all behind (first_after is_first o) (left_after left o) (threads ++ option_to_list o)
  far_by m all behind note is_first left threads o None e none inv =
      rw none (subst (λ (ts : List NativeShown). SoFar m all behind is_first left ts) (sym (append-nil threads))
      (far_skip m all behind note is_first left threads e inv))
  far_by m all behind note is_first left threads o (Some known) e here inv =
      rw here.1 (far_more m all behind note is_first left threads known here.0 e here.2 inv)

  pub far_next : (m : Memory) (all rest behind : List Noted) (note : Noted) (is_first : Bool) (left : ℕ)
      (threads after : List NativeShown) (o : Option NativeShown) → rest ≡ note ∷ behind
      → IsThreadOf machine mappings code_bits m strict is_first left note.desc (thread_noted machine pythons note) o
      → after ≡ threads ++ option_to_list o → SoFar m all rest is_first left threads
      → SoFar m all behind (first_after is_first o) (left_after left o) after
  far_next m all rest behind note is_first left threads after o is here added inv =
      subst (λ (ts : List NativeShown). SoFar m all behind (first_after is_first o) (left_after left o) ts) (sym added)
      (far_by m all behind note is_first left threads o (thread_noted machine pythons note) refl here
      (subst (λ (ns : List Noted). SoFar m all ns is_first left threads) is inv))

  pub far_end : (m : Memory) (all rest : List Noted) (is_first : Bool) (left : ℕ) (threads : List NativeShown)
      → rest ≡ [] → SoFar m all rest is_first left threads
      → AreThreads machine pythons mappings code_bits m strict all true 4194304 threads
  unfolding AreThreads
  far_end m all rest is_first left threads is inv =
      subst (AreThreads machine pythons mappings code_bits m strict all true 4194304) (append-nil threads) (inv [] (rw is refl))

-- nothing is kept at first
pub kept_none : (mappings : List Mapping) (kept : BTreeMap ℕ (List SymbolEntry)) → kept.entries ≡ []
    → AreKept mappings kept
kept_none mappings kept e = λ file symbols is.
    let none : get nat_cmp kept file ≡ None = ap (λ es. lookup (is_at (nat_cmp file)) es) e in
    let no : ◌≡◌ {A = Option (List SymbolEntry)} None (Some symbols) = sym none ∙ is in absurd cc

-- the stacks of a thread that stands somewhere
pub halves_are : (mappings : List Mapping) (code_bits : ℕ) (m : Memory) (strict : Bool) (left : ℕ)
    (standing : Option (FrameMachine × State)) (machine : FrameMachine) (state : State) (stack : StackShown)
    (guessed : Option StackShown) → standing ≡ Some (machine, state)
    → StackPair mappings machine code_bits m strict left state (stack, guessed)
    → HasStacks mappings code_bits m strict left standing (Some stack) guessed
halves_are mappings code_bits m strict left standing machine state stack guessed e p = rw e ((stack, refl, p))
