-- The lines of the stacks of all threads: of each a line that says whose it is, and those of its stack.
use Rattle.std.specs.Prelude.{ℕ, ◌++◌, List, [], ◌∷◌, Option, Some, None}
use Rattle.native_stacks.specs.Stacks.{StacksShown}
use Rattle.native_stacks.specs.Text.{thread_head, thread_text as native_thread}
use Rattle.native_stacks.specs.Threads.{NativeShown}
use Rattle.paired_stacks.specs.declared.stack.PairedStack.{PairedStack}
use Rattle.py_fronts.specs.declared.salvaged.SalvagedInterpreter.{SalvagedInterpreter}
use Rattle.stack_texts.specs.Fronts.{front_at}
use Rattle.stack_texts.specs.Items.{stack_text}

-- one stack of a thread's Python frames and its native ones
abbrev pub one_text : List (List ℕ) → (limit : ℕ) → List SalvagedInterpreter → NativeShown → PairedStack → List ℕ
one_text files limit is t p = thread_head t ++ stack_text files limit t (front_at is p.thread) p.items.items

-- the text of a native thread: in one stack with Python's frames, where they were paired
abbrev pub thread_text : List (List ℕ) → (limit : ℕ) → List SalvagedInterpreter → NativeShown → Option PairedStack
    → List ℕ
thread_text files limit is t (Some p) = one_text files limit is t p
thread_text files limit is t None = native_thread files limit t

-- what is told of the next thread, and of those behind it
abbrev pub first_pair : List (Option PairedStack) → Option PairedStack
first_pair [] = None
first_pair (p ∷ ps) = p

-- the pairs of the threads behind the first
abbrev pub other_pairs : List (Option PairedStack) → List (Option PairedStack)
other_pairs [] = []
other_pairs (p ∷ ps) = ps

-- of each thread, in order
unfoldable pub threads_text : List (List ℕ) → (limit : ℕ) → List SalvagedInterpreter → List NativeShown
    → List (Option PairedStack) → List ℕ
threads_text files limit is [] ps = []
threads_text files limit is (t ∷ ts) ps =
    thread_text files limit is t (first_pair ps) ++ threads_text files limit is ts (other_pairs ps)

-- the text of all native threads
abbrev pub stacks_text : (limit : ℕ) → List SalvagedInterpreter → StacksShown → List (Option PairedStack) → List ℕ
stacks_text limit is s ps = threads_text s.files limit is s.threads ps
