-- The lines of a native stack: one that says whose thread it is, and those of the stack.
use Rattle.std.specs.Prelude.{ℕ, ◌++◌, Bool, true, false, List, [], map, Option, Some, None, codes, decimal}
use Rattle.std.specs.Fmt.{digits}
use Rattle.std.specs.List.{concat}
use Rattle.thread_registers.specs.declared.threads.Whose.{Whose}
use Rattle.thread_registers.specs.declared.threads.Whose.TheVariants.{Python, Other, Untold}
use Rattle.native_frames.specs.Text.{stack_text}
use Rattle.native_frames.specs.Threads.{StackShown}
use Rattle.native_stacks.specs.Stacks.{StacksShown}
use Rattle.native_stacks.specs.Threads.{NativeShown}

-- whose thread it is; Python's id is written as the lines of Python's stacks have it
abbrev pub head_text : (id : ℕ) → Whose → List ℕ
head_text id (Python found) =
    codes "Thread " ++ (decimal id ++ (codes " (Python's 0x" ++ (digits 16 true found.thread_id ++ codes ")")))
head_text id Other = codes "Native thread " ++ decimal id
head_text id Untold = codes "Thread " ++ (decimal id ++ codes " (whose is not told)")

-- how a thread's first line ends: with the mark of the one that got the signal, or without
abbrev pub crash_text : Bool → List ℕ
crash_text true = codes " (crashed)\n"
crash_text false = codes "\n"

-- the lines of a stack, where there is one
abbrev pub part_text : List (List ℕ) → (is_guess : Bool) → (limit : ℕ) → Option StackShown → List ℕ
part_text files is_guess limit (Some s) = stack_text files is_guess limit s
part_text files is_guess limit None = []

-- the head of a native thread: its ids, and whether it crashed
abbrev pub thread_head : NativeShown → List ℕ
thread_head t = head_text t.system_id t.whose ++ crash_text t.is_crashed

-- the lines of a thread: whose it is, its stack, and the one behind a guess
abbrev pub thread_text : List (List ℕ) → (limit : ℕ) → NativeShown → List ℕ
thread_text files limit t =
    thread_head t ++ (part_text files false limit t.stack ++ part_text files true limit t.guessed)

-- the lines of all threads
abbrev pub stacks_text : (limit : ℕ) → StacksShown → List ℕ
stacks_text limit s = concat (map (λ t. thread_text s.files limit t) s.threads)
