-- The lines of the sections that are read in a process's memory.
use Rattle.std.specs.Prelude.{ℕ, ◌==◌, if◌then◌else◌, decimal, ◌++◌, false, true, List, [], map, Option, Some, None}
use Rattle.std.specs.Prelude.{Vec, codes}
use Rattle.std.specs.Fmt.{digits}
use Rattle.std.specs.Global.{Global}
use Rattle.std.specs.List.{concat}
use Rattle.py_names.specs.declared.names_error.NamesError.{NamesError}
use Rattle.salvage_texts.specs.Escape.{escaped}
use Rattle.native_stacks.specs.Stacks.{stacks_shown}
use Rattle.native_stacks.specs.declared.stacks.NativeStacks.{NativeStacks}
use Rattle.paired_stacks.specs.declared.stack.PairedStack.{PairedStack}
use Rattle.py_fronts.specs.declared.salvaged.SalvagedInterpreter.{SalvagedInterpreter}
use Rattle.stack_texts.specs.Stacks.{stacks_text}
use Rattle.exception_texts.specs.LastText.{all_exceptions_text}
use Rattle.exception_texts.specs.declared.told.InterpreterExceptions.{InterpreterExceptions}
use Rattle.task_texts.specs.Text.{all_tasks_text}
use Rattle.task_texts.specs.declared.told.InterpreterTasks.{InterpreterTasks}
use Rattle.thread_names.specs.Trees.{fault_word, thread_fault_word}
use Rattle.thread_names.specs.declared.names.InterpreterNames.{InterpreterNames}
use Rattle.thread_names.specs.declared.names.ThreadName.{ThreadName}
use Rattle.heap_texts.specs.Text.{heaps_text}
use Rattle.py_heap.specs.declared.heap.Heaps.{Heaps}
use Rattle.py_waits.specs.Text.{waits_text as all_waits_text}
use Rattle.py_waits.specs.declared.told.InterpreterWaits.{InterpreterWaits}
use Rattle.memory_sections.specs.declared.told.MemoryTold.{MemoryTold}

-- what stands in front of a thread's name
abbrev pub lead_text : ℕ → List ℕ
lead_text id = codes "Name of thread 0x" ++ (digits 16 true id ++ codes ": ")

-- a thread's name, where it has one, in which what could end the line is escaped
abbrev pub name_text : ℕ → Option (List ℕ) → List ℕ
name_text id None = []
name_text id (Some name) = lead_text id ++ (escaped false name ++ codes "\n")

-- what stands in front of why a thread's name isn't told
abbrev pub lost_lead : ℕ → List ℕ
lost_lead id = codes "No name of thread 0x" ++ (digits 16 true id ++ codes ": ")

-- why a thread's name isn't told, where there is a fault
abbrev pub lost_text : ℕ → Option NamesError → List ℕ
lost_text id None = []
lost_text id (Some e) = lost_lead id ++ (thread_fault_word e ++ codes "\n")

-- the line of a thread's name, or of why it can't be read
abbrev pub thread_text : ThreadName → List ℕ
thread_text t = name_text t.thread_id t.name ++ lost_text t.thread_id t.fault

-- the lines of threads' names
abbrev pub threads_text : List ThreadName → List ℕ
threads_text threads = concat (map (λ t. thread_text t) threads)

-- what stands in front of how many slots may have a thread whose id isn't known
abbrev pub unread_lead : ℕ → List ℕ
unread_lead interpreter = codes "Names not read of the interpreter at 0x" ++ (digits 16 false interpreter ++ codes ": ")

-- how many these are, where there is one
abbrev pub unread_text : InterpreterNames → List ℕ
unread_text i = if i.unread == 0 then [] else unread_lead i.interpreter ++ (decimal i.unread ++ codes "\n")

-- what stands in front of why no name of an interpreter is told
abbrev pub fault_lead : ℕ → List ℕ
fault_lead interpreter = codes "No names of the interpreter at 0x" ++ (digits 16 false interpreter ++ codes ": ")

-- why no name of an interpreter is told, where there is a fault
abbrev pub fault_line : ℕ → Option NamesError → List ℕ
fault_line interpreter None = []
fault_line interpreter (Some e) = fault_lead interpreter ++ (fault_word e ++ codes "\n")

-- the line of why an interpreter's names can't be read
abbrev pub fault_text : InterpreterNames → List ℕ
fault_text i = fault_line i.interpreter i.fault

-- the names of an interpreter's threads
abbrev pub interpreter_text : InterpreterNames → List ℕ
interpreter_text i = fault_text i ++ (threads_text i.threads.items ++ unread_text i)

-- the names of all threads, by interpreter
abbrev pub all_names_text : List InterpreterNames → List ℕ
all_names_text names = concat (map (λ i. interpreter_text i) names)

-- the section of names; nothing where it isn't asked for
abbrev pub names_text : Option (Vec InterpreterNames Global) → List ℕ
names_text None = []
names_text (Some names) = all_names_text names.items

-- ---- tasks

-- the section of tasks; nothing where it isn't asked for
abbrev pub tasks_text : Option (Vec InterpreterTasks Global) → List ℕ
tasks_text None = []
tasks_text (Some tasks) = all_tasks_text tasks.items

-- ---- exceptions

-- the section of exceptions; nothing where it isn't asked for
abbrev pub exceptions_text : Option (Vec InterpreterExceptions Global) → List ℕ
exceptions_text None = []
exceptions_text (Some exceptions) = all_exceptions_text exceptions.items

-- ---- waits

-- the section of waits; nothing where it isn't asked for
abbrev pub waits_text : Option (Vec InterpreterWaits Global) → List ℕ
waits_text None = []
waits_text (Some waits) = all_waits_text waits.items

-- ---- native stacks

-- one stack of the Python frames and the native ones of each thread
abbrev pub pairs_given : Option (Vec (Option PairedStack) Global) → List (Option PairedStack)
pairs_given None = []
pairs_given (Some pairs) = pairs.items

-- the section of native stacks; nothing where it isn't asked for
abbrev pub native_text : (limit : ℕ) → List SalvagedInterpreter → Option NativeStacks → List (Option PairedStack)
    → List ℕ
native_text limit is None pairs = []
native_text limit is (Some stacks) pairs = stacks_text limit is (stacks_shown stacks) pairs

-- ---- what heaps hold

-- the section of the heap; nothing where it isn't asked for
abbrev pub heap_text : Option Heaps → List ℕ
heap_text None = []
heap_text (Some heaps) = heaps_text heaps

-- all of them, in order
abbrev pub memory_text : (limit : ℕ) → List SalvagedInterpreter → MemoryTold → List ℕ
memory_text limit is told = names_text told.names ++ (tasks_text told.tasks ++ (exceptions_text told.exceptions
    ++ (waits_text told.waits ++ (native_text limit is told.native (pairs_given told.stacks)
    ++ heap_text told.heap))))
