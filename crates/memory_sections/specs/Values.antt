-- The values of the sections that are read in a process's memory: null in one that isn't asked for.
use Rattle.std.specs.Prelude.{ℕ, Option, Some, None, Vec}
use Rattle.std.specs.Global.{Global}
use Rattle.serde_json.specs.Data.{Data, null}
use Rattle.native_stacks.specs.Stacks.{stacks_shown}
use Rattle.native_stacks.specs.Trees.{stacks_tree}
use Rattle.native_stacks.specs.declared.stacks.NativeStacks.{NativeStacks}
use Rattle.paired_stacks.specs.Trees.{all_tree as paired_tree}
use Rattle.paired_stacks.specs.declared.stack.PairedStack.{PairedStack}
use Rattle.exception_texts.specs.LastTrees.{all_exceptions_tree}
use Rattle.exception_texts.specs.declared.told.InterpreterExceptions.{InterpreterExceptions}
use Rattle.heap_texts.specs.Trees.{heaps_tree}
use Rattle.py_heap.specs.declared.heap.Heaps.{Heaps}
use Rattle.py_waits.specs.Trees.{waits_tree}
use Rattle.py_waits.specs.declared.told.InterpreterWaits.{InterpreterWaits}
use Rattle.task_texts.specs.Trees.{all_tasks_tree}
use Rattle.task_texts.specs.declared.told.InterpreterTasks.{InterpreterTasks}
use Rattle.thread_names.specs.Trees.{names_tree}
use Rattle.thread_names.specs.declared.names.InterpreterNames.{InterpreterNames}

-- JSON of the names; null where they aren't asked for
abbrev pub names_tree_if : Option (Vec InterpreterNames Global) → Data
names_tree_if None = null
names_tree_if (Some names) = names_tree names.items

-- JSON of the tasks; null where they aren't asked for
abbrev pub tasks_tree_if : Option (Vec InterpreterTasks Global) → Data
tasks_tree_if None = null
tasks_tree_if (Some tasks) = all_tasks_tree tasks.items

-- JSON of the exceptions; null where they aren't asked for
abbrev pub exceptions_tree_if : Option (Vec InterpreterExceptions Global) → Data
exceptions_tree_if None = null
exceptions_tree_if (Some exceptions) = all_exceptions_tree exceptions.items

-- JSON of the waits; null where they aren't asked for
abbrev pub waits_tree_if : Option (Vec InterpreterWaits Global) → Data
waits_tree_if None = null
waits_tree_if (Some waits) = waits_tree waits.items

-- JSON of the native stacks; null where they aren't asked for
abbrev pub native_tree_if : (limit : ℕ) → Option NativeStacks → Data
native_tree_if limit None = null
native_tree_if limit (Some stacks) = stacks_tree limit (stacks_shown stacks)

-- JSON of the stacks in one; null where native stacks aren't asked for
abbrev pub paired_tree_if : Option (Vec (Option PairedStack) Global) → Data
paired_tree_if None = null
paired_tree_if (Some stacks) = paired_tree stacks.items

-- JSON of the heap; null where it isn't asked for
abbrev pub heap_tree_if : Option Heaps → Data
heap_tree_if None = null
heap_tree_if (Some heaps) = heaps_tree heaps
