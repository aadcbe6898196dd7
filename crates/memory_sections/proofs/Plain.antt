-- The trees of these sections have no float.
use Rattle.std.proofs.Common.{◌≡◌, ℕ, false, Option, Some, None, refl}
use Rattle.std.specs.Prelude.{Vec}
use Rattle.std.specs.Global.{Global}
use Rattle.serde_json.specs.Written.{has_float}
use Rattle.native_stacks.specs.Stacks.{stacks_shown}
use Rattle.native_stacks.specs.declared.stacks.NativeStacks.{NativeStacks}
use Rattle.native_stacks.proofs.Plain.{no_float as stacks}
use Rattle.task_texts.proofs.Plain.{no_float as all_tasks}
use Rattle.task_texts.specs.declared.told.InterpreterTasks.{InterpreterTasks}
use Rattle.thread_names.proofs.Plain.{no_float as all_names}
use Rattle.thread_names.specs.declared.names.InterpreterNames.{InterpreterNames}
use Rattle.exception_texts.proofs.Plain.{no_float as all_exceptions}
use Rattle.exception_texts.specs.declared.told.InterpreterExceptions.{InterpreterExceptions}
use Rattle.py_waits.proofs.Plain.{no_float as all_waits}
use Rattle.py_waits.specs.declared.told.InterpreterWaits.{InterpreterWaits}
use Rattle.heap_texts.proofs.Plain.{no_float as all_heaps}
use Rattle.py_heap.specs.declared.heap.Heaps.{Heaps}
use Rattle.paired_stacks.proofs.Plain.{no_float as all_paired}
use Rattle.paired_stacks.specs.declared.stack.PairedStack.{PairedStack}
use Rattle.memory_sections.specs.Values.{exceptions_tree_if, heap_tree_if, names_tree_if, native_tree_if, paired_tree_if}
use Rattle.memory_sections.specs.Values.{tasks_tree_if, waits_tree_if}

pub names : (told : Option (Vec InterpreterNames Global)) → has_float (names_tree_if told) ≡ false
names None = refl
names (Some told) = all_names told.items

pub tasks : (told : Option (Vec InterpreterTasks Global)) → has_float (tasks_tree_if told) ≡ false
tasks None = refl
tasks (Some told) = all_tasks told.items

pub exceptions : (told : Option (Vec InterpreterExceptions Global)) → has_float (exceptions_tree_if told) ≡ false
exceptions None = refl
exceptions (Some told) = all_exceptions told.items

pub waits : (told : Option (Vec InterpreterWaits Global)) → has_float (waits_tree_if told) ≡ false
waits None = refl
waits (Some told) = all_waits told.items

pub native : (limit : ℕ) (told : Option NativeStacks) → has_float (native_tree_if limit told) ≡ false
native limit None = refl
native limit (Some told) = stacks limit (stacks_shown told)

pub paired : (told : Option (Vec (Option PairedStack) Global)) → has_float (paired_tree_if told) ≡ false
paired None = refl
paired (Some told) = all_paired told.items

pub heap : (told : Option Heaps) → has_float (heap_tree_if told) ≡ false
heap None = refl
heap (Some told) = all_heaps told
