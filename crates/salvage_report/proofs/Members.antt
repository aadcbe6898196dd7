-- The last members of the tree of all that is told, put behind the others.
use Rattle.std.proofs.Common.{◌≡◌, ℕ, Option, Some, None, refl}
use Rattle.std.specs.Prelude.{codes}
use Rattle.crash_signal.specs.Trees.{signal_tree as info_tree}
use Rattle.memory_sections.specs.Told.{names_given}
use Rattle.memory_sections.specs.Values.{exceptions_tree_if, names_tree_if, native_tree_if, tasks_tree_if}
use Rattle.memory_sections.specs.Values.{heap_tree_if, paired_tree_if, waits_tree_if}
use Rattle.missed_reads.specs.Told.{missed_tree}
use Rattle.py_selftest.specs.Trees.{check_tree}
use Rattle.salvage_json.specs.Salvaged.{ended_tree, interpreters_tree, process_tree, signal_tree}
use Rattle.salvage_report.specs.LayoutChecked.{check_of}
use Rattle.salvage_report.specs.Sections.{missing_shown, registers_shown}
use Rattle.salvage_report.specs.Tree.{left_tree, most_members, section_tree, told_version, with_last}
use Rattle.salvage_report.specs.declared.left.Left.{Left}
use Rattle.serde_json.specs.Data.{Data, Members, boolean, member, no_members, object, put, string}
use Rattle.shown_values.specs.LeftOut.{put_left_out, values_left_out, with_left_out}
use Rattle.thread_registers.specs.Trees.{threads_tree}

-- fifteen members, and those behind them
abbrev fifteen : (a o b c d e f g h i j k l s m : Data) → Members → Members
fifteen a o b c d e f g h i j k l s m rest =
    member (codes "exceptions") a (member (codes "heap") o (
    member (codes "interpreters") b (member (codes "layout_check") c (
    member (codes "missing") d (member (codes "more") e (member (codes "names") f (member (codes "native") g (
    member (codes "process") h (member (codes "registers") i (member (codes "search_ended") j (
    member (codes "signal") k (member (codes "signal_info") l (member (codes "stacks") s (
    member (codes "tasks") m rest))))))))))))))

placed : (count : Option ℕ) (a o b c d e f g h i j k l s m v n w : Data)
    → put (codes "waits") w (put (codes "version_by_names") n (put (codes "version") v
    (put_left_out count (fifteen a o b c d e f g h i j k l s m no_members))))
    ≡ fifteen a o b c d e f g h i j k l s m (with_left_out count (member (codes "version") v
    (member (codes "version_by_names") n (member (codes "waits") w no_members))))
placed None a o b c d e f g h i j k l s m v n w = refl
placed (Some x) a o b c d e f g h i j k l s m v n w = refl

pub last_placed : (limit : ℕ) (left : Left)
    → ◌≡◌ {A = Data} (object (with_last left (most_members limit left no_members))) (left_tree limit left)
last_placed limit left = λ i. object (placed (values_left_out left.memory.values)
    (exceptions_tree_if left.memory.exceptions) (heap_tree_if left.memory.heap)
    (interpreters_tree left.values left.salvaged.crash (names_given left.memory.names)
    left.salvaged.interpreters.items)
    (section_tree check_tree (check_of left.check)) (section_tree missed_tree (missing_shown left.told.missing))
    (boolean left.salvaged.more) (names_tree_if left.memory.names) (native_tree_if limit left.memory.native)
    (process_tree left.process) (section_tree threads_tree (registers_shown left.told.registers))
    (ended_tree left.salvaged.looked) (signal_tree left.signal) (section_tree info_tree left.told.signal)
    (paired_tree_if left.memory.stacks) (tasks_tree_if left.memory.tasks)
    (string (told_version left.named left.version)) (boolean left.named)
    (waits_tree_if left.memory.waits) i)
