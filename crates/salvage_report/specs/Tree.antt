-- The JSON of what is left of a process, and of what is told in its sections: one object, which has the key of each
-- section, null where it isn't asked for; how many values of locals are left out has a key where values are asked for.
use Rattle.std.specs.Prelude.{ℕ, ◌++◌, Bool, true, false, List, map, Option, Some, None, codes, decimal}
use Rattle.json.specs.Layout.{pretty}
use Rattle.json.specs.Tree.{json_tokens}
use Rattle.serde_json.specs.Data.{Data, Members, boolean, member, no_members, null, object, put, string}
use Rattle.serde_json.specs.Written.{outline}
use Rattle.py_fields.specs.Version.{version_text}
use Rattle.py_fields.specs.declared.version.Version.{Version}
use Rattle.crash_signal.specs.Trees.{signal_tree as info_tree}
use Rattle.thread_registers.specs.Trees.{threads_tree}
use Rattle.salvage_json.specs.Salvaged.{ended_tree, interpreters_tree, process_tree, signal_tree}
use Rattle.memory_sections.specs.Told.{names_given}
use Rattle.memory_sections.specs.Values.{exceptions_tree_if, names_tree_if, native_tree_if, tasks_tree_if}
use Rattle.memory_sections.specs.Values.{heap_tree_if, paired_tree_if, waits_tree_if}
use Rattle.missed_reads.specs.Told.{RefusedTold, missed_tree}
use Rattle.py_selftest.specs.Trees.{check_tree}
use Rattle.salvage_report.specs.LayoutChecked.{check_of}
use Rattle.salvage_report.specs.Sections.{missing_shown, registers_shown}
use Rattle.shown_values.specs.LeftOut.{put_left_out, values_left_out, with_left_out}
use Rattle.salvage_report.specs.declared.left.Left.{Left}

-- a section's value, or null
abbrev pub section_tree : {T : Type 0} → (T → Data) → Option T → Data
section_tree tree None = null
section_tree tree (Some told) = tree told

-- the members whose keys stand first in the order of their bytes, before the rest
abbrev pub first_members : (limit : ℕ) → Left → Members → Members
first_members limit left rest =
    member (codes "exceptions") (exceptions_tree_if left.memory.exceptions) (
    member (codes "heap") (heap_tree_if left.memory.heap) (
    member (codes "interpreters") (interpreters_tree left.values left.salvaged.crash (names_given left.memory.names)
    left.salvaged.interpreters.items) (
    member (codes "layout_check") (section_tree check_tree (check_of left.check)) (
    member (codes "missing") (section_tree missed_tree (missing_shown left.told.missing)) (
    member (codes "more") (boolean left.salvaged.more) (
    member (codes "names") (names_tree_if left.memory.names) (
    member (codes "native") (native_tree_if limit left.memory.native) rest)))))))

-- these and those behind them, before the last ones: how many values are left out, the version,
-- and what threads wait for
abbrev pub most_members : (limit : ℕ) → Left → Members → Members
most_members limit left rest = first_members limit left (
    member (codes "process") (process_tree left.process) (
    member (codes "registers") (section_tree threads_tree (registers_shown left.told.registers)) (
    member (codes "search_ended") (ended_tree left.salvaged.looked) (
    member (codes "signal") (signal_tree left.signal) (
    member (codes "signal_info") (section_tree info_tree left.told.signal) (
    member (codes "stacks") (paired_tree_if left.memory.stacks) (
    member (codes "tasks") (tasks_tree_if left.memory.tasks) rest)))))))

-- a version; of one that the names of files tell the major and the minor number alone
abbrev pub told_version : (named : Bool) → Version → List ℕ
told_version false v = version_text v
told_version true v = decimal v.major ++ (codes "." ++ decimal v.minor)

-- how many values are left out, the version, and what threads wait for, put into members that are there
abbrev pub with_last : Left → Members → Members
with_last left members = put (codes "waits") (waits_tree_if left.memory.waits) (
    put (codes "version_by_names") (boolean left.named) (
    put (codes "version") (string (told_version left.named left.version)) (
    put_left_out (values_left_out left.memory.values) members)))

-- the keys stand in the order of their bytes
abbrev pub left_tree : (limit : ℕ) → Left → Data
left_tree limit left = object (most_members limit left (with_left_out (values_left_out left.memory.values) (
    member (codes "version") (string (told_version left.named left.version)) (
    member (codes "version_by_names") (boolean left.named) (
    member (codes "waits") (waits_tree_if left.memory.waits) no_members)))))

-- the text of a tree: each item and member on a line of its own, two spaces deeper for each bracket
abbrev pub pretty_text : Data → List ℕ
pretty_text d = pretty (json_tokens (outline d))

-- the JSON of what is left
abbrev pub left_json : (limit : ℕ) → Left → List ℕ
left_json limit left = pretty_text (left_tree limit left) ++ codes "\n"

-- which reads were refused, where nothing else is told: an object of its own
abbrev pub missing_tree : RefusedTold → Data
missing_tree refused = object (member (codes "missing") (missed_tree refused) no_members)

-- the JSON of the refused reads alone
abbrev pub missing_json : RefusedTold → List ℕ
missing_json refused = pretty_text (missing_tree refused) ++ codes "\n"
