-- The tree of all that is told has no float.
use Rattle.std.proofs.Common.{◌≡◌, ℕ, ℤ, Bool, false, List, Option, Some, None, Result, Ok, Err, refl}
use Rattle.std.specs.Prelude.{◌||◌, Vec, codes}
use Rattle.std.specs.Global.{Global}
use Rattle.serde_json.specs.Data.{boolean, member, no_members, string}
use Rattle.serde_json.specs.Written.{has_float, members_have_float}
use Rattle.repr_json.specs.Shown.{HasNoFloat}
use Rattle.crash_signal.specs.Tables.{meaning_of, name_of}
use Rattle.crash_signal.specs.Trees.{call_tree, cause_tree, fault_tree}
use Rattle.crash_signal.specs.Trees.{plain_tree, sender_tree, signal_tree, untold_tree}
use Rattle.crash_signal.specs.Trees.{word_tree}
use Rattle.crash_signal.specs.declared.told.Cause.{Cause}
use Rattle.crash_signal.specs.declared.told.Cause.TheVariants.{Itself, Process, Fault, NoAddress, System, Call, Code}
use Rattle.crash_signal.specs.declared.told.CrashSignal.{CrashSignal}
use Rattle.crash_signal.specs.declared.told.Untold.{Untold}
use Rattle.crash_signal.specs.declared.told.Untold.TheVariants.{NoSignal, NoNote, Short, Other}
use Rattle.thread_registers.specs.Threads.{ThreadShown}
use Rattle.thread_registers.specs.Trees.{threads_tree}
use Rattle.thread_registers.proofs.Plain.{no_float as threads}
use Rattle.memory_sections.specs.Told.{names_given}
use Rattle.memory_sections.specs.Values.{waits_tree_if}
use Rattle.py_waits.specs.declared.told.InterpreterWaits.{InterpreterWaits}
use Rattle.salvage_json.proofs.Trees.{ended, integer, interpreters, process, signal}
use Rattle.memory_sections.proofs.Plain.{exceptions, heap, names, native, paired, tasks, waits}
use Rattle.missed_reads.specs.Told.{RefusedTold, missed_tree}
use Rattle.missed_reads.proofs.NoFloat.{no_float as missed}
use Rattle.py_selftest.specs.Checking.{CheckShown}
use Rattle.py_selftest.specs.Trees.{check_tree}
use Rattle.py_selftest.proofs.Plain.{no_float as checked}
use Rattle.salvage_report.specs.LayoutChecked.{check_of}
use Rattle.salvage_report.specs.Tree.{left_tree, missing_tree, section_tree, told_version}
use Rattle.salvage_report.specs.Sections.{missing_shown, registers_shown}
use Rattle.shown_values.specs.LeftOut.{values_left_out, with_left_out}
use Rattle.salvage_report.specs.declared.left.Left.{Left}

-- ---- how the signal came about

word : (w : Option (List ℕ)) → has_float (word_tree w) ≡ false
word (Some w) = refl
word None = refl

plain : (kind : List ℕ) (s code : ℤ) → has_float (plain_tree kind s code) ≡ false
plain kind s code = λ i. integer code i || (word (name_of s) i || (integer s i || false))

sender : (kind : List ℕ) (s code pid : ℤ) (uid : ℕ) → has_float (sender_tree kind s code pid uid) ≡ false
sender kind s code pid uid =
    λ i. integer code i || (word (name_of s) i || (integer pid i || (integer s i || (false || false))))

fault : (s code : ℤ) (address : ℕ) → has_float (fault_tree s code address) ≡ false
fault s code address =
    λ i. integer code i || (word (meaning_of s code) i || (word (name_of s) i || (integer s i || false)))

call : (s code : ℤ) (address : ℕ) (number : ℤ) → has_float (call_tree s code address number) ≡ false
call s code address number = λ i. integer number i || (integer code i || (word (name_of s) i || (integer s i || false)))

cause : (s code : ℤ) (c : Cause) → has_float (cause_tree s code c) ≡ false
cause s code (Itself pid uid) = sender (codes "itself") s code pid uid
cause s code (Process pid uid) = sender (codes "process") s code pid uid
cause s code (Fault address) = fault s code address
cause s code NoAddress = plain (codes "no address") s code
cause s code System = plain (codes "system") s code
cause s code (Call address number) = call s code address number
cause s code Code = plain (codes "code") s code

untold : (why : Untold) → has_float (untold_tree why) ≡ false
untold NoSignal = refl
untold NoNote = refl
untold Short = refl
untold (Other s) = λ i. integer s i || false

info : (told : Result CrashSignal Untold) → has_float (signal_tree told) ≡ false
info (Ok s) = cause s.signal s.code s.cause
info (Err why) = untold why

-- ---- the sections, and the whole

info_section : (told : Option (Result CrashSignal Untold)) → has_float (section_tree signal_tree told) ≡ false
info_section None = refl
info_section (Some told) = info told

threads_section : (told : Option (List ThreadShown)) → has_float (section_tree threads_tree told) ≡ false
threads_section None = refl
threads_section (Some told) = threads told

missing_section : (told : Option RefusedTold) → has_float (section_tree missed_tree told) ≡ false
missing_section None = refl
missing_section (Some told) = missed told

check_section : (told : Option CheckShown) → has_float (section_tree check_tree told) ≡ false
check_section None = refl
check_section (Some told) = checked told

pub missing_no_float : (told : RefusedTold) → has_float (missing_tree told) ≡ false
missing_no_float told = λ i. missed told i || false

-- the key that says how many values are left out
counted : (count : Option ℕ) (version : List ℕ) (named : Bool) (w : Option (Vec InterpreterWaits Global))
    → members_have_float (with_left_out count (member (codes "version") (string version)
    (member (codes "version_by_names") (boolean named) (member (codes "waits") (waits_tree_if w) no_members)))) ≡ false
counted None version named w = λ i. false || (false || (waits w i || false))
counted (Some n) version named w = λ i. false || (false || (false || (waits w i || false)))

pub no_float : (limit : ℕ) (left : Left) → HasNoFloat left.values → has_float (left_tree limit left) ≡ false
no_float limit left plain = λ i. exceptions left.memory.exceptions i
    || (heap left.memory.heap i || (interpreters left.values plain left.salvaged.crash (names_given left.memory.names)
    left.salvaged.interpreters.items i
    || (check_section (check_of left.check) i || (missing_section (missing_shown left.told.missing) i
    || (false || (names left.memory.names i || (native limit left.memory.native i || (process left.process
    i || (threads_section (registers_shown left.told.registers) i || (ended left.salvaged.looked i
    || (signal left.signal i || (info_section left.told.signal i || (paired left.memory.stacks i
    || (tasks left.memory.tasks i
    || counted (values_left_out left.memory.values) (told_version left.named left.version) left.named
    left.memory.waits i))))))))))))))
