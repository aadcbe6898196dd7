-- The text of what is left of a process, with its head lines; the help; the program's version.
use Rattle.std.specs.Prelude.{ℕ, ℤ, ◌++◌, Bool, true, false, List, [], Option, Some, None, if◌then◌else◌, codes}
use Rattle.std.specs.Prelude.{decimal}
use Rattle.std.specs.Fmt.{signed_decimal}
use Rattle.bstr.specs.Utf8.{lossy_chars}
use Rattle.py_fields.specs.Version.{version_text}
use Rattle.py_fields.specs.declared.version.Version.{Version}
use Rattle.core_texts.specs.Text.{signal_text}
use Rattle.crash_signal.specs.Text.{signal_text as info_text}
use Rattle.thread_registers.specs.Text.{threads_text}
use Rattle.salvage_texts.specs.Escape.{escaped}
use Rattle.salvage_texts.specs.Salvaged.{salvaged_text}
use Rattle.memory_sections.specs.Text.{memory_text}
use Rattle.memory_sections.specs.Told.{names_given}
use Rattle.salvage_words.specs.Salvage.{Salvage}
use Rattle.salvage_report.specs.Tree.{left_json}
use Rattle.py_selftest.specs.Text.{check_text}
use Rattle.salvage_report.specs.LayoutChecked.{check_of}
use Rattle.salvage_report.specs.Sections.{registers_shown}
use Rattle.shown_values.specs.LeftOut.{left_out_text, values_left_out}
use Rattle.salvage_report.specs.declared.left.Left.{Left}

-- the process that a core tells, by its id and arguments, where it tells one; what could end the line is escaped
abbrev pub process_text : Option (ℤ × List ℕ) → List ℕ
process_text None = []
process_text (Some process) = codes "Process " ++ (signed_decimal process.0 ++ (codes ": "
    ++ (escaped false process.1 ++ codes "\n")))

-- the core's name, in which what could end the line is escaped; where it isn't text U+FFFD stands in it
abbrev pub core_name : List ℕ → List ℕ
core_name core = escaped false (lossy_chars core)

-- the version; of one that the names of files tell the major and the minor number alone, and that they do
abbrev pub version_line : (named : Bool) → Version → List ℕ
version_line false v = codes "Python v" ++ (version_text v ++ codes "\n\n")
version_line true v = codes "Python v" ++ (decimal v.major ++ (codes "." ++ (decimal v.minor
    ++ codes " (by the names of files)\n\n")))

-- the text of a section; of one that isn't asked for there is none
abbrev pub section_text : {T : Type 0} → (T → List ℕ) → Option T → List ℕ
section_text text None = []
section_text text (Some told) = text told

-- behind all threads and tasks: the registers, what the process says of the layout, and how many values of locals are
-- left out
abbrev pub rest_text : Left → List ℕ
rest_text left = section_text threads_text (registers_shown left.told.registers)
    ++ (section_text check_text (check_of left.check) ++ left_out_text (values_left_out left.memory.values))

-- the signal, beside the core's name, and how it came about; the process, the version, and what is left; what is told
-- in the sections that are read in memory; and the rest
abbrev pub left_text : List ℕ → (limit : ℕ) → Left → List ℕ
left_text core limit left = signal_text (core_name core) left.signal ++ (section_text info_text left.told.signal
    ++ (process_text left.process ++ (version_line left.named left.version
    ++ (salvaged_text left.values (names_given left.memory.names) left.salvaged
    ++ (memory_text limit left.salvaged.interpreters.items left.memory ++ rest_text left)))))

-- that, or JSON where it is asked for
abbrev pub shown_left : Salvage → Left → List ℕ
shown_left s left =
    if s.json then left_json s.limit left else left_text s.core s.limit left

-- the text of `--help`
unfoldable pub help_text : List ℕ
help_text = codes "pysalvage CORE --layouts FILE [--records FILE] [-n N] [-l].. [-j] [--signal] [--registers]\n"
    ++ (codes "          [--missing] [--check-layout] [--names] [--tasks] [--exceptions] [--waits]\n"
    ++ (codes "          [--native [--strict] [--crashed]] [--heap] [PATH=FILE]..\n\n"
    ++ (codes "What is left of the Python stacks in the core of a broken process, or in one that was cut: each chain "
    ++ (codes "of threads and\nframes as far as it goes. Where no mark stands a chain is whole.\n\n"
    ++ (codes "CORE            the core's file\n"
    ++ (codes "--layouts FILE  the layout file\n"
    ++ (codes "--records FILE  where the fields are that sections need beyond the layouts\n"
    ++ (codes "-n N            the first N frames of a thread and the last N, from 1 to 4096; 100 unless it is said\n"
    ++ (codes "-l              the locals of each frame with their values; more of each value by each more, up to five\n"
    ++ (codes "-j              JSON in place of text\n"
    ++ (codes "--signal        how the signal came about\n"
    ++ (codes "--registers     the registers of each thread, and which of Python's threads it is\n"
    ++ (codes "--missing       in JSON, which ranges were asked for and are not in memory\n"
    ++ (codes "--check-layout  whether the process itself says that the layout is its own\n"
    ++ (codes "--names         the names of the threads, of each interpreter\n"
    ++ (codes "--tasks         the tasks of asyncio, of each interpreter: where they stand and what they wait for\n"
    ++ (codes "--exceptions    the exceptions that each thread raises and handles, with their tracebacks\n"
    ++ (codes "--waits         what each thread waits for: a lock and its owner, the interpreter's lock, or a queue\n"
    ++ (codes "--native        the native stack of each thread, in one with its Python frames\n"
    ++ (codes "--strict        native stacks without guesses\n"
    ++ (codes "--crashed       the native stack of the thread that got the signal alone\n"
    ++ (codes "--heap          the objects of each class that the collector tracks, and their bytes\n"
    ++ (codes "PATH=FILE       FILE is read in place of the file that the process had mapped from PATH\n"
    ++ (codes "--help          this text\n"
    ++ codes "--version       the version of the program\n"))))))))))))))))))))))))

-- the text of `--version`
abbrev pub program_version : List ℕ
program_version = codes "pysalvage 1.0.0\n"
