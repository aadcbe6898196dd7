-- Which error of a lower crate is which cause.
use Rattle.elf64_core.specs.declared.error.ElfError.{ElfError}
use Rattle.elf64_core.specs.declared.error.ElfError.TheVariants as elf
use Rattle.image_memory.specs.declared.dump_error.DumpError.{DumpError}
use Rattle.image_memory.specs.declared.dump_error.DumpError.TheVariants as dump
use Rattle.process_memory.specs.declared.memory.ReadFault.{ReadFault}
use Rattle.process_memory.specs.declared.memory.ReadFault.TheVariants as read
use Rattle.py_stacks.specs.declared.error.StackError.{StackError}
use Rattle.py_stacks.specs.declared.error.StackError.TheVariants as stack
use Rattle.py_process.specs.declared.core_error.CoreError.{CoreError}
use Rattle.py_process.specs.declared.core_error.CoreError.TheVariants.{NotElf64, BadHeader, NoNotes, BadNote}
use Rattle.py_process.specs.declared.core_error.CoreError.TheVariants.{UnreadableVersion, NoVersion, NoInterpreter}
use Rattle.py_process.specs.declared.core_error.CoreError.TheVariants.{Unreadable, BadValue, LocalsLimit, ThreadLimit}
use Rattle.py_process.specs.declared.core_error.CoreError.TheVariants.{FrameLimit, ChainLimit, OutOfMemory}
use Rattle.py_process.specs.declared.binary_error.BinaryError.{BinaryError}
use Rattle.py_process.specs.declared.binary_error.BinaryError.TheVariants as binary
use Rattle.py_process.specs.declared.search_error.SearchError.{SearchError}
use Rattle.py_process.specs.declared.search_error.SearchError.TheVariants as search
use Rattle.py_process.specs.declared.version_error.VersionError.{VersionError}
use Rattle.py_process.specs.declared.version_error.VersionError.TheVariants as version

-- why bytes are no core, as a cause
abbrev pub cause_of_dump : DumpError → CoreError
cause_of_dump dump.NotElf64 = NotElf64
cause_of_dump dump.BadHeader = BadHeader
cause_of_dump dump.NoNotes = NoNotes
cause_of_dump dump.BadNote = BadNote
cause_of_dump dump.OutOfMemory = OutOfMemory

-- why there are no stacks, as a cause
abbrev pub cause_of_stacks : StackError → CoreError
cause_of_stacks (stack.Unreadable addr len) = Unreadable addr len
cause_of_stacks (stack.BadValue frame) = BadValue frame
cause_of_stacks (stack.LocalsLimit count) = LocalsLimit count
cause_of_stacks stack.ThreadLimit = ThreadLimit
cause_of_stacks stack.FrameLimit = FrameLimit
cause_of_stacks stack.ChainLimit = ChainLimit
cause_of_stacks stack.OutOfMemory = OutOfMemory

-- why there is no version, as a cause
abbrev pub cause_of_version : VersionError → CoreError
cause_of_version (version.Unreadable addr len) = UnreadableVersion addr len
cause_of_version version.NotFound = NoVersion
cause_of_version version.OutOfMemory = OutOfMemory

-- why there is no interpreter, as a cause
abbrev pub cause_of_search : SearchError → CoreError
cause_of_search search.NotFound = NoInterpreter
cause_of_search search.OutOfMemory = OutOfMemory

-- a range that isn't in memory, on the way to the version
abbrev pub version_unread : ReadFault → VersionError
version_unread (read.Unreadable addr len) = version.Unreadable addr len
version_unread read.OutOfMemory = version.OutOfMemory

-- notes of images aren't read
abbrev pub image_refusal_of : ElfError → BinaryError
image_refusal_of elf.NotElf64 = binary.NotElf64
image_refusal_of elf.BadHeader = binary.BadHeader
image_refusal_of elf.BadNote = binary.BadHeader
image_refusal_of elf.OutOfMemory = binary.OutOfMemory
