-- The JSON of names. The keys of an object stand in the order of their bytes.
use Rattle.std.specs.Prelude.{ℕ, ◌++◌, false, List, map, Option, Some, None, codes, encode_utf8_all}
use Rattle.std.specs.Fmt.{digits}
use Rattle.serde_json.specs.Data.{Data, array, member, no_members, null, number, object, string, unsigned}
use Rattle.serde_json.specs.View.{items_of}
use Rattle.py_names.specs.declared.names_error.NamesError.{NamesError}
use Rattle.py_names.specs.declared.names_error.NamesError.TheVariants.{Entries, NoDicts, Object, OutOfMemory}
use Rattle.thread_names.specs.declared.names.InterpreterNames.{InterpreterNames}
use Rattle.thread_names.specs.declared.names.ThreadName.{ThreadName}

-- JSON of a name; null where there is none
abbrev pub name_tree : Option (List ℕ) → Data
name_tree (Some name) = string (encode_utf8_all name)
name_tree None = null

-- why the name of a thread can't be read, in words
abbrev pub thread_fault_word : NamesError → List ℕ
thread_fault_word Entries = codes "more than 256 slots"
thread_fault_word NoDicts = codes "unreadable"
thread_fault_word (Object e) = codes "unreadable"
thread_fault_word OutOfMemory = codes "unreadable"

-- JSON of why a thread's name can't be read
abbrev pub thread_fault_tree : Option NamesError → Data
thread_fault_tree (Some e) = string (thread_fault_word e)
thread_fault_tree None = null

-- JSON of a thread's name
abbrev pub thread_tree : ThreadName → Data
thread_tree t = object (
    member (codes "fault") (thread_fault_tree t.fault) (
    member (codes "name") (name_tree t.name) (
    member (codes "thread_id") (number (unsigned t.thread_id)) no_members)))

-- JSON of the names of threads, in order
abbrev pub threads_tree : List ThreadName → Data
threads_tree threads = array (items_of (map (λ t. thread_tree t) threads))

-- the words for why an interpreter's names can't be read
abbrev pub fault_word : NamesError → List ℕ
fault_word NoDicts = codes "no dicts"
fault_word Entries = codes "more than 65536 slots"
fault_word (Object e) = codes "unreadable"
fault_word OutOfMemory = codes "out of memory"

-- JSON of why an interpreter's names can't be read
abbrev pub fault_tree : Option NamesError → Data
fault_tree (Some e) = string (fault_word e)
fault_tree None = null

-- an address in hexadecimal digits behind `0x`
abbrev pub address_text : ℕ → List ℕ
address_text n = codes "0x" ++ digits 16 false n

-- JSON of the names of an interpreter's threads
abbrev pub interpreter_tree : InterpreterNames → Data
interpreter_tree i = object (
    member (codes "fault") (fault_tree i.fault) (
    member (codes "interpreter") (string (address_text i.interpreter)) (
    member (codes "threads") (threads_tree i.threads.items) (
    member (codes "unread") (number (unsigned i.unread)) no_members))))

-- JSON of the names of all threads
abbrev pub names_tree : List InterpreterNames → Data
names_tree names = array (items_of (map (λ i. interpreter_tree i) names))
