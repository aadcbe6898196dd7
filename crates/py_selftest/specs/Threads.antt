-- Questions whose answers are known, of a thread and of its interpreter. That a thread names its interpreter, and an
-- interpreter the dict of its modules, is CPython's rule (`PyThreadState`, `PyInterpreterState`), and so is that a
-- thread's id is what glibc's `pthread_self` gives, which on x86-64 is the thread pointer (`fs_base`); which are asked
-- is this project's.
use Rattle.std.specs.Prelude.{ℕ, ◌+◌, ◌/◌, ◌%◌, ◌==◌, nat_lt, Bool, true, false, List, length, Option, Some, None, Ok}
use Rattle.std.specs.List.{list_any}
use Rattle.process_memory.specs.Memory.{Memory, Found, ◌>>=◌, word_at}
use Rattle.py_fields.specs.declared.layout.Layout.{Layout}
use Rattle.py_selftest.specs.declared.questions.Answer.{Answer}
use Rattle.py_selftest.specs.declared.questions.Question.TheVariants as question
use Rattle.py_selftest.specs.declared.threads.ThreadTold.{ThreadTold}
use Rattle.py_selftest.specs.Questions.{add}
use Rattle.py_selftest.specs.Telling.{kept, word_told}

-- a word is this one, where it is in memory
abbrev pub same_word : Option ℕ → ℕ → Option Bool
same_word None this = None
same_word (Some word) this = Some (word == this)

-- an id is one of some thread pointers
abbrev pub is_among : List ℕ → ℕ → Bool
is_among pointers id = list_any (λ pointer. pointer == id) pointers

-- the id of a thread is one of the thread pointers
unfoldable pub pointer_at : Layout → Memory → List ℕ → ℕ → Found (Option Bool)
pointer_at l m pointers thread = do
  id ← word_at m (thread + l.thread.id)
  Ok (Some (is_among pointers id))

-- whether a thread's id is one of the thread pointers; none where no thread pointer is known
abbrev pub pointer_if : Layout → Memory → List ℕ → ℕ → Bool → Found (Option Bool)
pointer_if l m pointers thread true = pointer_at l m pointers thread
pointer_if l m pointers thread false = Ok None

-- the same, where some thread pointer is known
abbrev pub pointer_told : Layout → Memory → List ℕ → ℕ → Found (Option Bool)
pointer_told l m pointers thread = pointer_if l m pointers thread (nat_lt 0 (length pointers))

-- bit 29 of a class's flags: its objects are dicts (`Py_TPFLAGS_DICT_SUBCLASS`)
abbrev pub has_dicts : ℕ → Bool
has_dicts flags = flags / 536870912 % 2 == 1

-- the class of an object says that it is a dict
unfoldable pub class_has_dicts : Layout → Memory → ℕ → Found (Option Bool)
class_has_dicts l m object = do
  class ← word_at m (object + l.object.klass)
  flags ← word_at m (class + l.klass.flags)
  Ok (Some (has_dicts flags))

-- whether an object is a dict, by its class; null is none
abbrev pub dict_if : Layout → Memory → ℕ → Bool → Found (Option Bool)
dict_if l m object true = Ok (Some false)
dict_if l m object false = class_has_dicts l m object

-- an object is a dict; null is none
abbrev pub dict_told : Layout → Memory → ℕ → Found (Option Bool)
dict_told l m object = dict_if l m object (object == 0)

-- what an interpreter names as its modules is a dict
unfoldable pub modules_told : Layout → Memory → ℕ → Found (Option Bool)
modules_told l m interpreter = do
  object ← word_at m (interpreter + l.interpreter.modules)
  dict_told l m object

-- the same, if it was not asked before
abbrev pub modules_if : Layout → Memory → ℕ → Bool → Found (Option Bool)
modules_if l m interpreter true = Ok None
modules_if l m interpreter false = modules_told l m interpreter

-- the answers of the thread at an address, in the chain of the interpreter at `interpreter`, where `before` is that of
-- the thread before it: the interpreter itself is asked with the first one of its threads
unfoldable pub thread_told : Layout → Memory → List ℕ → ℕ → ℕ → ℕ → Found ThreadTold
thread_told l m pointers before interpreter thread = do
  named ← kept (word_told m thread l.thread.interp)
  pointer ← kept (pointer_told l m pointers thread)
  modules ← kept (modules_if l m interpreter (before == interpreter))
  Ok (record { interpreter = same_word named interpreter; pointer = pointer; modules = modules })

-- those of a thread more
abbrev pub add_thread : List Answer → ThreadTold → List Answer
add_thread answers t = add (add (add answers question.Interpreter t.interpreter) question.Pointer t.pointer)
    question.Modules t.modules
