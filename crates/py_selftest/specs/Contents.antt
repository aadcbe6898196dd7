-- Questions whose answers are known, of what the modules `sys` and `builtins` have: a program can change that. That an
-- interpreter has its modules in a dict, by their names, and a module what it defines in its own, is CPython's rule,
-- and so are the values (`sys.maxunicode` from 3.3 on, `sys.float_info` of IEEE 754's binary64, `True`); which are
-- asked, of the first interpreter alone, and that so many slots of a dict are looked at, at most, is this project's.
use Rattle.std.specs.Prelude.{ℕ, ℤ, ◌+◌, ◌==◌, ◌&&◌, not, is_some, Bool, List, [], ◌∷◌, codes}
use Rattle.std.specs.Prelude.{Option, Some, None, Result, Ok, Err}
use Rattle.std.specs.Int.{w64, cast_unsigned}
use Rattle.process_memory.specs.Memory.{Memory, Fault, Found, ◌>>=◌, word_at}
use Rattle.process_memory.specs.declared.memory.ReadFault.{ReadFault}
use Rattle.process_memory.specs.declared.memory.ReadFault.TheVariants.{OutOfMemory}
use Rattle.py_fields.specs.declared.layout.Layout.{Layout}
use Rattle.py_builtins.specs.Dicts.{dict_slots}
use Rattle.py_builtins.specs.Integers.{long_at}
use Rattle.py_builtins.specs.Types.{type_at}
use Rattle.py_names.specs.NamesError.{names_fault}
use Rattle.py_names.specs.Search.{find_from}
use Rattle.py_names.specs.Typed.{beside}
use Rattle.py_names.specs.declared.names_error.NamesError.{NamesError}
use Rattle.py_selftest.specs.declared.contents.ContentsTold.{ContentsTold}
use Rattle.py_selftest.specs.declared.questions.Answer.{Answer}
use Rattle.py_selftest.specs.declared.questions.Question.TheVariants as question
use Rattle.py_selftest.specs.declared.walking.ThreadPlace.{ThreadPlace}
use Rattle.py_selftest.specs.Classes.{class_named}
use Rattle.py_selftest.specs.Questions.{add}
use Rattle.py_selftest.specs.Telling.{kept}

-- what the dict at an address has under a name, among its first 1024 slots
unfoldable pub dict_entry : Layout → Memory → ℕ → List ℕ → Found (Option ℕ)
dict_entry l m dict name = do
  slots ← dict_slots l m dict
  search ← find_from l m name slots slots.count 0 1024
  Ok search.found

-- what the module at an address has under a name
unfoldable pub module_entry : Layout → Memory → ℕ → List ℕ → Found (Option ℕ)
module_entry l m module_at name = do
  t ← type_at l m module_at
  dict ← word_at m (beside module_at t.dict_offset)
  dict_entry l m dict name

-- what a module has under a name, where there is such a module
abbrev pub entry_if : Layout → Memory → Option ℕ → List ℕ → Found (Option ℕ)
entry_if l m None name = Ok None
entry_if l m (Some module_at) name = module_entry l m module_at name

-- the module of a name
unfoldable pub module_named : Layout → Memory → ℕ → List ℕ → Found (Option ℕ)
module_named l m interpreter name = do
  modules ← word_at m (interpreter + l.interpreter.modules)
  dict_entry l m modules name

-- what the module of a name has under another one
unfoldable pub content_at : Layout → Memory → ℕ → List ℕ → List ℕ → Found (Option ℕ)
content_at l m interpreter holder name = do
  found ← module_named l m interpreter holder
  entry_if l m found name

-- a number of at most two digits is this one
abbrev pub is_number : ℤ × Bool → ℕ → Bool
is_number told n = not told.1 && cast_unsigned w64 told.0 == n

-- an object has this number
unfoldable pub number_told : Layout → Memory → ℕ → ℕ → Found (Option Bool)
number_told l m object n = do
  told ← long_at l m object
  Ok (Some (is_number told n))

-- whether the object is 1114111, where there is one (`sys.maxunicode`)
abbrev pub largest_if : Layout → Memory → Option ℕ → Found (Option Bool)
largest_if l m None = Ok None
largest_if l m (Some object) = number_told l m object 1114111

-- `sys.maxunicode` is 1114111
unfoldable pub largest_told : Layout → Memory → ℕ → Found (Option Bool)
largest_told l m interpreter = do
  object ← content_at l m interpreter (codes "sys") (codes "maxunicode")
  largest_if l m object

-- the first item of what stands there as a tuple is the largest finite number
unfoldable pub float_at : Layout → Memory → ℕ → Found (Option Bool)
float_at l m object = do
  first ← word_at m (object + l.tuple.at)
  value ← word_at m (first + l.float.value)
  Ok (Some (value == 9218868437227405311))

-- whether the tuple's first item is the largest finite number, where there is a tuple (`sys.float_info`)
abbrev pub float_if : Layout → Memory → Option ℕ → Found (Option Bool)
float_if l m None = Ok None
float_if l m (Some object) = float_at l m object

-- the first item of `sys.float_info`
unfoldable pub float_told : Layout → Memory → ℕ → Found (Option Bool)
float_told l m interpreter = do
  object ← content_at l m interpreter (codes "sys") (codes "float_info")
  float_if l m object

-- whether the class has the name that was looked for, and the number is 1
abbrev pub both_told : Option ℕ → ℤ × Bool → Bool
both_told class told = is_some class && is_number told 1

-- an object's class is called `bool`, and its number is 1
unfoldable pub truth_at : Layout → Memory → ℕ → Found (Option Bool)
truth_at l m object = do
  class ← class_named l m object (codes "bool")
  told ← long_at l m object
  Ok (Some (both_told class told))

-- whether the object is of `bool` and 1, where there is one
abbrev pub truth_if : Layout → Memory → Option ℕ → Found (Option Bool)
truth_if l m None = Ok None
truth_if l m (Some object) = truth_at l m object

-- `True` of `builtins` is of `bool`, and 1
unfoldable pub truth_told : Layout → Memory → ℕ → Found (Option Bool)
truth_told l m interpreter = do
  object ← content_at l m interpreter (codes "builtins") (codes "True")
  truth_if l m object

-- a reader's result: what is told, none where it can't be read, and out of memory, which names no fault
abbrev pub by_fault : Option Fault → Result (Option Bool) ReadFault
by_fault None = Err OutOfMemory
by_fault (Some fault) = Ok None

-- a reader's result with what is told: none where something can't be read, and out of memory stays
abbrev pub told_result : Result (Option Bool) NamesError → Result (Option Bool) ReadFault
told_result (Ok told) = Ok told
told_result (Err error) = by_fault (names_fault error)

-- the answers of an interpreter
unfoldable pub contents_at : Layout → Memory → ℕ → Found ContentsTold
contents_at l m interpreter = do
  largest ← kept (largest_told l m interpreter)
  float ← kept (float_told l m interpreter)
  truth ← kept (truth_told l m interpreter)
  Ok (record { largest = largest; float = float; truth = truth })

-- no answer of an interpreter
abbrev pub contents_none : ContentsTold
contents_none = record { largest = None; float = None; truth = None }

-- the interpreter of the first thread
abbrev pub first_interpreter : List ThreadPlace → Option ℕ
first_interpreter [] = None
first_interpreter (thread ∷ threads) = Some thread.interpreter

-- the answers of an interpreter, where there is one
abbrev pub contents_if : Layout → Memory → Option ℕ → Found ContentsTold
contents_if l m None = Ok contents_none
contents_if l m (Some interpreter) = contents_at l m interpreter

-- the answers of the interpreter of the first thread
abbrev pub first_contents : Layout → Memory → List ThreadPlace → Found ContentsTold
first_contents l m threads = contents_if l m (first_interpreter threads)

-- those more
abbrev pub add_contents : List Answer → ContentsTold → List Answer
add_contents answers t =
    add (add (add answers question.Largest t.largest) question.Float t.float) question.Truth t.truth
