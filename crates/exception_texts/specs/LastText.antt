-- The lines of the last exception that no code handled, behind those of an interpreter's threads.
use Rattle.std.specs.Prelude.{ℕ, ◌++◌, List, [], ◌∷◌, map, Option, Some, None, codes}
use Rattle.std.specs.List.{concat}
use Rattle.exception_texts.specs.Plan.{lines_of}
use Rattle.exception_texts.specs.Text.{interpreter_text, lines_text}
use Rattle.exception_texts.specs.declared.plan.Todo.TheVariants.{Show}
use Rattle.exception_texts.specs.declared.told.InterpreterExceptions.{InterpreterExceptions}
use Rattle.py_exceptions.specs.Last.{key_of}
use Rattle.py_exceptions.specs.declared.last.LastException.{LastException}
use Rattle.py_exceptions.specs.declared.last.LastFound.{LastFound}
use Rattle.py_exceptions.specs.declared.last.LastFound.TheVariants as found
use Rattle.py_exceptions.specs.declared.last.LastName.{LastName}
use Rattle.py_exceptions.specs.declared.thread.ToldThread.{ToldThread}

-- how the lines about the last exception that no code handled begin
unfoldable pub last_lead : List ℕ
last_lead = codes "Last exception that no code handled"

-- that what follows stands in `sys`, and under which name
abbrev pub last_title : LastName → List ℕ
last_title name = last_lead ++ (codes " (sys." ++ (key_of name ++ codes "):\n"))

-- how the line ends where that exception can't be read
unfoldable pub lost_end : List ℕ
lost_end = codes " can't be read\n"

-- the line for a last exception that can't be read, with its name in `sys`
abbrev pub lost_last : LastName → List ℕ
lost_last name = last_lead ++ (codes ": sys." ++ (key_of name ++ lost_end))

-- the exception at an address, with what it leads to
abbrev pub alone_lines : ℕ → ToldThread → List ℕ
alone_lines a t = lines_text t (lines_of t.thread.met.items (Show 0 a ∷ []))

-- the lines of the last exception under its name in `sys`; none where there is none
abbrev pub found_text : LastName → LastFound → List ℕ
found_text name found.Nothing = []
found_text name (found.Exception a told) = last_title name ++ alone_lines a told
found_text name found.Unreadable = lost_last name

-- the lines of the last exception that no code handled; none where it isn't described
abbrev pub last_text : Option LastException → List ℕ
last_text None = []
last_text (Some t) = found_text t.name t.found

-- those of an interpreter's threads, and behind them the last one that no code handled
abbrev pub whole_text : InterpreterExceptions → List ℕ
whole_text i = interpreter_text i ++ last_text i.last

-- those of each interpreter, in order
abbrev pub all_exceptions_text : List InterpreterExceptions → List ℕ
all_exceptions_text is = concat (map (λ i. whole_text i) is)
