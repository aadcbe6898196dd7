-- The name of a thread among those that are told.
use Rattle.std.specs.Prelude.{ℕ, nat_eq, List, [], Option, Some, None}
use Rattle.std.specs.List.{find}
use Rattle.thread_names.specs.declared.names.InterpreterNames.{InterpreterNames}
use Rattle.thread_names.specs.declared.names.ThreadName.{ThreadName}

-- the threads whose names were told
abbrev pub threads_of : Option InterpreterNames → List ThreadName
threads_of None = []
threads_of (Some told) = told.threads.items

-- the threads of the first interpreter at an address
abbrev pub threads_named : List InterpreterNames → ℕ → List ThreadName
threads_named names a = threads_of (find (λ (told : InterpreterNames). nat_eq told.interpreter a) names)

-- the name of a thread, where it is told
abbrev pub name_in : Option ThreadName → Option (List ℕ)
name_in None = None
name_in (Some thread) = thread.name

-- the name of the first thread of an id
abbrev pub name_of : List ThreadName → ℕ → Option (List ℕ)
name_of threads id = name_in (find (λ (thread : ThreadName). nat_eq thread.thread_id id) threads)
