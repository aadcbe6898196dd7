-- What is told of what was not read.
use Rattle.std.proofs.Common.{ℕ, refl}
use Rattle.std.specs.Prelude.{Option, Some, None, Result, Ok, Err}
use Rattle.process_memory.specs.Memory.{Found, Fault}
use Rattle.process_memory.specs.Seen.{Answers, FaultIs}
use Rattle.py_names.specs.NamesError.{names_fault}
use Rattle.py_names.specs.declared.names_error.NamesError.{NamesError}
use Rattle.py_tasks.specs.Entries.{IsLostEntry, entry_or}
use Rattle.py_tasks.specs.Shown.{EntryShown, TasksShown}
use Rattle.py_tasks.specs.Tasks.{IsLostTasks, tasks_or}

entry_by : (a : ℕ) (d : Found (Option EntryShown)) (r : Result (Option EntryShown) NamesError) (o : Option Fault)
    → FaultIs d o → IsLostEntry a o r → Answers names_fault (Ok (entry_or a d)) r
entry_by a d r None q h = rw h (record { is = tt })
entry_by a d r (Some f) q h = rw (h, q) (record { is = refl })

pub entry_lost : (a : ℕ) (d : Found (Option EntryShown)) (e : NamesError) (r : Result (Option EntryShown) NamesError)
    → Answers {T = Option EntryShown} names_fault d (Err e) → IsLostEntry a (names_fault e) r
    → Answers names_fault (Ok (entry_or a d)) r
entry_lost a d e r p h = entry_by a d r (names_fault e) p.is h

tasks_by : (d : Found TasksShown) (r : Result TasksShown NamesError) (o : Option Fault) → FaultIs d o
    → IsLostTasks o r → Answers names_fault (Ok (tasks_or d)) r
tasks_by d r None q h = rw h (record { is = tt })
tasks_by d r (Some f) q h = rw (h, q) (record { is = refl })

pub tasks_lost : (d : Found TasksShown) (e : NamesError) (r : Result TasksShown NamesError)
    → Answers {T = TasksShown} names_fault d (Err e) → IsLostTasks (names_fault e) r
    → Answers names_fault (Ok (tasks_or d)) r
tasks_lost d e r p h = tasks_by d r (names_fault e) p.is h
