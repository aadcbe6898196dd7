-- How many tasks there are, by what they do.
use Rattle.std.specs.Prelude.{ℕ, Bool, true, false, not, List, count_by}
use Rattle.py_tasks.specs.declared.task.Condition.{Condition}
use Rattle.py_tasks.specs.declared.task.Condition.TheVariants.{Done, Running, NotStarted, Ready, Waiting}
use Rattle.py_tasks.specs.Shown.{EntryShown, condition_of}
use Rattle.py_tasks.specs.Shown.EntryShown.{TaskEntry, LostEntry, OtherEntry}
use Rattle.task_texts.specs.declared.counts.Counts.{Counts}

-- whether both are the same condition
abbrev pub is_condition : Condition → Condition → Bool
is_condition Done Done = true
is_condition Running Running = true
is_condition NotStarted NotStarted = true
is_condition Ready Ready = true
is_condition Waiting Waiting = true
is_condition _ _ = false

-- whether an entry is a task of which all is told, and does this
abbrev pub does : Condition → EntryShown → Bool
does sought (TaskEntry t) = is_condition (condition_of t) sought
does sought (LostEntry a f) = false
does sought (OtherEntry a class) = false

-- how many tasks do this, of those of which all is told
abbrev pub number_of : Condition → List EntryShown → ℕ
number_of sought entries = count_by (does sought) entries

-- whether it is one that does something else
abbrev pub does_not : Condition → EntryShown → Bool
does_not shunned (TaskEntry t) = not (is_condition (condition_of t) shunned)
does_not shunned (LostEntry a f) = false
does_not shunned (OtherEntry a class) = false

-- how many tasks do something else, of those of which all is told
abbrev pub number_without : Condition → List EntryShown → ℕ
number_without shunned entries = count_by (does_not shunned) entries

-- how many of these tasks are pending, and how many of them do what
abbrev pub counts_of : List EntryShown → Counts
counts_of entries = record {
  pending = number_without Done entries;
  running = number_of Running entries;
  ready = number_of Ready entries;
  not_started = number_of NotStarted entries;
  waiting = number_of Waiting entries;
  done = number_of Done entries;
}
