-- The records of a version, table by table from the last to the first.
use Rattle.std.proofs.Common.{◌≡◌, Bool, true, false, List, [], ◌∷◌, cond, refl, sym, ap, ◌∙◌}
use Rattle.std.specs.List.{push}
use Rattle.py_records.specs.Records.{no_records, joined}
use Rattle.py_records.specs.Table.{covers}
use Rattle.py_records.specs.Versions.{records_of, types_of, containers_of, scalars_of, callables_of}
use Rattle.py_records.specs.Versions.{frames_of, stacks_of, coroutines_of, tasks_of, locks_of, exceptions_of, heap_of}
use Rattle.py_records.specs.Types.{joined_types}
use Rattle.py_records.specs.Containers.{joined_containers}
use Rattle.py_records.specs.Scalars.{joined_scalars}
use Rattle.py_records.specs.Callables.{joined_callables}
use Rattle.py_records.specs.Frames.{joined_frames}
use Rattle.py_records.specs.Stacks.{joined_stacks}
use Rattle.py_records.specs.Coroutines.{joined_coroutines}
use Rattle.py_records.specs.Tasks.{joined_tasks}
use Rattle.py_records.specs.Locks.{joined_locks}
use Rattle.py_records.specs.Exceptions.{joined_exceptions}
use Rattle.py_records.specs.Heap.{joined_heap}
use Rattle.py_records.specs.declared.records.Records.{Records}
use Rattle.py_records.specs.declared.table.RecordTable.{RecordTable}
use Rattle.py_fields.specs.declared.version.Version.{Version}

-- with a table that may cover the version, before those found
abbrev pub with_table : RecordTable → Version → Records → Records
with_table t v found = cond (covers t v) (joined t.records found) found

-- with the tables of a list, before those found
abbrev pub over : List RecordTable → Version → Records → Records
over [] v found = found
over (t ∷ ts) v found = with_table t v (over ts v found)

over-push : (ts : List RecordTable) (t : RecordTable) (v : Version) (found : Records)
    → over (push ts t) v found ≡ over ts v (with_table t v found)
over-push [] t v found = refl
over-push (s ∷ ts) t v found = ap (with_table s v) (over-push ts t v found)

with-first : (b : Bool) (t : RecordTable) (ts : List RecordTable) (v : Version) → covers t v ≡ b
    → cond b (joined t.records (records_of ts v)) (records_of ts v) ≡ records_of (t ∷ ts) v
unfolding records_of joined types_of containers_of scalars_of callables_of frames_of stacks_of coroutines_of tasks_of
    locks_of exceptions_of heap_of joined_types joined_containers joined_scalars joined_callables joined_frames
    joined_stacks joined_coroutines joined_tasks joined_locks joined_exceptions joined_heap
with-first true t ts v e = rw e refl
with-first false t ts v e = rw e refl

pub over-all : (ts : List RecordTable) (v : Version) → over ts v no_records ≡ records_of ts v
unfolding records_of types_of containers_of scalars_of callables_of frames_of stacks_of coroutines_of tasks_of
    locks_of exceptions_of heap_of
over-all [] v = refl
over-all (t ∷ ts) v = ap (with_table t v) (over-all ts v) ∙ with-first (covers t v) t ts v refl

-- the step of a table that covers the version, and of another
pub step-covered : (old new : List RecordTable) (t : RecordTable) (v : Version) (found more all : Records)
    → old ≡ push new t → covers t v ≡ true
    → more ≡ joined t.records found → over old v found ≡ all → over new v more ≡ all
step-covered old new t v found more all is covered joins inv =
    ap (over new v) joins ∙ sym (ap (λ b. over new v (cond b (joined t.records found) found)) covered)
    ∙ sym (over-push new t v found)
    ∙ sym (ap (λ ts. over ts v found) is) ∙ inv

pub step-passed : (old new : List RecordTable) (t : RecordTable) (v : Version) (found all : Records)
    → old ≡ push new t → covers t v ≡ false
    → over old v found ≡ all → over new v found ≡ all
step-passed old new t v found all is passed inv =
    sym (ap (λ b. over new v (cond b (joined t.records found) found)) passed) ∙ sym (over-push new t v found)
    ∙ sym (ap (λ ts. over ts v found) is) ∙ inv
