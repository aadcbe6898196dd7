-- What is found in the dicts of modules, and what is kept where it can't be read.
use Rattle.std.proofs.Common.{◌≡◌, ◌*◌, ℕ, List, refl, arith}
use Rattle.std.specs.Prelude.{Bool, Option, Some, None, Result, Ok, Err}
use Rattle.process_memory.specs.Memory.{Fault, Found, Memory, byte_at}
use Rattle.process_memory.specs.Seen.{AnswerIs, Answers, FaultIs, Reads, Seen, read_fault}
use Rattle.process_memory.specs.declared.memory.ReadFault.{ReadFault}
use Rattle.process_memory.proofs.Reading.{reading_gives, reads_within}
use Rattle.py_fields.specs.declared.layout.Layout.{Layout}
use Rattle.py_builtins.specs.Consulted.{ConsultsBy}
use Rattle.py_builtins.specs.declared.keys.Slots.{Slots}
use Rattle.py_builtins.proofs.Consulted.{consulting_short}
use Rattle.py_names.specs.NamesError.{names_fault}
use Rattle.py_names.specs.Search.{find_from, find_looked}
use Rattle.py_names.specs.declared.names_error.NamesError.{NamesError}
use Rattle.py_names.specs.declared.search.Looked.{Looked}
use Rattle.py_names.proofs.SlotBounds.{find_most}
use Rattle.py_selftest.specs.Contents.{by_fault, told_result}
use Rattle.py_selftest.specs.Telling.{kept}

-- a search among so many slots has a bound
pub found_within : {s0 s1 : Seen} {r : Result Looked NamesError} (l : Layout) (name : List ℕ) (slots : Slots)
    → ConsultsBy l names_fault (λ m. 4 * find_looked l m name slots slots.count 0 1024) s0 s1
    (λ m. find_from l m name slots slots.count 0 1024) r
    → Reads names_fault 4096 s0 s1 (λ m. find_from l m name slots slots.count 0 1024) r
found_within {s0 = s0} l name slots p = reads_within 4096 (consulting_short p)
    (omega (arith, find_most l (byte_at s0.pieces) name slots slots.count 0 1024))

kept_by : (d : Found (Option Bool)) (fault : Option Fault) → FaultIs d fault
    → AnswerIs read_fault (kept d) (by_fault fault)
kept_by d None is = tt
kept_by d (Some fault) is = rw is refl

told_is : (d : Found (Option Bool)) (r : Result (Option Bool) NamesError) → Answers names_fault d r
    → Answers read_fault (kept d) (told_result r)
told_is d (Ok told) a = record { is = rw a.is refl }
told_is d (Err e) a = record { is = kept_by d (names_fault e) a.is }

pub reads_told : {n : ℕ} {s0 s1 : Seen} {r : Result (Option Bool) NamesError} {told : Result (Option Bool) ReadFault}
    (d : Memory → Found (Option Bool)) → told ≡ told_result r
    → Reads names_fault n s0 s1 d r → Reads read_fault n s0 s1 (λ m. kept (d m)) told
reads_told {r = r} d is p = rw is (reading_gives _ _ p (omega arith) (λ m a. told_is (d m) r a))
