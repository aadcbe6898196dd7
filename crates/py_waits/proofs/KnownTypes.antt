-- A type that is none where what leads to it can't be read.
use Rattle.std.proofs.Common.{◌≡◌, ℕ, refl, arith}
use Rattle.std.specs.Prelude.{Option, Some, None, Result, Ok, Err, is_none}
use Rattle.process_memory.specs.Memory.{Memory, Found, Fault}
use Rattle.process_memory.specs.Seen.{Answers, FaultIs, Reads, Seen, read_fault}
use Rattle.process_memory.specs.declared.memory.ReadFault.{ReadFault}
use Rattle.process_memory.proofs.Reading.{reading_gives}
use Rattle.py_names.specs.NamesError.{names_fault}
use Rattle.py_names.specs.declared.names_error.NamesError.{NamesError}
use Rattle.type_places.specs.declared.places.TypePlace.{TypePlace}
use Rattle.py_waits.specs.Types.{known_by, known_type, type_known}

lost : (o : Option Fault) (d : Found (Option TypePlace)) → FaultIs d o
    → Answers read_fault (type_known d) (known_by (is_none o))
lost None d h = record { is = tt }
lost (Some f) d h = record { is = rw h refl }

known_is : (d : Found (Option TypePlace)) (r : Result (Option TypePlace) NamesError) → Answers names_fault d r
    → Answers read_fault (type_known d) (known_type r)
known_is d (Ok place) a = record { is = rw a.is refl }
known_is d (Err e) a = lost (names_fault e) d a.is

pub reads_type : {n : ℕ} {s0 s1 : Seen} {r : Result (Option TypePlace) NamesError}
    {told : Result (Option ℕ) ReadFault} (d : Memory → Found (Option TypePlace)) → told ≡ known_type r
    → Reads names_fault n s0 s1 d r → Reads read_fault n s0 s1 (λ m. type_known (d m)) told
reads_type {r = r} d is p = rw is (reading_gives _ _ p (omega arith) (λ m a. known_is (d m) r a))
