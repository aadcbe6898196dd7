-- What is none where it was not read.
use Rattle.std.proofs.Common.{ℕ, refl, arith}
use Rattle.std.specs.Prelude.{Option, Some, None, Result, Ok, Err}
use Rattle.process_memory.specs.Memory.{Memory, Found, Fault}
use Rattle.process_memory.specs.Seen.{Answers, FaultIs, Reads, Seen}
use Rattle.process_memory.proofs.Reading.{reading_gives}
use Rattle.coroutine_frames.specs.declared.frame.CoroutineFrame.{CoroutineFrame}
use Rattle.py_names.specs.NamesError.{names_fault}
use Rattle.py_names.specs.declared.names_error.NamesError.{NamesError}
use Rattle.py_stacks.specs.StackError.{stack_fault}
use Rattle.py_stacks.specs.declared.error.StackError.{StackError}
use Rattle.py_tasks.specs.Chains.{IsFrame}
use Rattle.py_tasks.specs.Faults.{IsOrNone, NoneBy, found_or_none}

module _ {T : Type 0} (d : Found (Option T)) (r : Result (Option T) NamesError) where
  none_by : (o : Option Fault) → FaultIs d o → NoneBy o r → Answers names_fault (Ok (found_or_none d)) r
  none_by None q k = rw k (record { is = tt })
  none_by (Some f) q k = rw (k, q) (record { is = refl })

  none_known : (found : Result (Option T) NamesError) → Answers names_fault d found → IsOrNone found r
      → Answers names_fault (Ok (found_or_none d)) r
  none_known (Ok x) p h = rw (h, p.is) (record { is = refl })
  none_known (Err e) p h = none_by (names_fault e) p.is h

frame_known : (d : Found (Option CoroutineFrame)) (r : Result (Option CoroutineFrame) NamesError)
    (found : Result (Option CoroutineFrame) StackError) → Answers stack_fault d found → IsFrame found r
    → Answers names_fault (Ok (found_or_none d)) r
frame_known d r (Ok x) p h = rw (h, p.is) (record { is = refl })
frame_known d r (Err e) p h = none_by d r (stack_fault e) p.is h

-- what was read, or none
pub reads_or_none : {T : Type 0} {n : ℕ} {s0 s1 : Seen} {d : Memory → Found (Option T)}
    {found r : Result (Option T) NamesError} → Reads names_fault n s0 s1 d found → IsOrNone found r
    → Reads names_fault n s0 s1 (λ m. Ok (found_or_none (d m))) r
reads_or_none {n = n} {d = d} {found = found} {r = r} p h =
    reading_gives n _ p (omega arith) (λ m a. none_known (d m) r found a h)

pub reads_frame : {n : ℕ} {s0 s1 : Seen} {d : Memory → Found (Option CoroutineFrame)}
    {found : Result (Option CoroutineFrame) StackError} {r : Result (Option CoroutineFrame) NamesError}
    → Reads stack_fault n s0 s1 d found → IsFrame found r
    → Reads names_fault n s0 s1 (λ m. Ok (found_or_none (d m))) r
reads_frame {n = n} {d = d} {found = found} {r = r} p h =
    reading_gives n _ p (omega arith) (λ m a. frame_known (d m) r found a h)
