-- What a frame shows, or none.
use Rattle.std.proofs.Common.{◌≡◌, refl, arith, ℕ}
use Rattle.std.specs.Prelude.{Option, Result, Ok, Err, IfOk}
use Rattle.process_memory.specs.Memory.{Memory, Found}
use Rattle.process_memory.specs.Seen.{Answers, Reading, Reads, Seen}
use Rattle.process_memory.proofs.Reading.{reading_gives}
use Rattle.py_stacks.specs.StackError.{stack_fault}
use Rattle.py_stacks.specs.declared.error.StackError.{StackError}
use Rattle.thread_exceptions.specs.declared.error.ExceptionsError.{ExceptionsError}
use Rattle.py_exceptions.specs.declared.entry.CalledFrame.{CalledFrame}
use Rattle.py_exceptions.specs.Faults.{found_or_none}
use Rattle.py_exceptions.specs.Frames.{IsFrameOrNone}
use Rattle.py_exceptions.proofs.Tells.{none_by}

frame_known : (d : Found (Option CalledFrame)) (r : Result (Option CalledFrame) ExceptionsError)
    (found : Result (Option CalledFrame) StackError) → Answers stack_fault d found → IsFrameOrNone found r
    → IfOk r (λ x. x ≡ found_or_none d)
frame_known d r (Ok x) p h = rw (h, p.is) refl
frame_known d r (Err e) p h = none_by d r (stack_fault e) p.is h

pub reads_frame : {n : ℕ} {s0 s1 : Seen} {d : Memory → Found (Option CalledFrame)}
    {found : Result (Option CalledFrame) StackError} (r : Result (Option CalledFrame) ExceptionsError)
    → Reads stack_fault n s0 s1 d found → IsFrameOrNone found r
    → Reading n s0 s1 (λ m. IfOk r (λ x. x ≡ found_or_none (d m)))
reads_frame {n = n} {d = d} {found = found} r p h =
    reading_gives n _ p (omega arith) (λ m a. frame_known (d m) r found a h)
