-- What follows of the front of an interpreter's threads that was read.
use Rattle.std.proofs.Common.{ℕ, sym, ◌∙◌}
use Rattle.std.specs.Prelude.{Ok, Err, Result, IfOk}
use Rattle.process_memory.specs.Memory.{Memory}
use Rattle.py_fields.specs.declared.layout.Layout.{Layout}
use Rattle.py_stacks.specs.declared.asked.Asked.{Asked}
use Rattle.py_stacks.specs.declared.error.StackError.{StackError}
use Rattle.py_fronts.specs.declared.thread_front.ThreadsFront.{ThreadsFront}
use Rattle.py_fronts.specs.Answers.{IsOrNoMemory}
use Rattle.py_fronts.specs.FirstThreads.{AreFirstThreads}
use Rattle.py_fronts.specs.ThreadFronts.{ThreadsShown, front_shown, threads_front, threads_of}
use Rattle.py_fronts.specs.ThreadFronts.{threads_result}
use Rattle.py_fronts.proofs.FirstThreadLaws.{first_threads_found, first_threads_only}

pub threads_right : (q : Asked) (l : Layout) (m : Memory) (limit left i head : ℕ) (r : Result ThreadsFront StackError) → IsOrNoMemory (front_shown q l m limit left (threads_front l i m head)) (threads_result r)
    → IfOk r (λ front. AreFirstThreads q l m limit left i head (threads_of front))
threads_right q l m limit left i head (Ok front) a = rw a (first_threads_found q l m limit left i head)
threads_right q l m limit left i head (Err e) a = tt

pub threads_only : (q : Asked) (l : Layout) (m : Memory) (limit left i head : ℕ) (shown : ThreadsShown) (r : Result ThreadsFront StackError) → IsOrNoMemory (front_shown q l m limit left (threads_front l i m head)) (threads_result r)
    → AreFirstThreads q l m limit left i head shown → IsOrNoMemory shown (threads_result r)
threads_only q l m limit left i head shown (Ok front) a h = a ∙ sym (first_threads_only q l m limit left i head shown h)
threads_only q l m limit left i head shown (Err e) a h = a
