use Rattle.std.proofs.Common.{refl, ap}
use Rattle.std.proofs.Math.Nat.{le_refl}
use Rattle.std.specs.Prelude.{Ok}
use Rattle.process_memory.proofs.Reading.{reading_gives, reads_within}
use Rattle.py_stacks.specs.Asking.{nothing}
use Rattle.py_stacks.specs.Interpreter.{interpreter_named_by, passes_from, passes_named, was_found}
use Rattle.py_stacks.specs.Threads.{traces_at}
use Rattle.py_stacks.proofs.Candidates.{from_costs, from_other, from_then, reads_refused}
use Rattle.py_stacks.proofs.interpreter.walk_from.Goals as goal

pub returns-in-Err : goal.returns-in-Err
unfolding passes_from
returns-in-Err g c =
    reads_within _ (reads_refused (λ m. interpreter_named_by c.args.layout.now m c.args.head) (λ m. passes_named c.args.layout.now m c.args.interpreter) (λ m f. refl) c.in-Err.ensures c.refused_address.ensures) (from_costs _ _ _ _)

pub returns-then-named-interpreter : goal.returns-then-named-interpreter
returns-then-named-interpreter g c =
    reading_gives _ _ c.in-Ok.ensures (from_costs _ _ _ _) (λ m a. record { is = ap Ok (from_other c.args.layout.now m c.args.interpreter c.args.head c.in-Ok.named c.if-named-interpreter.true a.is) })

pub returns-in-Err-read_traces : goal.returns-in-Err-read_traces
returns-in-Err-read_traces g c =
    from_then c.args.layout.now c.args.interpreter c.args.head c.in-Ok.named c.if-named-interpreter.false c.in-Ok.ensures
    (reads_refused (λ m. traces_at nothing c.args.layout.now m c.args.interpreter) (λ m. was_found) (λ m f. refl) c.in-Err-read_traces.ensures c.refused_address-in-Err-read_traces.ensures)

pub returns : goal.returns
returns g c =
    from_then c.args.layout.now c.args.interpreter c.args.head c.in-Ok.named c.if-named-interpreter.false c.in-Ok.ensures
    (reading_gives _ _ c.in-Ok-read_traces.ensures (le_refl _) (λ m a. record { is = ap (λ d. Ok (was_found d)) a.is }))
