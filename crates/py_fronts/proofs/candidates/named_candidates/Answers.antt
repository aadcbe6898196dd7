use Rattle.std.proofs.Common.{arith, ap, length, refl, List, ◌∷◌, ℕ, ◌∙◌}
use Rattle.std.specs.Prelude.{Ok, Result}
use Rattle.process_memory.specs.Memory.{byte_at}
use Rattle.py_stacks.specs.declared.error.StackError.{StackError}
use Rattle.py_fronts.specs.Candidates.{record_candidates}
use Rattle.process_memory.proofs.Reading.{reading_gives, reading_here, reading_then}
use Rattle.py_process.specs.Facts.{known_of}
use Rattle.py_fronts.proofs.CandidateSteps.{head_named, none_named}
use Rattle.py_fronts.proofs.candidates.named_candidates.Goals as goal

pub returns-in-Ok-Some : goal.returns-in-Ok-Some
returns-in-Ok-Some g c =
    let read = c.in-Ok-Some.is ∙ ap Ok c.in-Ok-Some.field-0-is in
    let here = byte_at (g.P.ProcessMemory.seen c.args.process.now).pieces in
    let words : Result (List ℕ) StackError = Ok (c.in-Ok-Some.head ∷ record_candidates c.args.layout.now here c.in-Ok-Some.head) in
    let named = head_named (known_of c.args.info.now) c.args.version.now c.args.layout.now here c.in-Ok-Some.head
    c.read_given.result words read (reading_here c.read_given.ensures) refl in
    let same = ap (λ ps. length (record_candidates c.args.layout.now (byte_at ps) c.in-Ok-Some.head))
    c.read_given.ensures.pieces in
    reading_gives _ _ (reading_then _ c.read_given.ensures c.head_candidates.ensures
    (λ m a b. head_named (known_of c.args.info.now) c.args.version.now c.args.layout.now m c.in-Ok-Some.head
    c.read_given.result _ read a b)) (omega (arith, same, ap length named)) (λ m h. h)

pub returns-in-Ok-None : goal.returns-in-Ok-None
returns-in-Ok-None g c =
    let read = c.in-Ok-None.is ∙ ap Ok c.in-Ok-None.field-0-is in
    reading_gives _ _ c.read_given.ensures (omega arith)
    (λ m a. none_named (known_of c.args.info.now) c.args.version.now c.args.layout.now m _ c.read_given.result read a
    c.new.ensures.items)
