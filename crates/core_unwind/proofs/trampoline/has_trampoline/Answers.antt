use Rattle.std.proofs.Common.{◌∙◌, arith, sym}
use Rattle.process_memory.proofs.Reading.{reading_gives, reading_then}
use Rattle.core_unwind.proofs.MarkSteps.{begun_code, no_code}
use Rattle.core_unwind.proofs.ReadSteps.{result_is}
use Rattle.core_unwind.proofs.trampoline.has_trampoline.Goals as goal

pub returns-then-not-begins : goal.returns-then-not-begins
returns-then-not-begins g c = reading_gives 2 _ c.in_ok-begins-in-X86_64.ensures (omega arith) (λ m h.
    no_code m c.args.machine c.args.pc c.in-X86_64.is (sym h ∙ c.if-not-begins.true))

pub returns-else-not-begins : goal.returns-else-not-begins
returns-else-not-begins g c = reading_gives 2 _ (reading_then _ c.in_ok-begins-in-X86_64.ensures
    c.has_word-in-X86_64.ensures (λ m p q. result_is c.has_word-in-X86_64.result
    (begun_code m c.args.machine c.args.pc c.in-X86_64.is (sym p ∙ c.if-not-begins.false)) q)) (omega arith) (λ m h. h)
