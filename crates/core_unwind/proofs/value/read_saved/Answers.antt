use Rattle.std.proofs.Common.{◌∙◌, arith, sym}
use Rattle.std.specs.Prelude.{Some}
use Rattle.process_memory.proofs.Reading.{reading_gives, reading_then}
use Rattle.core_unwind.proofs.ReadSteps.{result_is, saved_is}
use Rattle.core_unwind.proofs.value.read_saved.Goals as goal

pub returns-in-Some : goal.returns-in-Some
returns-in-Some g c = reading_gives 257 _ (reading_then _ c.in_ok-address.ensures c.read_word.ensures
    (λ m p q. result_is c.read_word.result (saved_is c.args.rules.now c.args.registers.now m c.args.cfa c.args.start
    c.args.end (Some c.in-Some.place) (sym c.in-Some.is ∙ p)) q)) (omega arith) (λ m h. h)
