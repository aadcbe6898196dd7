use Rattle.std.proofs.Common.{◌∙◌, arith, sym}
use Rattle.process_memory.proofs.Reading.{reading_gives}
use Rattle.core_unwind.specs.Stacks.{chain_of}
use Rattle.core_unwind.proofs.GuessLaws.{jump_is}
use Rattle.core_unwind.proofs.guess.read_guess.Goals as goal

pub returns : goal.returns
returns g c = reading_gives 2 _ c.in_ok-caller.ensures (omega arith) (λ m j. jump_is c.args.mappings.now
    c.args.machine m (chain_of c.args.stack.now) c.in_ok-caller.caller c.jump_guess-guess.result
    (sym c.jumped.ensures ∙ c.if-not-jumped.false) j c.jump_guess-guess.ensures)
