use Rattle.std.proofs.Common.{sym, ap, ◌∙◌}
use Rattle.std.specs.Prelude.{Ok}
use Rattle.process_memory.proofs.Reading.{reads_known}
use Rattle.object_reach.specs.Objects.{parts_by}
use Rattle.object_reach.specs.Reading.{parts_told}
use Rattle.object_reach.proofs.parts.read_contents.Goals as goal

pub returns-in-Nothing : goal.returns-in-Nothing
returns-in-Nothing g c =
    reads_known 2 _ _ (λ m. record { is = ap (parts_by c.args.layout.now m c.args.addr) c.in-Nothing.is ∙ ap (λ p. Ok (parts_told p)) (sym c.no_parts.ensures) })
