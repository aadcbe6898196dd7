use Rattle.std.proofs.Common.{sym, ap, ◌∙◌}
use Rattle.std.specs.Prelude.{Ok}
use Rattle.process_memory.proofs.Reading.{reads_known}
use Rattle.object_reach.specs.Objects.{dict_parts}
use Rattle.object_reach.specs.Reading.{parts_told}
use Rattle.object_reach.proofs.parts.read_dict.Goals as goal

pub returns-in-Absent : goal.returns-in-Absent
returns-in-Absent g c =
    reads_known 2 _ _ (λ m. record { is = ap (λ d. dict_parts d c.args.layout.now m c.args.addr) c.in-Absent.is ∙ ap (λ p. Ok (parts_told p)) (sym c.no_parts.ensures) })
