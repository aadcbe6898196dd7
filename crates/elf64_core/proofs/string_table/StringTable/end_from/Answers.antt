use Rattle.std.proofs.Common.{◌≤◌, length, sym, subst}
use Rattle.std.specs.Prelude.{IfSome}
use Rattle.elf64_core.proofs.Ends.{nul_from-inside}
use Rattle.elf64_core.proofs.string_table.StringTable.end_from.Goals as goal

pub returns-clause-inside : goal.returns-clause-inside
returns-clause-inside c =
    let strings = c.self.inside.strings.now in
    let inside = subst (λ bs. c.args.at ≤ length bs) (sym c.self.view_is) c.requires in
    subst (λ bs. IfSome c.end_before.result (λ end. (c.args.at ≤ end) × (end ≤ length bs))) c.self.view_is
    (subst (λ o. IfSome o (λ end. (c.args.at ≤ end) × (end ≤ length strings))) (sym c.end_before.ensures) (nul_from-inside strings c.args.at inside))
