use Rattle.std.proofs.Common.{◌≡◌, ◌∙◌, ap, sym}
use Rattle.std.specs.Prelude.{None, Some}
use Rattle.frame_rows.specs.declared.row.Cfa.{Cfa}
use Rattle.frame_rows.specs.declared.row.Cfa.TheVariants.{Based}
use Rattle.process_memory.proofs.Reading.{reading_none}
use Rattle.core_unwind.specs.Values.{moved_by}
use Rattle.core_unwind.proofs.ReadSteps.{cfa_is}
use Rattle.core_unwind.proofs.value.read_cfa.Goals as goal

pub returns-in-Some-Based : goal.returns-in-Some-Based
returns-in-Some-Based g c =
    let register = c.in-Some-Based.register in
    let offset = c.in-Some-Based.offset in
    let based : c.args.rules.now.row.cfa ≡ Some (Based register offset) =
    sym c.cfa_rule.ensures ∙ c.in-Some-Based.is ∙ ap (λ (x : Cfa). Some x) c.in-Some-Based.field-0-is in
    reading_none 256 _ _ (λ m. c.moved_by.ensures ∙ ap (moved_by offset) c.register_in-word.ensures
    ∙ cfa_is c.args.rules.now c.args.registers.now m (Some (Based register offset)) based)

pub returns-in-None : goal.returns-in-None
returns-in-None g c = reading_none 256 _ _ (λ m. cfa_is c.args.rules.now c.args.registers.now m None
    (sym c.cfa_rule.ensures ∙ c.in-None.is))
