use Rattle.std.proofs.Common.{◌≡◌, ◌∙◌, ap, sym}
use Rattle.std.specs.Prelude.{None, Some}
use Rattle.frame_rows.specs.declared.row.Rule.{Rule}
use Rattle.frame_rows.specs.declared.row.Rule.TheVariants.{Undefined, Value, Same, Register}
use Rattle.process_memory.proofs.Reading.{reading_none}
use Rattle.core_unwind.specs.Values.{rule_of}
use Rattle.core_unwind.proofs.ReadSteps.{value_is}
use Rattle.core_unwind.proofs.value.read_value.Goals as goal

pub returns-in-None : goal.returns-in-None
returns-in-None g c =
    let rule : rule_of c.args.rules.now.row c.args.register ≡ None = sym c.rule_of.ensures ∙ c.in-None.is in
    reading_none 257 _ _ (λ m. c.kept.ensures
    ∙ value_is c.args.rules.now c.args.registers.now m c.args.cfa c.args.register None rule)

pub returns-in-Some-Undefined : goal.returns-in-Some-Undefined
returns-in-Some-Undefined g c =
    let rule : rule_of c.args.rules.now.row c.args.register ≡ Some Undefined = sym c.rule_of.ensures
    ∙ c.in-Some-Undefined.is ∙ ap (λ (x : Rule). Some x) c.in-Some-Undefined.field-0-is in
    reading_none 257 _ _ (λ m. value_is c.args.rules.now c.args.registers.now m c.args.cfa c.args.register (Some
    Undefined)
    rule)

pub returns-in-Some-Value : goal.returns-in-Some-Value
returns-in-Some-Value g c =
    let offset = c.in-Some-Value.offset in
    let rule : rule_of c.args.rules.now.row c.args.register ≡ Some (Value offset) = sym c.rule_of.ensures
    ∙ c.in-Some-Value.is ∙ ap (λ (x : Rule). Some x) c.in-Some-Value.field-0-is in
    reading_none 257 _ _ (λ m. c.moved_by-value.ensures
    ∙ value_is c.args.rules.now c.args.registers.now m c.args.cfa c.args.register (Some (Value offset)) rule)

pub returns-in-Some-Same : goal.returns-in-Some-Same
returns-in-Some-Same g c =
    let rule : rule_of c.args.rules.now.row c.args.register ≡ Some Same = sym c.rule_of.ensures
    ∙ c.in-Some-Same.is ∙ ap (λ (x : Rule). Some x) c.in-Some-Same.field-0-is in
    reading_none 257 _ _ (λ m. c.register_in-same.ensures
    ∙ value_is c.args.rules.now c.args.registers.now m c.args.cfa c.args.register (Some Same) rule)

pub returns-in-Some-Register : goal.returns-in-Some-Register
returns-in-Some-Register g c =
    let other = c.in-Some-Register.other in
    let rule : rule_of c.args.rules.now.row c.args.register ≡ Some (Register other) = sym c.rule_of.ensures
    ∙ c.in-Some-Register.is ∙ ap (λ (x : Rule). Some x) c.in-Some-Register.field-0-is in
    reading_none 257 _ _ (λ m. c.register_in-value.ensures
    ∙ value_is c.args.rules.now c.args.registers.now m c.args.cfa c.args.register (Some (Register other)) rule)
