use Rattle.std.proofs.Common.{◌≡◌, ◌++◌, subst, sym, rules}
use Rattle.std.specs.Int.{w64}
use Rattle.std.proofs.lemmas.Int.{to_z-of_z}
use Rattle.object_builder.specs.Objects.{aligned, object}
use Rattle.memory_builder.specs.Sizes.{number_len}
use Rattle.std.specs.Prelude.{IfOk}
use Rattle.memory_builder.specs.Mirror.{program_value}
use Rattle.memory_builder.specs.Values.{laid_item, laid_value, number_writes}
use Rattle.memory_builder.proofs.values.add_value.Goals as goal

pub returns-in-Number : goal.returns-in-Number
unfolding laid_value laid_item
returns-in-Number c =
    subst (λ v. IfOk c.add_number.result (λ _. c.add_number.new.out.items ≡ c.args.out.now.items
    ++ laid_value c.args.layout.now c.args.types c.args.at (program_value v))) (sym c.in-Number.is)
    (subst (λ z. IfOk c.add_number.result (λ _. c.add_number.new.out.items ≡ c.args.out.now.items
    ++ aligned (object (number_len c.args.layout.now) (number_writes c.args.layout.now c.args.types.integer z))))
    (to_z-of_z w64 c.in-Number.number (search rules)) c.add_number.ensures)

pub returns-in-Words : goal.returns-in-Words
unfolding laid_value laid_item
returns-in-Words c =
    subst (λ v. IfOk c.add_text.result (λ _. c.add_text.new.out.items ≡ c.args.out.now.items
    ++ laid_value c.args.layout.now c.args.types c.args.at (program_value v)))
    (sym c.in-Words.is) c.add_text.ensures.added
