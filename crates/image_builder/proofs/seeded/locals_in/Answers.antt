use Rattle.std.proofs.Common.{◌∙◌, rules, refl, arith}
use Rattle.std.specs.Int.{w64}
use Rattle.std.proofs.lemmas.Int.{to_z-of_z}
use Rattle.image_builder.proofs.Names.{one_letter}
use Rattle.image_builder.proofs.seeded.locals_in.Goals as goal

pub returns : goal.returns
returns c =
    let number = to_z-of_z w64 c.from-number.result (search rules) ∙ c.from-number.ensures in
    rw (
      c.in_ok-push-2.ensures.items,
      c.in_ok-push.ensures.items,
      c.new-found.ensures.items,
      c.in_ok-items.ensures.items,
      c.in_ok-of.ensures,
      c.in_ok-of-2.ensures,
      c.in_ok-of-3.ensures,
      number,
      one_letter 115 (omega arith),
      one_letter 120 (omega arith),
      one_letter 121 (omega arith),
    ) refl
