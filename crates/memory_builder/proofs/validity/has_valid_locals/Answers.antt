use Rattle.std.proofs.Common.{List, subst, arith}
use Rattle.std.specs.Prelude.{◌↔◌, IsTrue}
use Rattle.std.specs.List.{AllByRecursion}
use Rattle.memory_builder.specs.declared.parts.ProgramLocal.{ProgramLocal}
use Rattle.memory_builder.specs.Mirror.{local_in}
use Rattle.memory_builder.specs.Validity.{IsValidLocal}
use Rattle.memory_builder.proofs.Deciding.{locals_tell}
use Rattle.memory_builder.proofs.validity.has_valid_locals.Goals as goal

pub returns-then-count-le-MOST_LOCALS : goal.returns-then-count-le-MOST_LOCALS
returns-then-count-le-MOST_LOCALS c =
    let b = c.are_valid_locals.result in
    let f = c.args.frame.now in
    let few = c.if-count-le-MOST_LOCALS.true in
    let each = subst (λ (xs : List ProgramLocal). IsTrue b ↔ AllByRecursion (λ x. IsValidLocal (local_in x)) xs)
    c.deref.ensures.value c.are_valid_locals.ensures in
    locals_tell b f (omega (arith, c.len-count.ensures, few.0, f.locals.ok.0)) (omega (
      arith,
      c.len-count.ensures,
      few.1,
      f.locals.ok.0,
    )) each
