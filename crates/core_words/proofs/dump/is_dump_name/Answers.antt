use Rattle.std.proofs.Common.{◌≡◌, ◌∙◌, ap, arith, codes, length, nat_lt, sym, true}
use Rattle.std.specs.Prelude.{◌&&◌, nat_eq}
use Rattle.std.specs.List.{starts_with}
use Rattle.std.proofs.lemmas.Bool.Decides.{nat_tests}
use Rattle.std.proofs.lemmas.Str.Pattern.{starts_text}
use Rattle.core_words.proofs.dump.is_dump_name.Goals as goal

pub returns-then-not-is_empty : goal.returns-then-not-is_empty
returns-then-not-is_empty c =
    let name = c.args.name.now in
    let some : nat_lt 0 (length name) ≡ true = grind (arith, nat_tests, c.is_empty.ensures, c.if-not-is_empty.true) in
    starts_text c.starts_with.result name (codes "dump") c.starts_with.ensures.cases
    ∙ sym (ap (λ b. b && starts_with nat_eq (codes "dump") name) some)
