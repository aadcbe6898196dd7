use Rattle.std.proofs.Common.{ap, sym, arith}
use Rattle.std.proofs.lemmas.List.{drop_all}
use Rattle.elf64_core.specs.Nul.{string_at, until_nul}
use Rattle.elf64_core.proofs.nul.string_at.Goals as goal

pub returns-then-strings-at : goal.returns-then-strings-at
unfolding string_at until_nul
returns-then-strings-at c =
    let strings = c.args.strings.now in
    sym (ap until_nul (drop_all c.args.at strings (omega arith)))
