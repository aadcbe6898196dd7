use Rattle.std.proofs.Common.{subst, sym}
use Rattle.covering_symbols.specs.Covering.{Covering}
use Rattle.covering_symbols.proofs.Nearest.{covering_found}
use Rattle.covering_symbols.proofs.function_table.FunctionTable.covering.Goals as goal

pub returns : goal.returns
returns c symbols t = subst (λ o. Covering symbols c.args.addr o) (sym c.find.ensures) (covering_found symbols c.args.self.now t c.args.addr)
