use Rattle.std.proofs.Common.{inl}
use Rattle.covering_symbols.proofs.Stable.{symbols_held}
use Rattle.covering_symbols.proofs.images.symbols_of.Goals as goal

pub returns-in-Ok : goal.returns-in-Ok
returns-in-Ok c = inl (symbols_held c.args.elf.now c.args.kind (λ no. absurd (cc (c.in-Ok.ensures.bad.1 no))), c.in-Ok.ensures.symbols)
