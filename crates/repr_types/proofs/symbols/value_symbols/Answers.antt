use Rattle.std.proofs.Common.{refl}
use Rattle.repr_types.proofs.Known.{cons_is}
use Rattle.repr_types.specs.Symbols.{not_implemented}
use Rattle.repr_types.proofs.symbols.value_symbols.Goals as goal

pub returns : goal.returns
unfolding not_implemented
returns g c =
    cons_is c.symbol_of.ensures
    (cons_is c.symbol_of-2.ensures
    (cons_is c.symbol_of-3.ensures refl))
