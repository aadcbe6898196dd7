use Rattle.std.proofs.Common.{refl}
use Rattle.repr_types.proofs.Known.{cons_is}
use Rattle.repr_types.proofs.symbols.type_symbols.Goals as goal

pub returns : goal.returns
returns g c =
    cons_is c.symbol_of.ensures
    (cons_is c.symbol_of-2.ensures
    (cons_is c.symbol_of-3.ensures
    (cons_is c.symbol_of-4.ensures
    (cons_is c.symbol_of-5.ensures
    (cons_is c.symbol_of-6.ensures
    (cons_is c.symbol_of-7.ensures
    (cons_is c.symbol_of-8.ensures
    (cons_is c.symbol_of-9.ensures
    (cons_is c.symbol_of-10.ensures
    (cons_is c.symbol_of-11.ensures
    (cons_is c.symbol_of-12.ensures
    (cons_is c.symbol_of-13.ensures
    (cons_is c.symbol_of-14.ensures
    (cons_is c.symbol_of-15.ensures
    (cons_is c.symbol_of-16.ensures refl)))))))))))))))
