use Rattle.std.proofs.Common.{sym, arith}
use Rattle.py_builtins.proofs.Sound.{state_fits}
use Rattle.py_exceptions.proofs.unit.state_characters.Goals as goal

pub u32_in-state-requires : goal.u32_in-state-requires
u32_in-state-requires c =
    let at = state_fits c.requires.sound c.in_ok-at.at (sym c.in_ok-at.ensures) in
    omega (arith, at.state, c.requires.whole)

pub kind_in-requires : goal.kind_in-requires
kind_in-requires c =
    let at = state_fits c.requires.sound c.in_ok-at.at (sym c.in_ok-at.ensures) in
    (omega (arith, at.kind_shift), omega (arith, at.ascii_bit))

pub place_in-at-requires-clause-bits : goal.place_in-at-requires-clause-bits
place_in-at-requires-clause-bits c =
    let at = state_fits c.requires.sound c.in_ok-at.at (sym c.in_ok-at.ensures) in
    (omega (arith, at.compact_bit), omega (arith, at.ascii_bit))

pub place_in-at-requires-clause-pointer : goal.place_in-at-requires-clause-pointer
place_in-at-requires-clause-pointer c =
    let at = state_fits c.requires.sound c.in_ok-at.at (sym c.in_ok-at.ensures) in
    omega (arith, at.pointer, c.requires.whole)
