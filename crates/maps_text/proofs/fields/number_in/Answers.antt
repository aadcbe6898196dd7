use Rattle.std.proofs.Common.{◌<◌, ◌^◌, arith}
use Rattle.maps_text.proofs.Cuts.{below_power}
use Rattle.maps_text.proofs.fields.number_in.Goals as goal

pub overflow_mul-number : goal.overflow_mul-number
overflow_mul-number c =
    let small : c.loop-digit.number < 16 ^ 15 = below_power _ c.loop-digit.digit-index c.loop-digit.invariant.small (omega arith) in
    omega arith

pub overflow_add-number : goal.overflow_add-number
overflow_add-number c =
    let small : c.loop-digit.number < 16 ^ 15 = below_power _ c.loop-digit.digit-index c.loop-digit.invariant.small (omega arith) in
    omega (arith, (c.in_ok-value.ensures).0)
