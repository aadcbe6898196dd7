use Rattle.std.proofs.Common.{◌<◌, arith, length, refl}
use Rattle.std.proofs.lemmas.Bool.Decides.{nat_tests}
use Rattle.core_report.proofs.Appending.{refusals_begin}
use Rattle.core_report.proofs.judged.push_refusals.Goals as goal

pub loop-name-init : goal.loop-name-init
loop-name-init c =
    let some : 0 < length c.args.refusals.now = grind (arith, nat_tests, c.is_empty.ensures, c.if-is_empty.false) in
    refusals_begin c.args.refusals.now c.args.text.now.items c.push_parts.new.text.items _ (λ none. omega (arith, none, some)) refl
    c.in_ok-push_parts.ensures
