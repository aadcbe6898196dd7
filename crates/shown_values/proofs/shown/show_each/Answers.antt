use Rattle.std.proofs.Common.{Some, get_or, refl, subst}
use Rattle.std.proofs.lemmas.List.{take_all}
use Rattle.shown_values.specs.Values.{AreShown}
use Rattle.shown_values.proofs.Keeping.{none_shown, shown_more}
use Rattle.shown_values.proofs.shown.show_each.Goals as goal

pub loop-addr-init : goal.loop-addr-init
loop-addr-init c =
    none_shown c.args.json (Some c.args.values.now) c.new-shown.result c.new-shown.ensures.texts
    c.new-shown.ensures.trees c.new-shown.ensures.types (λ a. refl)

pub loop-addr-preserved : goal.loop-addr-preserved
loop-addr-preserved c =
    let xs = c.args.addresses.now in
    let i = c.loop-addr.addr-index in
    shown_more c.args.json c.args.values.now xs i (get_or xs i 0) 0 c.loop-addr.shown c.keep_one.new.shown
    c.loop-addr-test.true refl c.loop-addr.invariant c.in_ok-keep_one.ensures

pub returns : goal.returns
returns c =
    subst (λ xs. AreShown c.args.json (Some c.args.values.now) xs c.loop-addr.shown)
    (take_all c.loop-addr.addr-index c.args.addresses.now c.loop-addr-test.false) c.loop-addr.invariant
