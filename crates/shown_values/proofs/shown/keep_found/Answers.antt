use Rattle.std.proofs.Common.{refl, subst}
use Rattle.std.specs.Prelude.{OnOk}
use Rattle.shown_values.specs.Values.{KeepsFound}
use Rattle.shown_values.proofs.shown.keep_found.Goals as goal

pub returns-in-Some : goal.returns-in-Some
returns-in-Some c =
    subst (λ o. OnOk c.keep.result (KeepsFound c.args.json c.args.addr o c.args.shown.now c.keep.new.shown))
    c.in-Some.ensures c.keep.ensures

pub returns-in-None : goal.returns-in-None
returns-in-None c =
    subst (λ o. KeepsFound c.args.json c.args.addr o c.args.shown.now c.args.shown.now) c.in-None.ensures refl
