use Rattle.std.proofs.Common.{◌≡◌, sym, subst, true, false}
use Rattle.std.specs.Prelude.{IsOk}
use Rattle.py_layout.specs.Lists.{AreSound}
use Rattle.core_report.proofs.Agreement.{one_sound}
use Rattle.core_report.proofs.layouts.sample_layouts.Goals as goal

pub unreachable-requires : goal.unreachable-requires
unreachable-requires c =
    let sound = subst AreSound (sym c.in_ok-list.ensures.items) (one_sound c.sample.result c.sample.ensures.sound) in
    let ok : IsOk c.of.result = c.of.ensures.ok.1 sound in
    let err = rw c.in-Err.is at ok in
    absurd (let h : false ≡ true = err in cc)
