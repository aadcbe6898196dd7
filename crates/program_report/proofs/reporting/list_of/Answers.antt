use Rattle.std.proofs.Common.{◌≡◌, ◌∙◌, [], ◌∷◌, ◌++◌, ap, subst, sym, true, false}
use Rattle.std.specs.Prelude.{IsOk}
use Rattle.py_layout.specs.Lists.{AreSound}
use Rattle.program_report.proofs.Answering.{one_sound}
use Rattle.program_report.proofs.reporting.list_of.Goals as goal

pub unreachable-requires : goal.unreachable-requires
unreachable-requires c =
    let l = c.args.layout in
    let items : c.push.new.self.items ≡ l ∷ [] = c.in_ok-push.ensures.items
    ∙ ap (λ xs. xs ++ l ∷ []) c.new-list.ensures.items in
    let sound = subst AreSound (sym items) (one_sound l c.requires) in
    let ok : false ≡ true = subst IsOk c.in-Err.is (c.of.ensures.ok.1 sound) in
    absurd (cc)
