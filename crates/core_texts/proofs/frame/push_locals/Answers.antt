use Rattle.std.proofs.Common.{◌≡◌, ◌∙◌, ◌++◌, ◌+◌, sym, ap, append_assoc, string_bytes, take}
use Rattle.std.specs.Prelude.{◌||◌, not}
use Rattle.std.proofs.lemmas.List.Folds.{list_any_more}
use Rattle.std.specs.List.{list_any}
use Rattle.core_texts.specs.Text.{heading_of, heading_text, local_text, locals_text}
use Rattle.core_texts.proofs.Locals.{more_locals, or_true, or_false}
use Rattle.core_texts.proofs.frame.push_locals.Goals as goal
use Rattle.core_texts.proofs.frame.push_locals.Goals.{then-arguments, else-arguments, then-others, else-others}

pub loop-local-preserved : goal.loop-local-preserved
loop-local-preserved c =
    let xs = c.args.locals.now in
    let i = c.loop-local.local-index in
    let l = c.local-item.result in
    let lt = c.loop-local-test.true in
    let inv = c.loop-local.invariant in
    let before = string_bytes c.args.text.now in
    let front = locals_text (take i xs) in
    let here = heading_text (take i xs) l.arg in
    let heading : heading_of l.arg c.loop-local.arguments c.loop-local.others ≡ here =
    (λ j. heading_of l.arg (inv.arguments j) (inv.others j)) in
    let last : locals_text (take (i + 1) xs) ≡ front ++ (here ++ local_text l) =
    more_locals xs i l lt ∙ ap (λ x. front ++ (heading_text (take i xs) x.arg ++ local_text x)) (sym c.local-item.is) in
    let is_argument : list_any (λ v. v.arg) (take (i + 1) xs) ≡ (list_any (λ v. v.arg) (take i xs) || l.arg) =
    list_any_more (λ v. v.arg) xs i l lt ∙ ap (λ x. list_any (λ v. v.arg) (take i xs) || x.arg) (sym c.local-item.is) in
    let is_other : list_any (λ v. not v.arg) (take (i + 1) xs) ≡ (list_any (λ v. not v.arg) (take i xs) || not l.arg) =
    list_any_more (λ v. not v.arg) xs i l lt ∙ ap (λ x. list_any (λ v. not v.arg) (take i xs) || not x.arg) (sym c.local-item.is) in
    record {
      text = c.in_ok-push_local.ensures
          ∙ ap (λ t. t ++ local_text l) (c.in_ok-push_heading.ensures ∙ (λ j. inv.text j ++ heading j))
          ∙ append_assoc (before ++ front) here (local_text l)
          ∙ append_assoc before front (here ++ local_text l)
          ∙ ap (λ t. before ++ t) (sym last);
      arguments = elim c.if-arguments.branch [
        | then-arguments w ↦ w.arguments-is ∙ w.if-arguments.true ∙ or_true _ _ (sym inv.arguments ∙ w.if-arguments.true) ∙ sym is_argument
        | else-arguments w ↦ w.arguments-is ∙ or_false _ _ (sym inv.arguments ∙ w.if-arguments.false) ∙ sym is_argument
      ];
      others = elim c.if-others.branch [
        | then-others w ↦ w.others-is ∙ w.if-others.true ∙ or_true _ _ (sym inv.others ∙ w.if-others.true) ∙ sym is_other
        | else-others w ↦ w.others-is ∙ or_false _ _ (sym inv.others ∙ w.if-others.false) ∙ sym is_other
      ];
    }
