use Rattle.std.proofs.Common.{◌≡◌, ◌∙◌, true, false, List, ◌∷◌, ℕ, sym, ap, refl, drop}
use Rattle.std.proofs.lemmas.List.{drop_more}
use Rattle.py_fields.specs.Fronts.{are_runs_after}
use Rattle.py_fields.proofs.spelling.are_runs.Goals as goal

-- a dot behind a dot
two_dots : (b : ℕ) (rest : List ℕ) → b ≡ 46 → are_runs_after true (b ∷ rest) ≡ false
two_dots b rest e = rw e refl

pub returns-then-is_dot : goal.returns-then-is_dot
returns-then-is_dot c =
    let bytes = c.args.metadata.now in
    let i = c.loop-byte.byte-index in
    sym (c.loop-byte.invariant ∙ ap (λ d. are_runs_after d (drop i bytes)) c.if-after_dot.true
    ∙ ap (are_runs_after true) (drop_more bytes i 0 c.loop-byte-test.true) ∙ two_dots _ _ c.if-is_dot.true)
