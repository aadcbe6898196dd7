-- Texts that are appended piece by piece.
use Rattle.std.proofs.Common.{◌≡◌, ◌≢◌, ◌<◌, ◌+◌, ℕ, List, [], ◌∷◌, ◌++◌, drop, get_or, length, map, ap, refl, sym, ◌∙◌}
use Rattle.std.proofs.Common.{append_assoc}
use Rattle.std.proofs.lemmas.List.{at_drop_more}
use Rattle.std.specs.Prelude.{Vec}
use Rattle.std.specs.Global.{Global}
use Rattle.std.specs.Borrow.{Bor}
use Rattle.std.specs.List.{concat}
use Rattle.std.proofs.Common.{codes, decimal}
use Rattle.std.proofs.lemmas.List.{length-map}
use Rattle.std.proofs.lemmas.Simd.{map-map}
use Rattle.py_process.specs.declared.core_error.CoreError.{CoreError}
use Rattle.core_report.specs.Grouped.{group_text, groups_text, refusal_line, refusals_text}
use Rattle.core_report.specs.Judging.{refusal_seen}

-- a piece more, where the text of a list begins with its first piece
pub piece_more : {X : Type 0} (F : List X → List ℕ) (f : X → List ℕ) → ((x : X) (rest : List X) → F (x ∷ rest) ≡ f x ++ F rest)
    → (whole text next : List ℕ) (xs : List X) (i : ℕ) (d : X) → i < length xs → text ++ F (drop i xs) ≡ whole
    → next ≡ text ++ f (get_or xs i d) → next ++ F (drop (i + 1) xs) ≡ whole
piece_more F f begins whole text next xs i d lt is more =
    ap (λ t. t ++ F (drop (i + 1) xs)) more ∙ append_assoc text (f (get_or xs i d)) (F (drop (i + 1) xs))
    ∙ ap (λ t. text ++ t) (sym (begins (get_or xs i d) (drop (i + 1) xs)) ∙ sym (at_drop_more F xs i d lt)) ∙ is

-- a group more
pub group_more : (names : List (List ℕ)) (whole text next : List ℕ) (xs : List (Vec ℕ Global)) (i : ℕ) (d : Vec ℕ Global) → i < length xs
    → text ++ groups_text names (i + 1) (map (λ (g : Vec ℕ Global). g.items) (drop i xs)) ≡ whole
    → next ≡ text ++ group_text names (i + 1) (get_or xs i d).items
    → next ++ groups_text names (i + 1 + 1) (map (λ (g : Vec ℕ Global). g.items) (drop (i + 1) xs)) ≡ whole
group_more names whole text next xs i d lt is more =
    let rest = groups_text names (i + 1 + 1) (map (λ (g : Vec ℕ Global). g.items) (drop (i + 1) xs)) in
    ap (λ t. t ++ rest) more ∙ append_assoc text (group_text names (i + 1) (get_or xs i d).items) rest
    ∙ ap (λ t. text ++ t) (sym (at_drop_more (λ gs. groups_text names (i + 1) (map (λ (g : Vec ℕ Global). g.items) gs)) xs i d lt)) ∙ is

-- the heading of some refusals, and then their lines
pub refusals_begin : (rs : List (Bor (List ℕ) × CoreError)) (before text : List ℕ) (n : ℕ) → length rs ≢ 0 → n ≡ length rs
    → text ≡ before ++ concat (codes "Refused: " ∷ decimal n ∷ codes "\n" ∷ [])
    → text ++ concat (map (λ r. refusal_line (refusal_seen r)) rs) ≡ before ++ refusals_text (map refusal_seen rs)
refusals_begin [] before text n some count is = absurd (some refl)
refusals_begin (r ∷ rs) before text n some count is =
    let heading : ℕ → List ℕ = λ k. concat (codes "Refused: " ∷ decimal k ∷ codes "\n" ∷ []) in
    let lines = concat (map (λ r. refusal_line (refusal_seen r)) (r ∷ rs)) in
    ap (λ t. t ++ lines) is ∙ append_assoc before (heading n) lines
    ∙ ap (λ k. before ++ (heading k ++ lines)) (count ∙ sym (length-map (r ∷ rs) refusal_seen))
    ∙ ap (λ ls. before ++ (heading (length (map refusal_seen (r ∷ rs))) ++ concat ls)) (sym (map-map (λ x. refusal_line x) refusal_seen (r ∷ rs)))
