-- Parts with empty ones after them.
use Rattle.std.proofs.Common.{append_assoc, ◌≡◌, ℕ, zero, suc, ◌+◌, ◌<◌, List, [], ◌∷◌, ◌++◌, take, drop, get_or}
use Rattle.std.proofs.Common.{length, map, refl, sym, ap, ◌∙◌, take-append-drop}
use Rattle.std.proofs.lemmas.List.{append-nil, map-append, take_more}
use Rattle.std.proofs.lemmas.List.Folds.{concat-append}
use Rattle.std.specs.Bool.{⊤}
use Rattle.std.specs.List.{concat}
use Rattle.core_texts.specs.declared.part.Part.{Part}
use Rattle.core_texts.specs.Parts.{part_bytes, said}

said-append : (ps qs : List Part) → said (ps ++ qs) ≡ said ps ++ said qs
said-append ps qs =
    ap concat (map-append (λ p. part_bytes p) ps qs) ∙ concat-append (map (λ p. part_bytes p) ps) (map (λ p. part_bytes p) qs)

-- one part more
pub said_more : (ps : List Part) (i : ℕ) (d : Part) → i < length ps → said (take (i + 1) ps) ≡ said (take i ps) ++ part_bytes (get_or ps i d)
said_more ps i d lt =
    ap (λ qs. said qs) (take_more ps i d lt) ∙ said-append (take i ps) (get_or ps i d ∷ [])
    ∙ ap (λ t. said (take i ps) ++ t) (append-nil (part_bytes (get_or ps i d)))

pub said_split : (ps : List Part) (i : ℕ) (d : Part) → i < length ps → said ps ≡ (said (take i ps) ++ part_bytes (get_or ps i d)) ++ said (drop (i + 1) ps)
said_split ps i d lt =
    ap (λ qs. said qs) (sym (take-append-drop (i + 1) ps)) ∙ said-append (take (i + 1) ps) (drop (i + 1) ps)
    ∙ ap (λ t. t ++ said (drop (i + 1) ps)) (said_more ps i d lt)

-- parts without bytes
abbrev pub Empties : List Part → Type 0
Empties [] = ⊤
Empties (p ∷ ps) = (part_bytes p ≡ []) × Empties ps

rest_empty : (k : ℕ) (ps : List Part) → Empties ps → said (drop k ps) ≡ []
rest_empty zero [] none = refl
rest_empty (suc k) [] none = refl
rest_empty zero (p ∷ ps) none = ap (λ t. t ++ said ps) none.0 ∙ rest_empty zero ps none.1
rest_empty (suc k) (p ∷ ps) none = rest_empty k ps none.1

pub padded : (list copied rest : List Part) (k : ℕ) → copied ≡ list → Empties rest → said (copied ++ drop k rest) ≡ said list
padded list copied rest k same none =
    said-append copied (drop k rest) ∙ ap (λ t. said copied ++ t) (rest_empty k rest none) ∙ append-nil (said copied) ∙ ap (λ ps. said ps) same

-- one part more behind a text
pub push_more : (before text next : List ℕ) (ps : List Part) (i : ℕ) (d : Part) → i < length ps → text ≡ before ++ said (take i ps)
    → next ≡ text ++ part_bytes (get_or ps i d) → next ≡ before ++ said (take (i + 1) ps)
push_more before text next ps i d lt is more =
    more ∙ ap (λ t. t ++ part_bytes (get_or ps i d)) is ∙ append_assoc before (said (take i ps)) (part_bytes (get_or ps i d))
    ∙ ap (λ t. before ++ t) (sym (said_more ps i d lt))
