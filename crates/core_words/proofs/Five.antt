-- Words one by one.
use Rattle.std.proofs.Common.{◌≡◌, ◌≢◌, ℕ, suc, List, [], ◌∷◌, length, get_or, None, refl, sym, ap, ◌∙◌, arith}
use Rattle.std.specs.Prelude.{String, string_bytes}
use Rattle.std.specs.Global.{Global}
use Rattle.core_words.specs.Words.{walk_words, texts}

not_five_lists : (ws : List (List ℕ)) → length ws ≢ 5 → walk_words ws ≡ None
not_five_lists [] n = refl
not_five_lists (a ∷ []) n = refl
not_five_lists (a ∷ b ∷ []) n = refl
not_five_lists (a ∷ b ∷ c ∷ []) n = refl
not_five_lists (a ∷ b ∷ c ∷ d ∷ []) n = refl
not_five_lists (a ∷ b ∷ c ∷ d ∷ e ∷ []) n = absurd (n refl)
not_five_lists (a ∷ b ∷ c ∷ d ∷ e ∷ f ∷ ws) n = refl

length-texts : (words : List (String Global)) → length (texts words) ≡ length words
length-texts [] = refl
length-texts (w ∷ ws) = ap suc (length-texts ws)

pub not_five : (words : List (String Global)) → length words ≢ 5 → None ≡ walk_words (texts words)
not_five words n = sym (not_five_lists (texts words) (λ is. n (sym (length-texts words) ∙ is)))

pub five : (words : List (String Global)) (a b c d e : String Global) → length words ≡ 5
    → a ≡ get_or words 0 a → b ≡ get_or words 1 b → c ≡ get_or words 2 c → d ≡ get_or words 3 d → e ≡ get_or words 4 e
    → string_bytes a ∷ string_bytes b ∷ string_bytes c ∷ string_bytes d ∷ string_bytes e ∷ [] ≡ texts words
five [] a b c d e n _ _ _ _ _ = absurd (omega arith)
five (a' ∷ []) a b c d e n _ _ _ _ _ = absurd (omega arith)
five (a' ∷ b' ∷ []) a b c d e n _ _ _ _ _ = absurd (omega arith)
five (a' ∷ b' ∷ c' ∷ []) a b c d e n _ _ _ _ _ = absurd (omega arith)
five (a' ∷ b' ∷ c' ∷ d' ∷ []) a b c d e n _ _ _ _ _ = absurd (omega arith)
five (a' ∷ b' ∷ c' ∷ d' ∷ e' ∷ []) a b c d e n pa pb pc pd pe =
    λ i. string_bytes (pa i) ∷ string_bytes (pb i) ∷ string_bytes (pc i) ∷ string_bytes (pd i) ∷ string_bytes (pe i) ∷ []
five (a' ∷ b' ∷ c' ∷ d' ∷ e' ∷ f' ∷ ws) a b c d e n _ _ _ _ _ = absurd (omega arith)
