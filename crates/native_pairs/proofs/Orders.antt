-- Flags without the first that is set.
use Rattle.std.proofs.Common.{◌≡◌, ℕ, ◌+◌, Bool, true, false, not, cond, List, [], ◌∷◌, ◌++◌, sym, ◌∙◌, arith}
use Rattle.std.proofs.Common.{append_assoc}
use Rattle.std.specs.Prelude.{◌&&◌}
use Rattle.std.proofs.lemmas.List.{append-nil}
use Rattle.std.proofs.lemmas.List.Sums.{sum_by-cons}
use Rattle.native_pairs.specs.Order.{calls_in, without_first}

one_less : (others : List Bool) (e : Bool) (after : List Bool) (more : List Bool) → more ≡ others ++ e ∷ []
    → others ++ e ∷ after ≡ more ++ after
one_less others e after more adds = rw adds (sym (append_assoc others (e ∷ []) after))

-- one more flag
pub turn : (whole others more before after : List Bool) (is_first e pushed next : Bool) → before ≡ e ∷ after
    → whole ≡ others ++ cond is_first (without_first before) before → more ≡ others ++ pushed ∷ []
    → pushed ≡ (e && not is_first) → next ≡ (is_first && not e) → whole ≡ more ++ cond next (without_first after) after
unfolding without_first
turn whole others more before after true true pushed next b w m p n =
    w ∙ rw b (rw n (one_less others false after more (rw p at m)))
turn whole others more before after true false pushed next b w m p n =
    w ∙ rw b (rw n (one_less others false (without_first after) more (rw p at m)))
turn whole others more before after false true pushed next b w m p n =
    w ∙ rw b (rw n (one_less others true after more (rw p at m)))
turn whole others more before after false false pushed next b w m p n =
    w ∙ rw b (rw n (one_less others false after more (rw p at m)))

-- no more flags
pub turned : (whole others rest : List Bool) (is_first : Bool) → rest ≡ []
    → whole ≡ others ++ cond is_first (without_first rest) rest → others ≡ whole
unfolding without_first
turned whole others rest true none w = sym (w ∙ rw none (append-nil others))
turned whole others rest false none w = sym (w ∙ rw none (append-nil others))

-- there is one less then
pub fewer : (es : List Bool) (n : ℕ) → calls_in es ≡ n + 1 → calls_in (without_first es) ≡ n
unfolding without_first
fewer [] n h = absurd (omega (arith, h))
fewer (true ∷ es) n h = omega (arith, h, sum_by-cons (λ t. cond t 1 0) true es, sum_by-cons (λ t. cond t 1 0) false es)
fewer (false ∷ es) n h =
    let less : calls_in es ≡ n + 1 = omega (arith, h, sum_by-cons (λ t. cond t 1 0) false es) in
    omega (arith, fewer es n less, sum_by-cons (λ t. cond t 1 0) false (without_first es))
