-- Words of which there are too few, or too many.
use Rattle.std.proofs.Common.{◌≡◌, ◌<◌, ◌≤◌, List, [], ◌∷◌, length, None, refl, arith}
use Rattle.std.specs.Prelude.{String}
use Rattle.std.specs.Global.{Global}
use Rattle.core_words.specs.Words.{locate_words, merge_words, reach_words, sample_words, slim_words, texts}

pub not_two : (words : List (String Global)) → length words < 2 → locate_words (texts words) ≡ None
not_two [] lt = refl
not_two (a ∷ []) lt = refl
not_two (a ∷ b ∷ words) lt = absurd (omega (arith, lt))

pub not_three : (words : List (String Global)) → length words < 3 → reach_words (texts words) ≡ None
not_three [] lt = refl
not_three (a ∷ []) lt = refl
not_three (a ∷ b ∷ []) lt = refl
not_three (a ∷ b ∷ c ∷ words) lt = absurd (omega (arith, lt))

pub no_level : (words : List (String Global)) → length words < 3 → slim_words (texts words) ≡ None
no_level [] lt = refl
no_level (a ∷ []) lt = refl
no_level (a ∷ b ∷ []) lt = refl
no_level (a ∷ b ∷ c ∷ words) lt = absurd (omega (arith, lt))

pub not_four : (words : List (String Global)) → length words < 4 → merge_words (texts words) ≡ None
not_four [] lt = refl
not_four (a ∷ []) lt = refl
not_four (a ∷ b ∷ []) lt = refl
not_four (a ∷ b ∷ c ∷ []) lt = refl
not_four (a ∷ b ∷ c ∷ d ∷ words) lt = absurd (omega (arith, lt))

pub too_many : (words : List (String Global)) → 3 ≤ length words → None ≡ sample_words (texts words)
too_many [] le = absurd (omega (arith, le))
too_many (a ∷ []) le = absurd (omega (arith, le))
too_many (a ∷ b ∷ []) le = absurd (omega (arith, le))
too_many (a ∷ b ∷ c ∷ words) le = refl
