-- The words of some bytes, one after another.
use Rattle.std.proofs.Common.{◌≡◌, ℕ, ◌<◌, List, [], ◌∷◌, ◌++◌, length, refl, arith}
use Rattle.elf64_core.specs.Fields.{u64_in}
use Rattle.py_process.specs.Candidates.{words_of}

-- a word in front of others
pub word_first : (word rest : List ℕ) → length word ≡ 8 → words_of (word ++ rest) ≡ u64_in word 0 ∷ words_of rest
unfolding words_of u64_in
word_first [] rest e = absurd (omega arith)
word_first (a ∷ []) rest e = absurd (omega arith)
word_first (a ∷ b ∷ []) rest e = absurd (omega arith)
word_first (a ∷ b ∷ c ∷ []) rest e = absurd (omega arith)
word_first (a ∷ b ∷ c ∷ d ∷ []) rest e = absurd (omega arith)
word_first (a ∷ b ∷ c ∷ d ∷ f ∷ []) rest e = absurd (omega arith)
word_first (a ∷ b ∷ c ∷ d ∷ f ∷ g ∷ []) rest e = absurd (omega arith)
word_first (a ∷ b ∷ c ∷ d ∷ f ∷ g ∷ h ∷ []) rest e = absurd (omega arith)
word_first (a ∷ b ∷ c ∷ d ∷ f ∷ g ∷ h ∷ i ∷ []) rest e = refl
word_first (a ∷ b ∷ c ∷ d ∷ f ∷ g ∷ h ∷ i ∷ j ∷ more) rest e = absurd (omega arith)

pub word_none : (bytes : List ℕ) → length bytes < 8 → words_of bytes ≡ []
unfolding words_of
word_none [] lt = refl
word_none (a ∷ []) lt = refl
word_none (a ∷ b ∷ []) lt = refl
word_none (a ∷ b ∷ c ∷ []) lt = refl
word_none (a ∷ b ∷ c ∷ d ∷ []) lt = refl
word_none (a ∷ b ∷ c ∷ d ∷ f ∷ []) lt = refl
word_none (a ∷ b ∷ c ∷ d ∷ f ∷ g ∷ []) lt = refl
word_none (a ∷ b ∷ c ∷ d ∷ f ∷ g ∷ h ∷ []) lt = refl
word_none (a ∷ b ∷ c ∷ d ∷ f ∷ g ∷ h ∷ i ∷ more) lt = absurd (omega arith)
