-- Bytes that are a text.
use Rattle.std.proofs.Common.{◌≡◌, ◌≢◌, ℕ, suc, ◌+◌, ◌<◌, ◌≤◌, true, false, cond, List, [], ◌∷◌, ◌++◌, length, get_or}
use Rattle.std.proofs.Common.{take, drop, refl, sym, ◌∙◌, arith, append_assoc, add-one, append-nil}
use Rattle.std.proofs.Math.Seq.{drop-cons, take-suc}
use Rattle.std.specs.Prelude.{nat_eq, Ok, Err}
use Rattle.std.specs.Str.{IsUtf8, is_utf8}
use Rattle.std.proofs.lemmas.Str.{IsUtf8-from_is_utf8, is_utf8-from_IsUtf8}
use Rattle.std.proofs.lemmas.Bool.Decides.{nat_tests}
use Rattle.std.proofs.lemmas.Grind.{common_steps}
use Rattle.process_memory.specs.Memory.{Fault}
use Rattle.py_objects.specs.ShownTexts.{before_nul, text_or}

pub text_ok : (bytes : List ℕ) (f : Fault) → IsUtf8 bytes → text_or bytes f ≡ Ok bytes
unfolding text_or
text_ok bytes f h = rw (is_utf8-from_IsUtf8 bytes h) refl

pub text_bad : (bytes : List ℕ) (f : Fault) → (IsUtf8 bytes → ⊥) → text_or bytes f ≡ Err f
unfolding text_or
text_bad bytes f h =
    elim (is_utf8 bytes) as (λ b. is_utf8 bytes ≡ b → cond b (Ok bytes) (Err f) ≡ Err f)
    [ true ↦ λ e. absurd (h (IsUtf8-from_is_utf8 bytes e)) | false ↦ λ e. refl ] refl

nul_step : (b : ℕ) (bs : List ℕ) → b ≢ 0 → before_nul (b ∷ bs) ≡ b ∷ before_nul bs
unfolding before_nul
nul_step b bs h = let no : nat_eq b 0 ≡ false = grind (arith, nat_tests) in rw no refl

nul_stop : (b : ℕ) (bs : List ℕ) → b ≡ 0 → before_nul (b ∷ bs) ≡ []
unfolding before_nul
nul_stop b bs h = let yes : nat_eq b 0 ≡ true = grind (arith, nat_tests) in rw yes refl

pub nul_none : before_nul [] ≡ []
unfolding before_nul
nul_none = refl

pub nul_more : (bs : List ℕ) (i : ℕ) → before_nul bs ≡ take i bs ++ before_nul (drop i bs) → i < length bs → get_or bs i 0 ≢ 0 → before_nul bs ≡ take (i + 1) bs ++ before_nul (drop (i + 1) bs)
nul_more bs i e lt some =
    rw (add-one, take-suc bs i 0 lt) (e ∙ rw (drop-cons bs i 0 lt, nul_step (get_or bs i 0) (drop (suc i) bs) some) (sym (append_assoc (take i bs) (get_or bs i 0 ∷ []) (before_nul (drop (suc i) bs)))))

pub nul_found : (bs : List ℕ) (i : ℕ) → before_nul bs ≡ take i bs ++ before_nul (drop i bs) → i < length bs → get_or bs i 0 ≡ 0 → before_nul bs ≡ take i bs
nul_found bs i e lt none = e ∙ rw (drop-cons bs i 0 lt, nul_stop (get_or bs i 0) (drop (suc i) bs) none) (append-nil (take i bs))

drop_none : (bs : List ℕ) (i : ℕ) → length bs ≤ i → drop i bs ≡ []
drop_none bs i h = grind (arith, common_steps)

pub nul_whole : (bs : List ℕ) (i : ℕ) → before_nul bs ≡ take i bs ++ before_nul (drop i bs) → length bs ≤ i → before_nul bs ≡ take i bs
nul_whole bs i e over = e ∙ rw (drop_none bs i over, nul_none) (append-nil (take i bs))
