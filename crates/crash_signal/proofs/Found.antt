-- What is found in a list, and what is found in what its elements say.
use Rattle.std.proofs.Common.{◌≡◌, ℕ, ℤ, Bool, true, false, cond, List, [], ◌∷◌, Option, Some, map, refl}
use Rattle.std.specs.Prelude.{find, option_map}
use Rattle.std.specs.Ordering.{int_eq}
use Rattle.crash_signal.specs.Tables.{Word, text_at, word_of}
use Rattle.crash_signal.specs.declared.tables.Word as code

abbrev found : {T S U : Type 0} → (T → S) → (S → U) → Option T → Option U
found view field o = option_map (λ x. field (view x)) o

among : {T S U : Type 0} (view : T → S) (field : S → U) (test : S → Bool) (xs : List T)
    → option_map field (find test (map view xs)) ≡ found view field (find (λ x. test (view x)) xs)
among view field test [] = refl
among view field test (x ∷ xs) =
    elim (test (view x)) as
    (λ b. option_map field (cond b (Some (view x)) (find test (map view xs)))
    ≡ found view field (cond b (Some x) (find (λ x. test (view x)) xs)))
    [ true ↦ refl | false ↦ among view field test xs ]

pub words : (xs : List code.Word) (number : ℤ) → text_at (map word_of xs) number
    ≡ option_map (λ (w : code.Word). w.text.now) (find (λ w. int_eq w.number number) xs)
words xs number = among word_of (λ (w : Word). w.text) (λ w. int_eq w.number number) xs
