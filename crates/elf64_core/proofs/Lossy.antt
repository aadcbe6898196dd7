-- What stands for bytes that need not be text is characters.
use Rattle.std.proofs.Common.{◌≡◌, ℕ, zero, suc, true, List, [], ◌∷◌, drop, Option, Some, None, refl, map}
use Rattle.std.proofs.lemmas.Bool.{and_from}
use Rattle.bstr.specs.Utf8.{decoded, or_replacement, pieces_from, lossy_chars}
use Rattle.bstr.proofs.lemmas.SoundLemmas.{SpellsChar-decoded}
use lib.Utf8.{scalar, scalars}

scalar-piece : (bs : List ℕ) (char : Option ℕ) → (decoded bs).char ≡ char → scalar (or_replacement char) ≡ true
scalar-piece bs None is = refl
scalar-piece bs (Some c) is = (SpellsChar-decoded bs c is).scalar

scalars-pieces : (n : ℕ) (bs : List ℕ) → scalars (map (λ p. or_replacement p.char) (pieces_from n bs)) ≡ true
unfolding pieces_from
scalars-pieces zero bs = refl
scalars-pieces (suc n) [] = refl
scalars-pieces (suc n) (b ∷ bs) =
    let first = decoded (b ∷ bs) in
    and_from _ _ (scalar-piece (b ∷ bs) first.char refl) (scalars-pieces n (drop first.size (b ∷ bs)))

pub scalars-lossy_chars : (bs : List ℕ) → scalars (lossy_chars bs) ≡ true
scalars-lossy_chars bs = scalars-pieces _ bs
