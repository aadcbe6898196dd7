-- What was refused, as JSON, has no float.
use Rattle.std.proofs.Common.{◌≡◌, List, [], ◌∷◌, false, refl, ap}
use Rattle.std.specs.Prelude.{ℕ, ◌||◌}
use Rattle.serde_json.specs.Written.{has_float}
use Rattle.missed_reads.specs.Told.{RefusedTold, missed_tree, numbers_tree}

numbers : (ns : List ℕ) → has_float (numbers_tree ns) ≡ false
numbers [] = refl
numbers (n ∷ ns) = numbers ns

pub no_float : (told : RefusedTold) → has_float (missed_tree told) ≡ false
no_float told = ap (λ b. b || false) (numbers told.numbers)
