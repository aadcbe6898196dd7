-- What is left of a number as a list's items are taken from it.
use Rattle.std.proofs.Common.{◌≡◌, ℕ, zero, suc, ◌+◌, ◌<◌, false, List, length, drop, get_or, ap, ◌∙◌, sym, arith}
use Rattle.std.proofs.Common.{add-one, drop-cons, ne_eqb}
use Rattle.std.specs.Prelude.{nat_eq}
use Rattle.std.specs.List.{sum}
use Rattle.std.proofs.Math.Dec.{eqb-suc-zero}
use Rattle.std.proofs.lemmas.Bool.{eq-eqb}
use Rattle.std.proofs.lemmas.List.Sums.{sum_by-cons}

pub sum_next : (xs : List ℕ) (i d : ℕ) → i < length xs → sum (drop i xs) ≡ get_or xs i d + sum (drop (i + 1) xs)
sum_next xs i d within = ap sum (drop-cons xs i d within)
    ∙ sum_by-cons (λ x. x) (get_or xs i d) (drop (suc i) xs)
    ∙ ap (λ j. get_or xs i d + sum (drop j xs)) (sym (add-one i))

-- an item that is more than what is left: the items have another number
pub too_many : (given total left item behind : ℕ) → given + left ≡ total + (item + behind) → left < item
    → nat_eq given total ≡ false
too_many given total left item behind is more = ne_eqb given total (λ same. absurd (omega (arith, is, more, same)))

-- nothing is left exactly where the items have the whole number
pub none_left : (given total left : ℕ) → given + left ≡ total → nat_eq left 0 ≡ nat_eq given total
none_left given total zero is = sym (eq-eqb given total (omega (arith, is)))
none_left given total (suc left) is = eqb-suc-zero left
    ∙ sym (ne_eqb given total (λ same. absurd (omega (arith, is, same))))
