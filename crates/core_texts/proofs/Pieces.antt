-- Pieces written one after another.
use Rattle.std.proofs.Common.{◌≡◌, ℕ, List, ◌++◌, length, take, drop, Option, Result, Ok, Err, refl, sym, ap, subst}
use Rattle.std.proofs.Common.{◌∙◌, arith, append_assoc, take-append-drop}
use Rattle.std.proofs.lemmas.List.{take_at}
use Rattle.std.proofs.KnownBytes.{Appends-trans}
use Rattle.std.specs.Io.KnownBytes.{Appends}
use Rattle.outside.specs.Streams.{AppendsFront, SinkSeen}
use Rattle.core_texts.specs.Says.{IsAdded, IsCutOff, IsWritten}

-- a front after whole bytes is a front of both
front_after : (a b c : Option (List ℕ)) (xs ys : List ℕ) → Appends a b xs → AppendsFront b c ys → AppendsFront a c (xs ++ ys)
front_after a b c xs ys whole front =
    let n = front.0 in
    let m = length (xs ++ take n ys) in
    let parts : xs ++ ys ≡ (xs ++ take n ys) ++ drop n ys =
    ap (λ t. xs ++ t) (sym (take-append-drop n ys)) ∙ sym (append_assoc xs (take n ys) (drop n ys)) in
    let is : take m (xs ++ ys) ≡ xs ++ take n ys = ap (λ t. take m t) parts ∙ take_at (xs ++ take n ys) (drop n ys) m refl in
    (m, subst (λ t. Appends a c t) (sym is) (Appends-trans a b c xs (take n ys) whole front.1))

-- a front is one of more bytes
front_more : (a b : Option (List ℕ)) (xs ys : List ℕ) → AppendsFront a b xs → AppendsFront a b (xs ++ ys)
front_more a b xs ys front =
    let n = front.0 in
    let m = length (take n xs) in
    let parts : xs ++ ys ≡ take n xs ++ (drop n xs ++ ys) =
    ap (λ t. t ++ ys) (sym (take-append-drop n xs)) ∙ append_assoc (take n xs) (drop n xs) ys in
    let is : take m (xs ++ ys) ≡ take n xs = ap (λ t. take m t) parts ∙ take_at (take n xs) (drop n xs ++ ys) m refl in
    (m, subst (λ t. Appends a b t) (sym is) front.1)

-- more after whole bytes
pub then_added : (a b c : SinkSeen) (xs ys : List ℕ) → IsAdded a b xs → IsAdded b c ys → IsAdded a c (xs ++ ys)
then_added a b c xs ys whole more = record {
  later = omega (arith, whole.later, more.later);
  added = Appends-trans _ _ _ xs ys whole.added more.added;
}

pub then_cut : (a b c : SinkSeen) (xs ys : List ℕ) → IsAdded a b xs → IsCutOff b c ys → IsCutOff a c (xs ++ ys)
then_cut a b c xs ys whole cut = record {
  rose = omega (arith, whole.later, cut.rose);
  later = omega (arith, whole.later, cut.later);
  front = front_after _ _ _ xs ys whole.added cut.front;
}

pub then_written : {T E : Type 0} (a b c : SinkSeen) (xs ys : List ℕ) (answer : Result T E) → IsAdded a b xs → IsWritten b c ys answer → IsWritten a c (xs ++ ys) answer
then_written a b c xs ys (Ok x) whole h = then_added a b c xs ys whole h
then_written a b c xs ys (Err e) whole h = then_cut a b c xs ys whole h

-- a text that was cut off is a front of more
pub cut_off : (a b : SinkSeen) (xs ys : List ℕ) → IsCutOff a b xs → IsCutOff a b (xs ++ ys)
cut_off a b xs ys h = record { rose = h.rose; later = h.later; front = front_more _ _ xs ys h.front }
