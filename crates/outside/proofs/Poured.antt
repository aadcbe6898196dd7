-- What was written of a piece by several calls.
use Rattle.std.proofs.Common.{◌≡◌, ℕ, List, [], ◌++◌, length, take, drop, Option, refl, sym, ap, subst, ◌∙◌}
use Rattle.std.proofs.Common.{append_assoc, take-append-drop}
use Rattle.std.proofs.lemmas.List.{append-nil, take_at}
use Rattle.std.proofs.KnownBytes.{Appends-nil, Appends-trans, Appends-kept}
use Rattle.std.specs.Io.KnownBytes.{Appends, Keeps}
use Rattle.outside.specs.Streams.{AppendsFront}

-- a front of the piece was written, and this is the rest
pub record IsPoured (old now : Option (List ℕ)) (bytes rest : List ℕ) : Type 0 where
  pub front : List ℕ
  pub parts : bytes ≡ front ++ rest
  pub added : Appends old now front

pub poured-start : (old : Option (List ℕ)) (bytes : List ℕ) → IsPoured old old bytes bytes
poured-start old bytes = record { front = []; parts = refl; added = Appends-nil old }

pub poured-more : (old now new : Option (List ℕ)) (bytes rest : List ℕ) (n : ℕ) → IsPoured old now bytes rest
    → Appends now new (take n rest) → IsPoured old new bytes (drop n rest)
poured-more old now new bytes rest n p more = record {
  front = p.front ++ take n rest;
  parts = p.parts ∙ ap (λ t. p.front ++ t) (sym (take-append-drop n rest)) ∙ sym (append_assoc p.front (take n rest) (drop n rest));
  added = Appends-trans old now new p.front (take n rest) p.added more;
}

pub poured-kept : (old now new : Option (List ℕ)) (bytes rest : List ℕ) → IsPoured old now bytes rest → Keeps now new → IsPoured old new bytes rest
poured-kept old now new bytes rest p kept = record { front = p.front; parts = p.parts; added = Appends-kept old now new p.front p.added kept }

pub poured-whole : (old now : Option (List ℕ)) (bytes rest : List ℕ) → IsPoured old now bytes rest → rest ≡ [] → Appends old now bytes
poured-whole old now bytes rest p none =
    subst (λ t. Appends old now t) (sym (p.parts ∙ ap (λ t. p.front ++ t) none ∙ append-nil p.front)) p.added

pub poured-front : (old now : Option (List ℕ)) (bytes rest : List ℕ) → IsPoured old now bytes rest → AppendsFront old now bytes
poured-front old now bytes rest p =
    let n = length p.front in
    let is : take n bytes ≡ p.front = ap (λ t. take n t) p.parts ∙ take_at p.front rest n refl in
    (n, subst (λ t. Appends old now t) (sym is) p.added)
