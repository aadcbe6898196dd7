-- Pieces that ascend, and what they have between two addresses.
use Rattle.std.proofs.Common.{◌≡◌, ℕ, zero, suc, ◌+◌, ◌<◌, ◌≤◌, leb, min, max, true, List, [], ◌∷◌, ◌++◌, length, drop}
use Rattle.std.proofs.Common.{get_or, refl, sym, ap, subst, ◌∙◌, arith, append_assoc}
use Rattle.std.specs.Prelude.{Option, None}
use Rattle.std.specs.List.{AllByRecursion, cons_option}
use Rattle.std.proofs.lemmas.Bool.{le-leb}
use Rattle.std.proofs.lemmas.List.{drop_more}
use Rattle.std.proofs.lemmas.List.Elements.{All-from_recursion}
use Rattle.piece_table.specs.declared.overlay.Owned.{Owned}
use Rattle.piece_table.specs.Laid.{AreBelow, HasPieceRoom, HaveRoom, Rises, piece_end, overlaid, part_between}
use Rattle.piece_table.specs.Laid.{parts_between}

-- a piece that ends at an address or before it has nothing from there on, one that starts there nothing below
part_below : (low high shift : ℕ) (p : Owned) → piece_end p ≤ low → part_between low high shift p ≡ None
unfolding part_between
part_below low high shift p under =
    let none : leb (min (piece_end p) high) (max p.entry.start low) ≡ true = le-leb _ _ (omega arith) in
    rw none refl

part_above : (low high shift : ℕ) (p : Owned) → high ≤ p.entry.start → part_between low high shift p ≡ None
unfolding part_between
part_above low high shift p over =
    let none : leb (min (piece_end p) high) (max p.entry.start low) ≡ true = le-leb _ _ (omega arith) in
    rw none refl

pub parts_gone : (low high shift number : ℕ) (ps : List Owned) → AreBelow low number ps
    → parts_between low high shift (drop number ps) ≡ parts_between low high shift ps
parts_gone low high shift zero ps below = refl
parts_gone low high shift (suc number) [] below = refl
parts_gone low high shift (suc number) (p ∷ ps) below =
    parts_gone low high shift number ps below.1
    ∙ ap (λ o. cons_option o (parts_between low high shift ps)) (sym (part_below low high shift p below.0))

pub parts_past : (low high shift from : ℕ) (ps : List Owned) → Rises from ps → high ≤ from → parts_between low high shift ps ≡ []
parts_past low high shift from [] rise over = refl
parts_past low high shift from (p ∷ ps) rise over =
    ap (λ o. cons_option o (parts_between low high shift ps)) (part_above low high shift p (omega (arith, rise.0)))
    ∙ parts_past low high shift (piece_end p) ps rise.1 (omega (arith, rise.0))

pub parts_more : (low high shift number : ℕ) (ps : List Owned) (d : Owned) → number < length ps
    → parts_between low high shift (drop number ps)
    ≡ cons_option (part_between low high shift (get_or ps number d)) (parts_between low high shift (drop (number + 1) ps))
parts_more low high shift number ps d less = ap (parts_between low high shift) (drop_more ps number d less)

pub Rises-drop : (from number : ℕ) (ps : List Owned) (d : Owned) → Rises from ps → number < length ps
    → Rises (piece_end (get_or ps number d)) (drop (number + 1) ps)
Rises-drop from zero (p ∷ ps) d rise less = rise.1
Rises-drop from (suc number) (p ∷ ps) d rise less =
    let tail : suc number + 1 ≡ suc (number + 1) = omega arith in
    rw tail (Rises-drop (piece_end p) number ps d rise.1 (omega arith))
Rises-drop from zero [] d rise less = absurd (omega arith)
Rises-drop from (suc number) [] d rise less = absurd (omega arith)

pub Rises-at : (low number : ℕ) (ps : List Owned) (d : Owned) → number < length ps → Rises low (drop number ps)
    → (low ≤ (get_or ps number d).entry.start) × Rises (piece_end (get_or ps number d)) (drop (number + 1) ps)
Rises-at low number ps d less rise = subst (Rises low) (drop_more ps number d less) rise

pub AreBelow-append : (high : ℕ) (ps qs : List Owned) → AllByRecursion (λ p. piece_end p ≤ high) ps
    → AllByRecursion (λ p. piece_end p ≤ high) qs → AllByRecursion (λ p. piece_end p ≤ high) (ps ++ qs)
AreBelow-append high [] qs h k = k
AreBelow-append high (p ∷ ps) qs h k = (h.0, AreBelow-append high ps qs h.1 k)

pub AreBelow-wider : (low high : ℕ) (ps : List Owned) → AllByRecursion (λ p. piece_end p ≤ low) ps → low ≤ high
    → AllByRecursion (λ p. piece_end p ≤ high) ps
AreBelow-wider low high [] h le = tt
AreBelow-wider low high (p ∷ ps) h le = (omega (arith, h.0), AreBelow-wider low high ps h.1 le)

pub room_at : (shift number : ℕ) (ps : List Owned) (d : Owned) → HaveRoom shift ps → number < length ps → HasPieceRoom shift (get_or ps number d)
room_at shift number ps d room less = All-from_recursion (HasPieceRoom shift) ps room number d less

-- one more of the first pieces, with what the others have before it
pub overlaid_more : (made under over : List Owned) (shift low next number : ℕ) (d : Owned) (whole : List Owned) → number < length over
    → AreBelow low next under → made ++ overlaid shift low (drop number over) under ≡ whole
    → ((made ++ parts_between low (get_or over number d).entry.start shift (drop next under)) ++ get_or over number d ∷ [])
    ++ overlaid shift (piece_end (get_or over number d)) (drop (number + 1) over) under ≡ whole
overlaid_more made under over shift low next number d whole less below is =
    let top = get_or over number d in
    let parts = parts_between low top.entry.start shift under in
    let rest = overlaid shift (piece_end top) (drop (number + 1) over) under in
    ap (λ ps. ((made ++ ps) ++ top ∷ []) ++ rest) (parts_gone low top.entry.start shift next under below)
    ∙ append_assoc (made ++ parts) (top ∷ []) rest ∙ append_assoc made parts (top ∷ rest)
    ∙ ap (λ ps. made ++ overlaid shift low ps under) (sym (drop_more over number d less)) ∙ is

-- the last piece that has a part in a gap, and a piece after which none has
pub last_part : (made new whole : List Owned) (low high shift from number : ℕ) (under : List Owned) (d : Owned) (o : Option Owned)
    → number < length under → Rises from under → high < piece_end (get_or under number d)
    → o ≡ part_between low high shift (get_or under number d)
    → made ++ parts_between low high shift (drop number under) ≡ whole → new ≡ made ++ cons_option o [] → new ≡ whole
last_part made new whole low high shift from number under d o less rise past is was pushed =
    let rest = parts_past low high shift (piece_end (get_or under number d)) (drop (number + 1) under) (Rises-drop from number under d rise less) (omega arith) in
    pushed ∙ ap (λ p. made ++ cons_option p []) is
    ∙ ap (λ ps. made ++ cons_option (part_between low high shift (get_or under number d)) ps) (sym rest)
    ∙ ap (λ ps. made ++ ps) (sym (parts_more low high shift number under d less)) ∙ was
