-- Lists of ranges that grow, and what a memory holds of them.
use Rattle.std.proofs.Common.{◌≡◌, ℕ, zero, suc, ◌<◌, List, [], ◌∷◌, ◌++◌, length, refl, sym, ◌∙◌, ap, arith}
use Rattle.std.proofs.Common.{append_assoc, length-append, append-nil, inl, inr}
use Rattle.std.specs.Prelude.{Option, Some, None, slice_get}
use Rattle.std.proofs.lemmas.Bool.{cases_lt}
use Rattle.std.proofs.lemmas.Option.{slice_get_within}
use Rattle.process_memory.specs.declared.memory.Span.{Span}
use Rattle.process_memory.specs.Memory.{Memory}
use Rattle.process_memory.specs.Seen.{Extends, HoldsRead, AddsOnly}

slice_get-append : {X : Type 0} (xs zs : List X) (k : ℕ) (x : X) → slice_get xs k ≡ Some x → slice_get (xs ++ zs) k ≡ Some x
slice_get-append [] zs k x h = cc
slice_get-append (y ∷ ys) zs zero x h = h
slice_get-append (y ∷ ys) zs (suc k) x h = slice_get-append ys zs k x h

slice_get-front : {X : Type 0} (ys zs : List X) (k : ℕ) (x : X) → k < length ys → slice_get (ys ++ zs) k ≡ Some x → slice_get ys k ≡ Some x
slice_get-front [] zs k x lt h = absurd (omega arith)
slice_get-front (y ∷ ys) zs zero x lt h = h
slice_get-front (y ∷ ys) zs (suc k) x lt h = slice_get-front ys zs k x (omega arith) h

pub slice_get-end : {X : Type 0} (xs : List X) (x : X) → slice_get (xs ++ x ∷ []) (length xs) ≡ Some x
slice_get-end [] x = refl
slice_get-end (y ∷ ys) x = slice_get-end ys x

-- the earlier part of what was read
pub holds-before : (r0 r1 r2 : Option (List Span)) (w m : Memory) → Extends r1 r2 → HoldsRead r0 r2 w m → HoldsRead r0 r1 w m
holds-before None r1 r2 w m e h = h
holds-before (Some xs) None r2 w m e h = tt
holds-before (Some xs) (Some ys) None w m e h = absurd e
holds-before (Some xs) (Some ys) (Some ws) w m (zs, e) h =
    λ k s above at. h k s above (rw e (slice_get-append ys zs k s at))

-- the later part of what was read
pub holds-after : (r0 r1 r2 : Option (List Span)) (w m : Memory) → Extends r0 r1 → HoldsRead r0 r2 w m → HoldsRead r1 r2 w m
holds-after None None r2 w m e h = h
holds-after None (Some ys) r2 w m e h = absurd e
holds-after (Some xs) None r2 w m e h = absurd e
holds-after (Some xs) (Some ys) None w m e h = tt
holds-after (Some xs) (Some ys) (Some ws) w m (zs, e) h =
    λ k s above at. h k s (omega (arith, ap length e, length-append xs zs)) at

pub extends-trans : (r0 r1 r2 : Option (List Span)) → Extends r0 r1 → Extends r1 r2 → Extends r0 r2
extends-trans None None None p q = tt
extends-trans None None (Some zs) p q = absurd q
extends-trans None (Some ys) r2 p q = absurd p
extends-trans (Some xs) None r2 p q = absurd p
extends-trans (Some xs) (Some ys) None p q = absurd q
extends-trans (Some xs) (Some ys) (Some zs) (a, p) (b, q) = (a ++ b, q ∙ ap (λ u. u ++ b) p ∙ append_assoc xs a b)

pub extends-self : (r : Option (List Span)) → Extends r r
extends-self None = tt
extends-self (Some xs) = ([], sym (append-nil xs))

-- what was read in both parts
pub holds-both : (r0 r1 r2 : Option (List Span)) (w m : Memory) → Extends r1 r2 → HoldsRead r0 r1 w m → HoldsRead r1 r2 w m → HoldsRead r0 r2 w m
holds-both None r1 r2 w m e p q = p
holds-both (Some xs) None None w m e p q = tt
holds-both (Some xs) None (Some zs) w m e p q = absurd e
holds-both (Some xs) (Some ys) None w m e p q = tt
holds-both (Some xs) (Some ys) (Some ws) w m (zs, e) p q =
    λ k s above at. elim (cases_lt k (length ys)) [ inl lt ↦ p k s above (slice_get-front ys zs k s lt (rw e at at)) | inr le ↦ q k s le at ]

pub holds-self : (r : Option (List Span)) (w : Memory) → HoldsRead r r w w
holds-self None w = λ a h. h
holds-self (Some xs) w = λ k s above at. absurd (omega (arith, slice_get_within xs k s at))

pub only-both : (allowed : Span → Type 0) (r0 r1 r2 : Option (List Span)) → Extends r0 r1 → Extends r1 r2 → AddsOnly allowed r0 r1 → AddsOnly allowed r1 r2 → AddsOnly allowed r0 r2
only-both allowed None r1 r2 d e p q = tt
only-both allowed (Some xs) None r2 d e p q = absurd d
only-both allowed (Some xs) (Some ys) None d e p q = tt
only-both allowed (Some xs) (Some ys) (Some ws) d (zs, e) p q =
    λ k s above at. elim (cases_lt k (length ys)) [ inl lt ↦ p k s above (slice_get-front ys zs k s lt (rw e at at)) | inr le ↦ q k s le at ]

pub only-self : (allowed : Span → Type 0) (r : Option (List Span)) → AddsOnly allowed r r
only-self allowed None = tt
only-self allowed (Some xs) = λ k s above at. absurd (omega (arith, slice_get_within xs k s at))

-- what is read among some ranges is read among more
pub only-wider : (allowed more : Span → Type 0) (r0 r1 : Option (List Span)) → ((s : Span) → allowed s → more s) → AddsOnly allowed r0 r1 → AddsOnly more r0 r1
only-wider allowed more None r1 f h = tt
only-wider allowed more (Some xs) None f h = tt
only-wider allowed more (Some xs) (Some ys) f h = λ k s above at. f s (h k s above at)
