-- Keys that are the same: their order, and what is compared of them.
use Rattle.std.proofs.Common.{◌≡◌, ◌↔◌, ℕ, Bool, true, List, [], ◌∷◌, map, sym, ap, refl}
use Rattle.std.proofs.Common.{encode_utf8_all, bytes_eq}
use Rattle.std.specs.Cmp.{IsEquivalence, signed_Decides}
use Rattle.std.specs.Cmp.Lexicographic.{pointwise, bytes_decides}
use Rattle.std.specs.Ordering.{eq_by_cmp}
use Rattle.std.proofs.lemmas.Bool.{and_parts, and_from, true≢false}
use Rattle.std.proofs.lemmas.Str.{encodes_same}
use Rattle.core_triage.specs.contracts.key.StackKeyOrd.TheImpl.{ghosts}
use Rattle.core_triage.specs.contracts.key.StackKeyOrd.TheImpl.Laws as order
use Rattle.core_triage.specs.contracts.key.StackKeyEq.TheImpl.Laws as equal
use Rattle.core_triage.specs.declared.key.FrameKey.{FrameKey}
use Rattle.core_triage.specs.declared.key.StackKey.{StackKey}
use Rattle.core_triage.specs.Keys.{Compared, compared_in, frame_compared, same_frame, same_key, thread_compared}

pub same_laws : IsEquivalence same_key
same_laws = equal.laws-law

pub by_order : (a b : StackKey) → same_key a b ≡ eq_by_cmp ghosts.cmp a b
by_order a b = order.matches_eq-law a b

-- ---- they are the same exactly where what is compared of them is equal

same_text : (a b : List ℕ) → (bytes_eq (encode_utf8_all a) (encode_utf8_all b) ≡ true) ↔ (a ≡ b)
same_text a b = (
  λ e. encodes_same a b ((bytes_decides (encode_utf8_all a) (encode_utf8_all b)).0 e),
  λ e. (bytes_decides (encode_utf8_all a) (encode_utf8_all b)).1 (ap encode_utf8_all e),
)

same_frames : (f g : FrameKey) → (same_frame f g ≡ true) ↔ (frame_compared f ≡ frame_compared g)
same_frames f g = (left, right)
  where
    left : same_frame f g ≡ true → frame_compared f ≡ frame_compared g
    left e =
        let (names, rest) = and_parts _ _ e in
        let (files, lines) = and_parts _ _ rest in
        let name : f.name ≡ g.name = (same_text f.name g.name).0 names in
        let filename : f.filename ≡ g.filename = (same_text f.filename g.filename).0 files in
        let line : f.line ≡ g.line = (signed_Decides f.line g.line).0 lines in
        λ i. record { name = name i; filename = filename i; line = line i }

    right : frame_compared f ≡ frame_compared g → same_frame f g ≡ true
    right e = and_from _ _ ((same_text f.name g.name).1 (ap (λ (c : Compared). c.name) e))
        (and_from _ _ ((same_text f.filename g.filename).1 (ap (λ (c : Compared). c.filename) e))
        ((signed_Decides f.line g.line).1 (ap (λ (c : Compared). c.line) e)))

-- where a test tells whether what is seen of two elements is equal, it tells so of lists, place by place
seen_alike : {A B : Type 0} (E : A → A → Bool) (view : A → B) → ((x y : A) → (E x y ≡ true) ↔ (view x ≡ view y))
    → (xs ys : List A) → (pointwise E xs ys ≡ true) ↔ (map view xs ≡ map view ys)
seen_alike E view tells [] [] = (λ e. refl, λ e. refl)
seen_alike E view tells [] (y ∷ ys) = (λ e. absurd (true≢false (sym e)), λ e. cc)
seen_alike E view tells (x ∷ xs) [] = (λ e. absurd (true≢false (sym e)), λ e. cc)
seen_alike {A} {B} E view tells (x ∷ xs) (y ∷ ys) = (left (seen_alike E view tells xs ys), right (seen_alike E view tells xs ys))
  where
    left : ((pointwise E xs ys ≡ true) ↔ (map view xs ≡ map view ys)) → pointwise E (x ∷ xs) (y ∷ ys) ≡ true → map view (x ∷ xs) ≡ map view (y ∷ ys)
    left more e =
        let (first, rest) = and_parts (E x y) (pointwise E xs ys) e in
        let here : view x ≡ view y = (tells x y).0 first in
        let there : map view xs ≡ map view ys = more.0 rest in
        λ i. here i ∷ there i

    right : ((pointwise E xs ys ≡ true) ↔ (map view xs ≡ map view ys)) → map view (x ∷ xs) ≡ map view (y ∷ ys) → pointwise E (x ∷ xs) (y ∷ ys) ≡ true
    right more e =
        let here : view x ≡ view y = cc in
        let there : map view xs ≡ map view ys = cc in
        and_from (E x y) (pointwise E xs ys) ((tells x y).1 here) (more.1 there)

pub same_keys : (a b : StackKey) → (same_key a b ≡ true) ↔ (compared_in a ≡ compared_in b)
same_keys a b = seen_alike (λ s t. pointwise same_frame s.items t.items) thread_compared
    (λ s t. seen_alike same_frame frame_compared same_frames s.items t.items) a.threads.items b.threads.items
