-- A pass that changes each element of a list by what it reads of a memory.
use Rattle.std.proofs.Common.{◌≡◌, ◌<◌, ◌≤◌, ◌+◌, ◌*◌, ℕ, List, [], ◌∷◌, ◌++◌, length, map, take, drop, get_or, set}
use Rattle.std.proofs.Common.{refl, sym, ◌∙◌, ap, arith}
use Rattle.std.specs.Prelude.{⊤}
use Rattle.std.specs.List.{sum_by}
use Rattle.std.proofs.lemmas.List.{map-append, take_more, take_more_set, take_all, drop_more, drop_all, drop-set-lt}
use Rattle.std.proofs.lemmas.List.{length-set, append-nil, map-id}
use Rattle.std.proofs.lemmas.List.Sums.{sum_by-cons}
use Rattle.process_memory.specs.Memory.{Memory, byte_at}
use Rattle.process_memory.specs.Seen.{Seen, ReadingOf}
use Rattle.process_memory.specs.declared.memory.Span.{Span}
use Rattle.process_memory.proofs.Reading.{reading_then, reading_gives, reading_none}

heads : {A : Type 0} (x y : A) (xs ys : List A) → x ∷ xs ≡ y ∷ ys → x ≡ y
heads x y xs ys e = cc

tails : {A : Type 0} (x y : A) (xs ys : List A) → x ∷ xs ≡ y ∷ ys → xs ≡ ys
tails x y xs ys e = cc

-- the elements before an index are changed, and those from it on are as they were
pub record Passing {A B : Type 0} (allowed : Memory → Span → Type 0) (view : A → B) (f : Memory → B → B) (visits : Memory → B → ℕ) (s0 s1 : Seen) (old new : List A) (i : ℕ) : Type 0 where
  pub spent : ℕ
  pub budget : spent + sum_by (visits (byte_at s0.pieces)) (map view (drop i old)) ≡ sum_by (visits (byte_at s0.pieces)) (map view old)
  pub same : length new ≡ length old
  pub after : drop i new ≡ drop i old
  pub reading : ReadingOf allowed (8 * spent) s0 s1 (λ m. map view (take i new) ≡ map (f m) (map view (take i old)))

pub passing_init : {allowed : Memory → Span → Type 0} {A B : Type 0} (view : A → B) (f : Memory → B → B) (visits : Memory → B → ℕ) (s : Seen) (old : List A) → Passing allowed view f visits s s old old 0
passing_init view f visits s old = record { spent = 0; budget = omega arith; same = refl; after = refl; reading = reading_none 0 s _ (λ m. refl) }

module _ {allowed : Memory → Span → Type 0} {A B : Type 0} {view : A → B} {f : Memory → B → B} {visits : Memory → B → ℕ} {s0 s1 : Seen} {old new : List A} {i : ℕ} where
  both : (d : A) → i < length new → Passing allowed view f visits s0 s1 old new i → get_or new i d ∷ drop (i + 1) new ≡ get_or old i d ∷ drop (i + 1) old
  both d lt h = sym (drop_more new i d lt) ∙ h.after ∙ drop_more old i d (omega (arith, h.same, lt))

  left : (d : A) → i < length new → Passing allowed view f visits s0 s1 old new i
      → sum_by (visits (byte_at s0.pieces)) (map view (drop i old)) ≡ visits (byte_at s1.pieces) (view (get_or new i d)) + sum_by (visits (byte_at s0.pieces)) (map view (drop (i + 1) old))
  left d lt h =
      ap (λ xs. sum_by (visits (byte_at s0.pieces)) (map view xs)) (drop_more old i d (omega (arith, h.same, lt)))
      ∙ sum_by-cons (visits (byte_at s0.pieces)) (view (get_or old i d)) (map view (drop (i + 1) old))
      ∙ ap (λ x. visits (byte_at s0.pieces) (view x) + sum_by (visits (byte_at s0.pieces)) (map view (drop (i + 1) old))) (sym (heads _ _ _ _ (both d lt h)))
      ∙ ap (λ p. visits (byte_at p) (view (get_or new i d)) + sum_by (visits (byte_at s0.pieces)) (map view (drop (i + 1) old))) (sym h.reading.pieces)

  -- one element more
  pub passing_more : {s2 : Seen} (x d : A) → i < length new → Passing allowed view f visits s0 s1 old new i
      → ReadingOf allowed (8 * visits (byte_at s1.pieces) (view (get_or new i d))) s1 s2 (λ m. view x ≡ f m (view (get_or new i d)))
      → Passing allowed view f visits s0 s2 old (set new i x) (i + 1)
  passing_more x d lt h r =
      let here : get_or new i d ≡ get_or old i d = heads _ _ _ _ (both d lt h) in
      let lt_old : i < length old = omega (arith, h.same, lt) in
      record {
        spent = h.spent + visits (byte_at s1.pieces) (view (get_or new i d));
        budget = omega (arith, h.budget, left d lt h);
        same = length-set new i x ∙ h.same;
        after = drop-set-lt (i + 1) new i x (omega arith) ∙ tails _ _ _ _ (both d lt h);
        reading = reading_gives _ _ (reading_then _ h.reading r (λ m e is.
            ap (map view) (take_more_set new i x lt) ∙ map-append view (take i new) (x ∷ []) ∙ ap (λ ys. ys ++ view x ∷ []) e
            ∙ ap (λ y. map (f m) (map view (take i old)) ++ y ∷ []) (is ∙ ap (λ z. f m (view z)) here)
            ∙ sym (ap (λ zs. map (f m) (map view zs)) (take_more old i d lt_old) ∙ ap (map (f m)) (map-append view (take i old) (get_or old i d ∷ [])) ∙ map-append (f m) (map view (take i old)) (view (get_or old i d) ∷ []))))
            (omega arith) (λ m e. e);
      }

  pub passing_stop : {s2 : Seen} {P : Memory → Type 0} (d : A) (Q : Memory → Type 0) → i < length new → Passing allowed view f visits s0 s1 old new i
      → ReadingOf allowed (8 * visits (byte_at s1.pieces) (view (get_or new i d))) s1 s2 P → ((m : Memory) → Q m)
      → ReadingOf allowed (8 * sum_by (visits (byte_at s0.pieces)) (map view old)) s0 s2 Q
  passing_stop d Q lt h r q = reading_gives _ _ (reading_then (λ m. ⊤) h.reading r (λ m a b. tt)) (omega (arith, h.budget, left d lt h)) (λ m a. q m)

  pub passing_done : length new ≤ i → Passing allowed view f visits s0 s1 old new i
      → ReadingOf allowed (8 * sum_by (visits (byte_at s0.pieces)) (map view old)) s0 s1 (λ m. map view new ≡ map (f m) (map view old))
  passing_done le h = reading_gives _ _ h.reading (omega (arith, h.budget))
      (λ m e. ap (map view) (sym (take_all i new le)) ∙ e ∙ ap (λ zs. map (f m) (map view zs)) (take_all i old (omega (arith, h.same, le))))

-- the elements of a vector, as they are written back
written_back : {A : Type 0} (n : ℕ) (old new : List A) → length new ≡ length old → length old ≡ n → take n (new ++ drop (length new) old) ≡ new
written_back n old new same len =
    ap (λ rest. take n (new ++ rest)) (drop_all (length new) old (omega (arith, same)))
    ∙ ap (take n) (append-nil new)
    ∙ take_all n new (omega (arith, same, len))

-- the pass is done
pub passing_back : {allowed : Memory → Span → Type 0} {A B : Type 0} {view : A → B} {f : Memory → B → B} {visits : Memory → B → ℕ} {s0 s1 : Seen} {old new : List A} {i : ℕ} (n : ℕ)
    → length old ≡ n → length new ≤ i → Passing allowed view f visits s0 s1 old new i
    → ReadingOf allowed (8 * sum_by (visits (byte_at s0.pieces)) (map view old)) s0 s1 (λ m. map view (take n (new ++ drop (length new) old)) ≡ map (f m) (map view old))
passing_back {view = view} {f = f} {old = old} {new = new} n len le h =
    reading_gives _ _ (passing_done le h) (omega arith) (λ m e. ap (map view) (written_back n old new h.same len) ∙ e)

-- the same where elements are seen as they are
pub elements_back : {allowed : Memory → Span → Type 0} {A : Type 0} {f : Memory → A → A} {visits : Memory → A → ℕ} {s0 s1 : Seen} {old new : List A} {i : ℕ} (n : ℕ)
    → length old ≡ n → length new ≤ i → Passing allowed (λ x. x) f visits s0 s1 old new i
    → ReadingOf allowed (8 * sum_by (visits (byte_at s0.pieces)) old) s0 s1 (λ m. take n (new ++ drop (length new) old) ≡ map (f m) old)
elements_back {f = f} {visits = visits} {s0 = s0} {old = old} {new = new} n len le h =
    let plain = map-id old in
    let done = passing_back n len le h in
    reading_gives _ _ done (omega (arith, ap (sum_by (visits (byte_at s0.pieces))) plain))
    (λ m e. sym (map-id (take n (new ++ drop (length new) old))) ∙ e ∙ ap (map (f m)) plain)

pub elements_stop : {allowed : Memory → Span → Type 0} {A : Type 0} {f : Memory → A → A} {visits : Memory → A → ℕ} {s0 s1 s2 : Seen} {old new : List A} {i : ℕ} {P : Memory → Type 0} (d : A) (Q : Memory → Type 0)
    → i < length new → Passing allowed (λ x. x) f visits s0 s1 old new i
    → ReadingOf allowed (8 * visits (byte_at s1.pieces) (get_or new i d)) s1 s2 P → ((m : Memory) → Q m)
    → ReadingOf allowed (8 * sum_by (visits (byte_at s0.pieces)) old) s0 s2 Q
elements_stop {visits = visits} {s0 = s0} {old = old} d Q lt h r q =
    reading_gives _ _ (passing_stop d Q lt h r q) (omega (arith, ap (sum_by (visits (byte_at s0.pieces))) (map-id old))) (λ m a. a)
