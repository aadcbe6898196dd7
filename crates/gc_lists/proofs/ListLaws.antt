-- What is told of a record is the answer, and the one alone; and its lists stand apart.
use Rattle.std.proofs.Common.{◌≡◌, ℕ, sym, ◌∙◌, ap, refl, arith, List, ◌++◌, Option, Some, None, Bool, Ok, Err, Result}
use Rattle.std.specs.Prelude.{IfOk}
use Rattle.std.specs.List.{Contains}
use Rattle.std.proofs.lemmas.List.Elements.{Contains-append_left}
use Rattle.process_memory.specs.Memory.{Memory}
use Rattle.gc_lists.specs.declared.heads.Heads.{Heads}
use Rattle.gc_lists.specs.declared.links.Links.{Links}
use Rattle.gc_lists.specs.declared.lists.Collected.{Collected}
use Rattle.gc_lists.specs.declared.places.ListPlaces.{ListPlaces}
use Rattle.gc_lists.specs.Heads.{heads_at, heads_in, heads_of, unheld}
use Rattle.gc_lists.specs.Links.{links_at}
use Rattle.gc_lists.specs.Lists.{AreListed, ArePairsApart, Four, IsTold, IsToldBy, Told, all_heads, collecting_at, four_at, told_at, told_by, told_of}
use Rattle.gc_lists.specs.Lists.Told.{AreHere, Elsewhere}
use Rattle.gc_lists.specs.Walks.{most_members}
use Rattle.gc_lists.proofs.RingLaws.{listed_found, listed_unique}
use Rattle.gc_lists.proofs.Onces.{listed_apart}

module _ (links : ℕ → Option Links) (heads : List ℕ) (own : Heads) (runs : Option Bool) where
  four_found : AreListed links heads own runs (four_at links heads own runs)
  four_found = record {
    collecting = refl;
    youngest = listed_found links heads most_members own.youngest;
    middle = listed_found links heads most_members own.middle;
    oldest = listed_found links heads most_members own.oldest;
    permanent = listed_found links heads most_members own.permanent;
  }

  four_unique : (four : Four) → AreListed links heads own runs four → four_at links heads own runs ≡ four
  four_unique four h =
      let now = four_at links heads own runs in
      ap (λ x. record { collecting = x; youngest = now.youngest; middle = now.middle; oldest = now.oldest; permanent = now.permanent }) (sym h.collecting)
      ∙ ap (λ x. record { collecting = four.collecting; youngest = x; middle = now.middle; oldest = now.oldest; permanent = now.permanent }) (listed_unique links heads most_members own.youngest four.youngest h.youngest)
      ∙ ap (λ x. record { collecting = four.collecting; youngest = four.youngest; middle = x; oldest = now.oldest; permanent = now.permanent }) (listed_unique links heads most_members own.middle four.middle h.middle)
      ∙ ap (λ x. record { collecting = four.collecting; youngest = four.youngest; middle = four.middle; oldest = x; permanent = now.permanent }) (listed_unique links heads most_members own.oldest four.oldest h.oldest)
      ∙ ap (λ x. record { collecting = four.collecting; youngest = four.youngest; middle = four.middle; oldest = four.oldest; permanent = x }) (listed_unique links heads most_members own.permanent four.permanent h.permanent)

told_found : (p : ListPlaces) (bases : List ℕ) (m : Memory) (base : ℕ) → IsTold p bases m base (told_at p bases m base)
told_found p bases m base = by (unheld p (links_at p.mask m) (heads_at p base))
  where
    by : (o : Option ℕ) → IsToldBy o (AreListed (links_at p.mask m) (all_heads p bases base) (heads_at p base) (collecting_at p m base))
        (told_by o (four_at (links_at p.mask m) (all_heads p bases base) (heads_at p base) (collecting_at p m base)))
    by None = four_found (links_at p.mask m) (all_heads p bases base) (heads_at p base) (collecting_at p m base)
    by (Some head) = refl

told_unique : (p : ListPlaces) (bases : List ℕ) (m : Memory) (base : ℕ) (told : Told) → IsTold p bases m base told → told_at p bases m base ≡ told
told_unique p bases m base told h = by (unheld p (links_at p.mask m) (heads_at p base)) told h
  where
    by : (o : Option ℕ) (t : Told) → IsToldBy o (AreListed (links_at p.mask m) (all_heads p bases base) (heads_at p base) (collecting_at p m base)) t
        → told_by o (four_at (links_at p.mask m) (all_heads p bases base) (heads_at p base) (collecting_at p m base)) ≡ t
    by None (AreHere four) h = ap AreHere (four_unique (links_at p.mask m) (all_heads p bases base) (heads_at p base) (collecting_at p m base) four h)
    by None (Elsewhere head) h = absurd h
    by (Some head) (AreHere four) h = absurd h
    by (Some head) (Elsewhere a) h = ap Elsewhere (sym h)

-- the four heads are among those at which a list is torn
module _ (own : Heads) (others : List ℕ) where
  first_in : Contains (heads_in own ++ others) own.youngest
  first_in = Contains-append_left (heads_in own) others own.youngest (0, omega arith, refl)

  second_in : Contains (heads_in own ++ others) own.middle
  second_in = Contains-append_left (heads_in own) others own.middle (1, omega arith, refl)

  third_in : Contains (heads_in own ++ others) own.oldest
  third_in = Contains-append_left (heads_in own) others own.oldest (2, omega arith, refl)

  last_in : Contains (heads_in own ++ others) own.permanent
  last_in = Contains-append_left (heads_in own) others own.permanent (3, omega arith, refl)

four_apart : (links : ℕ → Option Links) (own : Heads) (others : List ℕ) (runs : Option Bool) (f : Four) → AreListed links (heads_in own ++ others) own runs f → ArePairsApart own (AreHere f)
four_apart links own others runs f h =
    let first = first_in own others in
    let second = second_in own others in
    let third = third_in own others in
    let last = last_in own others in (
      (
        λ e. listed_apart links (heads_in own ++ others) most_members own.youngest f.youngest most_members own.middle f.middle h.youngest h.middle e first second,
        (
          λ e. listed_apart links (heads_in own ++ others) most_members own.youngest f.youngest most_members own.oldest f.oldest h.youngest h.oldest e first third,
          (
            λ e. listed_apart links (heads_in own ++ others) most_members own.youngest f.youngest most_members own.permanent f.permanent h.youngest h.permanent e first last,
            tt,
          ),
        ),
      ),
      (
        (
          λ e. listed_apart links (heads_in own ++ others) most_members own.middle f.middle most_members own.oldest f.oldest h.middle h.oldest e second third,
          (
            λ e. listed_apart links (heads_in own ++ others) most_members own.middle f.middle most_members own.permanent f.permanent h.middle h.permanent e second last,
            tt,
          ),
        ),
        (
          (
            λ e. listed_apart links (heads_in own ++ others) most_members own.oldest f.oldest most_members own.permanent f.permanent h.oldest h.permanent e third last,
            tt,
          ),
          (tt, tt),
        ),
      ),
    )

told_apart : (p : ListPlaces) (bases : List ℕ) (m : Memory) (base : ℕ) (told : Told) → IsTold p bases m base told → ArePairsApart (heads_at p base) told
told_apart p bases m base told h = by (unheld p (links_at p.mask m) (heads_at p base)) told h
  where
    by : (o : Option ℕ) (t : Told) → IsToldBy o (AreListed (links_at p.mask m) (all_heads p bases base) (heads_at p base) (collecting_at p m base)) t → ArePairsApart (heads_at p base) t
    by None (AreHere four) h = four_apart (links_at p.mask m) (heads_at p base) (heads_of p bases) (collecting_at p m base) four h
    by None (Elsewhere head) h = absurd h
    by (Some head) (AreHere four) h = absurd h
    by (Some head) (Elsewhere a) h = tt

-- ---- of results

module _ {E : Type 0} (p : ListPlaces) (bases : List ℕ) (m : Memory) (base : ℕ) where
  pub told_right : (r : Result Collected E) → IfOk r (λ found. told_of found ≡ told_at p bases m base) → IfOk r (λ found. IsTold p bases m base (told_of found))
  told_right (Ok found) h = rw h (told_found p bases m base)
  told_right (Err e) h = tt

  pub told_only : (r : Result Collected E) → IfOk r (λ found. told_of found ≡ told_at p bases m base) → (other : Told) → IsTold p bases m base other → IfOk r (λ found. told_of found ≡ other)
  told_only (Ok found) h other is = h ∙ told_unique p bases m base other is
  told_only (Err e) h other is = tt

  pub told_once : (r : Result Collected E) → IfOk r (λ found. told_of found ≡ told_at p bases m base) → IfOk r (λ found. ArePairsApart (heads_at p base) (told_of found))
  told_once (Ok found) h = told_apart p bases m base (told_of found) (told_right (Ok found) h)
  told_once (Err e) h = tt

-- ---- as it is read

module _ (p : ListPlaces) (bases : List ℕ) (m : Memory) (base : ℕ) where
  pub told_none : (head : ℕ) (own : Heads) → own ≡ heads_at p base → Some head ≡ unheld p (links_at p.mask m) own → Elsewhere head ≡ told_at p bases m base
  told_none head own is e =
      let four = four_at (links_at p.mask m) (all_heads p bases base) (heads_at p base) (collecting_at p m base) in
      ap (λ o. told_by o four) (e ∙ ap (unheld p (links_at p.mask m)) is)

  pub told_here : (four : Four) (own : Heads) → own ≡ heads_at p base → None ≡ unheld p (links_at p.mask m) own
      → four ≡ four_at (links_at p.mask m) (heads_in own ++ heads_of p bases) own (collecting_at p m base) → AreHere four ≡ told_at p bases m base
  told_here four own is e h =
      let links = links_at p.mask m in
      let runs = collecting_at p m base in
      ap AreHere (h ∙ ap (λ o. four_at links (heads_in o ++ heads_of p bases) o runs) is)
      ∙ ap (λ o. told_by o (four_at links (all_heads p bases base) (heads_at p base) runs)) (e ∙ ap (unheld p links) is)
