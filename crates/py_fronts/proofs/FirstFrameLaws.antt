-- The front of a thread's frames is what is read, and there is one alone.
use Rattle.std.proofs.Common.{◌≡◌, ℕ, ◌*◌, ◌-◌, ◌<◌, ◌≤◌, inl, inr, Bool, true, false, leb, [], ◌++◌, length, map, take}
use Rattle.std.proofs.Common.{drop, refl, sym, ◌∙◌, ap, arith, append-nil, append_assoc, length-append}
use Rattle.std.proofs.lemmas.Bool.{leb-false, leb-true, le-leb, lt-leb}
use Rattle.std.proofs.lemmas.List.{length-drop, length-take-le}
use Rattle.std.specs.Prelude.{Ok, Err, if◌then◌else◌}
use Rattle.process_memory.specs.Memory.{Found, Memory}
use Rattle.py_fields.specs.declared.layout.Layout.{Layout}
use Rattle.py_stacks.specs.declared.asked.Asked.{Asked}
use Rattle.py_fronts.specs.FirstFrames.{AreFirstFrames, ShowsEnds}
use Rattle.py_fronts.specs.FrameFronts.{FramesShown, chain_from, frames_shown}
use Rattle.py_fronts.specs.Front.{Front}
use Rattle.py_fronts.specs.Members.{Chained, caller_of, members_front}
use Rattle.py_fronts.specs.Standings.{standing_at}
use Rattle.py_fronts.proofs.FrontLaws.{front_found, front_unique}
use Rattle.py_fronts.proofs.Splits.{first_part, last_part, three_parts}

ends_by : (q : Asked) (l : Layout) (m : Memory) (limit : ℕ) (c : Chained) (few : Bool) → leb (length c.kept) (2 * limit) ≡ few
    → ShowsEnds q l m limit c.kept (record {
      first = map (standing_at q l m) (if few then c.kept else take limit c.kept);
      between = length c.kept - 2 * limit;
      last = map (standing_at q l m) (if few then [] else drop (length c.kept - limit) c.kept);
      met = c.met;
      ending = c.ending;
    })
ends_by q l m limit c true e =
    let fewer : length c.kept ≤ 2 * limit = leb-true (length c.kept) (2 * limit) e in
    record {
      first = c.kept;
      hidden = [];
      last = [];
      parts = sym (append-nil c.kept);
      shows_first = refl;
      counts = omega arith;
      shows_last = refl;
      sizes = inl (fewer, refl, refl);
    }
ends_by q l m limit c false e =
    let more : 2 * limit < length c.kept = leb-false (length c.kept) (2 * limit) e in
    let split = three_parts limit c.kept more in
    let head : length (take limit c.kept) ≡ limit = length-take-le limit c.kept (omega arith) in
    record {
      first = take limit c.kept;
      hidden = take (length c.kept - 2 * limit) (drop limit c.kept);
      last = drop (length c.kept - limit) c.kept;
      parts = split;
      shows_first = refl;
      counts = sym (length-take-le (length c.kept - 2 * limit) (drop limit c.kept) (omega (arith, length-drop limit c.kept)));
      shows_last = refl;
      sizes = inr (more, head, omega (arith, length-drop (length c.kept - limit) c.kept));
    }

-- what is shown of some kept members are their ends
pub ends_found : (q : Asked) (l : Layout) (m : Memory) (limit : ℕ) (c : Chained) → ShowsEnds q l m limit c.kept (frames_shown q l m limit c)
unfolding frames_shown
ends_found q l m limit c = ends_by q l m limit c (leb (length c.kept) (2 * limit)) refl

pub frames_equal : (a b : FramesShown) → a.first ≡ b.first → a.between ≡ b.between → a.last ≡ b.last → a.met ≡ b.met → a.ending ≡ b.ending → a ≡ b
frames_equal a b p q r s t =
    ap (λ x. record { first = x; between = a.between; last = a.last; met = a.met; ending = a.ending }) p
    ∙ ap (λ x. record { first = b.first; between = x; last = a.last; met = a.met; ending = a.ending }) q
    ∙ ap (λ x. record { first = b.first; between = b.between; last = x; met = a.met; ending = a.ending }) r
    ∙ ap (λ x. record { first = b.first; between = b.between; last = b.last; met = x; ending = a.ending }) s
    ∙ ap (λ x. record { first = b.first; between = b.between; last = b.last; met = b.met; ending = x }) t

-- and their ends are what is shown
pub ends_only : (q : Asked) (l : Layout) (m : Memory) (limit : ℕ) (c : Chained) (r : FramesShown) → ShowsEnds q l m limit c.kept r → r.met ≡ c.met → r.ending ≡ c.ending
    → r ≡ frames_shown q l m limit c
unfolding frames_shown
ends_only q l m limit c r h met ending =
    elim h.sizes [
      | inl few ↦
          let fits : leb (length c.kept) (2 * limit) ≡ true = le-leb (length c.kept) (2 * limit) few.0 in
          let all : c.kept ≡ h.first = h.parts ∙ ap (λ ys. h.first ++ ys) (ap (λ ys. ys ++ h.last) few.1 ∙ few.2) ∙ append-nil h.first in
          frames_equal r (frames_shown q l m limit c)
          (h.shows_first ∙ ap (map (standing_at q l m)) (sym all) ∙ ap (λ t. map (standing_at q l m) (if t then c.kept else take limit c.kept)) (sym fits))
          (h.counts ∙ ap length few.1 ∙ omega (arith, few.0))
          (h.shows_last ∙ ap (map (standing_at q l m)) few.2 ∙ ap (λ t. map (standing_at q l m) (if t then [] else drop (length c.kept - limit) c.kept)) (sym fits))
          met ending
      | inr many ↦
          let over : leb (length c.kept) (2 * limit) ≡ false = lt-leb (length c.kept) (2 * limit) many.0 in
          let head = first_part limit c.kept h.first (h.hidden ++ h.last) h.parts many.1 in
          let whole : c.kept ≡ (h.first ++ h.hidden) ++ h.last = h.parts ∙ sym (append_assoc h.first h.hidden h.last) in
          let tail = last_part limit c.kept (h.first ++ h.hidden) h.last whole many.2 in
          frames_equal r (frames_shown q l m limit c)
          (h.shows_first ∙ ap (map (standing_at q l m)) (sym head) ∙ ap (λ t. map (standing_at q l m) (if t then c.kept else take limit c.kept)) (sym over))
          (h.counts ∙ omega (arith, ap length whole, length-append (h.first ++ h.hidden) h.last, length-append h.first h.hidden, many.1, many.2))
          (h.shows_last ∙ ap (map (standing_at q l m)) (sym tail) ∙ ap (λ t. map (standing_at q l m) (if t then [] else drop (length c.kept - limit) c.kept)) (sym over))
          met ending
    ]

-- ---- a front from a first member on

pub first_frames_found : (q : Asked) (l : Layout) (m : Memory) (limit most : ℕ) (first : Found ℕ) → AreFirstFrames q l m limit most first (frames_shown q l m limit (chain_from l m most first))
unfolding frames_shown
first_frames_found q l m limit most (Ok first) = record {
  members = (members_front l m most first).members;
  front = front_found (caller_of l m) most first;
  met = refl;
  shows = ends_found q l m limit (chain_from l m most (Ok first));
}
first_frames_found q l m limit most (Err f) = record {
  members = [];
  front = refl;
  met = refl;
  shows = ends_found q l m limit (chain_from l m most (Err f));
}

pub first_frames_only : (q : Asked) (l : Layout) (m : Memory) (limit most : ℕ) (first : Found ℕ) (r : FramesShown) → AreFirstFrames q l m limit most first r
    → r ≡ frames_shown q l m limit (chain_from l m most first)
first_frames_only q l m limit most (Ok first) r h =
    let front = front_unique (caller_of l m) most first (record { members = h.members; ending = r.ending }) h.front in
    let members : (members_front l m most first).members ≡ h.members = ap (λ (f : Front). f.members) front in
    let ending : (members_front l m most first).ending ≡ r.ending = ap (λ (f : Front). f.ending) front in
    ends_only q l m limit (chain_from l m most (Ok first)) r (rw members h.shows) (h.met ∙ ap length (sym members)) (sym ending)
first_frames_only q l m limit most (Err f) r h =
    let members : h.members ≡ [] = ap (λ (f : Front). f.members) h.front in
    let ending = ap (λ (f : Front). f.ending) h.front in
    ends_only q l m limit (chain_from l m most (Err f)) r (rw members at h.shows) (h.met ∙ ap length members) ending
