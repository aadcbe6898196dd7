-- The first frame of some that isn't valid, by its index in the list.
use Rattle.std.proofs.Common.{◌≡◌, ◌≢◌, ◌<◌, ◌≤◌, ◌+◌, ℕ, List, map, length, take, get_or, subst, sym, refl, inl, inr}
use Rattle.std.proofs.Common.{arith}
use Rattle.std.specs.Prelude.{Option, Some, None, IfOk, IfSome, MatchOption, Result, Ok, Err, slice_get}
use Rattle.std.specs.declared.alloc.AllocError.{AllocError}
use Rattle.std.proofs.lemmas.Bool.{cases_lt}
use Rattle.py_lines.specs.declared.lines.LineFamily.{LineFamily}
use Rattle.memory_builder.specs.declared.validity.FramePlace.{FramePlace}
use Rattle.memory_builder.specs.Program.{Frame, Program, Thread}
use Rattle.memory_builder.specs.Validity.{IsValidAt, IsValidCall, IsValidIn, IsValidProgram, IsValidThread}
use Rattle.memory_builder.specs.Validity.{IsValidWhole, IsFirstFailing, IsFirstInvalid, StandsBefore}
use Rattle.memory_builder.proofs.Lists.{get_map, none_map}

-- what holds of an item in a mapped list, if it is there
pub item_holds : {X Y : Type 0} (P : Y → Type 0) (g : X → Y) (xs : List X) (i : ℕ) (x : X) → i < length xs
    → x ≡ get_or xs i x → P (g x) → IfSome (slice_get (map g xs) i) P
item_holds P g xs i x small is h = subst (λ o. IfSome o P) (sym (get_map g xs i x small is)) h

pub item_held : {X Y : Type 0} (P : Y → Type 0) (g : X → Y) (xs : List X) (i : ℕ) (x : X) → i < length xs
    → x ≡ get_or xs i x → IfSome (slice_get (map g xs) i) P → P (g x)
item_held P g xs i x small is h = subst (λ o. IfSome o P) (get_map g xs i x small is) h

pub none_there : {X Y : Type 0} (P : Y → Type 0) (g : X → Y) (xs : List X) (i : ℕ) → length xs ≤ i
    → IfSome (slice_get (map g xs) i) P
none_there P g xs i far = subst (λ o. IfSome o P) (sym (none_map g xs i far)) tt

-- what holds of each item that is there holds at each index
pub each_there : {X Y : Type 0} (P : Y → Type 0) (g : X → Y) (xs : List X) (n : ℕ) → length xs ≤ n
    → ((k : ℕ) → k < n → IfSome (slice_get (map g xs) k) P) → (k : ℕ) → IfSome (slice_get (map g xs) k) P
each_there P g xs n all h k = elim (cases_lt k n) [
  | inl small ↦ h k small
  | inr far ↦
      none_there P g xs k (omega arith)
]

-- ---- programs

-- a program is valid at each frame of a thread that is, if it isn't the one behind the last that may be
pub valid_at : (family : LineFamily) (p : Program) (i : ℕ) (t : Thread) → IsValidWhole p → i ≢ 4096
    → slice_get p.threads i ≡ Some t
    → (frame : ℕ) → IsValidIn family (take i p.threads) t frame → IsValidAt family p i frame
valid_at family p i t whole not_end is frame h = record {
  whole = λ a b. whole;
  few = λ e f. absurd (not_end e);
  within = subst (λ o. IfSome o (λ t. IsValidIn family (take i p.threads) t frame)) (sym is) h;
}

pub valid_in : (family : LineFamily) (p : Program) (i : ℕ) (t : Thread) → slice_get p.threads i ≡ Some t
    → (frame : ℕ) → IsValidAt family p i frame → IsValidIn family (take i p.threads) t frame
valid_in family p i t is frame h = subst (λ o. IfSome o (λ t. IsValidIn family (take i p.threads) t frame)) is h.within

-- behind the threads nothing is left to hold
valid_behind : (family : LineFamily) (p : Program) (whole : IsValidWhole p) (few : length p.threads ≤ 4096)
    (thread frame : ℕ) → slice_get p.threads thread ≡ None → IsValidAt family p thread frame
valid_behind family p whole few thread frame is = record {
  whole = λ a b. whole;
  few = λ a b. few;
  within = subst (λ o. IfSome o (λ t. IsValidIn family (take thread p.threads) t frame)) (sym is) tt;
}

pub valid_all : (family : LineFamily) (p : Program) (n : ℕ) → IsValidWhole p → length p.threads ≤ n → n ≤ 4096
    → ((thread : ℕ) → n ≤ thread → slice_get p.threads thread ≡ None)
    → ((thread frame : ℕ) → thread < n → IsValidAt family p thread frame) → IsValidProgram family p
valid_all family p n whole all few none h thread frame = elim (cases_lt thread n) [
  | inl small ↦ h thread frame small
  | inr far ↦ valid_behind family p whole (omega arith) thread frame (none thread far)
]

-- the first place, where no thread before has a fault, and this one has none before this frame
pub first_of : (family : LineFamily) (p : Program) (place : FramePlace) (t : Thread) → IsValidWhole p
    → place.thread ≢ 4096 → slice_get p.threads place.thread ≡ Some t
    → ((thread frame : ℕ) → thread < place.thread → IsValidAt family p thread frame)
    → IsFirstFailing (IsValidIn family (take place.thread p.threads) t) place.frame → IsFirstInvalid family p place
first_of family p place t whole not_end is earlier first = record {
  fails = λ h. first.fails (valid_in family p place.thread t is place.frame h);
  before = λ thread frame h. elim h [
    | inl small ↦ earlier thread frame small
    | inr same ↦ subst (λ k. IsValidAt family p k frame) (sym same.0)
        (valid_at family p place.thread t whole not_end is frame (first.before frame same.1))
  ];
}

-- a program that isn't valid as a whole
pub first_whole : (family : LineFamily) (p : Program) → ¬ IsValidWhole p
    → IsFirstInvalid family p (record { thread = 0; frame = 0 })
first_whole family p not = record {
  fails = λ h. not (h.whole refl refl);
  before = λ thread frame h. absurd (none thread frame h);
}
  where
    none : (thread frame : ℕ) → StandsBefore thread frame (record { thread = 0; frame = 0 }) → ⊥
    none thread frame (inl small) = omega (arith, small)
    none thread frame (inr same) = omega (arith, same.1)

-- one with too many threads
pub first_many : (family : LineFamily) (p : Program) → 4096 < length p.threads
    → ((thread frame : ℕ) → thread < 4096 → IsValidAt family p thread frame)
    → IsFirstInvalid family p (record { thread = 4096; frame = 0 })
first_many family p many earlier = record {
  fails = λ h. let few : length p.threads ≤ 4096 = h.few refl refl in omega arith;
  before = λ thread frame h. elim h [
    | inl small ↦ earlier thread frame small
    | inr same ↦ absurd (omega (arith, same.1))
  ];
}

-- a thread that isn't valid by itself is at fault at its first frame
pub first_by_itself : (family : LineFamily) (earlier : List Thread) (t : Thread) → ¬ IsValidThread earlier t
    → IsFirstFailing (IsValidIn family earlier t) 0
first_by_itself family earlier t not = record {
  fails = λ h. not (h.thread refl);
  before =
      λ j small. absurd (omega arith);
}

-- one that is by itself is at fault where its first frame is
pub first_call : (family : LineFamily) (earlier : List Thread) (t : Thread) → IsValidThread earlier t
    → (found : Option ℕ)
    → MatchOption found ((k : ℕ) → IsValidCall family t.frames k) (IsFirstFailing (IsValidCall family t.frames))
    → MatchOption found ((k : ℕ) → IsValidIn family earlier t k) (IsFirstFailing (IsValidIn family earlier t))
first_call family earlier t valid None h = λ k. record { thread = λ e. valid; call = h k }
first_call family earlier t valid (Some k) h = record {
  fails = λ at. h.fails at.call;
  before = λ j small. record { thread = λ e. valid; call = h.before j small };
}

pub ok_call : (family : LineFamily) (earlier : List Thread) (t : Thread) → IsValidThread earlier t
    → (found : Result (Option ℕ) AllocError)
    → (frames : List Frame) → frames ≡ t.frames → IfOk found (λ o. MatchOption o ((k : ℕ)
    → IsValidCall family frames k) (IsFirstFailing (IsValidCall family frames)))
    → IfOk found (λ o. MatchOption o ((k : ℕ) → IsValidIn family earlier t k)
    (IsFirstFailing (IsValidIn family earlier t)))
ok_call family earlier t valid (Ok o) frames are h = first_call family earlier t valid o
    (subst (λ fs. MatchOption o ((k : ℕ) → IsValidCall family fs k) (IsFirstFailing (IsValidCall family fs))) are h)
ok_call family earlier t valid (Err e) frames are h = tt

-- ---- one thread more

pub some_found : (family : LineFamily) (earlier : List Thread) (t : Thread) (o : Option ℕ) (frame : ℕ) → o ≡ Some frame
    → MatchOption o ((k : ℕ) → IsValidIn family earlier t k) (IsFirstFailing (IsValidIn family earlier t))
    → IsFirstFailing (IsValidIn family earlier t) frame
some_found family earlier t o frame is h = subst (λ o. MatchOption o ((k : ℕ)
    → IsValidIn family earlier t k) (IsFirstFailing (IsValidIn family earlier t))) is h

pub none_found : (family : LineFamily) (earlier : List Thread) (t : Thread) (o : Option ℕ) → o ≡ None
    → MatchOption o ((k : ℕ) → IsValidIn family earlier t k) (IsFirstFailing (IsValidIn family earlier t)) → (k : ℕ)
    → IsValidIn family earlier t k
none_found family earlier t o is h = subst (λ o. MatchOption o ((k : ℕ)
    → IsValidIn family earlier t k) (IsFirstFailing (IsValidIn family earlier t))) is h

pub next_valid : (family : LineFamily) (p : Program) (i : ℕ) (t : Thread) → IsValidWhole p → i ≢ 4096
    → slice_get p.threads i ≡ Some t
    → ((thread frame : ℕ) → thread < i → IsValidAt family p thread frame)
    → ((frame : ℕ) → IsValidIn family (take i p.threads) t frame)
    → (thread frame : ℕ) → thread < i + 1 → IsValidAt family p thread frame
next_valid family p i t whole not_end is before here thread frame small =
    elim (cases_lt thread i) [
      | inl earlier ↦ before thread frame earlier
      | inr far ↦ (let same : i ≡ thread = omega arith in
          subst (λ k. IsValidAt family p k frame) same (valid_at family p i t whole not_end is frame (here frame)))
    ]
