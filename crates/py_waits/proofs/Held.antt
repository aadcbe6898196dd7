-- What is told is waited for: its class is the type that is looked for, and its word the one that is waited at.
use Rattle.std.proofs.Common.{◌≡◌, ℕ, zero, suc, ◌+◌, ◌-◌, ◌*◌, ◌≤◌, refl, sym, ap, ◌∙◌, arith, true, false, Bool}
use Rattle.std.proofs.Common.{◌≢◌, inl, inr, subst}
use Rattle.std.specs.Prelude.{◌==◌, ◌&&◌, not, Option, Some, None, Ok, Err, ◌⊎◌, if◌then◌else◌, nat_le}
use Rattle.std.proofs.lemmas.Bool.Decides.{nat_tests}
use Rattle.process_memory.specs.Memory.{Memory, Found, ◌>>=◌, word_at}
use Rattle.process_memory.proofs.Founds.{bound, ok_same}
use Rattle.py_fields.specs.declared.layout.Layout.{Layout}
use Rattle.py_waits.specs.declared.objects.Waited.{Waited}
use Rattle.py_waits.specs.declared.places.Held.{Held}
use Rattle.py_waits.specs.declared.places.Kind.{Kind}
use Rattle.py_waits.specs.declared.places.Kind.TheVariants as kind
use Rattle.py_waits.specs.declared.places.WaitPlaces.{WaitPlaces}
use Rattle.py_waits.specs.declared.places.Waitable.{Waitable}
use Rattle.py_waits.specs.Frames.{in_frame, slots_from}
use Rattle.py_waits.specs.Objects.{address_in, as_waited, held_at, is_word, object_at, receiver_at, slot_at, slot_step}
use Rattle.py_waits.specs.Objects.{through}
use Rattle.py_waits.specs.Objects.{waited_if}
use Rattle.py_waits.specs.Places.{held_kind, is_of, place_of}
use Rattle.py_waits.specs.Waits.{IsHeld, IsParked, OfSome}
use Rattle.py_waits.specs.Words.{known, word_if, word_in}

-- ---- words

pub known_some : (d : Found ℕ) (w : ℕ) → known d ≡ Ok (Some w) → d ≡ Ok w
known_some (Ok x) w e = cc
known_some (Err f) w e = absurd (cc)

-- a word that is known stands behind an address that is
pub word_some : (m : Memory) (o : Option ℕ) (k w : ℕ) → word_in m o k ≡ Ok (Some w)
    → (a : ℕ) × (o ≡ Some a) × (word_at m (a + k) ≡ Ok w)
unfolding word_if
word_some m None k w e = absurd (cc)
word_some m (Some a) k w e = (a, refl, known_some (word_at m (a + k)) w e)

-- ---- objects

-- an object that is told is waited for
abbrev pub IsGoodBy : Memory → WaitPlaces → (at address : ℕ) → Kind → Type 0
IsGoodBy m p at a kind.Lock = OfSome p.lock (IsHeld m p.klass at a) ⊎ OfSome p.parked_lock (IsParked m p.klass at a)
IsGoodBy m p at a kind.Rlock = OfSome p.rlock (IsHeld m p.klass at a)
IsGoodBy m p at a kind.Queue = OfSome p.queue (IsHeld m p.klass at a) ⊎ OfSome p.parked_queue (IsParked m p.klass at a)

abbrev pub IsGood : Memory → WaitPlaces → ℕ → Waited → Type 0
IsGood m p at x = IsGoodBy m p at x.address x.kind

pub same_class : (v c : ℕ) → (not (c == 0) && (v == c)) ≡ true → c ≡ v
same_class v c e = grind (arith, nat_tests, e)

-- and it isn't 0
pub some_class : (v c : ℕ) → (not (c == 0) && (v == c)) ≡ true → v ≢ 0
some_class v c e = grind (arith, nat_tests, e)

-- by the class of an object and its word
of_class : (m : Memory) (klass at a c : ℕ) (w : Option Waitable) → is_of w (Some c) ≡ true
    → word_at m (a + klass) ≡ Ok c → word_at m (a + place_of w) ≡ Ok at → OfSome w (IsHeld m klass at a)
of_class m klass at a c None is class semaphore = absurd (cc)
of_class m klass at a c (Some v) is class semaphore =
    record {
      typed = some_class v.class c is;
      class = class ∙ ap Ok (same_class v.class c is);
      semaphore = semaphore;
    }

module _ (m : Memory) (p : WaitPlaces) (at a c : ℕ) (class : word_at m (a + p.klass) ≡ Ok c) where
  picked : (lock rlock queue : Bool) (h : Held) → is_of p.lock (Some c) ≡ lock → is_of p.rlock (Some c) ≡ rlock
      → is_of p.queue (Some c) ≡ queue
      → (if lock then Some (record { kind = kind.Lock; place = place_of p.lock })
      else if rlock then Some (record { kind = kind.Rlock; place = place_of p.rlock })
      else if queue then Some (record { kind = kind.Queue; place = place_of p.queue })
      else None) ≡ Some h
      → word_at m (a + h.place) ≡ Ok at → IsGoodBy m p at a h.kind
  picked true rlock queue h l r q is semaphore =
      let same : ◌≡◌ {A = Held} (record { kind = kind.Lock; place = place_of p.lock }) h = cc in
      subst (λ (g : Held). word_at m (a + g.place) ≡ Ok at → IsGoodBy m p at a g.kind) same
      (λ s. inl (of_class m p.klass at a c p.lock l class s)) semaphore
  picked false true queue h l r q is semaphore =
      let same : ◌≡◌ {A = Held} (record { kind = kind.Rlock; place = place_of p.rlock }) h = cc in
      subst (λ (g : Held). word_at m (a + g.place) ≡ Ok at → IsGoodBy m p at a g.kind) same
      (λ s. of_class m p.klass at a c p.rlock r class s) semaphore
  picked false false true h l r q is semaphore =
      let same : ◌≡◌ {A = Held} (record { kind = kind.Queue; place = place_of p.queue }) h = cc in
      subst (λ (g : Held). word_at m (a + g.place) ≡ Ok at → IsGoodBy m p at a g.kind) same
      (λ s. inl (of_class m p.klass at a c p.queue q class s)) semaphore
  picked false false false h l r q is semaphore = absurd (cc)

  kind_good : (h : Held) → held_kind p (Some c) ≡ Some h → word_at m (a + h.place) ≡ Ok at → IsGoodBy m p at a h.kind
  unfolding held_kind
  kind_good h is semaphore = picked _ _ _ h refl refl refl is semaphore

-- a word that is this one
is_this : (o : Option ℕ) (at : ℕ) → is_word o at ≡ true → o ≡ Some at
is_this None at e = absurd (cc)
is_this (Some w) at e = ap Some (grind (arith, nat_tests, e))

waited_by : (b : Bool) (k : Kind) (a : ℕ) (x : Waited) → (if b then as_waited k (Some a) else None) ≡ Some x
    → (b ≡ true) × (◌≡◌ {A = Waited} (record { kind = k; address = a }) x)
waited_by false k a x e = absurd (cc)
waited_by true k a x e = (refl, cc)

of_none : (w : Option Waitable) → is_of w None ≡ false
of_none None = refl
of_none (Some v) = refl

none_held : (p : WaitPlaces) → held_kind p None ≡ None
unfolding held_kind
none_held p = rw (of_none p.lock, of_none p.rlock, of_none p.queue) refl

no_some : (p : WaitPlaces) (h : Held) → held_kind p None ≡ Some h → ⊥
no_some p h e = let none : ◌≡◌ {A = Option Held} None (Some h) = sym (none_held p) ∙ e in cc

module _ (m : Memory) (p : WaitPlaces) (at : ℕ) where
  held_good : (o : Option ℕ) (class : Option ℕ) (held : Option Held) (x : Waited) → word_in m o p.klass ≡ Ok class
      → held_kind p class ≡ held → held_at m held o at ≡ Ok (Some x) → IsGood m p at x
  unfolding word_if waited_if
  held_good o class None x read kind told = absurd (cc)
  held_good o None (Some h) x read kind told = absurd (no_some p h kind)
  held_good None (Some c) (Some h) x read kind told = absurd (cc)
  held_good (Some a) (Some c) (Some h) x read kind told =
      let steps = bound (word_in m (Some a) h.place) (λ s. Ok (waited_if h.kind (Some a) s at)) (Some x) told in
      let by = waited_by (is_word steps.0 at) h.kind a x (ok_same _ _ steps.2) in
      let word = known_some (word_at m (a + h.place)) at (steps.1 ∙ ap Ok (is_this steps.0 at by.0)) in
      subst (λ y. IsGood m p at y) by.1
      (kind_good m p at a c (known_some (word_at m (a + p.klass)) c read) h kind word)

  object_good : (o : Option ℕ) (x : Waited) → object_at m p o at ≡ Ok (Some x) → IsGood m p at x
  unfolding object_at
  object_good o x told =
      let steps = bound (word_in m o p.klass) (λ class. held_at m (held_kind p class) o at) (Some x) told in
      held_good o steps.0 (held_kind p steps.0) x steps.1 refl steps.2

  through_good : (o : Option ℕ) (own : Option Waited) (x : Waited) → object_at m p o at ≡ Ok own
      → through m p o at own ≡ Ok (Some x) → IsGood m p at x
  through_good o (Some y) x is told = object_good o x (is ∙ told)
  through_good o None x is told =
      let steps = bound (receiver_at m p.receiver o) (λ r. object_at m p (address_in r) at) (Some x) told in
      object_good (address_in steps.0) x steps.2

  slot_good : (base : Option ℕ) (behind : ℕ) (x : Waited) → slot_at m p at base behind ≡ Ok (Some x) → IsGood m p at x
  unfolding slot_at
  slot_good base behind x told =
      let word = bound (word_in m base behind)
      (λ w. object_at m p (address_in w) at >>= (λ own. through m p (address_in w) at own)) (Some x) told in
      let object = address_in word.0 in
      let own = bound (object_at m p object at) (λ own. through m p object at own) (Some x) word.2 in
      through_good object own.0 x own.1 own.2

  -- what was found before, or what is found now
  step_good : (base : Option ℕ) (behind : ℕ) (found : Option Waited) (x : Waited)
      → slot_step m p at base behind found ≡ Ok (Some x) → ((y : Waited) → found ≡ Some y → IsGood m p at y)
      → IsGood m p at x
  step_good base behind (Some y) x told before = before x (ok_same _ _ told)
  step_good base behind None x told before = slot_good base behind x told

  slots_good : (l : Layout) (frame : Option ℕ) (n number : ℕ) (found : Option Waited) (x : Waited)
      → slots_from l m p at frame n number found ≡ Ok (Some x) → ((y : Waited) → found ≡ Some y → IsGood m p at y)
      → IsGood m p at x
  unfolding slots_from
  slots_good l frame zero number found x told before = before x (ok_same _ _ told)
  slots_good l frame (suc n) number found x told before =
      let steps = bound (slot_step m p at frame (l.frame.locals + 8 * number) found)
      (λ next. slots_from l m p at frame n (number + 1) next) (Some x) told in
      slots_good l frame n (number + 1) steps.0 x steps.2
      (λ y is. step_good frame (l.frame.locals + 8 * number) found y (steps.1 ∙ ap Ok is) before)

  pub frame_good : (l : Layout) (frame : Option ℕ) (found : Option Waited) (x : Waited)
      → in_frame l m p at frame found ≡ Ok (Some x) → ((y : Waited) → found ≡ Some y → IsGood m p at y)
      → IsGood m p at x
  frame_good l frame found x told before = slots_good l frame 128 0 found x told before
