-- What a thread is told to wait for is what it waits for.
use Rattle.std.proofs.Common.{◌≡◌, ℕ, ◌+◌, ◌-◌, ◌≤◌, refl, sym, ap, ◌∙◌, arith, true, false, Bool, inl, inr, subst}
use Rattle.std.specs.Prelude.{Option, Some, None, Result, Ok, Err, IfOk, IfSome, nat_le, if◌then◌else◌}
use Rattle.process_memory.specs.Seen.{Answers, read_fault}
use Rattle.process_memory.specs.declared.memory.ReadFault.{ReadFault}
use Rattle.std.proofs.lemmas.Bool.Decides.{nat_tests}
use Rattle.process_memory.specs.Memory.{Memory, Found, ◌>>=◌, word_at}
use Rattle.process_memory.proofs.Founds.{bound, ok_same}
use Rattle.py_fields.specs.declared.layout.Layout.{Layout}
use Rattle.py_waits.specs.declared.objects.Waited.{Waited}
use Rattle.py_waits.specs.declared.places.Kind.{Kind}
use Rattle.py_waits.specs.declared.places.Kind.TheVariants as kind
use Rattle.py_waits.specs.declared.places.OwnerAt.{OwnerAt}
use Rattle.py_waits.specs.declared.places.WaitPlaces.{WaitPlaces}
use Rattle.py_waits.specs.declared.places.Waitable.{Waitable}
use Rattle.py_waits.specs.declared.wait.LockRange.{LockRange}
use Rattle.py_waits.specs.declared.wait.Wait.{Wait}
use Rattle.py_waits.specs.declared.wait.Wait.TheVariants.{Interpreter, Lock, Rlock, Queue}
use Rattle.py_waits.specs.Frames.{in_frame, newest_at, searched_at}
use Rattle.py_waits.specs.Objects.{as_waited, less, parked_as, parked_at, parked_else, parked_if, parked_object}
use Rattle.py_waits.specs.Places.{is_of}
use Rattle.py_waits.specs.Waits.{IsHeld, IsParked, IsWaiting, OfSome, held_by, is_within, looked_at, owner_at, told_at}
use Rattle.py_waits.specs.Waits.{wait_at, wait_if}
use Rattle.py_waits.specs.Words.{word_if, word_in}
use Rattle.py_waits.proofs.Held.{IsGood, IsGoodBy, frame_good, known_some, same_class, some_class}

-- ---- parked threads

-- the word before the one that is waited at
before_it : (m : Memory) (at w : ℕ) (b : Bool) → nat_le 8 at ≡ b
    → word_in m (if b then Some (at - 8) else None) 0 ≡ Ok (Some w) → (8 ≤ at) × (word_at m (at - 8) ≡ Ok w)
unfolding word_if
before_it m at w false is e = absurd (cc)
before_it m at w true is e =
    let high : 8 ≤ at = grind (arith, nat_tests, is) in
    let same : at - 8 + 0 ≡ at - 8 = omega arith in
    (high, subst (λ n. word_at m n ≡ Ok w) same (known_some (word_at m (at - 8 + 0)) w e))

-- an object in whose own bytes a thread is parked
record IsParkedAs (m : Memory) (klass at : ℕ) (w : Option Waitable) (k : Kind) (x : Waited) : Type 0 where
  address : ℕ
  same : ◌≡◌ {A = Waited} (record { kind = k; address = address }) x
  parked : OfSome w (IsParked m klass at address)

module _ (m : Memory) (klass at : ℕ) where
  by_class : (v : Waitable) (k : Kind) (a b c : ℕ) (is : Bool) (x : Waited) → is_of (Some v) (Some c) ≡ is
      → (if is then as_waited k (Some a) else None) ≡ Some x → word_at m (a + klass) ≡ Ok c → 8 ≤ at
      → word_at m (at - 8) ≡ Ok b → b ≡ a + v.place → IsParkedAs m klass at (Some v) k x
  by_class v k a b c false x of e class high byte place = absurd (cc)
  by_class v k a b c true x of e class high byte place = record {
    address = a;
    same = cc;
    parked = record {
      typed = some_class v.class c of;
      class = class ∙ ap Ok (same_class v.class c of);
      high = high;
      byte = byte ∙ ap Ok place;
    };
  }

  by_place : (v : Waitable) (k : Kind) (b : ℕ) (fits : Bool) (class : Option ℕ) (x : Waited)
      → nat_le v.place b ≡ fits → word_in m (if fits then Some (b - v.place) else None) klass ≡ Ok class
      → parked_if (Some v) k (if fits then Some (b - v.place) else None) class ≡ Some x → 8 ≤ at
      → word_at m (at - 8) ≡ Ok b → IsParkedAs m klass at (Some v) k x
  unfolding word_if parked_if
  by_place v k b fits None x le read told high byte = absurd (cc)
  by_place v k b false (Some c) x le read told high byte = absurd (cc)
  by_place v k b true (Some c) x le read told high byte =
      let fits : v.place ≤ b = grind (arith, nat_tests, le) in
      by_class v k (b - v.place) b c (is_of (Some v) (Some c)) x refl told
      (known_some (word_at m (b - v.place + klass)) c read) high byte (omega (arith, fits))

  parked_one : (w : Option Waitable) (k : Kind) (mutex : Option ℕ) (x : Waited)
      → ((b : ℕ) → mutex ≡ Some b → (8 ≤ at) × (word_at m (at - 8) ≡ Ok b))
      → parked_as m klass w k mutex ≡ Ok (Some x) → IsParkedAs m klass at w k x
  unfolding parked_as parked_if
  parked_one None k mutex x before told =
      let steps = bound (word_in m None klass) (λ class. Ok (parked_if None k None class)) (Some x) told in
      absurd (cc)
  parked_one (Some v) k None x before told = absurd (cc)
  parked_one (Some v) k (Some b) x before told =
      let object = less b v.place in
      let steps = bound (word_in m object klass) (λ class. Ok (parked_if (Some v) k object class)) (Some x) told in
      let byte = before b refl in
      by_place v k b (nat_le v.place b) steps.0 x refl steps.1 (ok_same _ _ steps.2) byte.0 byte.1

module _ (m : Memory) (p : WaitPlaces) (at : ℕ) where
  lock_good : (x : Waited) → IsParkedAs m p.klass at p.parked_lock kind.Lock x → IsGood m p at x
  lock_good x is = subst (λ (y : Waited). IsGood m p at y) is.same (inr is.parked)

  queue_good : (x : Waited) → IsParkedAs m p.klass at p.parked_queue kind.Queue x → IsGood m p at x
  queue_good x is = subst (λ (y : Waited). IsGood m p at y) is.same (inr is.parked)

  else_good : (mutex : Option ℕ) (lock : Option Waited) (x : Waited)
      → ((b : ℕ) → mutex ≡ Some b → (8 ≤ at) × (word_at m (at - 8) ≡ Ok b))
      → parked_as m p.klass p.parked_lock kind.Lock mutex ≡ Ok lock → parked_else m p mutex lock ≡ Ok (Some x)
      → IsGood m p at x
  else_good mutex (Some y) x before is told =
      lock_good x (parked_one m p.klass at p.parked_lock kind.Lock mutex x before (is ∙ told))
  else_good mutex None x before is told =
      queue_good x (parked_one m p.klass at p.parked_queue kind.Queue mutex x before told)

  parked_good : (x : Waited) → parked_at m p at ≡ Ok (Some x) → IsGood m p at x
  unfolding parked_at
  parked_good x told =
      let mutex = bound (word_in m (less at 8) 0)
      (λ w. parked_as m p.klass p.parked_lock kind.Lock w >>= (λ lock. parked_else m p w lock)) (Some x) told in
      let lock = bound (parked_as m p.klass p.parked_lock kind.Lock mutex.0)
      (λ lock. parked_else m p mutex.0 lock) (Some x) mutex.2 in
      else_good mutex.0 lock.0 x (λ b is. before_it m at b (nat_le 8 at) refl (mutex.1 ∙ ap Ok is)) lock.1 lock.2

  -- ---- what was found

  searched_good : (l : Layout) (thread : ℕ) (parked : Option Waited) (x : Waited)
      → searched_at l m p thread at parked ≡ Ok (Some x) → ((y : Waited) → parked ≡ Some y → IsGood m p at y)
      → IsGood m p at x
  unfolding searched_at
  searched_good l thread parked x told before =
      let back = l.frame.back in
      let third_of = λ (third : Option ℕ) (two : Option Waited). in_frame l m p at third two in
      let two_of =
      λ (second : Option ℕ) (two : Option Waited). word_in m second back >>= (λ third. third_of third two) in
      let second_of = λ (second : Option ℕ) (one : Option Waited).
      in_frame l m p at second one >>= (λ two. two_of second two) in
      let one_of =
      λ (first : Option ℕ) (one : Option Waited). word_in m first back >>= (λ second. second_of second one) in
      let first =
      bound (newest_at l m thread) (λ f. in_frame l m p at f parked >>= (λ one. one_of f one)) (Some x) told in
      let one = bound (in_frame l m p at first.0 parked) (λ o. one_of first.0 o) (Some x) first.2 in
      let second = bound (word_in m first.0 back) (λ s. second_of s one.0) (Some x) one.2 in
      let two = bound (in_frame l m p at second.0 one.0) (λ t. two_of second.0 t) (Some x) second.2 in
      let third = bound (word_in m second.0 back) (λ t. third_of t two.0) (Some x) two.2 in
      frame_good m p at l third.0 two.0 x third.2
      (λ y is. frame_good m p at l second.0 one.0 y (two.1 ∙ ap Ok is)
      (λ z is. frame_good m p at l first.0 parked z (one.1 ∙ ap Ok is) before))

  -- ---- what is told

  held_told : (gil : Option LockRange) (k : Kind) (a : ℕ) (wait : Wait) → held_by m p.owner k a ≡ Ok (Some wait)
      → IsGoodBy m p at a k → IsWaiting m p gil at wait
  held_told gil kind.Lock a wait told good =
      let same : Lock a ≡ wait = cc in subst (λ w. IsWaiting m p gil at w) same good
  held_told gil kind.Queue a wait told good =
      let same : Queue a ≡ wait = cc in subst (λ w. IsWaiting m p gil at w) same good
  held_told gil kind.Rlock a wait told good =
      let steps = bound (owner_at m p.owner a) (λ holder. Ok (Some (Rlock a holder))) (Some wait) told in
      let same : Rlock a steps.0 ≡ wait = cc in
      subst (λ w. IsWaiting m p gil at w) same (good, steps.1)

  found_told : (gil : Option LockRange) (found : Option Waited) (wait : Wait) → told_at m p.owner found ≡ Ok (Some wait)
      → ((y : Waited) → found ≡ Some y → IsGood m p at y) → IsWaiting m p gil at wait
  found_told gil None wait told good = absurd (cc)
  found_told gil (Some x) wait told good = held_told gil x.kind x.address wait told (good x refl)

  looked_told : (l : Layout) (gil : Option LockRange) (thread : ℕ) (wait : Wait)
      → looked_at l m p thread at ≡ Ok (Some wait) → IsWaiting m p gil at wait
  unfolding looked_at
  looked_told l gil thread wait told =
      let parked = bound (parked_at m p at)
      (λ f. searched_at l m p thread at f >>= (λ found. told_at m p.owner found)) (Some wait) told in
      let found = bound (searched_at l m p thread at parked.0) (λ f. told_at m p.owner f) (Some wait) parked.2 in
      found_told gil found.0 wait found.2
      (λ y is. searched_good l thread parked.0 y (found.1 ∙ ap Ok is) (λ z is. parked_good z (parked.1 ∙ ap Ok is)))

  told_if : (b : Bool) (l : Layout) (gil : Option LockRange) (thread : ℕ) (wait : Wait) → is_within gil at ≡ b
      → wait_if b l m p thread at ≡ Ok (Some wait) → IsWaiting m p gil at wait
  told_if true l gil thread wait within told =
      let same : Interpreter ≡ wait = cc in subst (λ w. IsWaiting m p gil at w) same within
  told_if false l gil thread wait within told = looked_told l gil thread wait told

  pub wait_told : (l : Layout) (gil : Option LockRange) (thread : ℕ) (r : Result (Option Wait) ReadFault)
      → Answers read_fault (wait_at l m p gil thread at) r → IfOk r (λ wait. IfSome wait (IsWaiting m p gil at))
  unfolding wait_at
  wait_told l gil thread (Ok None) a = tt
  wait_told l gil thread (Ok (Some wait)) a = told_if (is_within gil at) l gil thread wait refl a.is
  wait_told l gil thread (Err e) a = tt
