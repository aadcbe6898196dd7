-- Which places of coroutines are sound, as a test and as the fact that it decides.
use Rattle.std.proofs.Common.{◌≡◌, ℕ, ◌+◌, ◌^◌, ◌<◌, ◌≤◌, Bool, true, false, nat_le, nat_lt, refl, arith}
use Rattle.std.specs.Prelude.{Option, Some, None, ◌&&◌, IfSome}
use Rattle.std.proofs.lemmas.Bool.Decides.{nat_tests}
use Rattle.coroutine_frames.specs.Described.{HasNoPlaces}
use Rattle.py_coroutines.specs.Places.{IsSound, IsSoundFamily, IsSoundStack}
use Rattle.py_coroutines.specs.declared.places.ApartStack.{ApartStack}
use Rattle.py_coroutines.specs.declared.places.ApartStack.TheVariants.{Pointer, Depth}
use Rattle.py_coroutines.specs.declared.places.Family.{Family}
use Rattle.py_coroutines.specs.declared.places.Family.TheVariants.{Apart, Inside}
use Rattle.py_coroutines.specs.declared.places.Places.{Places}
use Rattle.py_tasks.specs.Tasks.{if_sound, sound_family, sound_running, sound_stack}

both : (a b : Bool) → a ≡ true → b ≡ true → (a && b) ≡ true
both a b p q = rw (p, q) refl

first : (a b : Bool) → (a && b) ≡ true → a ≡ true
first true b p = refl
first false b p = p

second : (a b : Bool) → (a && b) ≡ true → b ≡ true
second true b p = p
second false true p = refl
second false false p = p

le_yes : (a b : ℕ) → a ≤ b → nat_le a b ≡ true
le_yes a b p = grind (arith, nat_tests)

le_is : (a b : ℕ) → nat_le a b ≡ true → a ≤ b
le_is a b p = grind (arith, nat_tests)

lt_yes : (a b : ℕ) → a < b → nat_lt a b ≡ true
lt_yes a b p = grind (arith, nat_tests)

lt_is : (a b : ℕ) → nat_lt a b ≡ true → a < b
lt_is a b p = grind (arith, nat_tests)

stack_yes : (s : ApartStack) (size : ℕ) → IsSoundStack s size → sound_stack s size ≡ true
stack_yes (Pointer top) size p = le_yes (top + 8) size p
stack_yes (Depth bottom depth state states) size p =
    both _ _ (le_yes (bottom + 8) size p.0)
    (both _ _ (le_yes (depth + 4) size p.1.0) (le_yes (state + 1) size p.1.1))

stack_is : (s : ApartStack) (size : ℕ) → sound_stack s size ≡ true → IsSoundStack s size
stack_is (Pointer top) size p = le_is (top + 8) size p
stack_is (Depth bottom depth state states) size p =
    let rest = second (nat_le (bottom + 8) size) (nat_le (depth + 4) size && nat_le (state + 1) size) p in (
      le_is (bottom + 8) size (first _ (nat_le (depth + 4) size && nat_le (state + 1) size) p),
      (
        le_is (depth + 4) size (first _ (nat_le (state + 1) size) rest),
        le_is (state + 1) size (second (nat_le (depth + 4) size) _ rest),
      ),
    )

running_yes : (r : Option ℕ) (size : ℕ) → IfSome r (λ place. place + 1 ≤ size) → sound_running r size ≡ true
running_yes None size p = refl
running_yes (Some place) size p = le_yes (place + 1) size p

running_is : (r : Option ℕ) (size : ℕ) → sound_running r size ≡ true → IfSome r (λ place. place + 1 ≤ size)
running_is None size p = tt
running_is (Some place) size p = le_is (place + 1) size p

family_yes : (f : Family) → IsSoundFamily f → sound_family f ≡ true
family_yes (Apart p) s =
    both _ _ (le_yes _ _ s.frame) (both _ _ (running_yes p.running p.size s.running)
    (both _ _ (lt_yes _ _ s.size) (both _ _ (le_yes _ _ s.code) (both _ _ (le_yes _ _ s.last)
    (both _ _ (stack_yes p.stack p.frame_size s.stack) (lt_yes _ _ s.frame_size))))))
family_yes (Inside p) s =
    both _ _ (le_yes _ _ s.state) (both _ _ (le_yes _ _ s.instruction)
    (both _ _ (le_yes _ _ s.depth) (lt_yes _ _ s.size)))

family_is : (f : Family) → sound_family f ≡ true → IsSoundFamily f
family_is (Apart p) s =
    let a = second (nat_le (p.frame + 8) p.size) _ s in
    let b = second (sound_running p.running p.size) _ a in
    let d = second (nat_lt p.size (2 ^ 16)) _ b in
    let e = second (nat_le (p.code + 8) p.frame_size) _ d in
    let f = second (nat_le (p.last + 4) p.frame_size) _ e in
    record {
      frame = le_is _ _ (first _ _ s);
      running = running_is p.running p.size (first _ _ a);
      size = lt_is _ _ (first _ _ b);
      code = le_is _ _ (first _ _ d);
      last = le_is _ _ (first _ _ e);
      stack = stack_is p.stack p.frame_size (first _ _ f);
      frame_size = lt_is _ _ (second _ _ f);
    }
family_is (Inside p) s =
    let a = second (nat_le (p.state + 1) p.size) _ s in
    let b = second (nat_le (p.frame + p.instruction + 8) p.size) _ a in
    record {
      state = le_is _ _ (first _ _ s);
      instruction = le_is _ _ (first _ _ a);
      depth = le_is _ _ (first _ _ b);
      size = lt_is _ _ (second _ _ b);
    }

unsound : (f : Family) (b : Bool) → sound_family f ≡ b → (IsSoundFamily f → ⊥) → b ≡ false
unsound f true e n = absurd (n (family_is f e))
unsound f false e n = refl

pub no_places : (o : Option Places) → HasNoPlaces o → if_sound o ≡ None
no_places None n = refl
no_places (Some p) n = rw (unsound p.family (sound_family p.family) refl n) refl

pub some_places : (o : Option Places) (p : Places) → o ≡ Some p → IsSound p → if_sound o ≡ Some p
some_places o p e s = rw (e, family_yes p.family s) refl
