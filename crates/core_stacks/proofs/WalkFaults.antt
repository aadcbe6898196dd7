-- Where a walk meets no fault of one kind, its first fault of another is one of a member that it comes to.
use Rattle.std.proofs.Common.{◌≡◌, ◌≢◌, ◌⊎◌, ℕ, zero, suc, List, [], ◌∷◌, ◌++◌, arith, refl, sym, inl, inr}
use Rattle.std.specs.Prelude.{Option, Some, None, Ok, Err}
use Rattle.process_memory.specs.Memory.{Found, Fault}
use Rattle.process_memory.specs.Walk.{first_fault, goes_on, walk_faults}
use Rattle.py_process.specs.Variables.{Follows}

pub no_fault : (fault : Fault) → ◌≡◌ {A = Option Fault} None (Some fault) → ⊥
no_fault fault e = cc

pub not_empty : (f : Fault) (fs : List Fault) → f ∷ fs ≡ [] → ⊥
not_empty f fs e = cc

pub empty : (fs : List Fault) → first_fault fs ≡ None → fs ≡ []
empty [] e = refl
empty (f ∷ fs) e = absurd (no_fault f (sym e))

empty_front : (xs ys : List Fault) → xs ++ ys ≡ [] → xs ≡ []
empty_front [] ys e = refl
empty_front (x ∷ xs) ys e = absurd (not_empty x (xs ++ ys) e)

empty_rest : (xs ys : List Fault) → xs ++ ys ≡ [] → ys ≡ []
empty_rest [] ys e = e
empty_rest (x ∷ xs) ys e = absurd (not_empty x (xs ++ ys) e)

pub first_in : (xs ys : List Fault) (f : Fault) → first_fault (xs ++ ys) ≡ Some f → (first_fault xs ≡ Some f) ⊎ (first_fault ys ≡ Some f)
first_in [] ys f e = inr e
first_in (x ∷ xs) ys f e = inl e

-- a member that the walk comes to, which has no fault of the one kind, and this first one of the other
pub record Meets {S : Type 0} (base faults : S → ℕ → List Fault) (next : ℕ → Found ℕ) (f : Fault) (head : ℕ) : Type 0 where
  pub path : List ℕ
  pub member : ℕ
  pub along : Follows next head path member
  pub state : S
  pub none : base state member ≡ []
  pub first : first_fault (faults state member) ≡ Some f

module _ {S : Type 0} (over : Fault) (go : S → ℕ → Found (ℕ × S)) (base faults : S → ℕ → List Fault) (next : ℕ → Found ℕ)
    (agree : (s : S) (a : ℕ) (x : ℕ × S) → go s a ≡ Ok x → next a ≡ Ok x.0) (f : Fault) where
  -- what is met behind a member
  behind : (a n : ℕ) → a ≢ 0 → next a ≡ Ok n → Meets base faults next f n → Meets base faults next f a
  behind a n some is h = record {
    path = n ∷ h.path;
    member = h.member;
    along = (some, is, h.along);
    state = h.state;
    none = h.none;
    first = h.first;
  }

  one : (limit : ℕ) (s : S) (a : ℕ) (x : Found (ℕ × S)) → a ≢ 0 → go s a ≡ x
      → ((t : S) (n : ℕ) → walk_faults over go base limit t n ≡ [] → first_fault (walk_faults over go faults limit t n) ≡ Some f → Meets base faults next f n)
      → base s a ++ goes_on x (λ t n. walk_faults over go base limit t n) ≡ []
      → first_fault (faults s a ++ goes_on x (λ t n. walk_faults over go faults limit t n)) ≡ Some f → Meets base faults next f a
  one limit s a (Err e) some is rest none h =
      elim (first_in (faults s a) [] f h) [
        | inl first ↦ record { path = []; member = a; along = (some, refl); state = s; none = empty_front (base s a) [] none; first = first }
        | inr first ↦ absurd (no_fault f first)
      ]
  one limit s a (Ok x) some is rest none h =
      elim (first_in (faults s a) (walk_faults over go faults limit x.1 x.0) f h) [
        | inl first ↦ record {
          path = [];
          member = a;
          along = (some, refl);
          state = s;
          none = empty_front (base s a) (walk_faults over go base limit x.1 x.0) none;
          first = first;
        }
        | inr first ↦ behind a x.0 some (agree s a x is) (rest x.1 x.0 (empty_rest (base s a) (walk_faults over go base limit x.1 x.0) none) first)
      ]

  pub walk_first : (limit : ℕ) (s : S) (head : ℕ) → walk_faults over go base limit s head ≡ []
      → first_fault (walk_faults over go faults limit s head) ≡ Some f → Meets base faults next f head
  unfolding walk_faults
  walk_first limit s zero none h = absurd (no_fault f h)
  walk_first zero s (suc a) none h = absurd (not_empty over [] none)
  walk_first (suc limit) s (suc a) none h = one limit s (suc a) (go s (suc a)) (λ e. omega arith) refl (walk_first limit) none h
