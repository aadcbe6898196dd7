-- How visits move: whatever holds of no step and of one more visit, and of steps one after another, holds of showing a value.
use Rattle.std.proofs.Common.{◌≡◌, ℕ, zero, suc, ◌+◌, ◌-◌, ◌<◌, ◌≤◌, true, false, cond, List, [], ◌∷◌, length, refl}
use Rattle.std.proofs.Common.{arith, max}
use Rattle.std.proofs.lemmas.Bool.Decides.{nat_tests}
use Rattle.std.specs.Prelude.{Option, Some, None, Result, Ok, Err, nat_le, nat_lt}
use Rattle.process_memory.specs.Memory.{Found, Fault}
use Rattle.process_memory.specs.Memory.Fault.{Depth, Visits}
use Rattle.py_objects.specs.Shown.{Shown, goes_on_shown, ◌>>=◌, give, consult, visit, TellsShown}
use Rattle.py_objects.specs.ShownTexts.{dots}
use Rattle.py_objects.specs.Shows.{Brackets, Node, Child, Source, looked_at, part_then, parts_at, child_shown, part_at}
use Rattle.py_objects.specs.Shows.{parts_shown, node_shown, show_at}
use Rattle.py_objects.specs.Shows.Brackets.{Square, Round, Curly}
use Rattle.py_objects.specs.Shows.Node.{Whole, Quoted, Many}
use Rattle.py_objects.specs.Shows.Child.{Item, Empty, Entry}
use Rattle.py_objects.proofs.Steps.{tells_least}

abbrev pub Moves : (R : ℕ → ℕ → Type 0) {T : Type 0} → Shown T → Type 0
Moves R c = (v : ℕ) → R v (c v).1

goes_on_moves : (R : ℕ → ℕ → Type 0) (trans : (a b c : ℕ) → R a b → R b c → R a c) {T U : Type 0} (a : ℕ) (p : Found T × ℕ) (f : T → Shown U) → R a p.1 → ((x : T) (v : ℕ) → R v (f x v).1) → R a (goes_on_shown p f).1
goes_on_moves R trans a (Ok x, v) f p r = trans a v (f x v).1 p (r x v)
goes_on_moves R trans a (Err e, v) f p r = p

module _ (R : ℕ → ℕ → Type 0) (same : (v : ℕ) → R v v) (trans : (a b c : ℕ) → R a b → R b c → R a c) (one : (v : ℕ) → v < 4096 → R v (v + 1)) where
  pub bind_moves : {T U : Type 0} (c : Shown T) (f : T → Shown U) → Moves R c → ((x : T) → Moves R (f x)) → Moves R (c >>= f)
  unfolding ◌>>=◌
  bind_moves c f p q v = goes_on_moves R trans v (c v) f (p v) q

  pub visit_moves : Moves R visit
  unfolding visit
  visit_moves v =
      elim (nat_lt v 4096) as (λ b. nat_lt v 4096 ≡ b → R v (cond {A = Found (Unit {0}) × ℕ} b (Ok tt, v + 1) (Err Visits, v)).1)
      [ true ↦ λ e. let lt : v < 4096 = grind (arith, nat_tests) in one v lt | false ↦ λ e. same v ] refl

  pub looked_moves : (b : Brackets) → Moves R (looked_at b)
  unfolding looked_at
  looked_moves Square = same
  looked_moves Round = same
  looked_moves Curly = visit_moves

  pub part_then_moves : (w : ℕ) (rest : ℕ → Shown (List (List ℕ))) (o : Option (List ℕ)) → ((left : ℕ) → Moves R (rest left)) → Moves R (part_then w rest o)
  unfolding part_then
  part_then_moves w rest None r = r w
  part_then_moves w rest (Some t) r =
      elim (nat_le (w - (length t + 2)) 5) as (λ b. Moves R (cond b (give (dots ∷ [])) (rest (w - (length t + 2)) >>= (λ ts. give (t ∷ ts)))))
      [ true ↦ λ v. same v | false ↦ bind_moves (rest (w - (length t + 2))) (λ ts. give (t ∷ ts)) (r (w - (length t + 2))) (λ ts v. same v) ]

  pub parts_moves : (part : ℕ → ℕ → Shown (Option (List ℕ))) (n k w : ℕ) → ((k w : ℕ) → Moves R (part k w)) → Moves R (parts_at part n k w)
  unfolding parts_at
  parts_moves part zero k w r = λ v. same v
  parts_moves part (suc n) k w r =
      bind_moves (part k w) (part_then w (λ left. parts_at part n (k + 1) left)) (r k w)
      (λ o. part_then_moves w (λ left. parts_at part n (k + 1) left) o (λ left. parts_moves part n (k + 1) left r))

  module _ {V P : Type 0} (s : Source V P) (show : ℕ → V → Shown (List ℕ)) (r : (w : ℕ) (a : V) → Moves R (show w a)) where
    pub child_moves : (w : ℕ) (c : Child V) → Moves R (child_shown show w c)
    unfolding child_shown
    child_moves w (Item a) = bind_moves (show w a) _ (r w a) (λ t v. same v)
    child_moves w Empty = λ v. same v
    child_moves w (Entry key value) =
        bind_moves (show w key) _ (r w key) (λ t. bind_moves (show w value) _ (r w value) (λ u v. same v))

    pub part_moves : (b : Brackets) (p : P) (k w : ℕ) → Moves R (part_at s show b p k w)
    unfolding part_at
    part_moves b p k w =
        bind_moves (looked_at b) _ (looked_moves b) (λ u. bind_moves (consult (s.child p k)) _ (λ v. same v) (child_moves w))

    pub parts_shown_moves : (b : Brackets) (n : ℕ) (p : P) (w : ℕ) → Moves R (parts_shown s show b n p w)
    unfolding parts_shown
    parts_shown_moves b n p w =
        bind_moves (parts_at (part_at s show b p) n 0 w) _ (parts_moves (part_at s show b p) n 0 w (part_moves b p)) (λ ts v. same v)

    pub node_moves : (w : ℕ) (n : Node P) → Moves R (node_shown s show w n)
    unfolding node_shown
    node_moves w (Whole t) = λ v. same v
    node_moves w (Quoted t) = λ v. same v
    node_moves w (Many b n p) = parts_shown_moves b n p (w - 2)

  pub show_moves : {V P : Type 0} (s : Source V P) (levels w : ℕ) (a : V) → Moves R (show_at s levels w a)
  unfolding show_at
  show_moves s zero w a =
      elim (nat_le w 5) as (λ b. Moves R (cond b (give dots) (visit >>= (λ u v. (Err Depth, v)))))
      [ true ↦ λ v. same v | false ↦ bind_moves visit (λ u v. (Err Depth, v)) visit_moves (λ u v. same v) ]
  show_moves s (suc levels) w a =
      elim (nat_le w 5) as (λ b. Moves R (cond b (give dots) (visit >>= (λ u. consult (s.node a) >>= node_shown s (λ w2 a2. show_at s levels w2 a2) w)))) [
        | true ↦ λ v. same v
        | false ↦ bind_moves visit _ visit_moves (λ u. bind_moves (consult (s.node a)) _ (λ v. same v) (node_moves s (λ w2 a2. show_at s levels w2 a2) (λ w2 a2. show_moves s levels w2 a2) w))
      ]

-- at most 4096 visits, unless more were counted before
pub show_within : {V P : Type 0} (s : Source V P) (levels w : ℕ) (a : V) (v : ℕ) → (show_at s levels w a v).1 ≤ max v 4096
show_within s levels w a v = show_moves (λ v n. n ≤ max v 4096) (λ v. omega arith) (λ a b c p q. omega arith) (λ v lt. omega arith) s levels w a v

pub told_within : {E : Type 0} {fault : E → Option Fault} {V P : Type 0} (s : Source V P) (levels w : ℕ) (a : V) (v : ℕ) (r : Result (List ℕ) E) {n : ℕ} → TellsShown fault (show_at s levels w a v) r n → n ≤ max v 4096
told_within s levels w a v r t = let p = tells_least (show_at s levels w a v) r t in let q = show_within s levels w a v in omega (arith, p, q)
