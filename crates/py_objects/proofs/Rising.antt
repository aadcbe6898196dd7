-- That visits only rise.
use Rattle.std.proofs.Common.{ℕ, suc, ◌+◌, ◌≤◌, List, arith}
use Rattle.std.proofs.Math.Nat.{le_refl}
use Rattle.std.specs.Prelude.{Option}
use Rattle.py_objects.specs.Shown.{Shown}
use Rattle.py_objects.specs.Shows.{Brackets, Node, Child, Source, part_then, parts_at, child_shown, part_at}
use Rattle.py_objects.specs.Shows.{parts_shown, node_shown, show_at}
use Rattle.py_objects.proofs.Steps.{Rises}
use Rattle.py_objects.proofs.Moving.{part_then_moves, parts_moves, child_moves, part_moves, parts_shown_moves}
use Rattle.py_objects.proofs.Moving.{node_moves, show_moves}

abbrev AtMost : ℕ → ℕ → Type 0
AtMost v n = v ≤ n

pub at_most_same : (v : ℕ) → AtMost v v
at_most_same v = le_refl v

pub at_most_trans : (a b c : ℕ) → AtMost a b → AtMost b c → AtMost a c
at_most_trans a b c p q = omega arith

pub at_most_one : (v : ℕ) → suc v ≤ 4096 → AtMost v (v + 1)
at_most_one v lt = omega arith

pub part_then_rises : (w : ℕ) (rest : ℕ → Shown (List (List ℕ))) (o : Option (List ℕ)) → ((left : ℕ) → Rises (rest left)) → Rises (part_then w rest o)
part_then_rises = part_then_moves AtMost at_most_same at_most_trans at_most_one

pub parts_rises : (part : ℕ → ℕ → Shown (Option (List ℕ))) (n k w : ℕ) → ((k w : ℕ) → Rises (part k w)) → Rises (parts_at part n k w)
parts_rises = parts_moves AtMost at_most_same at_most_trans at_most_one

module _ {V P : Type 0} (s : Source V P) (show : ℕ → V → Shown (List ℕ)) (r : (w : ℕ) (a : V) → Rises (show w a)) where
  pub child_rises : (w : ℕ) (c : Child V) → Rises (child_shown show w c)
  child_rises = child_moves AtMost at_most_same at_most_trans at_most_one s show r

  pub part_rises : (b : Brackets) (p : P) (k w : ℕ) → Rises (part_at s show b p k w)
  part_rises = part_moves AtMost at_most_same at_most_trans at_most_one s show r

  pub parts_shown_rises : (b : Brackets) (n : ℕ) (p : P) (w : ℕ) → Rises (parts_shown s show b n p w)
  parts_shown_rises = parts_shown_moves AtMost at_most_same at_most_trans at_most_one s show r

  pub node_rises : (w : ℕ) (n : Node P) → Rises (node_shown s show w n)
  node_rises = node_moves AtMost at_most_same at_most_trans at_most_one s show r

pub show_rises : {V P : Type 0} (s : Source V P) (levels w : ℕ) (a : V) → Rises (show_at s levels w a)
show_rises = show_moves AtMost at_most_same at_most_trans at_most_one
