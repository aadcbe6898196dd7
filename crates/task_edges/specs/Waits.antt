-- The tasks that tasks wait for: those that lead to what a task waits for.
use Rattle.std.specs.Prelude.{◌≡◌, ℕ, ◌⊎◌, Option, Some, None, List, [], ◌∷◌, map}
use Rattle.std.specs.List.{AllZip}
use Rattle.task_edges.specs.declared.edges.Edge.{Edge}
use Rattle.task_edges.specs.declared.waits.Waiting.{Waiting}
use Rattle.task_edges.specs.declared.waits.Waits.{Waits}
use Rattle.task_edges.specs.declared.waits.Waits.TheVariants.{Tasks, TooMany}
use Rattle.task_edges.specs.Edges.{sources_of}
use Rattle.task_edges.specs.Leading.{LeadsTo, Passes, before}

-- the task that waits
abbrev pub task_of : Waiting → ℕ
task_of w = w.task

-- those of a list of which something holds, in its order
abbrev pub AreKept : (ℕ → Type 0) → List ℕ → List ℕ → Type 0
AreKept Is [] kept = kept ≡ []
AreKept Is (x ∷ xs) kept =
    (Is x × (rest : List ℕ) × (kept ≡ x ∷ rest) × AreKept Is xs rest) ⊎ ((Is x → ⊥) × AreKept Is xs kept)

-- the tasks that lead to an object; or it is said that more than so many objects do
abbrev pub IsWaits : (ℕ → List ℕ) → List ℕ → ℕ → ℕ → Option (List ℕ) → Type 0
IsWaits direct tasks limit target None = Passes direct limit target
IsWaits direct tasks limit target (Some list) =
    AreKept (λ a. LeadsTo direct a target) tasks list × (Passes direct limit target → ⊥)

-- a task that doesn't wait waits for none
abbrev pub WaitsFor : (ℕ → List ℕ) → List ℕ → ℕ → Option ℕ → Option (List ℕ) → Type 0
WaitsFor direct tasks limit None answer = answer ≡ Some []
WaitsFor direct tasks limit (Some waiter) answer = IsWaits direct tasks limit waiter answer

-- what each of some tasks waits for, in order
abbrev pub AllWait : (ℕ → List ℕ) → List ℕ → ℕ → List Waiting → List (Option (List ℕ)) → Type 0
AllWait direct tasks limit waiting answers =
    AllZip (λ w answer. WaitsFor direct tasks limit w.waiter answer) waiting answers

-- the tasks that each of some tasks waits for, by these edges
abbrev pub AreWaits : List Edge → List Waiting → ℕ → List (Option (List ℕ)) → Type 0
AreWaits edges waiting limit answers =
    AllWait (before (sources_of edges) (map task_of waiting)) (map task_of waiting) limit waiting answers

-- the tasks that one waits for, where they are not too many
abbrev pub answer_of : Waits → Option (List ℕ)
answer_of (Tasks v) = Some v.items
answer_of TooMany = None
