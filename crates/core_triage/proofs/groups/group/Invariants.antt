use Rattle.std.proofs.Common.{ℕ, List, map, take, Option, BTreeMap, Bor, Vec, Global}
use Rattle.std.specs.BTreeMap.{get_by}
use Rattle.core_triage.specs.contracts.key.StackKeyOrd.TheImpl.{ghosts}
use Rattle.core_triage.specs.declared.key.StackKey.{StackKey}
use Rattle.core_triage.specs.Keys.{same_key}
use Rattle.core_triage.proofs.Growing.{IsAt}
use Rattle.core_triage.proofs.groups.group.Given as goal

-- the number that a map has for a key
abbrev pub number_of : BTreeMap (Bor StackKey) ℕ → StackKey → Option ℕ
number_of m q = get_by (λ y. ghosts.cmp q y.now) m

abbrev pub items_of : List (Vec ℕ Global) → List (List ℕ)
items_of groups = map (λ g. g.items) groups

abbrev pub invariant-loop-place : goal.invariant-loop-place
invariant-loop-place l = IsAt same_key (take l.place l.keys) (items_of l.groups.items) (number_of l.numbers)
