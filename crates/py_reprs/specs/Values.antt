-- Values as they are shown, with the values within them.
use Rattle.std.specs.Prelude.{ℕ, zero, suc, ◌+◌, ◌*◌, ◌/◌, List, map}
use Rattle.process_memory.specs.Memory.{Memory}
use Rattle.py_fields.specs.declared.layout.Layout.{Layout}
use Rattle.py_reprs.specs.declared.kinds.Kind.TheVariants as kind
use Rattle.py_reprs.specs.declared.kinds.ReprTypes.{ReprTypes}
use Rattle.py_reprs.specs.declared.limits.Limits.{Limits}
use Rattle.py_reprs.specs.declared.places.Place.{Place}
use Rattle.py_reprs.specs.declared.places.Place.TheVariants.{At, Gap}
use Rattle.py_reprs.specs.LevelForms.{Level}
use Rattle.py_reprs.specs.Levels.{level_at}
use Rattle.py_reprs.specs.LevelForms.{Whole, Row, Entries, Attributes}
use Rattle.py_reprs.specs.Trees.{Tree, Trees, no_trees, trees_of}
use Rattle.py_reprs.specs.Trees.Tree.{Items, Pairs, Instance, Lost}

-- the value at a place, where each has a share of the nodes
abbrev pub placed : (ℕ → ℕ → Tree) → ℕ → Place → Tree
placed value share (At a) = value share a
placed value share (Gap a n) = Lost kind.Other a n

-- the values at some places, each with its share of the nodes
abbrev pub all_placed : (ℕ → ℕ → Tree) → ℕ → List Place → Trees
all_placed value share places = trees_of (map (placed value share) places)

-- a value with those within it
abbrev pub opened : (ℕ → ℕ → Tree) → Level → Tree
opened value (Whole t) = t
opened value (Row form places share left_out) = Items form (all_placed value share places) left_out
opened value (Entries keys values share left_out) =
    Pairs (all_placed value share keys) (all_placed value share values) left_out
opened value (Attributes class a names values share left_out) =
    Instance class a (all_placed value share names) (all_placed value share values) left_out

-- one that is not opened: all is left out
abbrev pub closed : Level → Tree
closed (Whole t) = t
closed (Row form places share left_out) = Items form no_trees left_out
closed (Entries keys values share left_out) = Pairs no_trees no_trees left_out
closed (Attributes class a names values share left_out) = Instance class a no_trees no_trees left_out

-- the value at an address, where so many levels are opened, and so many nodes are left for the values within it
unfoldable pub repr_at : Layout → ReprTypes → Limits → Memory → (levels nodes addr : ℕ) → Tree
repr_at l t b m zero nodes a = closed (level_at l t b m 0 a)
repr_at l t b m (suc levels) nodes a = opened (λ s x. repr_at l t b m levels s x) (level_at l t b m nodes a)

-- how many reads one value takes at most, without those within it
abbrev pub level_cost : Limits → ℕ
level_cost b = b.characters / 1024 + 8 * b.items + 16

-- and with them: of so many nodes each takes no more
unfoldable pub value_cost : Limits → ℕ → ℕ
value_cost b nodes = (1 + nodes) * level_cost b
