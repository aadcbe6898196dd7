-- Values with the values within them, as they were read.
use Rattle.std.proofs.Common.{◌≡◌, ℕ, zero, suc, ◌+◌, ◌-◌, ◌*◌, ◌≤◌, ◌∙◌, Vec, Global, List, map, refl, sym, ap}
use Rattle.std.proofs.Common.{arith}
use Rattle.std.specs.Prelude.{Result, Ok, Err, IfOk, Option}
use Rattle.process_memory.specs.Memory.{Memory}
use Rattle.process_memory.specs.Seen.{Reading, Seen}
use Rattle.process_memory.proofs.Reading.{reading_then}
use Rattle.py_fields.specs.declared.layout.Layout.{Layout}
use Rattle.py_reprs.specs.declared.error.ReprError.{ReprError}
use Rattle.py_reprs.specs.declared.kinds.ReprTypes.{ReprTypes}
use Rattle.py_reprs.specs.declared.levels.Level.{Level as LevelRead}
use Rattle.py_reprs.specs.declared.levels.Level.TheVariants.{Whole as WholeRead, Row as RowRead, Entries as EntriesRead}
use Rattle.py_reprs.specs.declared.levels.Level.TheVariants.{Attributes as AttributesRead}
use Rattle.py_reprs.specs.declared.limits.Limits.{Limits}
use Rattle.py_reprs.specs.declared.places.Place.{Place}
use Rattle.py_reprs.specs.declared.repr.ItemsForm.{ItemsForm}
use Rattle.py_reprs.specs.declared.repr.Repr.{Repr}
use Rattle.py_reprs.specs.declared.repr.Repr.TheVariants as read
use Rattle.py_reprs.specs.LevelForms.{Level}
use Rattle.py_reprs.specs.Levels.{level_at, level_of}
use Rattle.py_reprs.specs.Trees.{Tree, tree_of, trees_of}
use Rattle.py_reprs.specs.Trees.Tree.{Items, Pairs, Instance}
use Rattle.py_reprs.specs.Values.{closed, level_cost, opened, placed, repr_at, value_cost}
use Rattle.py_reprs.proofs.Shares.{cost_both, cost_within}
use Rattle.py_reprs.proofs.Views.{tree-Items, tree-Pairs, tree-Instance}

pub level_fits : (b : Limits) (nodes : ℕ) → level_cost b ≤ value_cost b nodes
unfolding value_cost
level_fits b nodes = more (level_cost b) nodes
  where
    more : (c nodes : ℕ) → c ≤ (1 + nodes) * c
    more c nodes = omega arith

pub row_fits : (b : Limits) (n share nodes : ℕ) → n * (1 + share) ≤ nodes
    → level_cost b + n * value_cost b share ≤ value_cost b nodes
unfolding value_cost
row_fits b n share nodes h = cost_within (level_cost b) n share nodes h

pub both_fit : (b : Limits) (n k share nodes : ℕ) → (n + k) * (1 + share) ≤ nodes
    → level_cost b + (n * value_cost b share + k * value_cost b share) ≤ value_cost b nodes
unfolding value_cost
both_fit b n k share nodes h = cost_both (level_cost b) n k share nodes h

module _ (f : ℕ → ℕ → Tree) (level : LevelRead) {d : Level} where
  pub whole_opened : (v : Repr) → level ≡ WholeRead v → level_of level ≡ d → tree_of v ≡ opened f d
  whole_opened v is h = ap (opened f) (sym (ap level_of is) ∙ h)

  pub row_opened : (form : ItemsForm) (places : Vec Place Global) (share left : ℕ) (items : Vec Repr Global)
      → level ≡ RowRead form places share left → level_of level ≡ d
      → map tree_of items.items ≡ map (placed f share) places.items
      → tree_of (read.Items form items left) ≡ opened f d
  row_opened form places share left items is h e =
      tree-Items form items left ∙ ap (λ ts. Items form (trees_of ts) left) e ∙ ap (opened f) (sym (ap level_of is) ∙ h)

  pub entries_opened : (keys values : Vec Place Global) (share left : ℕ) (ks vs : Vec Repr Global)
      → level ≡ EntriesRead keys values share left → level_of level ≡ d
      → map tree_of ks.items ≡ map (placed f share) keys.items
      → map tree_of vs.items ≡ map (placed f share) values.items
      → tree_of (read.Pairs ks vs left) ≡ opened f d
  entries_opened keys values share left ks vs is h e e2 =
      tree-Pairs ks vs left ∙ ap (λ ts. Pairs (trees_of ts) (trees_of (map tree_of vs.items)) left) e
      ∙ ap (λ ts. Pairs (trees_of (map (placed f share) keys.items)) (trees_of ts) left) e2
      ∙ ap (opened f) (sym (ap level_of is) ∙ h)

  pub attributes_opened : (class : Option (List ℕ)) (a : ℕ) (names values : Vec Place Global) (share left : ℕ)
      (ns vs : Vec Repr Global) → level ≡ AttributesRead class a names values share left → level_of level ≡ d
      → map tree_of ns.items ≡ map (placed f share) names.items
      → map tree_of vs.items ≡ map (placed f share) values.items
      → tree_of (read.Instance class a ns vs left) ≡ opened f d
  attributes_opened class a names values share left ns vs is h e e2 =
      tree-Instance class a ns vs left ∙ ap (λ ts. Instance class a (trees_of ts) (trees_of (map tree_of vs.items)) left) e
      ∙ ap (λ ts. Instance class a (trees_of (map (placed f share) names.items)) (trees_of ts) left) e2
      ∙ ap (opened f) (sym (ap level_of is) ∙ h)

pub repr_closed : (l : Layout) (t : ReprTypes) (b : Limits) (m : Memory) (levels nodes a : ℕ) → levels ≡ 0
    → repr_at l t b m levels nodes a ≡ closed (level_at l t b m 0 a)
unfolding repr_at
repr_closed l t b m levels nodes a e = rw e refl

pub repr_opened : (l : Layout) (t : ReprTypes) (b : Limits) (m : Memory) (levels nodes a : ℕ) → (levels ≡ 0 → ⊥)
    → repr_at l t b m levels nodes a ≡ opened (λ s x. repr_at l t b m (levels - 1) s x) (level_at l t b m nodes a)
unfolding repr_at
repr_opened l t b m zero nodes a some = absurd (some refl)
repr_opened l t b m (suc levels) nodes a some =
    let less : suc levels - 1 ≡ levels = omega arith in rw less refl

-- what was read is what is defined otherwise
pub read_as : (r : Result Repr ReprError) (x y : Tree) → IfOk r (λ v. tree_of v ≡ x) → y ≡ x
    → IfOk r (λ v. tree_of v ≡ y)
read_as (Ok v) x y h e = h ∙ sym e
read_as (Err e') x y h e = tt

-- one reader after another, with what each gives
pub reading_and : {n k : ℕ} {s0 s1 s2 : Seen} {P Q : Memory → Type 0} → Reading n s0 s1 P → Reading k s1 s2 Q
    → Reading (n + k) s0 s2 (λ m. P m × Q m)
reading_and p q = reading_then _ p q (λ m a b. (a, b))
