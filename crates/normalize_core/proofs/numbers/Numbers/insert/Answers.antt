use Rattle.std.proofs.Common.{◌≡◌, ℕ, List, Some, Ok, Err, refl, sym, subst}
use Rattle.std.specs.Prelude.{cond}
use Rattle.std.specs.Borrow.{Bor}
use Rattle.std.specs.BTreeMap as tree
use Rattle.std.specs.Ordering.{nat_cmp}
use Rattle.std.specs.Cmp.Lexicographic.{slice_cmp}
use Rattle.std.proofs.lemmas.Map.Text.{btree_map_updates_str}
use Rattle.normalize_core.specs.declared.meta.Reason.TheVariants.{Unmapped, MissingComponent, Unsupported}
use Rattle.normalize_core.specs.declared.numbers.Numbers.{Numbers}
use Rattle.normalize_core.specs.Numbered.{number_in}
use Rattle.normalize_core.specs.Shown.{target_shown}
use Rattle.normalize_core.specs.Targets.{Target, same_target}
use Rattle.normalize_core.proofs.numbers.Numbers.insert.Goals as goal

step : (p : Bor (List ℕ)) (n : ℕ) (old : Numbers) (files : tree.BTreeMap (Bor (List ℕ)) ℕ)
    → tree.UpdatesBy (λ x y. slice_cmp nat_cmp x.now y.now) (λ k. slice_cmp nat_cmp p.now k.now) old.files files (Some n)
    → (other : Target)
    → number_in (record old { files = files }) other ≡ cond (same_target (Ok p.now) other) (Some n) (number_in old other)
step p n old files h (Ok path) = btree_map_updates_str p.now old.files files (Some n) h path
step p n old files h (Err Unmapped) = refl
step p n old files h (Err MissingComponent) = refl
step p n old files h (Err Unsupported) = refl

pub returns-in_ok-insert-in-Ok : goal.returns-in_ok-insert-in-Ok
returns-in_ok-insert-in-Ok c = λ other.
    let old = c.args.self.now in
    subst (λ t. number_in (record old { files = c.insert.new.self }) other
    ≡ cond (same_target (target_shown t) other) (Some c.args.number) (number_in old other)) (sym c.in-Ok.is)
    (step c.in-Ok.path c.args.number old c.insert.new.self c.in_ok-insert-in-Ok.ensures.updates other)
