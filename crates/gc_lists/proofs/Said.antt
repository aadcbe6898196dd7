-- What is said of the value that a call may give, and what calls cost.
use Rattle.std.proofs.Common.{◌≡◌, ◌∙◌, ◌+◌, ◌≤◌, arith, Ok, Err, Result}
use Rattle.std.specs.Prelude.{IfOk}
use Rattle.gc_lists.specs.declared.lists.Lists.{Lists}
use Rattle.gc_lists.specs.declared.walk.GcList.{GcList}
use Rattle.gc_lists.specs.Lists.{lists_reads}
use Rattle.gc_lists.specs.Walks.{list_reads}

-- the same of an equal one
pub said : {T U E : Type 0} (f : T → U) (r : Result T E) (u v : U) → u ≡ v → IfOk r (λ x. f x ≡ u) → IfOk r (λ x. f x ≡ v)
said f (Ok x) u v e h = h ∙ e
said f (Err error) u v e h = h

pub one_more : {E : Type 0} (r : Result GcList E) → 1 + list_reads 1 r ≤ list_reads 2 r
one_more (Ok list) = omega arith
one_more (Err e) = omega arith

pub one_more_of_all : {E : Type 0} (r : Result Lists E) → 1 + lists_reads 8 r ≤ lists_reads 9 r
one_more_of_all (Ok lists) = omega arith
one_more_of_all (Err e) = omega arith
