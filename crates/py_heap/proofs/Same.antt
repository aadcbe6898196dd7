-- What is read of classes.
use Rattle.std.proofs.Common.{◌≡◌, List, [], ◌∷◌, map, refl, ap, Option}
use Rattle.py_census.specs.Large.{none_large}
use Rattle.py_census.specs.declared.census.CountedClass.{CountedClass}
use Rattle.py_exceptions.specs.declared.name.ClassName.{ClassName}
use Rattle.py_heap.specs.declared.heap.HeapClass.{HeapClass}

pub same_map : {A : Type 0} (xs : List A) → xs ≡ map (λ x. x) xs
same_map [] = refl
same_map (x ∷ xs) = ap (λ ys. x ∷ ys) (same_map xs)

pub with_name : (c : CountedClass) (a b : Option ClassName) → a ≡ b
    → ◌≡◌ {A = HeapClass} (record { counted = c; name = a }) (record { counted = c; name = b })
with_name c a b h = ap (λ n. record { counted = c; name = n }) h

-- what stands where no class does
abbrev pub none_counted : CountedClass
none_counted = record {
  class = 0;
  objects = 0;
  bytes = 0;
  more = 0;
  unread = 0;
  unknown = 0;
  largest = none_large;
}
