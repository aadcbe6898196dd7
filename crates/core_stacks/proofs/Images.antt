-- What the two images of a process say.
use Rattle.std.proofs.Common.{◌≡◌, ℕ, List, refl, subst}
use Rattle.std.specs.Prelude.{true, false, Option, Some, None, option_map}
use Rattle.std.specs.Option.{is_some}
use Rattle.image_memory.specs.Images.{Pushed}
use Rattle.image_memory.specs.declared.maps.CoreMapRange.{CoreMapRange}
use Rattle.py_process.specs.Facts.{facts_of}
use Rattle.py_process.specs.Programs.{FactsAre, FactsOf, IsKnown, Programs, needed_map, path_of}
use Rattle.py_process.specs.declared.binary.BinaryInfo.{BinaryInfo}
use Rattle.core_stacks.specs.Seen.{needed_by}

none_of : {T : Type 0} (o : Option T) → is_some o ≡ false → o ≡ None
none_of None e = refl
none_of (Some x) e = absurd (cc)

some_of : {T : Type 0} (o : Option T) → is_some o ≡ true → (x : T) × (o ≡ Some x)
some_of None e = absurd (cc)
some_of (Some x) e = (x, refl)

-- what the needed image says
needed_facts : (images : Pushed) (program : CoreMapRange) (library : Option CoreMapRange) (p l : Option BinaryInfo)
    → FactsAre images program (option_map facts_of p) → FactsOf images library (option_map facts_of l)
    → FactsAre images (needed_map (record { program = program; library = library }))
    (option_map facts_of (needed_by library p l))
needed_facts images program None p l one other = one
needed_facts images program (Some m) p l one other = other

pub none_needed : (images : Pushed) (ps : Programs) (p l : Option BinaryInfo)
    → FactsAre images ps.program (option_map facts_of p) → FactsOf images ps.library (option_map facts_of l)
    → is_some (needed_by ps.library p l) ≡ false → FactsAre images (needed_map ps) None
none_needed images ps p l one other none =
    subst (λ i. FactsAre images (needed_map ps) (option_map facts_of i)) (none_of (needed_by ps.library p l) none)
    (needed_facts images ps.program ps.library p l one other)

pub is_known : (images : Pushed) (ps : Programs) (p l : Option BinaryInfo) (path : List ℕ)
    → FactsAre images ps.program (option_map facts_of p) → FactsOf images ps.library (option_map facts_of l)
    → path ≡ path_of ps.program → is_some (needed_by ps.library p l) ≡ true
    → IsKnown images ps (record { program = option_map facts_of p; library = option_map facts_of l; path = path })
is_known images ps p l path one other path_is there = let some = some_of (needed_by ps.library p l) there in record {
  program_says = one;
  library_says = other;
  path_is = path_is;
  facts = facts_of some.0;
  needed_says = subst (λ i. FactsAre images (needed_map ps) (option_map facts_of i)) some.1
      (needed_facts images ps.program ps.library p l one other);
}
