-- What the images of Python's two binaries say is one, and says which addresses are Python's.
use Rattle.std.proofs.Common.{◌≡◌, ℕ, List, Option, Some, None, refl, subst}
use Rattle.std.specs.Prelude.{option_map}
use Rattle.image_memory.specs.Images.{Pushed}
use Rattle.image_memory.proofs.Noted.{AreMaps-once}
use Rattle.py_process.specs.Facts.{Facts, facts_of}
use Rattle.py_process.specs.Programs.{ArePrograms, FactsAre, FactsOf, Programs}
use Rattle.py_process.specs.declared.binary.BinaryInfo.{BinaryInfo}
use Rattle.py_process.proofs.FindingLaws.{facts_are, facts_of_map, programs_same}
use Rattle.core_stacks.specs.Seen.{AreBinaries}
use Rattle.native_merge.specs.Merges.{is_python}
use Rattle.core_report.specs.Merged.{python_in}

pub binaries_once : (bytes : List ℕ) (images : Pushed) (p l q k : Option Facts) → AreBinaries bytes images p l
    → AreBinaries bytes images q k → (p ≡ q) × (l ≡ k)
binaries_once bytes images p l q k one other =
    let maps = AreMaps-once bytes one.maps other.maps one.are_maps other.are_maps in
    let mapped = programs_same other.maps one.mapped other.mapped (subst (λ ms. ArePrograms ms one.mapped) maps one.are_programs) other.are_programs in (
      facts_are images other.mapped.program p q (subst (λ (x : Programs). FactsAre images x.program p) mapped one.program_says) other.program_says,
      facts_of_map images other.mapped.library l k (subst (λ (x : Programs). FactsOf images x.library l) mapped one.library_says) other.library_says,
    )

-- the binaries that the code holds say the same of addresses
pub python_seen : (program library : Option BinaryInfo)
    → is_python program library ≡ python_in (option_map facts_of program) (option_map facts_of library)
python_seen None None = refl
python_seen None (Some l) = refl
python_seen (Some p) None = refl
python_seen (Some p) (Some l) = refl
