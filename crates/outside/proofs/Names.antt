use Rattle.std.proofs.Common.{◌≡◌, ◌≢◌, ℕ, List, [], ◌∷◌, refl}
use Rattle.outside.specs.Files.{failed_name}
use Rattle.outside.specs.declared.faults.FileFault.{FileFault}
use Rattle.outside.specs.declared.faults.FileFault.TheVariants.{Failed, TooLong, OutOfMemory}

-- a fault other than out of memory leaves its name
pub failed_name_of_fault : (name : List ℕ) (fault : FileFault) → fault ≢ OutOfMemory → failed_name name fault ≡ (name, fault) ∷ []
failed_name_of_fault name Failed other = refl
failed_name_of_fault name TooLong other = refl
failed_name_of_fault name OutOfMemory other = absurd (other refl)
