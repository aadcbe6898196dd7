-- Sections by number, and strings up to their nul.
use Rattle.std.proofs.Common.{◌≡◌, ℕ, zero, suc, ◌+◌, ◌*◌, ◌<◌, ◌≤◌, Bool, true, false, cond, List, Some}
use Rattle.std.proofs.Common.{None, refl, ap, ◌∙◌, arith}
use Rattle.std.specs.Prelude.{slice_get, slice_range}
use Rattle.elf64_core.specs.Sections.{section_in, sections_from, range_at}

pub section_get : (bytes : List ℕ) (at count k : ℕ) → k < count
    → slice_get (sections_from bytes at count) k ≡ Some (section_in bytes (at + 64 * k))
unfolding sections_from
section_get bytes at zero k lt = absurd (omega arith)
section_get bytes at (suc n) zero lt =
    let e : at ≡ at + 64 * 0 = omega arith in ap (λ a. Some (section_in bytes a)) e
section_get bytes at (suc n) (suc k) lt =
    let e : at + 64 + 64 * k ≡ at + 64 * suc k = omega arith in
    section_get bytes (at + 64) n k (omega arith) ∙ ap (λ a. Some (section_in bytes a)) e

pub section_missing : (bytes : List ℕ) (at count k : ℕ) → count ≤ k → slice_get (sections_from bytes at count) k ≡ None
unfolding sections_from
section_missing bytes at zero k le = refl
section_missing bytes at (suc n) zero le = absurd (omega arith)
section_missing bytes at (suc n) (suc k) le = section_missing bytes (at + 64) n k (omega arith)

some_of : (test : Bool) (part range : List ℕ) → Some part ≡ cond test (Some range) None → part ≡ range
some_of true part range e = cc
some_of false part range e = cc

-- the bytes of a range that lies in the file
pub range_is : (bytes part : List ℕ) (start size : ℕ) → Some part ≡ range_at bytes start size
    → part ≡ slice_range bytes start (start + size)
unfolding range_at
range_is bytes part start size e = some_of _ part _ e
