-- Entries of an auxiliary vector, one after another.
use Rattle.std.proofs.Common.{◌≡◌, ◌≢◌, ℕ, suc, ◌+◌, ◌*◌, ◌-◌, ◌<◌, ◌≤◌, false, List, refl, ap, ◌∙◌, arith}
use Rattle.std.proofs.lemmas.Bool.Decides.{nat_tests}
use Rattle.std.specs.Prelude.{None, ◌==◌}
use Rattle.elf64_core.specs.Fields.{u64_in}
use Rattle.native_frames.specs.Vdsos.{base_from}

counted : (n count : ℕ) → n < count → count - n ≡ suc (count - (n + 1))
counted n count lt = omega (arith, lt)

none_left : (n count : ℕ) → count ≤ n → count - n ≡ 0
none_left n count le = omega (arith, le)

module _ (vector : List ℕ) (n count : ℕ) where
  pub base_more : n < count → u64_in vector (16 * n) ≢ 33
      → base_from vector n (count - n) ≡ base_from vector (n + 1) (count - (n + 1))
  base_more lt other =
      let is : (u64_in vector (16 * n) == 33) ≡ false = grind (arith, nat_tests) in
      ap (base_from vector n) (counted n count lt) ∙ rw is refl

  pub base_none : count ≤ n → base_from vector n (count - n) ≡ None
  base_none le = ap (base_from vector n) (none_left n count le)
