-- A range of no bytes lies in no block.
use Rattle.std.specs.Prelude.{◌≡◌, ℕ, ◌<◌}
use Rattle.std.proofs.Common.{inl, arith, refl}
use Rattle.missed_reads.specs.Refused.{Refused, Adds, Has, IsBlockOf}

pub adds_empty : (m : Refused) (addr len : ℕ) → len ≡ 0 → Adds m m addr len
adds_empty m addr len none = record {
  stay = λ n h. h;
  only = λ n h. inl h;
  lies = inl (refl, λ n block. lies n block);
}
  where
    lies : (n : ℕ) → IsBlockOf addr len n → Has m.blocks n
    lies n block = let some : 0 < len = block.some in absurd (omega arith)
