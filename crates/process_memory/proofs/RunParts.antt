-- The first bytes of a run.
use Rattle.std.proofs.Common.{◌≡◌, ℕ, ◌+◌, ◌<◌, ◌≤◌, List, length, get_or, take, sym, ap, ◌∙◌, arith, get_or-take}
use Rattle.std.proofs.Common.{length-take-le}
use Rattle.std.specs.Prelude.{None, Some}
use Rattle.process_memory.specs.Memory.{Region, byte_at}

-- are a run too
pub part_bytes : (rs : List Region) (at : ℕ) (run : List ℕ) (size : ℕ) → size ≤ length run
    → ((k : ℕ) → k < length run → byte_at rs (at + k) ≡ Some (get_or run k 0))
    → (length (take size run) ≡ size) × ((k : ℕ) → k < length (take size run) → byte_at rs (at + k) ≡ Some (get_or (take size run) k 0))
part_bytes rs at run size le bytes =
    let count = length-take-le size run le in
    (count, λ k less. bytes k (omega arith) ∙ ap (λ n. Some n) (sym (get_or-take size run k 0 (omega arith))))

-- where a run begins there is a byte
pub first_byte_there : (rs : List Region) (addr : ℕ) (run : List ℕ) → 0 < length run
    → ((k : ℕ) → k < length run → byte_at rs (addr + k) ≡ Some (get_or run k 0)) → byte_at rs addr ≡ None → ⊥
first_byte_there rs addr run some each none =
    let here : addr + 0 ≡ addr = omega arith in
    let byte = sym (ap (byte_at rs) here) ∙ each 0 some in
    absurd (cc)
