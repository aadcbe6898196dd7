use Rattle.std.proofs.Common.{◌≡◌, ◌⊎◌, ℕ, ◌+◌, ◌<◌, [], length, get_or, subst}
use Rattle.std.specs.Prelude.{IfSome, None, Some}
use Rattle.process_memory.specs.Memory.{byte_at}
use Rattle.image_memory.proofs.Held.{core_regions}
use Rattle.image_memory.proofs.core_dump.CoreDump.piece.Goals as goal

pub returns-clause-none : goal.returns-clause-none
returns-clause-none c =
    subst (λ rs. (c.piece_of.result ≡ None → (c.args.len ≡ 0) ⊎ (byte_at rs c.args.addr ≡ None)) × ((c.args.len ≡ 0) ⊎ (byte_at rs c.args.addr ≡ None) → c.piece_of.result ≡ None))
    (core_regions c.args.self.now []) c.piece_of.ensures.none

pub returns-clause-bytes : goal.returns-clause-bytes
returns-clause-bytes c =
    subst (λ rs. IfSome c.piece_of.result (λ piece. (k : ℕ) → k < length piece.now → byte_at rs (c.args.addr + k) ≡ Some (get_or piece.now k 0)))
    (core_regions c.args.self.now []) c.piece_of.ensures.bytes
