use Rattle.std.proofs.Common.{◌≡◌, ℕ, ◌+◌, ◌<◌, [], length, get_or, subst}
use Rattle.std.specs.Prelude.{IfSome, None, Some}
use Rattle.process_memory.specs.Memory.{byte_at}
use Rattle.image_memory.proofs.Held.{core_regions}
use Rattle.image_memory.proofs.core_dump.CoreDumpPieces.run.Goals as goal

pub returns-clause-bytes : goal.returns-clause-bytes
returns-clause-bytes c =
    subst (λ rs. IfSome c.run_of.result (λ run. (k : ℕ) → k < length run.now → byte_at rs (c.args.addr + k) ≡ Some (get_or run.now k 0)))
    (core_regions c.args.self.now []) c.run_of.ensures.bytes

pub returns-clause-none : goal.returns-clause-none
returns-clause-none c =
    subst (λ rs. c.run_of.result ≡ None → byte_at rs c.args.addr ≡ None) (core_regions c.args.self.now []) c.run_of.ensures.none
