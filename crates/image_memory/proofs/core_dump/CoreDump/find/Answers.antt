use Rattle.std.proofs.Common.{◌≡◌, ℕ, ◌+◌, ◌<◌, [], length, get_or, subst}
use Rattle.std.specs.Prelude.{IfSome, None, Some}
use Rattle.process_memory.specs.Memory.{byte_at}
use Rattle.image_memory.proofs.Held.{core_regions}
use Rattle.image_memory.proofs.core_dump.CoreDump.find.Goals as goal

pub returns-clause-none : goal.returns-clause-none
returns-clause-none g c =
    subst (λ rs. (c.rest_of.result ≡ None → byte_at rs c.args.addr ≡ None) × (byte_at rs c.args.addr ≡ None → c.rest_of.result ≡ None))
    (core_regions c.args.self.now []) c.rest_of.ensures.none

pub returns-clause-bytes : goal.returns-clause-bytes
returns-clause-bytes g c =
    subst (λ rs. IfSome c.rest_of.result (λ rest. (k : ℕ) → k < length rest.now → byte_at rs (c.args.addr + k) ≡ Some (get_or rest.now k 0)))
    (core_regions c.args.self.now []) c.rest_of.ensures.bytes
