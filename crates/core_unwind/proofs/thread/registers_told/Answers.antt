use Rattle.std.proofs.Common.{ℕ, arith}
use Rattle.std.proofs.lemmas.List.{length-replicate}
use Rattle.std.specs.Prelude.{Option, None}
use Rattle.core_unwind.specs.Told.{told}
use Rattle.core_unwind.proofs.Listing.{listing_done, listing_init, listing_more}
use Rattle.core_unwind.proofs.thread.registers_told.Goals as goal

pub loop-register-init : goal.loop-register-init
loop-register-init c = let none : Option ℕ = None in listing_init (told c.args.machine c.args.status.now) _
    (length-replicate 32 none)

pub loop-register-preserved : goal.loop-register-preserved
loop-register-preserved c = listing_more c.told-value.result c.loop-register.invariant (omega arith)
    c.told-value.ensures

pub returns : goal.returns
returns c = listing_done c.loop-register.invariant (omega arith)
