use Rattle.std.proofs.Common.{◌∙◌}
use Rattle.local_values.specs.Addresses.{shown_addresses}
use Rattle.local_values.proofs.addresses.shown_addresses.Goals as goal

pub returns : goal.returns
unfolding shown_addresses
returns c = rw (c.deref.ensures.value ∙ c.in_ok-all.ensures) at c.each_once.ensures
