use Rattle.std.proofs.Common.{◌∙◌, arith}
use Rattle.std.specs.List.{sum_by}
use Rattle.memory_builder.specs.Mirror.{program_in}
use Rattle.memory_builder.specs.Sizes.{program_size, shared_size, thread_size}
use Rattle.memory_builder.proofs.Records.{added_once}
use Rattle.memory_builder.proofs.Sums.{fits_capped}
use Rattle.memory_builder.proofs.sizes.objects_size.Goals as goal

pub returns : goal.returns
unfolding program_size
returns c =
    let l = c.args.layout.now in
    let shared = c.shared_size.ensures in
    added_once (shared_size l) (sum_by (thread_size l) (program_in c.args.program.now).threads) c.shared_size.result
    c.in_ok-threads.threads c.saturating_add.result
    (shared.value ∙ fits_capped (shared_size l) (omega (arith, shared.value, shared.bound))) c.in_ok-threads.ensures
    c.saturating_add.ensures
