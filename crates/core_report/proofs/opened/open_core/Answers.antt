use Rattle.core_report.proofs.Processes.{opens_of}
use Rattle.core_report.proofs.opened.open_core.Goals as goal

pub returns : goal.returns
returns c = opens_of c.args.bytes.items c.args.images.now c.args.layouts.now c.in_ok-core.ensures.core
    c.in_ok-core.core c.new-2.result c.in_ok-core.ensures.same c.new-2.ensures.right
