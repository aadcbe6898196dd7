use Rattle.std.proofs.Common.{◌∙◌, ap, map, subst}
use Rattle.std.specs.Prelude.{IfOk}
use Rattle.process_memory.specs.Memory.{byte_at}
use Rattle.process_memory.specs.Seen.{Seen}
use Rattle.py_process.specs.Facts.{known_of}
use Rattle.py_runs.specs.Ends.{run_end}
use Rattle.native_stacks.specs.Threads.{thread_shown}
use Rattle.paired_stacks.specs.Stacks.{ArePaired}
use Rattle.paired_stacks.specs.Walked.{walked_threads}
use Rattle.memory_sections.specs.Pairs.{own_code}
use Rattle.memory_sections.proofs.pairs.pairs_by.Goals as goal

pub returns : goal.returns
returns c =
    let p = c.args.process.now in
    let told = rw (c.run_end-end.ensures, c.own_code-own.ensures) at c.pairs_over.ensures in
    subst (λ ps. IfOk c.pairs_over.result (λ stacks. ArePaired (run_end p.version c.args.records.now.frames) p.layout
    (byte_at ps) (own_code (known_of p.info)) (walked_threads c.args.interpreters.now) c.args.starts.now
    (map thread_shown c.args.natives.now) stacks.items))
    (ap (λ (s : Seen). s.pieces) (c.new-view.ensures ∙ c.view.ensures)) told
