use Rattle.std.proofs.Common.{◌∙◌, ap, subst}
use Rattle.std.specs.Prelude.{IfOk}
use Rattle.process_memory.specs.Memory.{byte_at}
use Rattle.process_memory.specs.Seen.{Seen}
use Rattle.memory_sections.specs.Pythons.{python_threads}
use Rattle.memory_sections.specs.Told.{AreNative}
use Rattle.memory_sections.proofs.native.native_of.Goals as goal

pub returns : goal.returns
returns c =
    let strict = c.args.strict in
    let images = c.args.images.now in
    let pythons = python_threads c.args.interpreters.now in
    let result = c.native_over.result in
    let told = rw (c.deref.ensures.value, c.in_ok-pythons.ensures, c.core-core.ensures.same) at c.native_over.ensures in
    subst (λ ps. IfOk result (AreNative strict c.args.crashed c.args.process.now.dump.core images (byte_at ps) pythons))
    (ap (λ (s : Seen). s.pieces) (c.new-view.ensures ∙ c.view.ensures)) told
