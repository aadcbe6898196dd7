use Rattle.std.proofs.Common.{ap, arith}
use Rattle.std.proofs.lemmas.Result.{err_from_is_err_and}
use Rattle.process_memory.proofs.Reading.{reads_within}
use Rattle.py_builtins.proofs.Consulted.{consulting_short}
use Rattle.py_names.specs.NamesError.{names_fault}
use Rattle.thread_names.proofs.Attributes.{looking_done, looking_found, looking_init, looking_more, looking_stop}
use Rattle.thread_names.proofs.Attributes.{no_attribute}
use Rattle.thread_names.proofs.own.first_named.Goals as goal

pub loop-attribute-init : goal.loop-attribute-init
loop-attribute-init g c = looking_init c.args.layout.now c.args.name.now c.args.attributes.now _

pub returns-in_err-value : goal.returns-in_err-value
returns-in_err-value g c =
    let p = err_from_is_err_and c.from_residual.result c.from_residual.ensures.1 in
    rw p.1 (looking_stop no_attribute p.0 c.loop-attribute.invariant c.loop-attribute-test.true
    (consulting_short c.in_err-value.ensures) (ap names_fault p.2))

pub returns-in-Some : goal.returns-in-Some
returns-in-Some g c =
    looking_found no_attribute c.in-Some.value c.loop-attribute.invariant c.loop-attribute-test.true
    (consulting_short (rw c.in-Some.is at c.in_ok-value.ensures))

pub loop-attribute-preserved : goal.loop-attribute-preserved
loop-attribute-preserved g c =
    looking_more no_attribute c.loop-attribute.invariant c.loop-attribute-test.true
    (consulting_short (rw c.in-None.is at c.in_ok-value.ensures))

pub returns : goal.returns
returns g c =
    reads_within _ (looking_done c.loop-attribute.invariant (omega arith)) (omega arith)
