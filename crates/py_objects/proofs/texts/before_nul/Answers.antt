use Rattle.std.proofs.Common.{sym, arith}
use Rattle.py_objects.proofs.Utf.{nul_more, nul_found, nul_whole}
use Rattle.py_objects.proofs.texts.before_nul.Goals.{then-loop-end-test+else-bytes-end-ne0, else-loop-end-test}
use Rattle.py_objects.proofs.texts.before_nul.Goals as goal

pub loop-end-preserved : goal.loop-end-preserved
loop-end-preserved c = record { within = omega arith; so_far = nul_more c.args.bytes.now c.loop-end.end c.loop-end.invariant.so_far (omega arith) c.if-bytes-end-ne0.true }

pub returns : goal.returns
returns c = elim c.loop-end-test.branch [
  | then-loop-end-test+else-bytes-end-ne0 w ↦ sym (nul_found c.args.bytes.now c.loop-end.end c.loop-end.invariant.so_far w.loop-end-test.true w.if-bytes-end-ne0.false)
  | else-loop-end-test w ↦ sym (nul_whole c.args.bytes.now c.loop-end.end c.loop-end.invariant.so_far w.loop-end-test.false)
]
