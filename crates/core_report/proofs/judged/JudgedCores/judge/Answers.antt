use Rattle.std.proofs.Common.{◌≢◌, Err, Ok, refl, rules}
use Rattle.py_process.specs.declared.core_error.CoreError.TheVariants as core
use Rattle.core_report.proofs.Judging.{judged_err, judged_ok, keeps_refusal}
use Rattle.core_report.proofs.judged.JudgedCores.judge.Goals as goal

pub returns-in_ok-keep-in-Ok-clause-judged : goal.returns-in_ok-keep-in-Ok-clause-judged
returns-in_ok-keep-in-Ok-clause-judged c cores keeps = (
  record { name = c.args.name.now; answer = Ok c.in-Ok.report },
  refl,
  judged_ok c.args.images.now c.args.layouts.now c.args.bytes.items c.default.result c.in-Ok.report c.default.ensures c.in-Ok.ensures.right,
  c.in_ok-keep-in-Ok.ensures.kept cores keeps,
)

pub returns-in_ok-push-in-Err-clause-judged : goal.returns-in_ok-push-in-Err-clause-judged
returns-in_ok-push-in-Err-clause-judged c cores keeps =
    let ne : c.in-Err.error ≢ core.OutOfMemory = search rules in (
      record { name = c.args.name.now; answer = Err c.in-Err.error },
      refl,
      judged_err c.args.images.now c.args.layouts.now c.args.bytes.items c.default.result c.in-Err.error c.default.ensures c.in-Err.ensures.right ne,
      keeps_refusal cores c.args.self.now _ c.args.name c.in-Err.error keeps refl refl c.in_ok-push-in-Err.ensures.items,
    )
