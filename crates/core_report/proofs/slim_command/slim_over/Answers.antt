use Rattle.std.proofs.Common.{Err, Ok, inl, inr, refl, subst}
use Rattle.std.proofs.lemmas.Result.{err_from_is_err_and}
use Rattle.core_stacks.specs.Slimmed.{SlimmedSays}
use Rattle.core_report.specs.Outcome.{OpensBy}
use Rattle.core_report.specs.Reading.{core_contents}
use Rattle.core_report.proofs.slim_command.slim_over.Goals as goal

pub returns-in_err-process : goal.returns-in_err-process
returns-in_err-process c =
    let p = err_from_is_err_and c.from_residual.result c.from_residual.ensures.1 in
    let error = c.in_err-process.field-0.0 in
    rw (p.1, p.2) (λ ne. inl (
      error,
      refl,
      subst (λ named. OpensBy named (core_contents c.args.files) (Err error))
          c.deref.ensures.value (c.in_err-process.ensures ne),
    ))

pub returns-in_err-bytes : goal.returns-in_err-bytes
returns-in_err-bytes c =
    let p = err_from_is_err_and c.from_residual-in_err-bytes.result c.from_residual-in_err-bytes.ensures.1 in
    let opens = subst (λ named. OpensBy named (core_contents c.args.files) (Ok c.in_ok-process.process))
    c.deref.ensures.value c.in_ok-process.ensures in
    let o = c.in_ok-process.process in
    let error = c.in_err-bytes.field-0.0 in
    rw (p.1, p.2) (λ ne. inr (
      o,
      opens,
      inl (
        error,
        refl,
        subst (λ d. SlimmedSays o (record d { dump_locals = c.args.words.now.level }) (Err error)) c.default.ensures c.in_err-bytes.ensures.right,
      ),
    ))

pub returns : goal.returns
returns c =
    let opens = subst (λ named. OpensBy named (core_contents c.args.files) (Ok c.in_ok-process.process))
    c.deref.ensures.value c.in_ok-process.ensures in
    let o = c.in_ok-process.process in
    inr (
      o,
      opens,
      inr (
        c.in_ok-bytes.bytes.items,
        subst (λ d. SlimmedSays o (record d { dump_locals = c.args.words.now.level }) (Ok c.in_ok-bytes.bytes.items)) c.default.ensures c.in_ok-bytes.ensures.right,
        refl,
      ),
    )
