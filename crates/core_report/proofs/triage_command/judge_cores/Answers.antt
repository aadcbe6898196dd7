use Rattle.std.proofs.Common.{◌++◌, ◌∙◌, arith, refl}
use Rattle.std.proofs.lemmas.List.{length-map}
use Rattle.std.specs.Global.{Global}
use Rattle.std.specs.Prelude.{String, string_bytes}
use Rattle.std.proofs.lemmas.Result.{err_from_is_err_and}
use Rattle.core_words.specs.Seen.{asked_triage}
use Rattle.core_words.specs.Words.{triage}
use Rattle.core_report.proofs.Judging.{core_at, so_far_all, so_far_asks, so_far_first, so_far_next}
use Rattle.core_report.proofs.Turns.{is_unread}
use Rattle.core_report.proofs.triage_command.judge_cores.Goals as goal

pub loop-core-init : goal.loop-core-init
loop-core-init g c = record {
  told = refl;
  failed = refl;
  few = omega (arith, c.new-judged.ensures.empty);
  judged = λ before read asks. so_far_first _ _ before c.args.images.now c.args.layouts.now c.new-judged.result c.new-judged.ensures.none read;
}

pub loop-core-preserved : goal.loop-core-preserved
loop-core-preserved g c =
    let i = c.loop-core.invariant in
    let t = asked_triage c.args.words.now in
    let at = core_at c.args.words.now.cores.now c.loop-core.core-index c.core-item.result _ c.loop-core-test.true c.core-item.is c.as_bytes-name.ensures.value in
    record {
      told = c.read_file.ensures.told ∙ i.told;
      failed = c.in_ok-bytes.ensures.given.1 ∙ i.failed;
      few = omega (arith, i.few, c.in_ok-judge.ensures.few);
      judged = λ before read asks.
          let far = i.judged before read asks in
          let next = c.in_ok-judge.ensures.judged far.cores far.keeps in
          so_far_next _ t before c.args.images.now c.args.layouts.now _ c.loop-core.core-index c.loop-core.judged c.judge.new.self far _ c.in_ok-bytes.bytes.items next.0
          asks at i.told c.in_ok-bytes.ensures.given.0 next.1 next.2 next.3;
    }

pub returns-in_err-bytes-clause-judged : goal.returns-in_err-bytes-clause-judged
returns-in_err-bytes-clause-judged g c before read asks =
    let p = err_from_is_err_and c.from_residual.result c.from_residual.ensures.1 in
    let i = c.loop-core.invariant in
    let t = asked_triage c.args.words.now in
    let far = i.judged before read asks in
    let at = core_at c.args.words.now.cores.now c.loop-core.core-index c.core-item.result _ c.loop-core-test.true c.core-item.is c.as_bytes-name.ensures.value in
    rw (p.1, p.2) (is_unread (g.F.Files.seen c.args.files.now) (g.F.Files.seen c.loop-core.files) (g.F.Files.seen c.read_file.new.files) (triage t)
    (before ++ far.contents) _ c.in_err-bytes.field-0.0 far.read (so_far_asks _ t before c.args.images.now c.args.layouts.now c.loop-core.core-index c.loop-core.judged far _ asks at)
    i.failed c.in_err-bytes.ensures.trouble)

pub returns-clause-judged : goal.returns-clause-judged
returns-clause-judged g c before read asks =
    let i = c.loop-core.invariant in
    so_far_all _ (asked_triage c.args.words.now) before c.args.images.now c.args.layouts.now (g.F.Files.seen c.args.files.now) (g.F.Files.seen c.loop-core.files)
    c.loop-core.core-index c.loop-core.judged refl (i.judged before read asks)
    (omega (arith, c.loop-core-test.false, length-map c.args.words.now.cores.now (λ (w : String Global). string_bytes w))) i.failed
