use Rattle.std.proofs.Common.{◌≡◌, ◌∙◌, ◌++◌, ap, ap₂, length, sym}
use Rattle.std.specs.List.{sum_by}
use Rattle.std.proofs.lemmas.List.{length-map}
use Rattle.py_process.specs.Reports.{reported_of}
use Rattle.py_stacks.specs.Threads.{trace_of}
use Rattle.memory_builder.specs.Program.{Thread}
use Rattle.memory_builder.specs.Sizes.{capped}
use Rattle.memory_builder.proofs.Sums.{fits_capped}
use Rattle.image_builder.specs.Generated.{generated}
use Rattle.program_report.specs.Samples.{counts_text, frames_shown}
use Rattle.program_report.proofs.Samples.{frames_counted, frames_few, threads_counted}
use Rattle.program_report.proofs.sample.sample_text.Goals as goal

pub returns : goal.returns
returns c =
    let seed = c.args.seed in
    let report = c.in_ok-report.report in
    let is = c.in_ok-report.ensures in
    let threads : c.len.result ≡ length (generated seed).threads =
    c.len.ensures ∙ report.traces.ok.0 ∙ sym (length-map report.traces.items trace_of) ∙ threads_counted seed (reported_of report) is in
    let frames : c.frames_of.result ≡ sum_by (λ (t : Thread). length t.frames) (generated seed).threads =
    c.frames_of.ensures ∙ ap frames_shown c.deref.ensures.value
    ∙ ap capped (frames_counted seed (reported_of report) is) ∙ sym (fits_capped _ (frames_few seed)) in
    c.in_ok-push_parts.ensures ∙ ap (λ xs. xs ++ counts_text seed c.len.result c.frames_of.result) c.new-text.ensures.items
    ∙ ap₂ (counts_text seed) threads frames
