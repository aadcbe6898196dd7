-- What status 0 of a report tells.
use Rattle.std.proofs.Common.{◌≡◌, ℕ, List, [], ◌∷◌, Ok, Some, inl, inr, sym, subst, ◌∙◌}
use Rattle.std.specs.Prelude.{Option, Err}
use Rattle.std.specs.Io.KnownBytes.{Appends}
use Rattle.std.proofs.lemmas.Option.{same_Some}
use Rattle.outside.specs.Files.{Told}
use Rattle.outside.specs.Streams.{SinkSeen}
use Rattle.py_fields.specs.declared.layout.Layout.{Layout}
use Rattle.py_layout.specs.File.{IsRightFor}
use Rattle.py_process.specs.Reports.{reported_of}
use Rattle.core_words.specs.Dump.{Dump}
use Rattle.core_words.specs.Words.{Command, dump}
use Rattle.core_stacks.proofs.ReportLaws.{report_whole}
use Rattle.core_report.specs.Headline.{HasReported}
use Rattle.core_report.specs.Outcome.{IsDumpOutcome, IsDumpedBy, Outcome, images_read}
use Rattle.core_report.specs.Reading.{IsAll, IsRead}
use Rattle.program_run.specs.Ends.{Reaches}
use Rattle.core_report.specs.Run.{ComesTo, pystacks}
use Rattle.core_report.specs.declared.cause.Cause.{Cause}

text_same : (s t : List ℕ) → ◌≡◌ {A = Outcome} (Ok s) (Ok t) → s ≡ t
text_same s t is = cc

no_text : (s : List ℕ) (cause : Cause) → ◌≡◌ {A = Outcome} (Ok s) (Err cause) → ⊥
no_text s cause is = cc

module _ (d : Dump) (told : Told) (old new : SinkSeen) (written : List ℕ) (added : Appends old.written new.written written) where
  by_report : (bytes text : List ℕ) (images : List (List ℕ)) (layouts : List Layout) → IsRead told (dump d) (bytes ∷ text ∷ images)
      → IsAll (dump d) (bytes ∷ text ∷ images) → IsRightFor text (Ok layouts) → IsDumpedBy d bytes (images_read d.images images) layouts (Ok written) → HasReported d told old new
  by_report bytes text images layouts read all says (inl (e, is, h)) = absurd (no_text written _ is)
  by_report bytes text images layouts read all says (inr (report, h, is)) = record {
    core = bytes;
    text = text;
    images = images;
    read = read;
    all = all;
    layouts = layouts;
    says = says;
    report = report;
    right = report_whole bytes (images_read d.images images) layouts d.config (reported_of report) h;
    written = subst (λ t. Appends old.written new.written t) (text_same written _ is) added;
  }

  by_contents : (contents : List (List ℕ)) → IsRead told (dump d) contents → IsAll (dump d) contents → IsDumpOutcome d contents (Ok written) → HasReported d told old new
  by_contents [] read all h = absurd h
  by_contents (bytes ∷ []) read all h = absurd h
  by_contents (bytes ∷ text ∷ images) read all (inl (e, is, h)) = absurd (no_text written _ is)
  by_contents (bytes ∷ text ∷ images) read all (inr (layouts, says, h)) = by_report bytes text images layouts read all says h

  comes : ComesTo told (dump d) (Ok written) → HasReported d told old new
  comes h = by_contents h.contents h.read h.all h.is

  pub reported_of_run : (asked : Option Command) → asked ≡ Some (dump d) → Reaches pystacks asked told (Ok written) → HasReported d told old new
  reported_of_run asked is reached =
      comes (subst (λ c. ComesTo told c (Ok written)) (same_Some _ _ (sym reached.is_asked ∙ is)) reached.comes)
