-- What was refused is told under status 1, where the words ask for it.
use Rattle.std.proofs.Common.{◌≡◌, ◌≢◌, ℕ, true, List, Ok, Err, Some, None}
use Rattle.std.proofs.Common.{◌⊎◌, inl, inr, refl, sym, ap, subst, ◌∙◌, arith}
use Rattle.std.specs.Prelude.{Option, Result, Vec}
use Rattle.std.specs.Global.{Global}
use Rattle.std.proofs.lemmas.Option.{same_Some, none-some}
use Rattle.outside.specs.Files.{FilesSeen}
use Rattle.outside.specs.Streams.{SinkSeen}
use Rattle.core_words.specs.Answers.{AnswersWords}
use Rattle.core_words.specs.declared.args_error.ArgsError.{ArgsError}
use Rattle.core_words.specs.declared.args_error.ArgsError.TheVariants as args
use Rattle.program_run.specs.Ends.{BringsTo, End, HasFinished, HasOutcome, cut}
use Rattle.program_run.specs.Ends.{end_status, printed, refused, stopped, unread}
use Rattle.program_run.specs.declared.trouble.Trouble.{Trouble}
use Rattle.program_run.specs.declared.trouble.Trouble.TheVariants.{Cause as Caused, Words, File}
use Rattle.salvage_words.specs.Salvage.{Salvage, Wanted}
use Rattle.salvage_words.specs.Salvage.Wanted.{help, version, salvage}
use Rattle.salvage_words.specs.Seen.{asked_by, asked_salvage}
use Rattle.salvage_words.specs.declared.asked.Asked.{Asked}
use Rattle.salvage_words.specs.declared.asked.Asked.TheVariants as asked
use Rattle.salvage_report.specs.declared.cause.Cause.{Cause}
use Rattle.salvage_report.specs.declared.cause.Cause.TheVariants.{OutOfMemory}
use Rattle.salvage_report.specs.Lines.{cause_says}
use Rattle.salvage_report.specs.Missing.{AsksFor, AsksMissing, IsStoppedAtOne, MayTellRefused, TellsAfter, TellsRefused}
use Rattle.salvage_report.specs.Missing.TellsAfter.{untold, told, ran_out}
use Rattle.salvage_report.specs.Outcome.{cause_status}
use Rattle.salvage_report.specs.Run.{pysalvage}

abbrev Came : Type 0
Came = Result (Vec ℕ Global) (Trouble Cause)

-- ---- what the words ask for

asks_missing : (asks : Option Wanted) (words : Result Asked ArgsError) → AnswersWords asked_by asks words
    → AsksFor words
    → AsksMissing asks
asks_missing asks (Ok (asked.Salvage words)) is on = record { words = asked_salvage words; is = is; missing = on }
asks_missing asks (Ok asked.Help) is on = absurd on
asks_missing asks (Ok asked.Version) is on = absurd on
asks_missing asks (Err e) is on = absurd on

abbrev salvage_of : Salvage → Wanted → Salvage
salvage_of d help = d
salvage_of d version = d
salvage_of d (salvage s) = s

not_help : (s : Salvage) → help ≡ salvage s → ⊥
not_help s e = cc

not_version : (s : Salvage) → version ≡ salvage s → ⊥
not_version s e = cc

module _ (old new : FilesSeen) where
  abbrev Comes : Result Asked ArgsError → Came → Type 0
  Comes words came = (asks : Option Wanted) → AnswersWords asked_by asks words → HasOutcome pysalvage asks old new came

  nothing_stops : (came : Came) → HasOutcome pysalvage None old new came → IsStoppedAtOne came → ⊥
  nothing_stops (Ok text) comes one = one
  nothing_stops (Err (Caused cause)) comes one =
      none-some _ (comes.0 (λ five. absurd (omega (arith, one, five)))).is_asked
  nothing_stops (Err Words) comes one = one
  nothing_stops (Err (File name why)) comes one = one

  asks_for : (asks : Option Wanted) (words : Result Asked ArgsError) (came : Came) → AnswersWords asked_by asks words
      → Comes words came → IsStoppedAtOne came → AsksMissing asks → AsksFor words
  asks_for asks (Ok (asked.Salvage words)) came is comes one m =
      let same = same_Some _ _ (sym m.is ∙ is) in
      subst (λ s. s.sections.missing ≡ true) (ap (λ w. salvage_of m.words w) same) m.missing
  asks_for asks (Ok asked.Help) came is comes one m = absurd (not_help m.words (same_Some _ _ (sym is ∙ m.is)))
  asks_for asks (Ok asked.Version) came is comes one m = absurd (not_version m.words (same_Some _ _ (sym is ∙ m.is)))
  asks_for asks (Err args.Refused) came is comes one m = absurd (none-some _ (sym is ∙ m.is))
  asks_for asks (Err args.OutOfMemory) came is comes one m = absurd (nothing_stops came (comes None tt) one)

-- ---- how a run ends

module _ (start : List ℕ) (out out_after err err_after : SinkSeen) (status : ℕ) where
  abbrev Finished : Came → Type 0
  Finished came = HasFinished start cause_says came out out_after err err_after status

  status_one : (came : Came) → IsStoppedAtOne came → Finished came → status ≡ 1
  status_one (Ok text) one f = absurd one
  status_one (Err (Caused cause)) one f = f.is ∙ ap (end_status cause_says) f.brought.0 ∙ one
  status_one (Err Words) one f = absurd one
  status_one (Err (File name why)) one f = absurd one

  by_text : (text : Vec ℕ Global) (end : End Cause) → BringsTo (Ok text) end out out_after
      → end_status cause_says end ≡ 1 → ⊥
  by_text text printed b is = absurd (omega (arith, is))
  by_text text (stopped cause) b is = b
  by_text text refused b is = b
  by_text text (unread name why) b is = b
  by_text text cut b is = absurd (omega (arith, is))

  stopped_by : (came : Came) → Finished came → status ≡ 1 → IsStoppedAtOne came
  stopped_by (Ok text) f one = absurd (by_text text f.end f.brought (sym f.is ∙ one))
  stopped_by (Err (Caused cause)) f one = sym (f.is ∙ ap (end_status cause_says) f.brought.0) ∙ one
  stopped_by (Err Words) f one = absurd (omega (arith, f.is ∙ ap (end_status cause_says) f.brought.0, one))
  stopped_by (Err (File name why)) f one = absurd (omega (arith, f.is ∙ ap (end_status cause_says) f.brought.0, one))

  five : (came : Came) → came ≡ Err (Caused OutOfMemory) → Finished came → status ≡ 5
  five came is f = status_five (subst Finished is f)
    where
      status_five : Finished (Err (Caused OutOfMemory)) → status ≡ 5
      status_five g = g.is ∙ ap (end_status cause_says) g.brought.0

-- ---- both

module _ (files files_after : FilesSeen) (asks : Option Wanted) (words : Result Asked ArgsError) (came result : Came)
    (is : AnswersWords asked_by asks words) (comes : Comes files files_after words came) (old new : SinkSeen) where
  -- what came of the run is what the words ask for, also where memory ran out
  pub outcome_after : TellsAfter words came result old new → HasOutcome pysalvage asks files files_after result
  outcome_after (untold same nothing never) = subst (HasOutcome pysalvage asks files files_after) (sym same)
      (comes asks is)
  outcome_after (told same on one tells) = subst (HasOutcome pysalvage asks files files_after) (sym same)
      (comes asks is)
  outcome_after (ran_out same one nothing) = subst (HasOutcome pysalvage asks files files_after) (sym same)
      (by came (comes asks is) one)
    where
      by : (c : Came) → HasOutcome pysalvage asks files files_after c → IsStoppedAtOne c
          → HasOutcome pysalvage asks files files_after (Err (Caused OutOfMemory))
      by (Ok text) h one = absurd one
      by (Err (Caused cause)) h one = (λ ne. absurd (ne refl), h.1)
      by (Err Words) h one = absurd one
      by (Err (File name why)) h one = absurd one

  pub may_tell : (start : List ℕ) (out_after err err_after : SinkSeen) (status : ℕ)
      → TellsAfter words came result old new
      → Finished start new out_after err err_after status result → MayTellRefused asks status old new
  may_tell start out_after err err_after status (untold same nothing never) f = inl (
    nothing,
    λ m one.
        let stops = subst IsStoppedAtOne same (stopped_by start new out_after err err_after status result f one) in
        never (asks_for files files_after asks words came is comes stops m) stops,
  )
  may_tell start out_after err err_after status (told same on one tells) f = inr (
    asks_missing asks words is on,
    status_one start new out_after err err_after status came one
        (subst (Finished start new out_after err err_after status) same f),
    tells,
  )
  may_tell start out_after err err_after status (ran_out same one nothing) f = inl (
    nothing,
    λ m is_one.
        let is_five = five start new out_after err err_after status result same f in absurd
        (omega (arith, is_five, is_one)),
  )

-- ---- what a run tells of it

module _ {asks : Option Wanted} {status : ℕ} {old new : SinkSeen} (may : MayTellRefused asks status old new) where
  -- where the status isn't 1 nothing was told
  pub untold_else : (status ≡ 1 → ⊥) → new ≡ old
  untold_else not_one = by may
    where
      by : MayTellRefused asks status old new → new ≡ old
      by (inl nothing) = nothing.0
      by (inr h) = absurd (not_one h.1)

  pub told_at_one : (s : Salvage) → asks ≡ Some (salvage s) → s.sections.missing ≡ true → status ≡ 1
      → TellsRefused old new
  told_at_one s is on one = by may
    where
      by : MayTellRefused asks status old new → TellsRefused old new
      by (inl nothing) = absurd (nothing.1 (record { words = s; is = is; missing = on }) one)
      by (inr h) = h.2
