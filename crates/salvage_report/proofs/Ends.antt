-- What the end of a run tells of its status.
use Rattle.std.proofs.Common.{◌≡◌, ◌≢◌, ◌≤◌, ◌⊎◌, ℕ, List, Option, Ok, Err, sym, refl, ap, subst, ◌∙◌, arith, inl, inr}
use Rattle.std.specs.Prelude.{IsSome}
use Rattle.std.proofs.lemmas.Option.{same_Some, none-some}
use Rattle.outside.specs.Counts.{Rose}
use Rattle.outside.specs.Files.{Told}
use Rattle.outside.specs.Streams.{SinkSeen}
use Rattle.program_run.specs.Ends.{End, HasEnded, HasRun, Ran, Reaches, cut, end_status, printed, refused, stopped}
use Rattle.program_run.specs.Ends.{unread}
use Rattle.program_run.proofs.Contents.{same_contents}
use Rattle.program_run.proofs.Ends.{one_more}
use Rattle.program_run.proofs.Statuses.{cases_five}
use Rattle.salvage_words.specs.Salvage.{Salvage, Wanted}
use Rattle.salvage_words.specs.Salvage.Wanted.{help, version, salvage}
use Rattle.salvage_report.specs.declared.cause.Cause.{Cause}
use Rattle.salvage_report.specs.Lines.{cause_says}
use Rattle.salvage_report.specs.Outcome.{IsFaultless, IsOutcome, Outcome, cause_status, outcome_status}
use Rattle.salvage_report.specs.Reading.{files_of}
use Rattle.salvage_report.specs.Run.{ComesTo, SalvageComesTo, TellsContents, pysalvage}
use Rattle.salvage_report.proofs.Agreement.{cause_own, cause_within, no_cause, outcomes_agree}

-- two outcomes that are reached have one status, where the files tell
comes_agree : (told : Told) (wanted : Wanted) (a b : Outcome) → IsSome told → ComesTo told wanted a
    → ComesTo told wanted b
    → outcome_status a ≢ 5 → outcome_status b ≢ 5 → outcome_status a ≡ outcome_status b
comes_agree told help a b some one other na nb = ap outcome_status (one ∙ sym other)
comes_agree told version a b some one other na nb = ap outcome_status (one ∙ sym other)
comes_agree told (salvage s) a b some one other na nb =
    let same = same_contents told (files_of s) other.contents one.contents some other.read one.read in
    outcomes_agree s one.contents a b one.is (subst (λ c. IsOutcome s c b) same other.is) na nb

reached_agree : (asked : Option Wanted) (told : Told) (a b : Outcome) → IsSome told → Reaches pysalvage asked told a
    → Reaches pysalvage asked told b
    → outcome_status a ≢ 5 → outcome_status b ≢ 5 → outcome_status a ≡ outcome_status b
reached_agree asked told a b some one other na nb =
    comes_agree told one.command a b some one.comes
    (subst (λ w. ComesTo told w b) (same_Some _ _ (sym other.is_asked ∙ one.is_asked)) other.comes) na nb

pub status_within : (end : End Cause) → end_status cause_says end ≤ 6
status_within printed = omega arith
status_within (stopped cause) = cause_within cause
status_within refused = omega arith
status_within (unread name why) = omega arith
status_within cut = omega arith

module _ (asked : Option Wanted) (r : Ran) where
  text_apart : (text : List ℕ) (cause : Cause) → IsSome r.files.told → cause_status cause ≢ 5
      → Reaches pysalvage asked r.files.told (Ok text) → Reaches pysalvage asked r.files.told (Err cause) → ⊥
  text_apart text cause some ne one other =
      (cause_own cause).not_0 (sym (reached_agree asked r.files.told (Ok text) (Err cause) some one other
      (λ is. absurd (omega (arith, is))) ne))

  only_reached : (end : End Cause) → HasEnded pysalvage asked r end → (cause : Cause) → IsSome r.files.told
      → cause_status cause ≢ 5 → Reaches pysalvage asked r.files.told (Err cause)
      → r.files_after.failed ≡ r.files.failed → (end_status cause_says end ≡ cause_status cause)
      ⊎ (end_status cause_says end ≡ 5)
  only_reached printed ended cause some ne reached same = absurd
      (text_apart ended.text cause some ne ended.reached reached)
  only_reached (stopped other) ended cause some ne reached same = by (cases_five (cause_status other))
    where
      by : (cause_status other ≡ 5) ⊎ (cause_status other ≢ 5) → (cause_status other ≡ cause_status cause)
          ⊎ (cause_status other ≡ 5)
      by (inl five) = inr five
      by (inr ne5) = inl (reached_agree asked r.files.told (Err other) (Err cause) some (ended.reached ne5) reached
          ne5 ne)
  only_reached refused ended cause some ne reached same = absurd (none-some _ (sym ended.0 ∙ reached.is_asked))
  only_reached (unread name why) ended cause some ne reached same = absurd
      (one_more r.files.failed (name, why) (sym ended.unread.failed ∙ same))
  only_reached cut ended cause some ne reached same = absurd (text_apart ended.text cause some ne ended.reached reached)

  reached_by : (s : Salvage) (contents : List (List ℕ)) (outcome : Outcome)
      → TellsContents asked r.files.told s contents
      → IsOutcome s contents outcome → Reaches pysalvage asked r.files.told outcome
  reached_by s contents outcome tells is = record {
    command = salvage s;
    is_asked = tells.is_asked;
    comes = record { contents = contents; read = tells.read; is = is };
  }

  pub only_of : (end : End Cause) → HasEnded pysalvage asked r end
      → (s : Salvage) (contents : List (List ℕ)) (cause : Cause) → TellsContents asked r.files.told s contents
      → IsOutcome s contents (Err cause) → cause_status cause ≢ 5 → r.files_after.failed ≡ r.files.failed
      → (end_status cause_says end ≡ cause_status cause) ⊎ (end_status cause_says end ≡ 5)
  only_of end ended s contents cause tells is ne same =
      only_reached end ended cause tells.tells ne (reached_by s contents (Err cause) tells is) same

  -- an outcome that is reached is one over the told contents
  told_outcome : (s : Salvage) (contents : List (List ℕ)) (outcome : Outcome)
      → TellsContents asked r.files.told s contents
      → Reaches pysalvage asked r.files.told outcome → IsOutcome s contents outcome
  told_outcome s contents outcome tells reached =
      let comes : SalvageComesTo r.files.told s outcome =
      subst (λ w. ComesTo r.files.told w outcome) (same_Some _ _ (sym reached.is_asked ∙ tells.is_asked))
      reached.comes in
      subst (λ c. IsOutcome s c outcome) (same_contents r.files.told (files_of s) comes.contents contents tells.tells
      comes.read tells.read) comes.is

  pub complete_of : (end : End Cause) → HasEnded pysalvage asked r end → (s : Salvage) (contents : List (List ℕ))
      → TellsContents asked r.files.told s contents
      → IsFaultless s contents → r.files_after.failed ≡ r.files.failed → (end_status cause_says end ≡ 4 → ⊥)
      → (end_status cause_says end ≡ 0) ⊎ (end_status cause_says end ≡ 5)
  complete_of printed ended s contents tells good same quiet = inl refl
  complete_of (stopped cause) ended s contents tells good same quiet = by (cases_five (cause_status cause))
    where
      by : (cause_status cause ≡ 5) ⊎ (cause_status cause ≢ 5) → (cause_status cause ≡ 0) ⊎ (cause_status cause ≡ 5)
      by (inl five) = inr five
      by (inr ne5) = absurd (no_cause s contents good cause ne5
          (told_outcome s contents (Err cause) tells (ended.reached ne5)))
  complete_of refused ended s contents tells good same quiet = absurd (none-some _ (sym ended.0 ∙ tells.is_asked))
  complete_of (unread name why) ended s contents tells good same quiet = absurd
      (one_more r.files.failed (name, why) (sym ended.unread.failed ∙ same))
  complete_of cut ended s contents tells good same quiet = absurd (quiet refl)

-- ---- what a run tells

module _ {asked : Option Wanted} {r : Ran} {err err_after : SinkSeen} {status : ℕ}
    (run : HasRun pysalvage asked r err err_after status) where
  pub run_status : status ≤ 6
  run_status = subst (λ n. n ≤ 6) (sym run.is) (status_within run.end)

  pub run_only : (s : Salvage) (contents : List (List ℕ)) (cause : Cause) → TellsContents asked r.files.told s contents
      → IsOutcome s contents (Err cause) → cause_status cause ≢ 5 → r.files_after.failed ≡ r.files.failed
      → (status ≡ cause_status cause) ⊎ (status ≡ 5)
  run_only s contents cause tells is ne same = subst (λ n. (n ≡ cause_status cause) ⊎ (n ≡ 5)) (sym run.is)
      (only_of asked r run.end run.ended s contents cause tells is ne same)

  pub run_complete : (s : Salvage) (contents : List (List ℕ)) → TellsContents asked r.files.told s contents
      → IsFaultless s contents
      → r.files_after.failed ≡ r.files.failed → (status ≡ 4 → ⊥) → (status ≡ 0) ⊎ (status ≡ 5)
  run_complete s contents tells good same quiet = subst (λ n. (n ≡ 0) ⊎ (n ≡ 5)) (sym run.is)
      (complete_of asked r run.end run.ended s contents tells good same (λ four. quiet (run.is ∙ four)))

  -- a text that can't be written has a fault of its stream
  pub four_rose : status ≡ 4 → Rose r.out.faults r.out_after.faults
  four_rose four = at run.end run.ended (sym run.is ∙ four)
    where
      at : (end : End Cause) → HasEnded pysalvage asked r end → end_status cause_says end ≡ 4
          → Rose r.out.faults r.out_after.faults
      at printed ended is = absurd (omega (arith, is))
      at (stopped cause) ended is = absurd ((cause_own cause).not_4 is)
      at refused ended is = absurd (omega (arith, is))
      at (unread name why) ended is = absurd (omega (arith, is))
      at cut ended is = ended.cut.rose
