-- What the end of a run tells of its status.
use Rattle.std.proofs.Common.{◌≡◌, ◌≢◌, ◌≤◌, ◌⊎◌, ℕ, List, Option, Ok, Err, refl, sym, ap, subst, ◌∙◌, arith, inl, inr}
use Rattle.std.proofs.Common.{⊎_elim}
use Rattle.std.specs.Prelude.{IsSome}
use Rattle.std.proofs.lemmas.Bool.Decides.{eqb_tells}
use Rattle.std.proofs.lemmas.Option.{same_Some, none-some}
use Rattle.outside.specs.Counts.{Rose}
use Rattle.outside.specs.Files.{Told}
use Rattle.outside.specs.Streams.{SinkSeen}
use Rattle.core_words.specs.Words.{Command, Slim, slim}
use Rattle.program_run.specs.Ends.{End, HasEnded, HasRun, Ran, Reaches, cut, end_status, printed, refused, stopped}
use Rattle.program_run.specs.Ends.{unread}
use Rattle.program_run.proofs.Ends.{one_more}
use Rattle.program_run.proofs.Statuses.{cases_five, core_within, layouts_within}
use Rattle.core_report.specs.declared.cause.Cause.{Cause}
use Rattle.core_report.specs.declared.cause.Cause.TheVariants.{Core, Layouts, Merge, MergeIndex, Reach, ReachIndex}
use Rattle.core_report.specs.declared.cause.Cause.TheVariants.{TooManyPieces, OutOfMemory}
use Rattle.core_merge.specs.declared.error.CoreMergeError.{CoreMergeError}
use Rattle.core_merge.specs.declared.error.CoreMergeError.TheVariants as merging
use Rattle.object_reach.specs.declared.reached.ReachError.{ReachError}
use Rattle.object_reach.specs.declared.reached.ReachError.TheVariants as reaching
use Rattle.core_report.specs.Lines.{cause_says}
use Rattle.core_report.specs.Outcome.{IsFaultless, IsOutcome, Outcome, cause_status, merge_status, outcome_status}
use Rattle.core_report.specs.Outcome.{reach_status}
use Rattle.core_report.specs.Run.{ComesTo, EndsItself, HasFewReads, MayBeSlim, TellsContents, pystacks}
use Rattle.core_report.proofs.Turns.{same_contents}
use Rattle.core_report.proofs.Agreement.{outcome_class, settled, settled-other}
use Rattle.core_report.proofs.Commands.{cause_own, no_cause, outcomes_agree}
use Rattle.core_report.proofs.Processes.{slim_few}

-- the text is written, out of memory aside, unless the command comes to a cause of its own
abbrev Completes : Command → List (List ℕ) → ℕ → Type 0
Completes command contents status = (status ≡ 0) ⊎ ((status ≡ 5) ⊎ EndsItself command contents status)

-- two outcomes that are reached have one status, where the files tell
reached_agree : (asked : Option Command) (told : Told) (a b : Outcome) → IsSome told → Reaches pystacks asked told a → Reaches pystacks asked told b
    → outcome_status a ≢ 5 → outcome_status b ≢ 5 → outcome_class a ≡ outcome_class b
reached_agree asked told a b some one other na nb = by other.command (same_Some _ _ (sym other.is_asked ∙ one.is_asked)) other.comes
  where
    by : (command : Command) → command ≡ one.command → ComesTo told command b → outcome_class a ≡ outcome_class b
    by command same comes =
        let there : ComesTo told one.command b = subst (λ c. ComesTo told c b) same comes in
        let contents : there.contents ≡ one.comes.contents =
        same_contents told one.command there.contents one.comes.contents some there.read one.comes.read there.all one.comes.all in
        outcomes_agree one.command one.comes.contents a b one.comes.is (subst (λ c. IsOutcome one.command c b) contents there.is) na nb

-- statuses that count as one are one, but 0 and 8
settled_same : (m n : ℕ) → n ≢ 0 → n ≢ 8 → settled m ≡ settled n → m ≡ n
settled_same m n n0 n8 same = ⊎_elim
    (λ p. absurd (n0 (sym (settled-other n n8) ∙ sym same ∙ ap settled p.1))) (λ p. sym (settled-other m p.1) ∙ same ∙ settled-other n n8) (eqb_tells m 8)

settled_at : (n : ℕ) → n ≢ 0 → settled n ≡ 0 → n ≡ 8
settled_at n n0 is = ⊎_elim (λ p. p.1) (λ p. absurd (n0 (sym (settled-other n p.1) ∙ is))) (eqb_tells n 8)

reach_within : (e : ReachError) → reach_status e ≤ 9
reach_within reaching.OutOfMemory = omega arith
reach_within reaching.ReachLimit = omega arith

merge_within : (e : CoreMergeError) → merge_status e ≤ 9
merge_within merging.OutOfMemory = omega arith
merge_within _ = omega arith

cause_within : (c : Cause) → cause_status c ≤ 9
cause_within (Core e) = omega (arith, core_within e)
cause_within (Layouts e) = omega (arith, layouts_within e)
cause_within (Reach e) = reach_within e
cause_within (ReachIndex index) = omega arith
cause_within (Merge e) = merge_within e
cause_within (MergeIndex index) = omega arith
cause_within (TooManyPieces count) = omega arith
cause_within OutOfMemory = omega arith

pub status_within : (end : End Cause) → end_status cause_says end ≤ 9
status_within printed = omega arith
status_within (stopped cause) = cause_within cause
status_within refused = omega arith
status_within (unread name why) = omega arith
status_within cut = omega arith

module _ (asked : Option Command) (r : Ran) where
  text_apart : (text : List ℕ) (cause : Cause) → IsSome r.files.told → cause_status cause ≢ 5 → cause_status cause ≢ 8 → Reaches pystacks asked r.files.told (Ok text)
      → Reaches pystacks asked r.files.told (Err cause) → ⊥
  text_apart text cause some ne n8 one other = (cause_own cause).not_0
      (sym (settled_same 0 (cause_status cause) (cause_own cause).not_0 n8 (reached_agree asked r.files.told (Ok text) (Err cause) some one other (λ is. absurd (omega (arith, is))) ne)))

  only_reached : (end : End Cause) → HasEnded pystacks asked r end → (cause : Cause) → IsSome r.files.told → cause_status cause ≢ 5 → cause_status cause ≢ 8 → Reaches pystacks asked r.files.told (Err cause)
      → r.files_after.failed ≡ r.files.failed → (end_status cause_says end ≡ cause_status cause) ⊎ (end_status cause_says end ≡ 5)
  only_reached printed ended cause some ne n8 reached same = absurd (text_apart ended.text cause some ne n8 ended.reached reached)
  only_reached (stopped other) ended cause some ne n8 reached same = by (cases_five (cause_status other))
    where
      by : (cause_status other ≡ 5) ⊎ (cause_status other ≢ 5) → (cause_status other ≡ cause_status cause) ⊎ (cause_status other ≡ 5)
      by (inl five) = inr five
      by (inr ne5) = inl (settled_same (cause_status other) (cause_status cause) (cause_own cause).not_0 n8
          (reached_agree asked r.files.told (Err other) (Err cause) some (ended.reached ne5) reached ne5 ne))
  only_reached refused ended cause some ne n8 reached same = absurd (none-some _ (sym ended.0 ∙ reached.is_asked))
  only_reached (unread name why) ended cause some ne n8 reached same = absurd (one_more r.files.failed (name, why) (sym ended.unread.failed ∙ same))
  only_reached cut ended cause some ne n8 reached same = absurd (text_apart ended.text cause some ne n8 ended.reached reached)

  -- where there are too many pieces
  pieces_reached : (end : End Cause) → HasEnded pystacks asked r end → (cause : Cause) → IsSome r.files.told → cause_status cause ≡ 8 → Reaches pystacks asked r.files.told (Err cause)
      → r.files_after.failed ≡ r.files.failed → MayBeSlim (end_status cause_says end)
  pieces_reached printed ended cause some is reached same = inl refl
  pieces_reached (stopped other) ended cause some is reached same = by (cases_five (cause_status other))
    where
      by : (cause_status other ≡ 5) ⊎ (cause_status other ≢ 5) → MayBeSlim (cause_status other)
      by (inl five) = inr (inr (inl five))
      by (inr ne5) = inr (inr (inr (settled_at (cause_status other) (cause_own other).not_0
          (reached_agree asked r.files.told (Err other) (Err cause) some (ended.reached ne5) reached ne5 (λ five. absurd (omega (arith, five, is))) ∙ ap settled is))))
  pieces_reached refused ended cause some is reached same = absurd (none-some _ (sym ended.0 ∙ reached.is_asked))
  pieces_reached (unread name why) ended cause some is reached same = absurd (one_more r.files.failed (name, why) (sym ended.unread.failed ∙ same))
  pieces_reached cut ended cause some is reached same = inr (inl refl)

  pub only_of : (end : End Cause) → HasEnded pystacks asked r end → (command : Command) (contents : List (List ℕ)) (cause : Cause) → TellsContents asked r.files.told command contents
      → IsOutcome command contents (Err cause) → cause_status cause ≢ 5 → cause_status cause ≢ 8 → r.files_after.failed ≡ r.files.failed
      → (end_status cause_says end ≡ cause_status cause) ⊎ (end_status cause_says end ≡ 5)
  only_of end ended command contents cause tells is ne n8 same = only_reached end ended cause tells.tells ne n8
      (record { command = command; is_asked = tells.is_asked; comes = record { contents = contents; read = tells.read; all = tells.all; is = is } }) same

  pub pieces_of : (end : End Cause) → HasEnded pystacks asked r end → (command : Command) (contents : List (List ℕ)) (cause : Cause) → TellsContents asked r.files.told command contents
      → IsOutcome command contents (Err cause) → cause_status cause ≡ 8 → r.files_after.failed ≡ r.files.failed → MayBeSlim (end_status cause_says end)
  pieces_of end ended command contents cause tells is eight same = pieces_reached end ended cause tells.tells eight
      (record { command = command; is_asked = tells.is_asked; comes = record { contents = contents; read = tells.read; all = tells.all; is = is } }) same

  -- a cause that is reached is one over the told contents
  told_outcome : (command : Command) (contents : List (List ℕ)) (outcome : Outcome) → TellsContents asked r.files.told command contents
      → Reaches pystacks asked r.files.told outcome → IsOutcome command contents outcome
  told_outcome command contents outcome tells reached =
      let comes : ComesTo r.files.told command outcome = subst (λ c. ComesTo r.files.told c outcome) (same_Some _ _ (sym reached.is_asked ∙ tells.is_asked)) reached.comes in
      subst (λ c. IsOutcome command c outcome) (same_contents r.files.told command comes.contents contents tells.tells comes.read tells.read comes.all tells.all) comes.is

  pub complete_of : (end : End Cause) → HasEnded pystacks asked r end → (command : Command) (contents : List (List ℕ)) → TellsContents asked r.files.told command contents
      → IsFaultless command contents → r.files_after.failed ≡ r.files.failed → (Rose r.out.faults r.out_after.faults → ⊥)
      → Completes command contents (end_status cause_says end)
  complete_of printed ended command contents tells good same quiet = inl refl
  complete_of (stopped cause) ended command contents tells good same quiet = by (cases_five (cause_status cause))
    where
      by : (cause_status cause ≡ 5) ⊎ (cause_status cause ≢ 5) → Completes command contents (cause_status cause)
      by (inl five) = inr (inl five)
      by (inr ne5) =
          let is : IsOutcome command contents (Err cause) = told_outcome command contents (Err cause) tells (ended.reached ne5) in
          inr (inr (record { cause = cause; own = no_cause command contents good cause ne5 is; is = is; status_is = refl }))
  complete_of refused ended command contents tells good same quiet = absurd (none-some _ (sym ended.0 ∙ tells.is_asked))
  complete_of (unread name why) ended command contents tells good same quiet = absurd (one_more r.files.failed (name, why) (sym ended.unread.failed ∙ same))
  complete_of cut ended command contents tells good same quiet = absurd (quiet ended.cut.rose)

  -- a slim core whose stacks take few reads has few pieces
  pub few_of : (end : End Cause) → HasEnded pystacks asked r end → (s : Slim) (contents : List (List ℕ)) → TellsContents asked r.files.told (slim s) contents
      → HasFewReads s contents → end_status cause_says end ≢ 8
  few_of printed ended s contents tells few is = absurd (omega (arith, is))
  few_of (stopped cause) ended s contents tells few is =
      let ne5 : cause_status cause ≢ 5 = λ five. absurd (omega (arith, five, is)) in
      slim_few s contents few cause is (told_outcome (slim s) contents (Err cause) tells (ended.reached ne5))
  few_of refused ended s contents tells few is = absurd (omega (arith, is))
  few_of (unread name why) ended s contents tells few is = absurd (omega (arith, is))
  few_of cut ended s contents tells few is = absurd (omega (arith, is))

-- ---- what a run tells

module _ {asked : Option Command} {r : Ran} {err err_after : SinkSeen} {status : ℕ} (run : HasRun pystacks asked r err err_after status) where
  pub run_status : status ≤ 9
  run_status = subst (λ n. n ≤ 9) (sym run.is) (status_within run.end)

  pub run_only : (command : Command) (contents : List (List ℕ)) (cause : Cause) → TellsContents asked r.files.told command contents
      → IsOutcome command contents (Err cause) → cause_status cause ≢ 5 → cause_status cause ≢ 8 → r.files_after.failed ≡ r.files.failed
      → (status ≡ cause_status cause) ⊎ (status ≡ 5)
  run_only command contents cause tells is ne n8 same = subst (λ n. (n ≡ cause_status cause) ⊎ (n ≡ 5)) (sym run.is)
      (only_of asked r run.end run.ended command contents cause tells is ne n8 same)

  pub run_pieces : (command : Command) (contents : List (List ℕ)) (cause : Cause) → TellsContents asked r.files.told command contents
      → IsOutcome command contents (Err cause) → cause_status cause ≡ 8 → r.files_after.failed ≡ r.files.failed → MayBeSlim status
  run_pieces command contents cause tells is eight same = subst MayBeSlim (sym run.is)
      (pieces_of asked r run.end run.ended command contents cause tells is eight same)

  pub run_few : (s : Slim) (contents : List (List ℕ)) → TellsContents asked r.files.told (slim s) contents → HasFewReads s contents → status ≢ 8
  run_few s contents tells few is = few_of asked r run.end run.ended s contents tells few (sym run.is ∙ is)

  pub run_complete : (command : Command) (contents : List (List ℕ)) → TellsContents asked r.files.told command contents → IsFaultless command contents
      → r.files_after.failed ≡ r.files.failed → (Rose r.out.faults r.out_after.faults → ⊥) → Completes command contents status
  run_complete command contents tells good same quiet = subst (λ n. Completes command contents n) (sym run.is)
      (complete_of asked r run.end run.ended command contents tells good same quiet)
