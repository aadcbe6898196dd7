-- What the end of a run tells of its status.
use Rattle.std.proofs.Common.{◌≡◌, ◌≢◌, ◌⊎◌, ◌↔◌, ℕ, List, [], ◌∷◌, ◌++◌, length, Option, None, Some, Ok, Err}
use Rattle.std.specs.Prelude.{Result, Vec}
use Rattle.std.specs.Global.{Global}
use Rattle.std.proofs.Common.{refl, sym, ap, subst, ◌∙◌, arith, inl, inr, length-append}
use Rattle.std.specs.List.{concat}
use Rattle.std.specs.Io.KnownBytes.{Appends}
use Rattle.std.proofs.lemmas.Option.{none-some}
use Rattle.outside.specs.Files.{FilesSeen}
use Rattle.outside.specs.Streams.{SinkSeen}
use Rattle.core_texts.specs.Says.{Says}
use Rattle.fault_lines.specs.Lines.{line_of}
use Rattle.program_run.specs.declared.trouble.FileTrouble.{FileTrouble}
use Rattle.program_run.specs.declared.trouble.FileTrouble.TheVariants as reading
use Rattle.program_run.specs.declared.trouble.Trouble.{Trouble}
use Rattle.program_run.specs.declared.trouble.Trouble.TheVariants.{Cause as Caused, Words, File}
use Rattle.program_run.specs.Ends.{BringsTo, CauseSays, End, HasEnded, HasFinished, HasOutcome, HasRun, IsAnswered}
use Rattle.program_run.specs.Ends.{IsOwn, IsTroubled, Program, Ran, Reaches, SaysEnd}
use Rattle.program_run.specs.Runs.{IsRun}
use Rattle.program_run.specs.Ends.{cut, end_at, end_parts, end_status, printed, refused, stopped, unread}
use Rattle.program_run.specs.Reading.{IsUnreadTrouble, trouble_of}
use Rattle.program_run.proofs.Statuses.{cases_five}

-- a run that gave up says one line
pub says_end : {Cause : Type 0} (start : List ℕ) (says : Cause → CauseSays) (old new : SinkSeen) (t : Trouble Cause)
    → Says old new (line_of start (concat (end_parts says (end_at t)))) → SaysEnd start says (end_at t) old new
says_end start says old new (Caused cause) said = said
says_end start says old new Words said = said
says_end start says old new (File name why) said = said

pub one_more : {X : Type 0} (xs : List X) (x : X) → xs ++ x ∷ [] ≡ xs → ⊥
one_more xs x e = omega (arith, ap length e, length-append xs (x ∷ []))

module _ {Command Cause : Type 0} (p : Program Command Cause) where
  -- what reading files left, each of which the command asks for
  pub unread_files : (Asks : List ℕ → Type 0) (old mid new : FilesSeen) (command : Command) (memory : Cause)
      (t : FileTrouble) → (p.says memory).status ≡ 5 → ((name : List ℕ) → Asks name → p.Asks old.told command name)
      → mid.failed ≡ old.failed → IsUnreadTrouble Asks mid new t → IsTroubled p old new command (trouble_of memory t)
  unread_files Asks old mid new command memory reading.OutOfMemory five asks same h = (λ ne. absurd (ne five), h ∙ same)
  unread_files Asks old mid new command memory (reading.File n why) five asks same h = record {
    asks = asks n.now h.asks;
    not_memory = h.not_memory;
    failed = h.failed ∙ ap (λ b. b ++ (n.now, why) ∷ []) same;
  }

  -- what a command's own code answers
  pub answered : (asked : Option Command) (old new : FilesSeen) (command : Command)
      (outcome : Result (Vec ℕ Global) (Trouble Cause)) → asked ≡ Some command → IsAnswered p old new command outcome
      → HasOutcome p asked old new outcome
  answered asked old new command (Ok text) is h = (record { command = command; is_asked = is; comes = h.0 }, h.1)
  answered asked old new command (Err (Caused cause)) is h =
      (λ ne. record { command = command; is_asked = is; comes = h.0 ne }, h.1)
  answered asked old new command (Err (File name why)) is h = (command, is, h)
  answered asked old new command (Err Words) is h = absurd h

  -- an outcome that is brought to an end
  ended_of : (asked : Option Command) (r : Ran) (outcome : Result (Vec ℕ Global) (Trouble Cause)) (end : End Cause)
      → HasOutcome p asked r.files r.files_after outcome → BringsTo outcome end r.out r.out_after
      → HasEnded p asked r end
  ended_of asked r (Ok text) printed has brought =
      record { text = text.items; reached = has.0; added = brought; failed = has.1 }
  ended_of asked r (Ok text) cut has brought =
      record { text = text.items; reached = has.0; cut = brought; failed = has.1 }
  ended_of asked r (Ok text) (stopped cause) has brought = absurd brought
  ended_of asked r (Ok text) refused has brought = absurd brought
  ended_of asked r (Ok text) (unread name why) has brought = absurd brought
  ended_of asked r (Err (Caused cause)) end has brought = subst (HasEnded p asked r) (sym brought.0)
      (record { reached = has.0; quiet = record { failed = has.1; written = brought.1 } })
  ended_of asked r (Err Words) end has brought = subst (HasEnded p asked r) (sym brought.0)
      (has.0, record { failed = has.1; written = brought.1 })
  ended_of asked r (Err (File name why)) end has brought = subst (HasEnded p asked r) (sym brought.0)
      (record { command = has.0; is_asked = has.1; unread = has.2; written = brought.1 })

  module _ (own : (cause : Cause) → IsOwn (p.says cause).status) where
    silent_of : (old new : SinkSeen) (end : End Cause) → SaysEnd p.start p.says end old new
        → end_status p.says end ≡ 0 → new ≡ old
    silent_of old new printed said is = said
    silent_of old new (stopped cause) said is = absurd ((own cause).not_0 is)
    silent_of old new refused said is = absurd (omega (arith, is))
    silent_of old new (unread name why) said is = absurd (omega (arith, is))
    silent_of old new cut said is = absurd (omega (arith, is))

    module _ (asked : Option Command) (r : Ran) where
      printed_of : (end : End Cause) → HasEnded p asked r end → end_status p.says end ≡ 0
          → (text : List ℕ) × Reaches p asked r.files.told (Ok text) × Appends r.out.written r.out_after.written text
      printed_of printed ended is = (ended.text, ended.reached, ended.added.added)
      printed_of (stopped cause) ended is = absurd ((own cause).not_0 is)
      printed_of refused ended is = absurd (omega (arith, is))
      printed_of (unread name why) ended is = absurd (omega (arith, is))
      printed_of cut ended is = absurd (omega (arith, is))

      refused_of : (end : End Cause) → HasEnded p asked r end → end_status p.says end ≡ 2 → asked ≡ None
      refused_of printed ended is = absurd (omega (arith, is))
      refused_of (stopped cause) ended is = absurd ((own cause).not_2 is)
      refused_of refused ended is = ended.0
      refused_of (unread name why) ended is = absurd (omega (arith, is))
      refused_of cut ended is = absurd (omega (arith, is))

      asked_of : (end : End Cause) → HasEnded p asked r end → asked ≡ None
          → (end_status p.says end ≡ 2) ⊎ (end_status p.says end ≡ 5)
      asked_of printed ended none = absurd (none-some _ (sym none ∙ ended.reached.is_asked))
      asked_of (stopped cause) ended none = by (cases_five (p.says cause).status)
        where
          by : ((p.says cause).status ≡ 5) ⊎ ((p.says cause).status ≢ 5)
              → ((p.says cause).status ≡ 2) ⊎ ((p.says cause).status ≡ 5)
          by (inl five) = inr five
          by (inr ne5) = absurd (none-some _ (sym none ∙ (ended.reached ne5).is_asked))
      asked_of refused ended none = inl refl
      asked_of (unread name why) ended none = absurd (none-some _ (sym none ∙ ended.is_asked))
      asked_of cut ended none = absurd (none-some _ (sym none ∙ ended.reached.is_asked))

      unread_of : (end : End Cause) → HasEnded p asked r end
          → (end_status p.says end ≡ 3) ↔ (r.files_after.failed ≢ r.files.failed)
      unread_of printed ended = (λ is. absurd (omega (arith, is)), λ more. absurd (more ended.failed))
      unread_of (stopped cause) ended = (λ is. absurd ((own cause).not_3 is), λ more. absurd (more ended.quiet.failed))
      unread_of refused ended = (λ is. absurd (omega (arith, is)), λ more. absurd (more ended.1.failed))
      unread_of (unread name why) ended =
          (λ is. λ same. one_more r.files.failed (name, why) (sym ended.unread.failed ∙ same), λ more. refl)
      unread_of cut ended = (λ is. absurd (omega (arith, is)), λ more. absurd (more ended.failed))

      all_read_of : (end : End Cause) → HasEnded p asked r end → end_status p.says end ≢ 3
          → r.files_after.failed ≡ r.files.failed
      all_read_of printed ended ne = ended.failed
      all_read_of (stopped cause) ended ne = ended.quiet.failed
      all_read_of refused ended ne = ended.1.failed
      all_read_of (unread name why) ended ne = absurd (ne refl)
      all_read_of cut ended ne = ended.failed

      nothing_out_of : (end : End Cause) → HasEnded p asked r end → end_status p.says end ≢ 0
          → end_status p.says end ≢ 4 → r.out_after ≡ r.out
      nothing_out_of printed ended n0 n4 = absurd (n0 refl)
      nothing_out_of (stopped cause) ended n0 n4 = ended.quiet.written
      nothing_out_of refused ended n0 n4 = ended.1.written
      nothing_out_of (unread name why) ended n0 n4 = ended.written
      nothing_out_of cut ended n0 n4 = absurd (n4 refl)

    -- ---- what a run tells

    pub is_run : (asked : Option Command) (r : Ran) (err err_after : SinkSeen) (status : ℕ)
        → HasRun p asked r err err_after status → r.files_after.told ≡ r.files.told
        → IsRun p asked r err err_after status
    is_run asked r err err_after status run told = record {
      right = run;
      printed = λ is. printed_of asked r run.end run.ended (sym run.is ∙ is);
      silent = λ is. silent_of err err_after run.end run.said (sym run.is ∙ is);
      nothing_out = λ n0 n4. nothing_out_of asked r run.end run.ended (λ is. n0 (run.is ∙ is)) (λ is. n4 (run.is ∙ is));
      refused = λ is. refused_of asked r run.end run.ended (sym run.is ∙ is);
      asked = λ none. subst (λ n. (n ≡ 2) ⊎ (n ≡ 5)) (sym run.is) (asked_of asked r run.end run.ended none);
      unread = subst (λ n. (n ≡ 3) ↔ (r.files_after.failed ≢ r.files.failed)) (sym run.is)
          (unread_of asked r run.end run.ended);
      all_read = λ ne. all_read_of asked r run.end run.ended (λ is. ne (run.is ∙ is));
      told = told;
    }

    -- a run that brings the outcome of its words to an end
    pub run_of : (asked : Option Command) (r : Ran) (err err_after : SinkSeen) (status : ℕ)
        (outcome : Result (Vec ℕ Global) (Trouble Cause)) → HasOutcome p asked r.files r.files_after outcome
        → HasFinished p.start p.says outcome r.out r.out_after err err_after status
        → r.files_after.told ≡ r.files.told → IsRun p asked r err err_after status
    run_of asked r err err_after status outcome has done told = is_run asked r err err_after status (record {
      end = done.end;
      is = done.is;
      ended = ended_of asked r outcome done.end has done.brought;
      said = done.said;
    }) told
