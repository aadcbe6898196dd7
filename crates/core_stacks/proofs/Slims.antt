-- Over a slim core of a footprint the stacks are those of the whole memory.
use Rattle.std.proofs.Common.{◌≡◌, ◌≢◌, ◌≤◌, ℕ, List, arith, refl, sym, ap, subst, ◌∙◌, inl, inr, ⊎_elim}
use Rattle.std.specs.Prelude.{Result, Ok, Err}
use Rattle.process_memory.specs.Memory.{Memory, byte_at}
use Rattle.process_memory.specs.Seen.{IsPartWith}
use Rattle.process_memory.specs.declared.memory.Span.{Span}
use Rattle.py_fields.specs.declared.layout.Layout.{Layout}
use Rattle.py_stacks.specs.declared.config.Config.{Config}
use Rattle.py_stacks.specs.Threads.{Trace}
use Rattle.py_process.specs.Findings.{Finding}
use Rattle.py_process.specs.Reports.{StacksSay}
use Rattle.py_process.specs.declared.core_error.CoreError.{CoreError}
use Rattle.py_process.specs.declared.core_error.CoreError.TheVariants as core
use Rattle.py_process.proofs.Agreement.{err_is, kept_or, ok_kept}
use Rattle.py_process.proofs.StackCauses.{stacks_agree}
use Rattle.core_slim.specs.Slim.{Keeps}
use Rattle.core_slim.proofs.Parts.{part_held, whole_held}
use Rattle.core_slim.specs.declared.error.SlimError.{SlimError}
use Rattle.core_slim.specs.declared.error.SlimError.TheVariants as slim
use Rattle.core_stacks.specs.Footprints.{IsFootprint}
use Rattle.core_stacks.specs.Opened.{IsOpenedAt, Opened, opened_memory}
use Rattle.core_stacks.specs.Slimmed.{HasStacksOrNone, IsSlimOf, IsSoleLayout, SlimmedSays, TellsCause, refusal_of_core}
use Rattle.core_stacks.specs.Slimmed.{refusal_of_slim}
use Rattle.core_stacks.specs.Sole.{IsSole}
use Rattle.core_stacks.specs.declared.slimmed_error.SlimmedError.{SlimmedError}
use Rattle.core_stacks.specs.declared.slimmed_error.SlimmedError.TheVariants.{Core, TooManyPieces}

-- a right answer over a part that holds all of a footprint
answered : (m part : Memory) (f : Finding) (config : Config) (traces : List Trace) (ranges : List Span)
    → IsFootprint m f config traces ranges
    → IsPartWith m ranges part → (answer : Result (List Trace) CoreError) → StacksSay part f config answer
    → HasStacksOrNone m f config answer
answered m part f config traces ranges is within answer says =
    ⊎_elim
    (λ memory. subst (HasStacksOrNone m f config) (sym memory) tt)
    (λ kept.
    let same = stacks_agree part f config (Ok traces) answer (is.enough part within) says (ok_kept traces) kept in
    subst (HasStacksOrNone m f config) same (is.enough m (whole_held m ranges is.held)))
    (kept_or answer)

same_finding : (o again : Opened) (bytes : List ℕ) (layouts : List Layout) → IsSoleLayout layouts o.finding
    → IsOpenedAt bytes layouts o.finding.version o.finding.addresses again → again.finding ≡ o.finding
same_finding o again bytes layouts sole is =
    let layout : again.finding.layout ≡ o.finding.layout = sole again.finding.layout is.chosen in
    λ i. record { version = is.version_is i; layout = layout i; addresses = is.addresses_are i }

pub keeps_stacks : (o : Opened) (config : Config) (traces : List Trace) (ranges : List Span) (bytes : List ℕ)
    → IsFootprint (opened_memory o) o.finding config traces ranges → Keeps o.core (opened_memory o) ranges bytes
    → IsSlimOf o config bytes
keeps_stacks o config traces ranges bytes footprint keeps = record {
  ranges = ranges;
  keeps = keeps;
  stacks = λ layouts again sole is answer says.
      let same = same_finding o again bytes layouts sole is in
      let part = part_held (opened_memory o) (byte_at again.pieces) ranges
      (λ a. ap (λ ps. byte_at ps a) is.pieces_are ∙ keeps.memory a) footprint.held in
      answered (opened_memory o) (opened_memory again) o.finding config traces ranges footprint part answer
      (subst (λ f. StacksSay (opened_memory again) f config answer) same says);
}

-- ---- why there is none

refused_as : (e : CoreError) → e ≢ core.OutOfMemory → refusal_of_core e ≡ Core e
refused_as core.OutOfMemory kept = absurd (kept refl)
refused_as e kept = refl

pub refused : (o : Opened) (config : Config) (e : CoreError) (refusal : SlimmedError)
    → StacksSay (opened_memory o) o.finding config (Err e)
    → refusal ≡ refusal_of_core e → SlimmedSays o config (Err refusal)
refused o config core.OutOfMemory refusal says is = subst (λ r. SlimmedSays o config (Err r)) (sym is) tt
refused o config e refusal says is =
    subst (λ (r : SlimmedError). SlimmedSays o config (Err r)) (sym is) ((λ same. absurd (cc)), says)

pub cause_told : (o : Opened) (config : Config) (e : CoreError) (refusal : SlimmedError)
    → IsSole (StacksSay (opened_memory o) o.finding config) (Err e)
    → refusal ≡ refusal_of_core e → TellsCause o config (Err refusal)
cause_told o config e refusal sole is error kept says =
    ⊎_elim
    (λ same. let e_is : e ≡ error = cc in inl (ap (λ r. Err r) (is ∙ ap refusal_of_core e_is ∙ refused_as error kept)))
    (λ memory. let e_is : e ≡ core.OutOfMemory = cc in inr (ap (λ r. Err r) (is ∙ ap refusal_of_core e_is)))
    (sole (Err error) says (λ lost. kept (err_is error core.OutOfMemory lost)))

-- ---- how many pieces there are

-- a cause of stacks is no count of pieces
pub no_pieces : (e : CoreError) (refusal : SlimmedError) (count bound : ℕ) → refusal ≡ refusal_of_core e
    → ◌≡◌ {A = Result (List ℕ) SlimmedError} (Err refusal) (Err (TooManyPieces count)) → count ≤ bound
no_pieces core.OutOfMemory refusal count bound is same = absurd (cc)
no_pieces e refusal count bound is same = absurd (cc)

-- and that of a slim core is no greater than that of its ranges
pub few_pieces : (e : SlimError) (refusal : SlimmedError) (n bound : ℕ)
    → ((count : ℕ) → ◌≡◌ {A = Result (List ℕ) SlimError} (Err e) (Err (slim.TooManyPieces count)) → count ≤ n) → n ≤ bound
    → refusal ≡ refusal_of_slim e → (count : ℕ)
    → ◌≡◌ {A = Result (List ℕ) SlimmedError} (Err refusal) (Err (TooManyPieces count)) → count ≤ bound
few_pieces (slim.TooManyPieces m) refusal n bound few le is count same =
    let counted : m ≡ count = cc in
    omega (arith, few m refl, le, counted)
few_pieces slim.OutOfMemory refusal n bound few le is count same = absurd (cc)
