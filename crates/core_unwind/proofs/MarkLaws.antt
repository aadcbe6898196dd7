-- A step is one alone, where tables ascend; and a stack without marks is by tables alone.
use Rattle.std.proofs.Common.{◌≡◌, ◌∙◌, ℕ, Bool, true, false, List, [], ◌∷◌, ◌++◌, sym, ap, subst}
use Rattle.std.specs.Prelude.{Option, Some, None, Result, Ok, Err, IfOk}
use Rattle.process_memory.specs.Memory.{Memory}
use Rattle.frame_rows.specs.declared.row.Machine.{Machine}
use Rattle.core_unwind.specs.declared.end.UnwindError.{UnwindError}
use Rattle.core_unwind.specs.declared.frame.Frame.{Frame}
use Rattle.core_unwind.specs.declared.frame.Next.TheVariants.{Caller}
use Rattle.core_unwind.specs.declared.frame.Turn.{Turn}
use Rattle.core_unwind.specs.declared.mark.Going.{Going}
use Rattle.core_unwind.specs.declared.mark.Manner.{Manner}
use Rattle.core_unwind.specs.declared.mark.Mark.{Mark}
use Rattle.core_unwind.specs.declared.place.Mapping.{Mapping}
use Rattle.core_unwind.specs.declared.state.State.{State}
use Rattle.core_unwind.specs.declared.walk.NativeStack.{NativeStack}
use Rattle.core_unwind.specs.Bases.{IsBased, IsBasedAt, IsBasedBy, IsBasedOn, based_on, base_of, going_if}
use Rattle.core_unwind.specs.Expressions.{word_in}
use Rattle.core_unwind.specs.Guesses.{IsInCode, is_site}
use Rattle.core_unwind.specs.Marks.{AreUnmarked, IsGuessedIf, IsMarked, IsMarkedIf, IsStep, IsUncoveredBy, coded}
use Rattle.core_unwind.specs.Marks.{stops_uncovered, turn_by}
use Rattle.core_unwind.specs.Stacks.{AllAscend, Chain, IsStack, Leads, chain_of}
use Rattle.core_unwind.specs.Steps.{IsTableStep}
use Rattle.core_unwind.proofs.FileLaws.{spot_once}
use Rattle.core_unwind.proofs.StepLaws.{table_once}

-- ---- one guess alone

module _ (mappings : List Mapping) (m : Memory) (s : State) where
  code_once : (word : ℕ) (x y : Bool) → IsInCode mappings word x → IsInCode mappings word y → x ≡ y
  code_once word x y p q =
      p.is ∙ ap is_site (spot_once mappings _ p.answer q.answer p.spot q.spot) ∙ sym q.is

  on_once : (base word : ℕ) (x y : Option Going) → IsBasedOn mappings m s base word x
      → IsBasedOn mappings m s base word y → x ≡ y
  on_once base word x y p q =
      p.is ∙ ap (λ (b : Bool). going_if b (based_on s base word (word_in m base)))
      (code_once word p.is_code q.is_code p.in_code q.in_code) ∙ sym q.is

  by_once : (base : ℕ) (word : Option ℕ) (x y : Option Going) → IsBasedBy mappings m s base word x
      → IsBasedBy mappings m s base word y → x ≡ y
  by_once base None x y p q = p ∙ sym q
  by_once base (Some word) x y p q = on_once base word x y p q

  at_once : (base : Option ℕ) (x y : Option Going) → IsBasedAt mappings m s base x → IsBasedAt mappings m s base y
      → x ≡ y
  at_once None x y p q = p ∙ sym q
  at_once (Some base) x y p q = by_once base _ x y p q

  pub based_once : (machine : Machine) (x y : Option Going) → IsBased mappings machine m s x
      → IsBased mappings machine m s y → x ≡ y
  based_once machine x y p q = at_once (base_of machine s) x y p q

  -- ---- one step alone

  guessed_once : (guesses : Bool) (machine : Machine) (tabled x y : Turn)
      → IsGuessedIf guesses mappings machine m s tabled x → IsGuessedIf guesses mappings machine m s tabled y → x ≡ y
  guessed_once false machine tabled x y p q = p ∙ sym q
  guessed_once true machine tabled x y p q =
      p.2 ∙ ap (turn_by tabled) (based_once machine p.0 q.0 p.1 q.1) ∙ sym q.2

  uncovered_once : (manner : Manner) (tabled : Turn) (going : Option Going) (x y : Turn)
      → IsUncoveredBy mappings manner m s tabled going x → IsUncoveredBy mappings manner m s tabled going y → x ≡ y
  uncovered_once manner tabled (Some going) x y p q = p ∙ sym q
  uncovered_once manner tabled None x y p q = guessed_once manner.guesses manner.machine tabled x y p q

  marked_once : (manner : Manner) (uncovered : Bool) (tabled x y : Turn)
      → IsMarkedIf uncovered mappings manner m s tabled x → IsMarkedIf uncovered mappings manner m s tabled y → x ≡ y
  marked_once manner false tabled x y p q = p ∙ sym q
  marked_once manner true tabled x y p q = uncovered_once manner tabled (coded manner.machine m s) x y p q

pub step_once : (mappings : List Mapping) (manner : Manner) (m : Memory) (s : State) (x y : Turn) → AllAscend mappings
    → IsStep mappings manner m s x → IsStep mappings manner m s y → x ≡ y
step_once mappings manner m s x y ascends p q =
    let same : q.tabled ≡ p.tabled =
    table_once manner.code_bits m s mappings q.tabled p.tabled ascends q.by_table p.by_table in
    marked_once mappings m s manner (stops_uncovered p.tabled.next) p.tabled x y p.is
    (subst (λ (t : Turn). IsMarked mappings manner m s t y) same q.is)

-- ---- no mark

none_or_some : (mark : Mark) → ◌≡◌ {A = Option Mark} (Some mark) None → ⊥
none_or_some mark is = cc

by_plain : (tabled turn : Turn) (going : Option Going) → turn ≡ turn_by tabled going → turn.frame.mark ≡ None
    → turn ≡ tabled
by_plain tabled turn None is plain = is
by_plain tabled turn (Some going) is plain =
    absurd (none_or_some going.mark (sym (ap (λ (t : Turn). t.frame.mark) is) ∙ plain))

module _ (mappings : List Mapping) (manner : Manner) (m : Memory) (s : State) (tabled turn : Turn) where
  guessed_plain : (guesses : Bool) → IsGuessedIf guesses mappings manner.machine m s tabled turn
      → turn.frame.mark ≡ None → turn ≡ tabled
  guessed_plain false is plain = is
  guessed_plain true is plain = by_plain tabled turn is.0 is.2 plain

  uncovered_plain : (going : Option Going) → IsUncoveredBy mappings manner m s tabled going turn
      → turn.frame.mark ≡ None → turn ≡ tabled
  uncovered_plain (Some going) is plain = by_plain tabled turn (Some going) is plain
  uncovered_plain None is plain = guessed_plain manner.guesses is plain

  marked_plain : (uncovered : Bool) → IsMarkedIf uncovered mappings manner m s tabled turn → turn.frame.mark ≡ None
      → turn ≡ tabled
  marked_plain false is plain = is
  marked_plain true is plain = uncovered_plain (coded manner.machine m s) is plain

module _ (mappings : List Mapping) (manner : Manner) (m : Memory) where
  step_plain : (s : State) (turn : Turn) → IsStep mappings manner m s turn → turn.frame.mark ≡ None
      → IsTableStep mappings manner.code_bits m s turn
  step_plain s turn p plain =
      subst (λ (t : Turn). IsTableStep mappings manner.code_bits m s t)
      (sym (marked_plain mappings manner m s p.tabled turn (stops_uncovered p.tabled.next) p.is plain)) p.by_table

  leads_plain : (s : State) (fs : List Frame) (last : Frame) (at : State) → Leads (IsStep mappings manner m) s fs at
      → AreUnmarked (fs ++ last ∷ []) → Leads (IsTableStep mappings manner.code_bits m) s fs at
  unfolding Leads AreUnmarked
  leads_plain s [] last at leads plain = leads
  leads_plain s (f ∷ fs) last at leads plain = (
    leads.0,
    step_plain s (record { frame = f; next = Caller leads.0 }) leads.1 plain.0,
    leads_plain leads.0 fs last at leads.2 plain.1,
  )

  last_plain : (fs : List Frame) (last : Frame) → AreUnmarked (fs ++ last ∷ []) → last.mark ≡ None
  unfolding AreUnmarked
  last_plain [] last plain = plain.0
  last_plain (f ∷ fs) last plain = last_plain fs last plain.1

  stack_plain : (limit : ℕ) (first : State) (c : Chain) → IsStack (IsStep mappings manner m) limit first c
      → AreUnmarked c.frames → IsStack (IsTableStep mappings manner.code_bits m) limit first c
  stack_plain limit first c p plain =
      let all : AreUnmarked (p.callees ++ p.last ∷ []) = subst AreUnmarked p.frames plain in
      record {
        callees = p.callees;
        leads = leads_plain first p.callees p.last c.last p.leads all;
        last = p.last;
        next = p.next;
        turns = step_plain c.last (record { frame = p.last; next = p.next }) p.turns (last_plain p.callees p.last all);
        frames = p.frames;
        within = p.within;
        ends = p.ends;
      }

  pub tables_alone : (limit : ℕ) (first : State) (r : Result NativeStack UnwindError)
      → IfOk r (λ stack. IsStack (IsStep mappings manner m) limit first (chain_of stack))
      → IfOk r (λ stack. AreUnmarked stack.frames.items
      → IsStack (IsTableStep mappings manner.code_bits m) limit first (chain_of stack))
  tables_alone limit first (Ok stack) h = λ plain. stack_plain limit first (chain_of stack) h plain
  tables_alone limit first (Err e) h = tt
