-- What marks make of a step, part by part.
use Rattle.std.proofs.Common.{◌≡◌, ◌∙◌, ℕ, zero, suc, ◌+◌, ◌-◌, ◌%◌, ◌^◌, ◌≢◌, Bool, true, false, List, refl, sym, ap, arith, subst}
use Rattle.std.specs.Prelude.{Option, Some, None, Result, Ok, Err, IfOk}
use Rattle.process_memory.specs.Memory.{Memory}
use Rattle.frame_rows.specs.declared.row.Machine.{Machine}
use Rattle.frame_rows.specs.declared.row.Machine.TheVariants.{X86_64}
use Rattle.core_unwind.specs.declared.end.UnwindError.{UnwindError}
use Rattle.core_unwind.specs.declared.epilogue.Instruction.{Instruction}
use Rattle.core_unwind.specs.declared.epilogue.Instruction.TheVariants.{Leave}
use Rattle.core_unwind.specs.declared.epilogue.Standing.{Standing}
use Rattle.core_unwind.specs.declared.frame.Turn.{Turn}
use Rattle.core_unwind.specs.declared.mark.Going.{Going}
use Rattle.core_unwind.specs.declared.mark.Manner.{Manner}
use Rattle.core_unwind.specs.declared.place.Mapping.{Mapping}
use Rattle.core_unwind.specs.declared.state.State.{State}
use Rattle.core_unwind.specs.Bases.{IsBased, base_of, based_on}
use Rattle.core_unwind.specs.Epilogues.{behind, begun_at, epilogue, instruction_at, is_return, unwound}
use Rattle.core_unwind.specs.Expressions.{word_in}
use Rattle.core_unwind.specs.Guesses.{IsInCode}
use Rattle.core_unwind.specs.Marks.{IsGuessed, IsMarked, IsMarkedIf, IsStep, IsUncovered, IsUncoveredBy, coded}
use Rattle.core_unwind.specs.Marks.{stops_uncovered, turn_by}
use Rattle.core_unwind.specs.Registers.{register_in}
use Rattle.core_unwind.specs.Steps.{IsTableStep}
use Rattle.core_unwind.specs.Trampolines.{counter_place, has_trampoline, has_word, interrupted, place_of, saved}
use Rattle.core_unwind.specs.Trampolines.{signal_top, trampoline, trampoline_at}
use Rattle.core_unwind.specs.Values.{listed}

-- ---- the code to which a handler of a signal returns

pub no_code : (m : Memory) (machine : Machine) (pc : ℕ) → machine ≡ X86_64
    → has_word m pc 0x0f00_0000_0fc0_c748 ≡ false → false ≡ has_trampoline machine m pc
no_code m machine pc is e = rw (is, e) refl

pub begun_code : (m : Memory) (machine : Machine) (pc : ℕ) → machine ≡ X86_64
    → has_word m pc 0x0f00_0000_0fc0_c748 ≡ true
    → has_word m ((pc + 1) % 2 ^ 64) 0x050f_0000_000f_c0c7 ≡ has_trampoline machine m pc
begun_code m machine pc is e = rw (is, e) refl

pub saved_none : (machine : Machine) (m : Memory) (top register : ℕ) → place_of machine register ≡ None
    → None ≡ saved machine m top register
saved_none machine m top register e = rw e refl

pub interrupted_is : (machine : Machine) (m : Memory) (s : State) (top place : ℕ) (pc : Option ℕ)
    (registers : List (Option ℕ)) (going : Option Going) → place ≡ counter_place machine
    → pc ≡ word_in m ((top + place) % 2 ^ 64) → registers ≡ listed (saved machine m top) 0 32
    → going ≡ interrupted machine s pc registers → going ≡ trampoline_at machine m s top
interrupted_is machine m s top place pc registers going e p q i =
    i ∙ ap (λ (x : Option ℕ). interrupted machine s x registers)
    (p ∙ ap (λ (n : ℕ). word_in m ((top + n) % 2 ^ 64)) e)
    ∙ ap (λ (x : List (Option ℕ)). interrupted machine s (word_in m ((top + counter_place machine) % 2 ^ 64)) x) q

module _ (machine : Machine) (m : Memory) (s : State) where
  pub no_top : signal_top machine s ≡ None → None ≡ trampoline machine m s
  no_top e = rw e refl

  pub no_trampoline : (top : ℕ) → signal_top machine s ≡ Some top → has_trampoline machine m s.pc ≡ false
      → None ≡ trampoline machine m s
  no_trampoline top e f = rw (e, f) refl

  pub trampoline_is : (top : ℕ) → signal_top machine s ≡ Some top → has_trampoline machine m s.pc ≡ true
      → trampoline_at machine m s top ≡ trampoline machine m s
  trampoline_is top e f = rw (e, f) refl

-- ---- what stands before a return

pub left_none : (m : Memory) (s : Standing) (i : Instruction) → i ≡ Leave → register_in s.registers 6 ≡ None
    → None ≡ behind m s i
left_none m s i e f = rw (e, f) refl

module _ (m : Memory) (s : Standing) where
  unwound_at : (most : ℕ) (i : Instruction) → instruction_at m s.pc ≡ Some i → behind m s i ≡ None
      → None ≡ unwound (suc most) m s
  unfolding unwound
  unwound_at most i e f = rw (e, f) refl

  pub unwound_end : (most : ℕ) → most ≡ 0 → None ≡ unwound most m s
  unfolding unwound
  unwound_end zero e = refl
  unwound_end (suc most) e = absurd (omega (arith, e))

  pub unwound_none : (most : ℕ) → most ≢ 0 → instruction_at m s.pc ≡ None → None ≡ unwound most m s
  unfolding unwound
  unwound_none zero some e = absurd (some refl)
  unwound_none (suc most) some e = rw e refl

  pub unwound_stuck : (most : ℕ) (i : Instruction) → most ≢ 0 → instruction_at m s.pc ≡ Some i → behind m s i ≡ None
      → None ≡ unwound most m s
  unwound_stuck zero i some e f = absurd (some refl)
  unwound_stuck (suc most) i some e f = unwound_at most i e f

  pub unwound_returns : (most : ℕ) (i : Instruction) (after : Standing) → most ≢ 0 → instruction_at m s.pc ≡ Some i
      → behind m s i ≡ Some after → is_return i ≡ true → Some after ≡ unwound most m s
  unfolding unwound
  unwound_returns zero i after some e f g = absurd (some refl)
  unwound_returns (suc most) i after some e f g = rw (e, f, g) refl

  pub unwound_more : (most less : ℕ) (i : Instruction) (after : Standing) → most ≢ 0 → less ≡ most - 1
      → instruction_at m s.pc ≡ Some i → behind m s i ≡ Some after → is_return i ≡ false
      → unwound less m after ≡ unwound most m s
  unfolding unwound
  unwound_more zero less i after some is e f g = absurd (some refl)
  unwound_more (suc most) less i after some is e f g =
      let same : less ≡ most = omega (arith, is) in ap (λ (n : ℕ). unwound n m after) same ∙ rw (e, f, g) refl

module _ (machine : Machine) (m : Memory) (s : State) where
  pub not_begun : begun_at machine s ≡ None → None ≡ epilogue machine m s
  not_begun e = rw e refl

  pub coded_first : (going : Going) → Some going ≡ trampoline machine m s → Some going ≡ coded machine m s
  coded_first going e = rw (← e) refl

  pub coded_other : None ≡ trampoline machine m s → epilogue machine m s ≡ coded machine m s
  coded_other e = rw (← e) refl

-- ---- the frame pointer

module _ (mappings : List Mapping) (machine : Machine) (m : Memory) (s : State) where
  pub no_base : base_of machine s ≡ None → IsBased mappings machine m s None
  no_base e = rw e refl

  pub based_is : (base word : ℕ) (before : Option ℕ) (going : Going) → base_of machine s ≡ Some base
      → word_in m ((base + 8) % 2 ^ 64) ≡ Some word → IsInCode mappings word true → before ≡ word_in m base
      → going ≡ based_on s base word before → IsBased mappings machine m s (Some going)
  based_is base word before going e f code b g = rw (e, f) (record {
    is_code = true;
    in_code = code;
    is = ap (λ (x : Going). Some x) (g ∙ ap (based_on s base word) b);
  })

-- ---- a step

module _ (mappings : List Mapping) (manner : Manner) (m : Memory) (s : State) (tabled : Turn) where
  pub uncovered_is : (going : Going) (found : Option Going) (turn : Turn) → found ≡ Some going
      → found ≡ coded manner.machine m s → turn ≡ turn_by tabled (Some going)
      → IsUncovered mappings manner m s tabled turn
  uncovered_is going found turn p q t =
      subst (λ (g : Option Going). IsUncoveredBy mappings manner m s tabled g turn) (sym p ∙ q) t

  pub uncovered_other : (found : Option Going) (r : Result Turn UnwindError) → found ≡ None
      → found ≡ coded manner.machine m s → IfOk r (IsGuessed mappings manner m s tabled)
      → IfOk r (IsUncovered mappings manner m s tabled)
  uncovered_other found r p q h =
      subst (λ (g : Option Going). IfOk r (IsUncoveredBy mappings manner m s tabled g)) (sym p ∙ q) h

  pub marked_covered : stops_uncovered tabled.next ≡ false → IsMarked mappings manner m s tabled tabled
  marked_covered e = subst (λ (b : Bool). IsMarkedIf b mappings manner m s tabled tabled) (sym e) refl

  pub marked_uncovered : (r : Result Turn UnwindError) → stops_uncovered tabled.next ≡ true
      → IfOk r (IsUncovered mappings manner m s tabled) → IfOk r (IsMarked mappings manner m s tabled)
  marked_uncovered r e h =
      subst (λ (b : Bool). IfOk r (IsMarkedIf b mappings manner m s tabled)) (sym e) h

  pub step_is : (r : Result Turn UnwindError) → IsTableStep mappings manner.code_bits m s tabled
      → IfOk r (IsMarked mappings manner m s tabled) → IfOk r (IsStep mappings manner m s)
  step_is (Ok turn) t h = record { tabled = tabled; by_table = t; is = h }
  step_is (Err error) t h = tt
