-- What follows a frame is what the rules there say.
use Rattle.std.proofs.Common.{◌≡◌, ◌∙◌, ℕ, List, true, false, refl, ap}
use Rattle.std.specs.Prelude.{Option, Some, None}
use Rattle.process_memory.specs.Memory.{Memory}
use Rattle.core_unwind.specs.declared.end.End.TheVariants.{Whole, Refused, NotAbove}
use Rattle.core_unwind.specs.declared.end.Refusal.TheVariants.{Cfa}
use Rattle.core_unwind.specs.declared.frame.Frame.{Frame}
use Rattle.core_unwind.specs.declared.frame.Next.{Next}
use Rattle.core_unwind.specs.declared.frame.Next.TheVariants.{Stops}
use Rattle.core_unwind.specs.declared.place.CodePlace.{CodePlace}
use Rattle.core_unwind.specs.declared.state.State.{State}
use Rattle.core_unwind.specs.declared.value.Rules.{Rules}
use Rattle.core_unwind.specs.Turns.{frame_of, is_above, is_first, next_in, next_of, turn_of}
use Rattle.core_unwind.specs.Values.{cfa_of, listed, value_of}

module _ (code_bits : ℕ) (s : State) (rules : Rules) (m : Memory) where
  pub next_first : (cfa : Option ℕ) → is_first rules ≡ true → Stops Whole ≡ next_in code_bits s rules m cfa
  next_first cfa e = rw e refl

  pub next_unknown : is_first rules ≡ false → Stops (Refused Cfa) ≡ next_in code_bits s rules m None
  next_unknown e = rw e refl

  pub next_below : (cfa : ℕ) → is_first rules ≡ false → is_above s rules cfa ≡ false
      → Stops NotAbove ≡ next_in code_bits s rules m (Some cfa)
  next_below cfa e f = rw (e, f) refl

  pub next_found : (cfa : ℕ) (registers : List (Option ℕ)) (next : Next) → is_first rules ≡ false
      → is_above s rules cfa ≡ true
      → registers ≡ listed (value_of rules s.registers m cfa) 0 32 → next ≡ next_of code_bits s rules cfa registers
      → next ≡ next_in code_bits s rules m (Some cfa)
  next_found cfa registers next e f is n = rw (e, f) (n ∙ ap (next_of code_bits s rules cfa) is)

  pub turn_found : (place : CodePlace) (cfa : Option ℕ) (frame : Frame) (next : Next) → cfa ≡ cfa_of rules s.registers m
      → frame ≡ frame_of s place rules cfa → next ≡ next_in code_bits s rules m cfa
      → record { frame = frame; next = next } ≡ turn_of code_bits s place rules m
  turn_found place cfa frame next e f n =
      ap (λ (x : Frame). record { frame = x; next = next }) (f ∙ ap (frame_of s place rules) e)
      ∙ ap (λ (x : Next). record { frame = frame_of s place rules (cfa_of rules s.registers m); next = x })
      (n ∙ ap (next_in code_bits s rules m) e)
