-- An expression, operation by operation.
use Rattle.std.proofs.Common.{◌≡◌, ◌∙◌, ℕ, zero, suc, ◌+◌, ◌-◌, ◌<◌, ◌≤◌, ◌≢◌, List, [], ◌∷◌, length, drop, refl, sym}
use Rattle.std.proofs.Common.{ap}
use Rattle.std.proofs.Common.{arith, length-append}
use Rattle.std.specs.Prelude.{Option, Some, None, Result, Ok, Err}
use Rattle.process_memory.specs.Memory.{Memory}
use Rattle.process_memory.specs.Seen.{Reading, Seen}
use Rattle.process_memory.proofs.Reading.{reading_gives, reading_none, reading_then}
use Rattle.frame_rows.specs.declared.number.Flaw.{Flaw}
use Rattle.frame_expressions.specs.declared.operation.Read.{Read}
use Rattle.frame_expressions.specs.Meanings.{meaning_of}
use Rattle.frame_expressions.specs.Operations.{IsFirst, operation_in}
use Rattle.core_unwind.specs.Expressions.{begun, evaluated, followed, loaded, read_then, stack_then, top}
use Rattle.core_unwind.specs.Registers.{register_in}

-- what an expression comes to is what is left of it comes to over the stack
pub record Evaluating (registers : List (Option ℕ)) (first : Option ℕ) (bytes : List ℕ) (old new : Seen) (done : ℕ)
    (rest stack : List ℕ) : Type 0 where
  pub reading : Reading done old new (λ m. evaluated registers m first bytes
      ≡ followed (256 - done) registers m rest stack)

pub first_within : (bytes : List ℕ) (r : Read) → IsFirst bytes r → r.size ≤ length bytes
first_within bytes r f = omega (arith, f.long, ap length f.parts, length-append f.text f.behind)

module _ (registers : List (Option ℕ)) (m : Memory) where
  followed_end : (most : ℕ) (rest stack : List ℕ) → length rest ≡ 0 → followed most registers m rest stack ≡ top stack
  unfolding followed
  followed_end zero [] stack none = refl
  followed_end (suc most) [] stack none = refl
  followed_end most (b ∷ rest) stack none = absurd (omega (arith, none))

  followed_none : (rest stack : List ℕ) → length rest ≢ 0 → followed 0 registers m rest stack ≡ None
  unfolding followed
  followed_none [] stack some = absurd (some refl)
  followed_none (b ∷ rest) stack some = refl

  followed_bad : (most : ℕ) (rest stack : List ℕ) (flaw : Flaw) → length rest ≢ 0 → operation_in rest ≡ Err flaw
      → followed (suc most) registers m rest stack ≡ None
  unfolding followed
  followed_bad most [] stack flaw some is = absurd (some refl)
  followed_bad most (b ∷ rest) stack flaw some is = ap (λ (r : Result Read Flaw). read_then registers m stack r (λ size
      after. followed most registers m (drop size (b ∷ rest)) after)) is

  followed_read : (most : ℕ) (rest stack : List ℕ) (read : Read) → length rest ≢ 0 → operation_in rest ≡ Ok read
      → followed (suc most) registers m rest stack
      ≡ stack_then (meaning_of (register_in registers) (loaded m) read.operation stack)
      (followed most registers m (drop read.size rest))
  unfolding followed
  followed_read most [] stack read some is = absurd (some refl)
  followed_read most (b ∷ rest) stack read some is = ap (λ (r : Result Read Flaw). read_then registers m stack r (λ size
      after. followed most registers m (drop size (b ∷ rest)) after)) is

pub evaluating_init : (registers : List (Option ℕ)) (first : Option ℕ) (bytes : List ℕ) (seen : Seen) (stack : List ℕ)
    → stack ≡ begun first → Evaluating registers first bytes seen seen 0 bytes stack
evaluating_init registers first bytes seen stack is = record {
  reading = reading_none _ seen _ (λ m. ap (λ (s : List ℕ). followed 256 registers m bytes s) (sym is));
}

module _ {registers : List (Option ℕ)} {first : Option ℕ} {bytes : List ℕ} {s0 s1 : Seen} {done : ℕ}
    {rest stack : List ℕ} where
  pub evaluating_end : (value : Option ℕ) → Evaluating registers first bytes s0 s1 done rest stack → done ≤ 256
      → length rest ≡ 0 → value ≡ top stack → Reading 256 s0 s1 (λ m. value ≡ evaluated registers m first bytes)
  evaluating_end value e within none is = reading_gives 256 _ e.reading within
      (λ m p. is ∙ sym (p ∙ followed_end registers m (256 - done) rest stack none))

  pub evaluating_out : Evaluating registers first bytes s0 s1 done rest stack → done ≡ 256 → length rest ≢ 0
      → Reading 256 s0 s1 (λ m. None ≡ evaluated registers m first bytes)
  evaluating_out e all some =
      let none : 256 - done ≡ 0 = omega (arith, all) in
      reading_gives 256 _ e.reading (omega (arith, all))
      (λ m p. sym (p ∙ ap (λ (n : ℕ). followed n registers m rest stack) none ∙ followed_none registers m rest
      stack some))

  pub evaluating_bad : (flaw : Flaw) → Evaluating registers first bytes s0 s1 done rest stack → done < 256
      → length rest ≢ 0 → Err flaw ≡ operation_in rest → Reading 256 s0 s1 (λ m. None ≡ evaluated registers m first
      bytes)
  evaluating_bad flaw e below some is =
      let more : 256 - done ≡ suc (255 - done) = omega (arith, below) in
      reading_gives 256 _ e.reading (omega (arith, below))
      (λ m p. sym (p ∙ ap (λ (n : ℕ). followed n registers m rest stack) more
      ∙ followed_bad registers m (255 - done) rest stack flaw some (sym is)))

  pub evaluating_stuck : {s2 : Seen} (read : Read) → Evaluating registers first bytes s0 s1 done rest stack → done < 256
      → length rest ≢ 0 → Ok read ≡ operation_in rest
      → Reading 1 s1 s2 (λ m. None ≡ meaning_of (register_in registers) (loaded m) read.operation stack)
      → Reading 256 s0 s2 (λ m. None ≡ evaluated registers m first bytes)
  evaluating_stuck read e below some is r =
      let more : 256 - done ≡ suc (255 - done) = omega (arith, below) in
      reading_gives 256 _ (reading_then (λ m. None ≡ evaluated registers m first bytes) e.reading r
      (λ m p q. sym (p ∙ ap (λ (n : ℕ). followed n registers m rest stack) more
      ∙ followed_read registers m (255 - done) rest stack read some (sym is)
      ∙ ap (λ (o : Option (List ℕ)). stack_then o (followed (255 - done) registers m (drop read.size rest))) (sym q))))
      (omega (arith, below)) (λ m h. h)

  pub evaluating_more : {s2 : Seen} (read : Read) (after left : List ℕ)
      → Evaluating registers first bytes s0 s1 done rest stack → done < 256
      → length rest ≢ 0 → Ok read ≡ operation_in rest
      → Reading 1 s1 s2 (λ m. Some after ≡ meaning_of (register_in registers) (loaded m) read.operation stack)
      → left ≡ drop read.size rest → Evaluating registers first bytes s0 s2 (done + 1) left after
  evaluating_more read after left e below some is r behind =
      let more : 256 - done ≡ suc (255 - done) = omega (arith, below) in
      let fewer : 255 - done ≡ 256 - (done + 1) = omega arith in
      record {
        reading = reading_then (λ m. evaluated registers m first bytes ≡ followed (256 - (done + 1)) registers m
            left after)
            e.reading r
            (λ m p q. p ∙ ap (λ (n : ℕ). followed n registers m rest stack) more
            ∙ followed_read registers m (255 - done) rest stack read some (sym is)
            ∙ ap (λ (o : Option (List ℕ)). stack_then o (followed (255 - done) registers m (drop read.size rest)))
            (sym q)
            ∙ ap (λ (n : ℕ). followed n registers m (drop read.size rest) after) fewer
            ∙ ap (λ (l : List ℕ). followed (256 - (done + 1)) registers m l after) (sym behind));
      }

  -- memory was wanting
  pub evaluating_lost : {s2 : Seen} {P : Memory → Type 0} (Q : Memory → Type 0)
      → Evaluating registers first bytes s0 s1 done rest stack → done < 256 → Reading 1 s1 s2 P → ((m : Memory) → Q m)
      → Reading 256 s0 s2 Q
  evaluating_lost Q e below r q = reading_gives 256 _ (reading_then Q e.reading r (λ m a b. q m)) (omega (arith, below))
      (λ m h. h)
