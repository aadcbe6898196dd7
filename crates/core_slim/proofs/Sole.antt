-- Which answers are right.
use Rattle.std.proofs.Common.{◌≡◌, ℕ, List, length, refl, sym, ap, ◌∙◌, arith, inl, inr}
use Rattle.std.specs.Prelude.{Result, Ok, Err}
use Rattle.process_memory.specs.declared.memory.Span.{Span}
use Rattle.process_memory.specs.Memory.{Memory}
use Rattle.core_slim.specs.Joined.{AreJoined}
use Rattle.core_slim.specs.Slim.{IsSlimmed, IsSoleSlim, slim_core}
use Rattle.core_slim.specs.declared.error.SlimError.{SlimError}
use Rattle.core_slim.specs.declared.error.SlimError.TheVariants.{TooManyPieces, OutOfMemory}
use Rattle.core_slim.proofs.Joining.{joined_once}

counts : (ranges ps qs : List Span) → AreJoined ranges ps → AreJoined ranges qs → length ps ≡ length qs
counts ranges ps qs one two = ap length (joined_once ranges ps qs one two)

-- a right answer is the one right answer, out of memory aside
pub slim_only : (core : List ℕ) (m : Memory) (ranges : List Span) (result : Result (List ℕ) SlimError)
    → IsSlimmed core m ranges result → IsSoleSlim core m ranges result
slim_only core m ranges (Err OutOfMemory) is answer right kept = inr refl
slim_only core m ranges (Ok bytes) is (Ok others) right kept =
    inl (ap Ok (is.3 ∙ ap (slim_core core m) (joined_once ranges is.0 right.0 is.1 right.1) ∙ sym right.3))
slim_only core m ranges (Ok bytes) is (Err (TooManyPieces count)) right kept =
    absurd (omega (arith, counts ranges is.0 right.0 is.1 right.1, is.2, right.2))
slim_only core m ranges (Ok bytes) is (Err OutOfMemory) right kept = absurd (kept refl)
slim_only core m ranges (Err (TooManyPieces count)) is (Ok others) right kept =
    absurd (omega (arith, counts ranges is.0 right.0 is.1 right.1, is.2, right.2))
slim_only core m ranges (Err (TooManyPieces count)) is (Err (TooManyPieces other)) right kept =
    let same : count ≡ other = is.3 ∙ counts ranges is.0 right.0 is.1 right.1 ∙ sym right.3 in
    inl (ap (λ n. Err (TooManyPieces n)) same)
slim_only core m ranges (Err (TooManyPieces count)) is (Err OutOfMemory) right kept = absurd (kept refl)
