-- Records that are read into the first bytes of a buffer.
use Rattle.std.proofs.Common.{ℕ, ◌<◌, ◌≤◌, ◌^◌, List, length, take, sym, subst}
use Rattle.std.proofs.lemmas.List.{length-take-le}
use Rattle.std.specs.Prelude.{Option, Result}
use Rattle.process_memory.specs.Memory.{Fault, record_at}
use Rattle.process_memory.specs.Seen.{Seen, ReadsRange}

pub front_short : (n : ℕ) (buffer : List ℕ) → n ≤ length buffer → n < 2 ^ 16 → length (take n buffer) < 2 ^ 16
front_short n buffer le short = let P : ℕ → Type 0 = λ k. k < 2 ^ 16 in subst P (sym (length-take-le n buffer le)) short

pub front_read : {E : Type 0} {fault : E → Option Fault} {s0 s1 : Seen} {r : Result (List ℕ) E} (a n : ℕ) (buffer : List ℕ)
    → ReadsRange fault a (length (take n buffer)) s0 s1 (λ m. record_at m a (length (take n buffer))) r → n ≤ length buffer → ReadsRange fault a n s0 s1 (λ m. record_at m a n) r
front_read {fault = fault} {s0} {s1} {r} a n buffer p le = subst (λ k. ReadsRange fault a k s0 s1 (λ m. record_at m a k) r) (length-take-le n buffer le) p
