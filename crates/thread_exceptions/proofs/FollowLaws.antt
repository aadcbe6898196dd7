-- What was followed is the chain, and the one alone.
use Rattle.std.proofs.Common.{◌≡◌, ℕ, ◌∙◌, []}
use Rattle.std.specs.Prelude.{Ok, Err, Result, IfOk}
use Rattle.thread_exceptions.specs.declared.links.Links.{Links}
use Rattle.thread_exceptions.specs.declared.error.ExceptionsError.{ExceptionsError}
use Rattle.thread_exceptions.specs.Links.{Chain, IsLinks, Turn, chain_from}
use Rattle.thread_exceptions.specs.Turns.{chain_of}
use Rattle.thread_exceptions.proofs.ChainLaws.{awaits_found, awaits_unique}

pub is_right : (turn : ℕ → Turn) (limit head : ℕ) (r : Result Links ExceptionsError)
    → IfOk r (λ chain. chain_of chain ≡ chain_from turn [] limit head)
    → IfOk r (λ chain. IsLinks turn limit head (chain_of chain))
is_right turn limit head (Ok chain) h = rw h (awaits_found turn limit head)
is_right turn limit head (Err e) h = tt

pub is_only : (turn : ℕ → Turn) (limit head : ℕ) (r : Result Links ExceptionsError)
    → IfOk r (λ chain. chain_of chain ≡ chain_from turn [] limit head) → (other : Chain)
    → IsLinks turn limit head other → IfOk r (λ chain. chain_of chain ≡ other)
is_only turn limit head (Ok chain) h other is = h ∙ awaits_unique turn limit head other is
is_only turn limit head (Err e) h other is = tt
