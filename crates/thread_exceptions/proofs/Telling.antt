-- A thread as it is told, by its parts.
use Rattle.std.proofs.Common.{◌≡◌, ℕ, ◌+◌, ◌≤◌, List, [], length, map, refl, sym, ap, ◌∙◌, arith}
use Rattle.std.specs.Prelude.{Ok, Err}
use Rattle.process_memory.specs.Memory.{Found, Memory, word_at}
use Rattle.process_memory.specs.Seen.{Reading, Seen}
use Rattle.process_memory.proofs.Reading.{reading_here}
use Rattle.thread_exceptions.specs.declared.links.Links.{Links}
use Rattle.thread_exceptions.specs.declared.places.Places.{Places}
use Rattle.thread_exceptions.specs.Discovery.{AreMet, Met}
use Rattle.thread_exceptions.specs.Exceptions.{what_at}
use Rattle.thread_exceptions.specs.Links.{Chain}
use Rattle.thread_exceptions.specs.Thread.{Handled, IsThread, Raised, Thread, handled_at, items_at, items_by}
use Rattle.thread_exceptions.specs.Thread.{raised_at, roots_of}
use Rattle.thread_exceptions.specs.Turns.{chain_of, turn_at}
use Rattle.thread_exceptions.proofs.ChainSizes.{chain_few}

items_few : (p : Places) (m : Memory) (thread : ℕ) → length (items_at p m thread).members ≤ 4096
unfolding items_at
items_few p m thread = by (word_at m (thread + p.newest))
  where
    by : (d : Found ℕ) → length (items_by p m d).members ≤ 4096
    by (Ok newest) = chain_few (turn_at p.previous m) [] 4096 newest
    by (Err f) = omega arith

pub items_limit : {n : ℕ} {s0 s1 : Seen} (p : Places) (thread : ℕ) (links : Links)
    → Reading n s0 s1 (λ m. chain_of links ≡ items_at p m thread) → length links.members.items ≤ 4096
items_limit p thread links r = rw (ap (λ (c : Chain). length c.members) (reading_here r)) (items_few p _ thread)

pub thread_told : (p : Places) (m : Memory) (thread : ℕ) (raised : Raised) (items : Chain) (handled : List Handled)
    (roots : List ℕ)
    (met : List Met) → raised ≡ raised_at p m thread → items ≡ items_at p m thread
    → handled ≡ map (λ a. handled_at p m thread a) items.members → roots ≡ roots_of raised handled
    → AreMet (what_at p m) 1024 roots met
    → IsThread p m thread (record { raised = raised; handled = handled; end = items.end; met = met })
thread_told p m thread raised items handled roots met r i h e a = record {
  raised = r;
  handled = h ∙ ap (λ (c : Chain). map (λ a. handled_at p m thread a) c.members) i;
  end = ap (λ (c : Chain). c.end) i;
  met = rw (← e) a;
}
