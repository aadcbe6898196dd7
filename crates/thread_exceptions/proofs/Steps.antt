-- What stands at an address, by what was read there; and a range that was not.
use Rattle.std.proofs.Common.{◌≡◌, ◌≢◌, ℕ, ◌+◌, nat_eq, true, false, refl, sym, ap, ◌∙◌, arith}
use Rattle.std.specs.Prelude.{Ok, Err, Result, IfOk, Option, Some, None}
use Rattle.std.proofs.lemmas.Bool.Decides.{nat_tests}
use Rattle.process_memory.specs.Memory.{Fault, Found, Memory, word_at}
use Rattle.process_memory.specs.Memory.Fault.{Missing}
use Rattle.process_memory.specs.declared.memory.ReadFault.{ReadFault}
use Rattle.process_memory.specs.declared.memory.ReadFault.TheVariants as fault
use Rattle.process_memory.specs.Seen.{Answers, read_fault}
use Rattle.thread_exceptions.specs.declared.error.ExceptionsError.{ExceptionsError}
use Rattle.thread_exceptions.specs.declared.links.Lost.{Lost}
use Rattle.thread_exceptions.specs.Links as known
use Rattle.thread_exceptions.specs.Turns.{IsLost, missing, turn_at}

-- the fault of a range that is not in memory
abbrev pub fault_of : Lost → Fault
fault_of l = Missing l.addr l.len

-- a definition whose range was not read has that fault
pub is_lost : {T : Type 0} (d : Found T) (e : ReadFault) (l : Lost) → Answers {T = T} read_fault d (Err e)
    → IsLost e (Ok l) → d ≡ Err (fault_of l)
is_lost d (fault.Unreadable addr len) l p h = let same : l ≡ record { addr = addr; len = len } = cc in rw same p.is
is_lost d fault.OutOfMemory l p h = let no = h.1 in absurd (cc)

pub turn_null : (o : ℕ) (m : Memory) (a : ℕ) → a ≡ 0 → known.Turn.Before known.Stop.Null ≡ turn_at o m a
unfolding turn_at
turn_null o m a z = rw z refl

pub turn_read : (o : ℕ) (m : Memory) (a n : ℕ) → a ≢ 0 → Answers {E = ReadFault} read_fault (word_at m (a + o)) (Ok n)
    → known.Turn.To n ≡ turn_at o m a
unfolding turn_at
turn_read o m a n some p =
    let is : nat_eq a 0 ≡ false = grind (arith, nat_tests) in
    rw (is, p.is) refl

pub turn_lost : (o : ℕ) (m : Memory) (a : ℕ) (e : ReadFault) (r : Result Lost ExceptionsError) → a ≢ 0
    → Answers {T = ℕ} read_fault (word_at m (a + o)) (Err e) → IsLost e r
    → IfOk r (λ l. known.Turn.Last (missing l) ≡ turn_at o m a)
unfolding turn_at
turn_lost o m a e (Ok l) some p h =
    let is : nat_eq a 0 ≡ false = grind (arith, nat_tests) in
    rw (is, is_lost (word_at m (a + o)) e l p h) refl
turn_lost o m a e (Err error) some p h = tt
