-- What stands at an address, by what was read there.
use Rattle.std.proofs.Common.{◌≡◌, ℕ, ◌+◌, refl, sym, ap, ◌∙◌}
use Rattle.std.specs.Prelude.{Ok, Err, Result, IfOk, Option, Some, None}
use Rattle.process_memory.specs.Memory.{Found, Memory, word_at}
use Rattle.process_memory.specs.declared.memory.ReadFault.{ReadFault}
use Rattle.process_memory.specs.declared.memory.ReadFault.TheVariants as fault
use Rattle.process_memory.specs.Seen.{Answers, read_fault}
use Rattle.py_coroutines.specs.declared.error.AwaitError.{AwaitError}
use Rattle.py_coroutines.specs.declared.kinds.Kind.{Kind}
use Rattle.py_coroutines.specs.declared.places.Places.{Places}
use Rattle.py_coroutines.specs.declared.turn.Stop.{Stop}
use Rattle.py_coroutines.specs.declared.turn.Turn.{Turn}
use Rattle.py_coroutines.specs.Awaits as known
use Rattle.py_coroutines.specs.Holders.{other_at}
use Rattle.py_coroutines.specs.Kinds.{kind_of}
use Rattle.py_coroutines.specs.Objects.{by_class, by_kind, coroutine_at, member_by, other_by, turn_at}
use Rattle.py_coroutines.specs.Turns.{IsLost, stop_of, turn_of}

-- a member, and another object, of which all was read
pub member_known : (d : Found known.Turn) (t : known.Turn) → Answers {E = ReadFault} read_fault d (Ok t) → t ≡ member_by d
member_known d t p = rw p.is refl

pub other_known : (d : Found known.Turn) (t : known.Turn) → Answers {E = ReadFault} read_fault d (Ok t) → t ≡ other_by d
other_known d t p = rw p.is refl

-- one of which something is not in memory
pub member_lost : (d : Found known.Turn) (e : ReadFault) (r : Result Stop AwaitError)
    → Answers {T = known.Turn} read_fault d (Err e) → IsLost e r
    → IfOk r (λ stop. known.Turn.Last (stop_of stop) ≡ member_by d)
member_lost d (fault.Unreadable addr len) r p h = rw (h, p.is) refl
member_lost d fault.OutOfMemory r p h = rw h.1 tt

pub other_lost : (d : Found known.Turn) (e : ReadFault) (r : Result Stop AwaitError)
    → Answers {T = known.Turn} read_fault d (Err e) → IsLost e r
    → IfOk r (λ stop. known.Turn.Before (stop_of stop) ≡ other_by d)
other_lost d (fault.Unreadable addr len) r p h = rw (h, p.is) refl
other_lost d fault.OutOfMemory r p h = rw h.1 tt

-- an object whose class is not in memory
pub turn_lost : (p : Places) (m : Memory) (a : ℕ) (e : ReadFault) (r : Result Stop AwaitError)
    → Answers {T = ℕ} read_fault (word_at m (a + p.class.klass)) (Err e) → IsLost e r
    → IfOk r (λ stop. known.Turn.Before (stop_of stop) ≡ turn_at p m a)
unfolding turn_at
turn_lost p m a (fault.Unreadable addr len) r q h = rw (h, q.is) refl
turn_lost p m a fault.OutOfMemory r q h = rw h.1 tt

-- one whose class was read
turn_read : (p : Places) (m : Memory) (a class : ℕ) (k : Option Kind) (t : known.Turn)
    → Answers {E = ReadFault} read_fault (word_at m (a + p.class.klass)) (Ok class) → k ≡ kind_of p.types class
    → t ≡ by_kind p m a class k → t ≡ turn_at p m a
unfolding turn_at
turn_read p m a class k t q e h = rw q.is (h ∙ ap (by_kind p m a class) e)

pub turn_member : (p : Places) (m : Memory) (a class : ℕ) (kind : Kind) (r : Result Turn AwaitError)
    → Answers {E = ReadFault} read_fault (word_at m (a + p.class.klass)) (Ok class) → Some kind ≡ kind_of p.types class
    → IfOk r (λ turn. turn_of turn ≡ member_by (coroutine_at p m a)) → IfOk r (λ turn. turn_of turn ≡ turn_at p m a)
turn_member p m a class kind (Ok turn) q e h = turn_read p m a class (Some kind) (turn_of turn) q e h
turn_member p m a class kind (Err error) q e h = tt

pub turn_other : (p : Places) (m : Memory) (a class : ℕ) (r : Result Turn AwaitError)
    → Answers {E = ReadFault} read_fault (word_at m (a + p.class.klass)) (Ok class) → None ≡ kind_of p.types class
    → IfOk r (λ turn. turn_of turn ≡ other_by (other_at p m a class)) → IfOk r (λ turn. turn_of turn ≡ turn_at p m a)
turn_other p m a class (Ok turn) q e h = turn_read p m a class None (turn_of turn) q e h
turn_other p m a class (Err error) q e h = tt
