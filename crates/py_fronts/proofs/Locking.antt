-- Interpreters with their locks, one after another.
use Rattle.std.proofs.Common.{◌≡◌, ℕ, Bool, ◌*◌, List, [], ◌∷◌, ◌++◌, length, map, refl, sym, ◌∙◌, ap, arith}
use Rattle.std.proofs.Common.{append-nil, append_assoc, length-append}
use Rattle.std.proofs.lemmas.List.{map-append, length-map}
use Rattle.std.specs.Prelude.{Option}
use Rattle.elf64_core.specs.declared.header.Machine.{Machine}
use Rattle.process_memory.specs.Memory.{Memory}
use Rattle.process_memory.specs.Seen.{Reading, Seen}
use Rattle.process_memory.proofs.Reading.{reading_gives, reading_none, reading_then}
use Rattle.py_fields.specs.declared.version.Version.{Version}
use Rattle.py_fields.specs.declared.layout.Layout.{Layout}
use Rattle.py_stacks.specs.declared.asked.Asked.{Asked}
use Rattle.py_stacks.specs.declared.error.StackError.{StackError}
use Rattle.py_stacks.specs.declared.error.StackError.TheVariants as stack
use Rattle.py_process.specs.Facts.{Known}
use Rattle.py_fronts.specs.declared.fronts.InterpreterFront.{InterpreterFront}
use Rattle.py_fronts.specs.Fronts.{FrontsShown, fronts_at, interpreter_of_front}
use Rattle.py_fronts.specs.declared.crash.Crash.{Crash}
use Rattle.py_fronts.specs.declared.lock.LockState.{LockState}
use Rattle.py_fronts.specs.declared.salvaged.SalvagedInterpreter.{SalvagedInterpreter}
use Rattle.py_fronts.specs.declared.search.Looked.{Looked}
use Rattle.py_fronts.specs.Locks.{lock_told}
use Rattle.py_fronts.specs.Salvaged.{Locking, SalvagedShown, locked, salvaged_at, with_lock, with_locks}

module _ {machine : Machine} {k : Known} {v : Version} {l : Layout} where
  pub locking_init : (all : List InterpreterFront) (s : Seen) → Locking machine k v l s s all all []
  locking_init all s = record { done = []; parts = refl; reading = reading_none 0 s _ (λ m. refl) }

  pub locking_more : {s0 s1 s2 : Seen} {all rest : List InterpreterFront} {shown : List SalvagedInterpreter}
      (front : InterpreterFront) (lock : LockState) (rest' : List InterpreterFront) → rest ≡ front ∷ rest'
      → Locking machine k v l s0 s1 all rest shown → Reading 3 s1 s2
      (λ m. lock ≡ lock_told machine k v l m front.address)
      → Locking machine k v l s0 s2 all rest' (shown ++ record { front = front; lock = lock } ∷ [])
  locking_more {all = all} {shown = shown} front lock rest' is w r = record {
    done = w.done ++ front ∷ [];
    parts = w.parts ∙ ap (λ xs. w.done ++ xs) is ∙ sym (append_assoc w.done (front ∷ []) rest');
    reading = reading_gives _ _
        (reading_then
        (λ m. map locked (shown ++ record { front = front; lock = lock } ∷ []) ≡ with_locks machine k v l m
        (w.done ++ front ∷ [])) w.reading r
        (λ m p e. map-append locked shown (record { front = front; lock = lock } ∷ [])
        ∙ ap (λ xs. xs ++ locked (record { front = front; lock = lock }) ∷ []) p
        ∙ ap (λ x. with_locks machine k v l m
        w.done ++ record { interpreter = interpreter_of_front front; lock = x } ∷ []) e
        ∙ sym (map-append (with_lock machine k v l m) (map interpreter_of_front w.done)
        (interpreter_of_front front ∷ []))
        ∙ ap (map (with_lock machine k v l m)) (sym (map-append interpreter_of_front w.done (front ∷ [])))))
        (rw (length-append w.done (front ∷ [])) (omega arith)) (λ m h. h);
  }

  pub locking_done : {s0 s1 : Seen} {all rest : List InterpreterFront} {shown : List SalvagedInterpreter} → rest ≡ []
      → Locking machine k v l s0 s1 all rest shown
      → Reading (3 * length all) s0 s1 (λ m. map locked shown ≡ with_locks machine k v l m all)
  locking_done {all = all} is w =
      let same : all ≡ w.done = w.parts ∙ ap (λ xs. w.done ++ xs) is ∙ append-nil w.done in
      reading_gives _ _ w.reading (omega (arith, ap length same))
      (λ m p. p ∙ ap (with_locks machine k v l m) (sym same))

  pub locking_lost : {s0 s1 s2 : Seen} {all rest : List InterpreterFront} {shown : List SalvagedInterpreter}
      {P : Memory → Type 0} (e : StackError) (front : InterpreterFront) (rest' : List InterpreterFront)
      → rest ≡ front ∷ rest'
      → Locking machine k v l s0 s1 all rest shown → Reading 3 s1 s2
      P → ((m : Memory) → P m → e ≡ stack.OutOfMemory) → Reading (3 * length all) s0 s2 (λ m. e ≡ stack.OutOfMemory)
  locking_lost {all = all} e front rest' is w r lost =
      let all_is : all ≡ w.done ++ front ∷ rest' = w.parts ∙ ap (λ xs. w.done ++ xs) is in
      reading_gives _ _ (reading_then (λ m. e ≡ stack.OutOfMemory) w.reading r (λ m p h. lost m h))
      (omega (arith, ap length all_is, length-append w.done (front ∷ rest'))) (λ m h. h)

-- ---- all of them

-- as many are read as there are
pub read_few : (c : ℕ → Bool) (k : Known) (v : Version) (l : Layout) (m : Memory) (q : Asked) (limit : ℕ)
    (fronts : List InterpreterFront) (more : Bool) (looked : Looked) → ◌≡◌ {A = FrontsShown}
    (record { interpreters = map interpreter_of_front fronts; more = more; looked = looked })
    (fronts_at c k v l m q limit)
    → length fronts ≡ length (fronts_at c k v l m q limit).interpreters
read_few c k v l m q limit fronts more looked e =
    omega (arith, ap (λ (f : FrontsShown). length f.interpreters) e, length-map fronts interpreter_of_front)

pub salvaged_is : (c : ℕ → Bool) (machine : Machine) (k : Known) (v : Version) (l : Layout) (m : Memory) (q : Asked)
    (limit : ℕ) (crash : Option Crash) (fronts read : List InterpreterFront) (more : Bool) (looked : Looked)
    (shown : List SalvagedInterpreter)
    → ◌≡◌ {A = FrontsShown} (record {
      interpreters = map interpreter_of_front fronts;
      more = more;
      looked = looked;
    })
    (fronts_at c k v l m q limit) → read ≡ fronts → map locked shown ≡ with_locks machine k v l m read
    → ◌≡◌ {A = SalvagedShown}
    (record { interpreters = map locked shown; more = more; looked = looked; crash = crash })
    (salvaged_at c machine k v l m q limit crash)
unfolding salvaged_at
salvaged_is c machine k v l m q limit crash fronts read more looked shown e same h =
    ap (λ xs. record { interpreters = xs; more = more; looked = looked; crash = crash }) (h ∙ ap (with_locks machine k v l m) same)
    ∙ ap (λ (f : FrontsShown). record {
      interpreters = map (with_lock machine k v l m) f.interpreters;
      more = f.more;
      looked = f.looked;
      crash = crash;
    }) e
