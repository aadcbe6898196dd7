-- Objects that stand between, by what was read of them.
use Rattle.std.proofs.Common.{◌≡◌, ◌≢◌, ℕ, zero, suc, ◌+◌, refl, sym, ap, nat_eq}
use Rattle.std.specs.Prelude.{Ok, Err, List, Option, Some, None, Result}
use Rattle.process_memory.specs.Memory.{Found, Memory, record_at, ◌>>=◌, word_at}
use Rattle.process_memory.specs.declared.memory.ReadFault.{ReadFault}
use Rattle.process_memory.specs.declared.memory.ReadFault.TheVariants.{Unreadable, OutOfMemory}
use Rattle.process_memory.specs.Seen.{Answers, read_fault}
use Rattle.py_coroutines.specs.declared.places.ClassPlaces.{ClassPlaces}
use Rattle.py_coroutines.specs.declared.places.Held.{Held}
use Rattle.py_coroutines.specs.declared.places.Holders.{Holders}
use Rattle.py_coroutines.specs.declared.places.Wants.{Wants}
use Rattle.py_coroutines.specs.declared.places.Wants.TheVariants.{Class, Any, Future}
use Rattle.py_coroutines.specs.Awaits.{Turn}
use Rattle.py_coroutines.specs.Awaits.{Stop as stop}
use Rattle.py_coroutines.specs.Awaits.Turn.{To, Before}
use Rattle.py_coroutines.specs.Holders.{IsUnnamed, holder_named, if_wanted, named_at, named_in, wanted_at}

pub named_known : (h : Holders) (m : Memory) (name : ℕ) (chars : List ℕ) (held : Option Held)
    → Answers {E = ReadFault} read_fault (record_at m name 128) (Ok chars) → held ≡ holder_named h chars
    → Answers {E = ReadFault} read_fault (named_at h m name) (Ok held)
unfolding named_at
named_known h m name chars held p e = record { is = rw (p.is, e) refl }

pub named_lost : (h : Holders) (m : Memory) (name : ℕ) (e : ReadFault) (r : Result (Option Held) ReadFault)
    → Answers {T = List ℕ} read_fault (record_at m name 128) (Err e) → IsUnnamed e r
    → Answers read_fault (named_at h m name) r
unfolding named_at
named_lost h m name (Unreadable addr len) r p h2 = record { is = rw (h2, p.is) refl }
named_lost h m name OutOfMemory r p h2 = record { is = rw h2 tt }

-- an object that holds another one
pub wanted_any : (c : ClassPlaces) (m : Memory) (at class held : ℕ) → held ≢ 0
    → wanted_at c m at class Any held ≡ Ok (To held)
unfolding wanted_at
wanted_any c m at class zero some = absurd (some refl)
wanted_any c m at class (suc held) some = refl

pub wanted_future : (c : ClassPlaces) (m : Memory) (at class held : ℕ) → held ≢ 0
    → wanted_at c m at class Future held ≡ Ok (Before (stop.Future held))
unfolding wanted_at
wanted_future c m at class zero some = absurd (some refl)
wanted_future c m at class (suc held) some = refl

pub wanted_none : (c : ClassPlaces) (m : Memory) (at class held : ℕ) (wants : Wants) → held ≡ 0
    → wanted_at c m at class wants held ≡ Ok (Before (stop.Other at class))
unfolding wanted_at
wanted_none c m at class zero wants none = refl
wanted_none c m at class (suc held) wants none = absurd cc

pub wanted_class : (c : ClassPlaces) (m : Memory) (at class held wanted : ℕ) → held ≢ 0
    → wanted_at c m at class (Class wanted) held
    ≡ (word_at m (held + c.klass) >>= (λ own. Ok (if_wanted (nat_eq own wanted) at class held)))
unfolding wanted_at
wanted_class c m at class zero wanted some = absurd (some refl)
wanted_class c m at class (suc held) wanted some = refl
