-- The slots that are looked at, from one step to the next.
use Rattle.std.proofs.Common.{◌≡◌, ℕ, ◌+◌, List, refl}
use Rattle.std.specs.Prelude.{Bool, ℤ, Option, Some, Ok, codes}
use Rattle.process_memory.specs.Memory.{Memory, Fault, byte_at, word_at}
use Rattle.process_memory.specs.declared.memory.Span.{Span}
use Rattle.process_memory.specs.Seen.{Seen, ReadsOf}
use Rattle.process_memory.proofs.Reading.{reading_here}
use Rattle.py_fields.specs.declared.layout.Layout.{Layout}
use Rattle.py_builtins.specs.declared.keys.Slots.{Slots}
use Rattle.py_builtins.specs.declared.dicts.Slot.{Slot}
use Rattle.py_builtins.specs.Dicts.{dict_slots, slot_at}
use Rattle.py_builtins.specs.Integers.{long_at}
use Rattle.py_builtins.specs.Types.{type_at}
use Rattle.py_builtins.specs.declared.types.ObjectType.{ObjectType}
use Rattle.py_names.specs.declared.search.Looked.{Looked}
use Rattle.py_names.specs.Names.{each_looked, entry_looked, module_looked, module_slots, modules_slots, search_looked}
use Rattle.py_names.specs.Names.{slot_limit, slot_looked, slots_looked_at, thread_looked, thread_slots, threads_looked}
use Rattle.py_names.specs.Search.{find_from, find_looked}
use Rattle.py_names.specs.Typed.{plain_slots, typed_slots}

pub entry_counts : {a1 a2 a3 : Memory → Span → Type 0} {E1 E2 E3 : Type 0} {f1 : E1 → Option Fault} {f2 : E2 → Option Fault} {f3 : E3 → Option Fault} {n1 n2 n3 : ℕ} {s0 s1 s2 s3 : Seen} {id : ℤ × Bool} {t : ObjectType} {slots : Slots}
    (l : Layout) (key value left : ℕ) → ReadsOf {E = E1} a1 f1 n1 s0 s1 (λ m. long_at l m key) (Ok id)
    → ReadsOf {E = E2} a2 f2 n2 s1 s2 (λ m. type_at l m value) (Ok t) → ReadsOf {E = E3} a3 f3 n3 s2 s3 (λ m. typed_slots l m value t) (Ok slots)
    → entry_looked l (byte_at s0.pieces) key value left ≡ find_looked l (byte_at s3.pieces) (codes "_name") slots slots.count 0 left
unfolding entry_looked thread_slots
entry_counts l key value left a b c =
    let one = (reading_here a).is in
    let two = rw a.pieces at (reading_here b).is in
    let three = rw (b.pieces, a.pieces) at (reading_here c).is in
    rw (c.pieces, b.pieces, a.pieces, one, two, three) refl

pub thread_counts : {allowed : Memory → Span → Type 0} {E : Type 0} {fault : E → Option Fault} {n : ℕ} {s0 s1 : Seen} {slot : Slot} (l : Layout) (s : Slots) (number left : ℕ)
    → ReadsOf {E = E} allowed fault n s0 s1 (λ m. slot_at m s number) (Ok slot)
    → thread_looked l (byte_at s0.pieces) s number left ≡ slot_looked l (byte_at s1.pieces) left slot
unfolding thread_looked
thread_counts l s number left a = let one = (reading_here a).is in rw (a.pieces, one) refl

pub threads_counts : {allowed : Memory → Span → Type 0} {E : Type 0} {fault : E → Option Fault} {n : ℕ} {s0 s1 : Seen} {slots : Slots} (l : Layout) (dict left : ℕ)
    → ReadsOf {E = E} allowed fault n s0 s1 (λ m. dict_slots l m dict) (Ok slots)
    → threads_looked l (byte_at s0.pieces) (Some dict) left ≡ each_looked l (byte_at s1.pieces) slots slots.count 0 left
unfolding threads_looked
threads_counts l dict left a = let one = (reading_here a).is in rw (a.pieces, one) refl

pub module_counts : {a1 a2 : Memory → Span → Type 0} {E1 E2 : Type 0} {f1 : E1 → Option Fault} {f2 : E2 → Option Fault} {n1 n2 : ℕ} {s0 s1 s2 : Seen} {t : ObjectType} {slots : Slots} (l : Layout) (a left : ℕ)
    → ReadsOf {E = E1} a1 f1 n1 s0 s1 (λ m. type_at l m a) (Ok t) → ReadsOf {E = E2} a2 f2 n2 s1 s2 (λ m. plain_slots l m a t) (Ok slots)
    → module_looked l (byte_at s0.pieces) (Some a) left ≡ search_looked l (byte_at s2.pieces) (codes "_active") left (threads_looked l (byte_at s2.pieces)) slots
unfolding module_looked module_slots
module_counts l a left p q =
    let one = (reading_here p).is in
    let two = rw p.pieces at (reading_here q).is in
    rw (q.pieces, p.pieces, one, two) refl

pub interpreter_counts : {a1 a2 : Memory → Span → Type 0} {E1 E2 : Type 0} {f1 : E1 → Option Fault} {f2 : E2 → Option Fault} {n1 n2 : ℕ} {s0 s1 s2 : Seen} {modules : ℕ} {slots : Slots} (l : Layout) (interpreter : ℕ)
    → ReadsOf {E = E1} a1 f1 n1 s0 s1 (λ m. word_at m (interpreter + l.interpreter.modules)) (Ok modules)
    → ReadsOf {E = E2} a2 f2 n2 s1 s2 (λ m. dict_slots l m modules) (Ok slots)
    → slots_looked_at l (byte_at s0.pieces) interpreter ≡ search_looked l (byte_at s2.pieces) (codes "threading") slot_limit (module_looked l (byte_at s2.pieces)) slots
unfolding slots_looked_at modules_slots
interpreter_counts l interpreter p q =
    let one = (reading_here p).is in
    let two = rw p.pieces at (reading_here q).is in
    rw (q.pieces, p.pieces, one, two) refl

-- those of a search, and of what comes behind it
pub search_counts : {allowed : Memory → Span → Type 0} {E : Type 0} {fault : E → Option Fault} {n : ℕ} {s0 s1 : Seen} {search : Looked} (l : Layout) (name : List ℕ) (left : ℕ) (behind : Memory → Option ℕ → ℕ → ℕ) (slots : Slots)
    → ReadsOf {E = E} allowed fault n s0 s1 (λ m. find_from l m name slots slots.count 0 left) (Ok search)
    → search_looked l (byte_at s0.pieces) name left (behind (byte_at s0.pieces)) slots ≡ find_looked l (byte_at s0.pieces) name slots slots.count 0 left + behind (byte_at s1.pieces) search.found search.left
search_counts l name left behind slots a = let one = (reading_here a).is in rw (a.pieces, one) refl
