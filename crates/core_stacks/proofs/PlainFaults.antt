-- What the faults of the readers can be: of records and words missing ranges alone, and of the lock's holder and the
-- locals of a frame no limit of threads or frames.
use Rattle.std.proofs.Common.{◌≡◌, ℕ, zero, suc, ◌+◌, ◌*◌, ◌^◌, cond, ltb, leb, List, subst}
use Rattle.std.specs.Prelude.{Bool, true, false, ℤ, Option, Some, None, Ok, Err}
use Rattle.std.specs.Int.{w32, cast_signed}
use Rattle.elf64_core.specs.Fields.{u32_in}
use Rattle.process_memory.specs.Memory.{Memory, Found, Fault, ◌>>=◌, bytes_at, found_or, outside, record_at, word_at}
use Rattle.process_memory.specs.Memory.Fault.{Missing, BadValue, LocalsLimit, ThreadLimit, FrameLimit, ChainLimit}
use Rattle.process_memory.specs.Faults.{faults_then}
use Rattle.process_memory.specs.Walk.{first_fault}
use Rattle.py_fields.specs.declared.layout.GilAt.{GilAt}
use Rattle.py_fields.specs.declared.layout.Layout.{Layout}
use Rattle.py_stacks.specs.Locals.{count_of, each_faults, local_at, locals_faults, name_fault, named_local}
use Rattle.py_stacks.specs.Locals.{names_tuple_of, variable_name_at}
use Rattle.py_stacks.specs.Member.{MemberAt}
use Rattle.py_stacks.specs.Holder.{gil_holder_at, holder_at, holder_through, id_of, holder_id_at, thread_id_at}

-- a fault of what is found is such a one
abbrev pub Fails : {T : Type 0} → (Fault → Type 0) → Found T → Type 0
Fails Is (Ok x) = Unit {0}
Fails Is (Err f) = Is f

-- ---- steps

pub some_same : (e f : Fault) → ◌≡◌ {A = Option Fault} (Some e) (Some f) → e ≡ f
some_same e f h = cc

module _ (Is : Fault → Type 0) where
  pub next_fails : {T U : Type 0} (d : Found T) (g : T → Found U) → Fails Is d → ((x : T) → Fails Is (g x))
      → Fails Is (d >>= g)
  next_fails (Ok x) g one rest = rest x
  next_fails (Err e) g one rest = one

  pub first_fails : {T : Type 0} (d : Found T) (g : T → List Fault) (f : Fault) → Fails Is d
      → ((x : T) → first_fault (g x) ≡ Some f → Is f) → first_fault (faults_then d g) ≡ Some f → Is f
  first_fails (Ok x) g f one rest h = rest x h
  first_fails (Err e) g f one rest h = subst Is (some_same e f h) one

-- ---- records, words and the holder, of which only ranges may be missing

module _ (Is : Fault → Type 0) (missing : (a n : ℕ) → Is (Missing a n)) where
  found_fails : {T : Type 0} (o : Option T) (a n : ℕ) → Fails Is (found_or o (Missing a n))
  found_fails None a n = missing a n
  found_fails (Some x) a n = tt

  outside_fails : (n : ℕ) → Fails Is (outside n)
  outside_fails zero = tt
  outside_fails (suc n) = missing _ _

  pub record_fails : (m : Memory) (a n : ℕ) → Fails Is (record_at m a n)
  unfolding record_at
  record_fails m a n =
      elim (ltb a (2 ^ 64)) as (λ t. Fails Is (cond t (found_or (bytes_at m a n) (Missing a n)) (outside n)))
      [ true ↦ found_fails (bytes_at m a n) a n | false ↦ outside_fails n ]

  pub word_fails : (m : Memory) (a : ℕ) → Fails Is (word_at m a)
  unfolding word_at
  word_fails m a = next_fails Is (record_at m a 8) _ (record_fails m a 8) (λ bytes. tt)

  gil_fails : (g : GilAt) (m : Memory) (lock : ℕ) → Fails Is (gil_holder_at g m lock)
  unfolding gil_holder_at
  gil_fails g m lock = next_fails Is (record_at m lock g.size) _ (record_fails m lock g.size) (λ gil. tt)

  through_fails : (g : Option GilAt) (m : Memory) (lock : ℕ) → Fails Is (holder_through g m lock)
  through_fails None m lock = word_fails m lock
  through_fails (Some g) m lock = gil_fails g m lock

  holder_fails : (l : Layout) (m : Memory) (lock : ℕ) → Fails Is (holder_at l m lock)
  unfolding holder_at
  holder_fails l m lock = through_fails l.gil m lock

  thread_id_fails : (l : Layout) (m : Memory) (a : ℕ) → Fails Is (thread_id_at l m a)
  unfolding thread_id_at
  thread_id_fails l m a = next_fails Is (record_at m a l.thread.size) _ (record_fails m a l.thread.size) (λ thread. tt)

  id_fails : (l : Layout) (m : Memory) (holder : ℕ) → Fails Is (id_of l m holder)
  unfolding id_of
  id_fails l m zero = tt
  id_fails l m (suc holder) = thread_id_fails l m (suc holder)

  pub holder_id_fails : (l : Layout) (m : Memory) (lock : ℕ) → Fails Is (holder_id_at l m lock)
  unfolding holder_id_at
  holder_id_fails l m zero = tt
  holder_id_fails l m (suc lock) = next_fails Is (holder_at l m (suc lock)) (id_of l m) (holder_fails l m (suc lock))
      (id_fails l m)

-- ---- no limit of threads, of frames or of members

abbrev pub IsPlain : Fault → Type 0
IsPlain ThreadLimit = ⊥
IsPlain FrameLimit = ⊥
IsPlain ChainLimit = ⊥
IsPlain _ = Unit {0}

abbrev FailsPlainly : {T : Type 0} → Found T → Type 0
FailsPlainly d = Fails IsPlain d

pub holder_id_plain : (l : Layout) (m : Memory) (lock : ℕ) → Fails IsPlain (holder_id_at l m lock)
holder_id_plain l m lock = holder_id_fails IsPlain (λ a n. tt) l m lock

-- ---- the locals

counted_plain : (frame : ℕ) (low few : Bool) (n : ℕ) (count : ℤ)
    → FailsPlainly (cond low (cond few (Ok n) (Err (LocalsLimit count))) (Err (BadValue frame)))
counted_plain frame true true n count = tt
counted_plain frame true false n count = tt
counted_plain frame false few n count = tt

count_plain : (l : Layout) (r : MemberAt) → FailsPlainly (count_of l r)
unfolding count_of
count_plain l r =
    let n = u32_in r.code l.code.nlocals in
    counted_plain r.frame_at (ltb n (2 ^ 31)) (leb n 65535) n (cast_signed w32 n)

name_plain : (frame : ℕ) (f : Fault) → IsPlain (name_fault frame f)
name_plain frame (Missing addr len) = tt
name_plain frame _ = tt

named_plain : (frame : ℕ) (text : Found (List ℕ)) → FailsPlainly (named_local frame text)
named_plain frame (Ok text) = tt
named_plain frame (Err f) = name_plain frame f

variable_plain : (l : Layout) (m : Memory) (frame a : ℕ) → FailsPlainly (variable_name_at l m frame a)
unfolding variable_name_at
variable_plain l m frame a = named_plain frame _

local_plain : (l : Layout) (m : Memory) (r : MemberAt) (index : ℕ) → FailsPlainly (local_at l m r index)
unfolding local_at
local_plain l m r index =
    next_fails IsPlain (word_at m (names_tuple_of l r + l.tuple.at + 8 * index)) _ (word_fails IsPlain (λ a n. tt) m _)
    (λ name_at. next_fails IsPlain (variable_name_at l m r.frame_at name_at) _ (variable_plain l m r.frame_at name_at)
    (λ name. next_fails IsPlain (word_at m (r.frame_at + l.frame.locals + 8 * index)) _
    (word_fails IsPlain (λ a n. tt) m _) (λ slot. tt)))

each_plain : (l : Layout) (m : Memory) (r : MemberAt) (n index : ℕ) (f : Fault)
    → first_fault (each_faults l m r index n) ≡ Some f → IsPlain f
unfolding each_faults
each_plain l m r zero index f h = absurd (none_some f h)
  where
    none_some : (f : Fault) → ◌≡◌ {A = Option Fault} None (Some f) → ⊥
    none_some f e = cc
each_plain l m r (suc n) index f h =
    first_fails IsPlain (local_at l m r index) (λ local. each_faults l m r (index + 1) n) f (local_plain l m r index)
    (λ local. each_plain l m r n (index + 1) f) h

pub locals_plain : (l : Layout) (m : Memory) (r : MemberAt) (f : Fault) → first_fault (locals_faults l m r) ≡ Some f
    → IsPlain f
unfolding locals_faults
locals_plain l m r f h =
    first_fails IsPlain (count_of l r)
    (λ count. faults_then (record_at m (names_tuple_of l r) l.tuple.size) (λ names. each_faults l m r 0 count)) f
    (count_plain l r)
    (λ count. first_fails IsPlain (record_at m (names_tuple_of l r) l.tuple.size) (λ names. each_faults l m r 0 count) f
    (record_fails IsPlain (λ a n. tt) m _ _)
    (λ names. each_plain l m r count 0 f)) h
