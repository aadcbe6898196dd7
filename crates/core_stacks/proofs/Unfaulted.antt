-- Where an address is an interpreter's, neither a limit nor a record of a thread or a frame is in the way of its stacks:
-- their first fault is the lock holder's, or one of the locals of a kept frame.
use Rattle.std.proofs.Common.{◌≡◌, ◌⊎◌, ℕ, zero, suc, ◌+◌, ◌<◌, ◌^◌, cond, ltb, leb, List, [], ◌∷◌, refl, sym, ap, ◌∙◌}
use Rattle.std.proofs.Common.{subst, inl, inr, arith, add-zero}
use Rattle.std.specs.Prelude.{Bool, true, false, Option, Some, None, Ok, Err}
use Rattle.std.specs.Result.{IsOk}
use Rattle.std.proofs.lemmas.Bool.{lt-ltb, le-leb}
use Rattle.elf64_core.specs.Fields.{u32_in}
use Rattle.process_memory.specs.Memory.{Memory, Found, Fault, record_at, word_at}
use Rattle.process_memory.proofs.Founds.{bound, ok_same}
use Rattle.process_memory.specs.Memory.Fault.{ChainLimit, ThreadLimit, FrameLimit}
use Rattle.process_memory.specs.Faults.{faults_then}
use Rattle.process_memory.specs.Walk.{fault_in, first_fault, walk_faults}
use Rattle.py_fields.specs.declared.layout.Layout.{Layout}
use Rattle.py_stacks.specs.declared.asked.LineNo.{LineNo}
use Rattle.py_stacks.specs.declared.config.Config.{Config}
use Rattle.py_stacks.specs.Asking.{asked_of, asks, nothing}
use Rattle.py_stacks.specs.Detail.{detail_faults}
use Rattle.py_stacks.specs.Member.{MemberAt}
use Rattle.py_stacks.specs.Frames.{Call, back_of, frame_faults, frame_limit, frame_next, frames_faults, member_limit}
use Rattle.py_stacks.specs.Frames.{part_faults, plain_by, records_at}
use Rattle.py_stacks.specs.Interpreter.{IsInterpreter}
use Rattle.py_stacks.specs.Locals.{asked_faults, count_of, each_faults, local_at, locals_faults, names_tuple_of}
use Rattle.py_stacks.specs.Holder.{holder_id_at}
use Rattle.py_stacks.specs.Stacks.{stacks_faults}
use Rattle.py_stacks.specs.Threads.{first_frame_at, thread_after, thread_faults, thread_limit, thread_next}
use Rattle.py_stacks.specs.Threads.{traces_faults}
use Rattle.py_stacks.proofs.ThreadLaws.{traces_same}
use Rattle.py_stacks.proofs.Wholes.{traces_whole}
use Rattle.py_process.specs.Findings.{Finding}
use Rattle.py_process.specs.Reports.{fault_on}
use Rattle.py_process.specs.Variables.{Follows, HasLocals, HasRest, IsLocalsFault, IsRestFault}
use Rattle.core_stacks.proofs.WalkFaults.{empty, no_fault, not_empty, walk_first}

-- ---- of a member that is met, the locals' alone

-- the locals are asked for, and this is their first fault at a kept member of the frames behind the first one
record FrameMeets (locals : Bool) (l : Layout) (m : Memory) (f : Fault) (first : ℕ) : Type 0 where
  asked : locals ≡ true
  members : List ℕ
  member : ℕ
  along : Follows (back_of l m) first members member
  part : MemberAt
  read : records_at l m member ≡ Ok part
  call : Call
  shows : plain_by l m part ≡ Some call
  fault : first_fault (locals_faults l m part) ≡ Some f

asked_fault : (locals : Bool) (l : Layout) (m : Memory) (r : MemberAt) (f : Fault) → first_fault (asked_faults locals l m r) ≡ Some f
    → (locals ≡ true) × (first_fault (locals_faults l m r) ≡ Some f)
asked_fault false l m r f h = absurd (no_fault f h)
asked_fault true l m r f h = (refl, h)

detail_fault : (lineno : LineNo) (locals : Bool) (l : Layout) (m : Memory) (r : MemberAt) (f : Fault) → first_fault (detail_faults (asks lineno locals) l m r) ≡ Some f
    → (locals ≡ true) × (first_fault (locals_faults l m r) ≡ Some f)
unfolding detail_faults
detail_fault lineno locals l m r f h = asked_fault locals l m r f h

limited : (few : Bool) (own : List Fault) (other : List Fault) (f : Fault) → cond few own (FrameLimit ∷ []) ≡ []
    → first_fault (cond few other (FrameLimit ∷ [])) ≡ Some f → first_fault other ≡ Some f
limited true own other f none h = h
limited false own other f none h = absurd (not_empty FrameLimit [] none)

part_fault : (lineno : LineNo) (locals : Bool) (l : Layout) (m : Memory) (kept : ℕ) (r : MemberAt) (p : Option Call) (f : Fault)
    → part_faults nothing l m kept r p ≡ [] → first_fault (part_faults (asks lineno locals) l m kept r p) ≡ Some f
    → (call : Call) × (p ≡ Some call) × (locals ≡ true) × (first_fault (locals_faults l m r) ≡ Some f)
part_fault lineno locals l m kept r None f none h = absurd (no_fault f h)
part_fault lineno locals l m kept r (Some c) f none h =
    let own = detail_fault lineno locals l m r f (limited (ltb kept frame_limit) (detail_faults nothing l m r) (detail_faults (asks lineno locals) l m r) f none h) in
    (c, refl, own.0, own.1)

module _ (lineno : LineNo) (locals : Bool) (l : Layout) (m : Memory) (f : Fault) where
  record_fault : (kept a : ℕ) (x : Found MemberAt) → records_at l m a ≡ x
      → faults_then x (λ r. part_faults nothing l m kept r (plain_by l m r)) ≡ []
      → first_fault (faults_then x (λ r. part_faults (asks lineno locals) l m kept r (plain_by l m r))) ≡ Some f
      → (r : MemberAt) × (records_at l m a ≡ Ok r) × (call : Call) × (plain_by l m r ≡ Some call)
      × (locals ≡ true) × (first_fault (locals_faults l m r) ≡ Some f)
  record_fault kept a (Err e) is none h = absurd (not_empty e [] none)
  record_fault kept a (Ok r) is none h =
      let own = part_fault lineno locals l m kept r (plain_by l m r) f none h in
      (r, is, own.0, own.1, own.2, own.3)

  frame_fault : (kept a : ℕ) → frame_faults nothing l m kept a ≡ [] → first_fault (frame_faults (asks lineno locals) l m kept a) ≡ Some f
      → (r : MemberAt) × (records_at l m a ≡ Ok r) × (call : Call) × (plain_by l m r ≡ Some call)
      × (locals ≡ true) × (first_fault (locals_faults l m r) ≡ Some f)
  unfolding frame_faults
  frame_fault kept a none h = record_fault kept a (records_at l m a) refl none h

  back_agrees : (s a : ℕ) (x : ℕ × ℕ) → frame_next l m s a ≡ Ok x → back_of l m a ≡ Ok x.0
  unfolding frame_next back_of
  back_agrees s a x h =
      let p = bound (records_at l m a) _ x h in
      rw p.1 (ap (λ (y : ℕ × ℕ). Ok y.0) (ok_same _ x p.2))

  frames_fault : (first : ℕ) → frames_faults nothing l m first ≡ [] → first_fault (frames_faults (asks lineno locals) l m first) ≡ Some f
      → FrameMeets locals l m f first
  unfolding frames_faults
  frames_fault first none h =
      let met = walk_first ChainLimit (frame_next l m) (frame_faults nothing l m) (frame_faults (asks lineno locals) l m) (back_of l m) back_agrees f
      member_limit 0 first none h in
      let own = frame_fault met.state met.member met.none met.first in
      record {
        asked = own.4;
        members = met.path;
        member = met.member;
        along = met.along;
        part = own.0;
        read = own.1;
        call = own.2;
        shows = own.3;
        fault = own.5;
      }

  -- ---- of a thread that is met

  record ThreadMeets (a : ℕ) : Type 0 where
    thread : List ℕ
    read : record_at m a l.thread.size ≡ Ok thread
    first : ℕ
    names : first_frame_at l m thread ≡ Ok first
    frame : FrameMeets locals l m f first

  first_fault_of : (a : ℕ) (thread : List ℕ) → record_at m a l.thread.size ≡ Ok thread → (x : Found ℕ) → first_frame_at l m thread ≡ x
      → faults_then x (λ first. frames_faults nothing l m first) ≡ []
      → first_fault (faults_then x (λ first. frames_faults (asks lineno locals) l m first)) ≡ Some f → ThreadMeets a
  first_fault_of a thread read (Err e) is none h = absurd (not_empty e [] none)
  first_fault_of a thread read (Ok first) is none h =
      record { thread = thread; read = read; first = first; names = is; frame = frames_fault first none h }

  thread_fault_of : (a : ℕ) (x : Found (List ℕ)) → record_at m a l.thread.size ≡ x
      → faults_then x (λ thread. faults_then (first_frame_at l m thread) (λ first. frames_faults nothing l m first)) ≡ []
      → first_fault (faults_then x (λ thread. faults_then (first_frame_at l m thread) (λ first. frames_faults (asks lineno locals) l m first))) ≡ Some f
      → ThreadMeets a
  thread_fault_of a (Err e) is none h = absurd (not_empty e [] none)
  thread_fault_of a (Ok thread) is none h = first_fault_of a thread is (first_frame_at l m thread) refl none h

  thread_fault : (s : Unit {0}) (a : ℕ) → thread_faults nothing l m s a ≡ [] → first_fault (thread_faults (asks lineno locals) l m s a) ≡ Some f → ThreadMeets a
  unfolding thread_faults
  thread_fault s a none h = thread_fault_of a (record_at m a l.thread.size) refl none h

  after_agrees : (s : Unit {0}) (a : ℕ) (x : ℕ × Unit {0}) → thread_next l m s a ≡ Ok x → thread_after l m a ≡ Ok x.0
  unfolding thread_next thread_after
  after_agrees s a x h =
      let p = bound (record_at m a l.thread.size) _ x h in
      rw p.1 (ap (λ (y : ℕ × Unit {0}). Ok y.0) (ok_same _ x p.2))

  -- ---- of an interpreter

  head_fault : (interpreter : ℕ) (x : Found ℕ) → word_at m (interpreter + l.interpreter.threads) ≡ x
      → faults_then x (λ head. walk_faults ThreadLimit (thread_next l m) (thread_faults nothing l m) thread_limit tt head) ≡ []
      → first_fault (faults_then x (λ head. walk_faults ThreadLimit (thread_next l m) (thread_faults (asks lineno locals) l m) thread_limit tt head)) ≡ Some f
      → (locals ≡ true) × IsLocalsFault l m interpreter f
  head_fault interpreter (Err e) is none h = absurd (not_empty e [] none)
  head_fault interpreter (Ok head) is none h =
      let met = walk_first ThreadLimit (thread_next l m) (thread_faults nothing l m) (thread_faults (asks lineno locals) l m) (thread_after l m) after_agrees f
      thread_limit tt head none h in
      let own = thread_fault met.state met.member met.none met.first in (
        own.frame.asked,
        record {
          member = own.frame.part;
          kept = record {
            head = head;
            names = is;
            threads = met.path;
            thread_at = met.member;
            to_thread = met.along;
            thread = own.thread;
            read_thread = own.read;
            first = own.first;
            names_first = own.names;
            members = own.frame.members;
            member = own.frame.member;
            to_member = own.frame.along;
            read = own.frame.read;
            call = own.frame.call;
            shows = own.frame.shows;
          };
          first = own.frame.fault;
        },
      )

  traces_fault : (interpreter : ℕ) → traces_faults nothing l m interpreter ≡ [] → first_fault (traces_faults (asks lineno locals) l m interpreter) ≡ Some f
      → (locals ≡ true) × IsLocalsFault l m interpreter f
  unfolding traces_faults
  traces_fault interpreter none h = head_fault interpreter (word_at m (interpreter + l.interpreter.threads)) refl none h

  holder_id_fault : (lock interpreter : ℕ) (x : Found ℕ) → holder_id_at l m lock ≡ x → traces_faults nothing l m interpreter ≡ []
      → first_fault (faults_then x (λ holder_id. traces_faults (asks lineno locals) l m interpreter)) ≡ Some f
      → (holder_id_at l m lock ≡ Err f) ⊎ ((locals ≡ true) × IsLocalsFault l m interpreter f)
  holder_id_fault lock interpreter (Err e) is none h = inl (is ∙ ap (λ x. Err x) (some_same e h))
    where
      some_same : (e : Fault) → ◌≡◌ {A = Option Fault} (Some e) (Some f) → e ≡ f
      some_same e h = cc
  holder_id_fault lock interpreter (Ok holder_id) is none h = inr (traces_fault interpreter none h)

  stacks_fault : (lock interpreter : ℕ) → traces_faults nothing l m interpreter ≡ [] → first_fault (stacks_faults (asks lineno locals) l m lock interpreter) ≡ Some f
      → (holder_id_at l m lock ≡ Err f) ⊎ ((locals ≡ true) × IsLocalsFault l m interpreter f)
  unfolding stacks_faults
  stacks_fault lock interpreter none h = holder_id_fault lock interpreter (holder_id_at l m lock) refl none h

-- an interpreter's chains have no fault
chains_whole : (l : Layout) (m : Memory) (a : ℕ) → IsInterpreter l m a → traces_faults nothing l m a ≡ []
chains_whole l m a is =
    empty (traces_faults nothing l m a) (traces_same nothing l m a ∙ ap fault_in (traces_whole nothing l m a is.traces is.are))

-- what the first fault of the stacks of what was found is
pub rest_fault : (m : Memory) (f : Finding) (config : Config) (fault : Fault) → IsInterpreter f.layout m f.addresses.interpreter
    → fault_on m f config ≡ Some fault → IsRestFault m f config fault
rest_fault m f config fault is h =
    stacks_fault config.lineno (asked_of config).locals f.layout m fault f.addresses.lock f.addresses.interpreter
    (chains_whole f.layout m f.addresses.interpreter is) h

-- ---- where the rest is there

not_ok : {T : Type 0} (x : Found T) (f : Fault) → x ≡ Err f → IsOk x → ⊥
not_ok (Ok x) f e ok = cc
not_ok (Err g) f e ok = cc

rest_there : {T : Type 0} (d : Found T) (rest : List Fault) → IsOk d → rest ≡ [] → faults_then d (λ x. rest) ≡ []
rest_there (Ok x) rest ok none = none
rest_there (Err f) rest ok none = cc

-- so many variables from an index on
each_there : (l : Layout) (m : Memory) (r : MemberAt) (n index : ℕ) → ((k : ℕ) → k < n → IsOk (local_at l m r (index + k)))
    → each_faults l m r index n ≡ []
unfolding each_faults
each_there l m r zero index there = refl
each_there l m r (suc n) index there =
    rest_there (local_at l m r index) (each_faults l m r (index + 1) n) (subst (λ i. IsOk (local_at l m r i)) (add-zero index) (there 0 (omega arith)))
    (each_there l m r n (index + 1) (λ k lt. subst (λ i. IsOk (local_at l m r i)) (omega arith) (there (suc k) (omega arith))))

locals_there : (l : Layout) (m : Memory) (r : MemberAt) → HasLocals l m r → locals_faults l m r ≡ []
unfolding locals_faults count_of
locals_there l m r has =
    let n = u32_in r.code l.code.nlocals in
    let small : ltb n (2 ^ 31) ≡ true = lt-ltb n (2 ^ 31) (omega (arith, has.few)) in
    let few : leb n 65535 ≡ true = le-leb n 65535 has.few in
    rw (small, few) (rest_there (record_at m (names_tuple_of l r) l.tuple.size) (each_faults l m r 0 n) has.tuple
    (each_there l m r n 0 (λ k lt. subst (λ i. IsOk (local_at l m r i)) (omega arith) (has.each k lt))))

rest_none : (m : Memory) (f : Finding) (config : Config) (fault : Fault) → HasRest m f config → IsRestFault m f config fault → ⊥
rest_none m f config fault rest (inl e) = not_ok (holder_id_at f.layout m f.addresses.lock) fault e rest.holder_id
rest_none m f config fault rest (inr (asked, h)) =
    no_fault fault (ap first_fault (sym (locals_there f.layout m h.member (rest.locals asked h.member h.kept))) ∙ h.first)

-- the stacks of what was found meet no fault where the rest is there
pub unfaulted : (m : Memory) (f : Finding) (config : Config) → IsInterpreter f.layout m f.addresses.interpreter → HasRest m f config
    → fault_on m f config ≡ None
unfaulted m f config is rest = by (fault_on m f config) refl
  where
    by : (x : Option Fault) → fault_on m f config ≡ x → x ≡ None
    by None e = refl
    by (Some fault) e = absurd (rest_none m f config fault rest (rest_fault m f config fault is e))
