-- A thread that was laid reads back, and so do the threads of a chain.
use Rattle.std.proofs.Common.{◌≡◌, ◌≢◌, ℕ, ◌+◌, ◌%◌, ◌<◌, ◌≤◌, ◌^◌, List, [], ◌∷◌, ◌++◌, length, map, refl, sym, ap}
use Rattle.std.proofs.Common.{subst, ◌∙◌, arith, take, length-append}
use Rattle.std.specs.Prelude.{Some, None, Option, Ok, option_map, slice_get}
use Rattle.std.specs.List.{AllByRecursion}
use Rattle.elf64_core.specs.Fields.{u64_in}
use Rattle.process_memory.specs.Memory.{Memory, record_at, word_at}
use Rattle.process_memory.specs.Walk.{IsChain}
use Rattle.py_fields.specs.Places.{Place, IsGroup, thread_places}
use Rattle.py_fields.specs.Sound.{IsSound}
use Rattle.py_fields.proofs.Fields.{thread_fits}
use Rattle.py_fields.specs.declared.layout.CframeAt.{CframeAt}
use Rattle.py_fields.specs.declared.layout.Layout.{Layout}
use Rattle.py_stacks.specs.declared.asked.Asked.{Asked}
use Rattle.py_stacks.specs.Asking.{nothing}
use Rattle.py_stacks.specs.Threads.{AreTraces, AreTracesOf, IsTraceOf, first_frame_at, frame_through, native_id}
use Rattle.py_stacks.specs.Threads.{thread_after}
use Rattle.py_stacks.specs.Interpreter.{interpreter_named_by}
use Rattle.object_builder.specs.Objects.{Write, object, optional_write, write_place}
use Rattle.memory_builder.specs.Sizes.{cframe_size, frame_size, rounded, thread_size}
use Rattle.object_builder.specs.Objects.Value.{U64}
use Rattle.object_builder.specs.Placing.{Stands}
use Rattle.object_builder.specs.Room.{HasRoom}
use Rattle.memory_builder.specs.Program.{Frame, Thread}
use Rattle.memory_builder.specs.Chains.{AllAt, head_of, laid_chain, addresses_from}
use Rattle.memory_builder.specs.declared.values.TypesAt.{TypesAt}
use Rattle.memory_builder.proofs.Plain.{IsThread, trace_for, traces_for}
use Rattle.memory_builder.specs.Frames.{laid_frame}
use Rattle.memory_builder.specs.Threads.{cframe_place, cframe_writes, frame_field, frames_place, laid_cframe}
use Rattle.memory_builder.specs.Threads.{laid_thread, laid_threads, thread_object, thread_writes}
use Rattle.object_builder.proofs.Objects.{length-object, u64_read}
use Rattle.object_builder.proofs.Placing.{record_stands_first, stands_left, stands_right, stands_object, stands_rest}
use Rattle.object_builder.proofs.Placing.{length-aligned, word_stands}
use Rattle.memory_builder.proofs.Chains.{chain_back, chain_even, head_below, length-chain, length-places}
use Rattle.object_builder.proofs.TextsBack.{place_optional}
use Rattle.memory_builder.proofs.FramesBack.{frame_even, length-frame}
use Rattle.memory_builder.proofs.DetailsBack.{frames_back}

-- ---- the C frame

cframe_group : (current first : ℕ) → IsGroup (current + 8) (map write_place (cframe_writes current first))
cframe_group current first = record { inside = (omega arith, tt); apart = (tt, tt) }

pub length-cframe : (o : Option CframeAt) (first : ℕ) → length (laid_cframe o first) ≡ cframe_size o
unfolding laid_cframe
length-cframe None first = refl
length-cframe (Some c) first = length-aligned (object (c.current + 8) (cframe_writes c.current first))
    ∙ ap rounded (length-object (c.current + 8) _ (cframe_group c.current first))

pub cframe_even : (o : Option CframeAt) → cframe_size o % 16 ≡ 0
cframe_even None = refl
cframe_even (Some c) = omega arith

-- the first frame, as the record's field leads to it; and what is laid behind stands there
cframe_back : {m : Memory} {a : ℕ} (o : Option CframeAt) (first : ℕ) (rest : List ℕ) → first < 2 ^ 64
    → Stands m a (laid_cframe o first ++ rest)
    → (frame_through o m (frame_field o a first) ≡ Ok first) × Stands m (a + cframe_size o) rest
unfolding laid_cframe
cframe_back {m} {a} None first rest below s = (refl, let same : a ≡ a + 0 = omega arith in rw same at s)
cframe_back (Some c) first rest below s =
    let g = cframe_group c.current first in
    let o = object (c.current + 8) (cframe_writes c.current first) in (
      word_stands (c.current + 8) (cframe_writes c.current first) 0 c.current first g refl below
          (stands_object o rest s),
      stands_rest o rest (c.current + 8) (length-object (c.current + 8) _ g) s,
    )

native_read : (len : ℕ) (ws : List Write) → IsGroup len (map write_place ws) → (i : ℕ) (o : Option ℕ) (v : ℕ)
    → slice_get ws i ≡ Some (optional_write o (U64 v)) → v < 2 ^ 64
    → ((at : ℕ) → o ≡ Some at → at + 8 ≤ len) → native_id o (take len (object len ws)) ≡ option_map (λ at. v) o
native_read len ws g i None v e fits h = refl
native_read len ws g i (Some at) v e fits h = ap Some (u64_read len ws g len (omega arith) i at v e fits (h at refl))

module _ (l : Layout) (sound : IsSound l) (types : TypesAt) where
  pub thread_group : (next interp id frame : ℕ) → IsGroup l.thread.size
      (map write_place (thread_writes l next interp id frame))
  unfolding thread_places
  thread_group next interp id frame = subst (λ (p : Place). IsGroup l.thread.size ((l.thread.next, 8)
      ∷ (l.thread.interp, 8) ∷ (l.thread.id, 8) ∷ (l.thread.frame, 8) ∷ p ∷ []))
      (sym (place_optional l.thread.native_id (U64 id))) sound.thread.group

  pub thread_even : (t : Thread) → thread_size l t % 16 ≡ 0
  unfolding thread_size
  thread_even t = omega (
    arith,
    cframe_even l.cframe,
    chain_even (frame_size l)
        (frame_even l sound types) t.frames,
  )

  length-thread_object : (interp a next : ℕ) (t : Thread) → length (thread_object l interp a next t) ≡ l.thread.size
  length-thread_object interp a next t = length-object l.thread.size _
      (thread_group next interp t.id (frame_field l.cframe (cframe_place l a) (head_of (frames_place l a) t.frames)))

  pub length-thread : (interp a next : ℕ) (t : Thread) → length (laid_thread l types interp a next t) ≡ thread_size l t
  unfolding laid_thread thread_size
  length-thread interp a next t =
      let n1 = length-thread_object interp a next t in
      let n2 = length-cframe l.cframe (head_of (frames_place l a) t.frames) in
      let n3 = length-chain (frame_size l) (laid_frame l types) (length-frame l sound types)
      (frames_place l a) t.frames in
      simp length-append (simp length-aligned (rw (n1, n2, n3) (omega arith)))

  pub frames_stand : (m : Memory) (interp a next : ℕ) (t : Thread) → Stands m a (laid_thread l types interp a next t)
      → Stands m (frames_place l a) (laid_chain (frame_size l) (laid_frame l types) (frames_place l a) t.frames)
  unfolding laid_thread
  frames_stand m interp a next t s =
      let first = head_of (frames_place l a) t.frames in
      let s1 = stands_rest (thread_object l interp a next t) _ l.thread.size (length-thread_object interp a next t) s in
      rw (length-cframe l.cframe first) at (stands_right (laid_cframe l.cframe first) _ s1)

module _ (l : Layout) (sound : IsSound l) (room : HasRoom l) (types : TypesAt) where
  -- what is read of a thread
  record IsThreadAt (q : Asked) (m : Memory) (interp a next : ℕ) (t : Thread) : Type 0 where
    after : thread_after l m a ≡ Ok next
    named : interpreter_named_by l m a ≡ Ok interp
    trace : IsTraceOf q l m a (trace_for q l a t)

  thread_back : (q : Asked) (m : Memory) (interp a next : ℕ) (t : Thread) → interp < 2 ^ 64 → a ≢ 0 → a % 16 ≡ 0
      → next < 2 ^ 64 → IsThread l t
      → Stands m a (laid_thread l types interp a next t) → IsThreadAt q m interp a next t
  unfolding laid_thread thread_after interpreter_named_by first_frame_at
  thread_back q m interp a next t interp_below some mul below is s =
      let o = thread_object l interp a next t in
      let first = head_of (frames_place l a) t.frames in
      let field = frame_field l.cframe (cframe_place l a) first in
      let ws = thread_writes l next interp t.id field in
      let g = thread_group l sound types next interp t.id field in
      let n = length-thread_object l sound types interp a next t in
      let fits = thread_fits sound in
      let frames = laid_chain (frame_size l) (laid_frame l types) (frames_place l a) t.frames in
      let s1 : Stands m (cframe_place l a) (laid_cframe l.cframe first ++ frames) = stands_rest o _ l.thread.size n s in
      let first_below : first < 2 ^ 64 = head_of_below (frames_place l a) t.frames (omega (
        arith,
        s1.ends,
        length-append (laid_cframe l.cframe first) frames,
        length-cframe l.cframe first,
      )) in
      let through = cframe_back l.cframe first frames first_below s1 in
      let field_below : field < 2 ^ 64 = field_small l.cframe (cframe_place l a) first (omega (
        arith,
        s1.ends,
      )) first_below in
      let thread = take l.thread.size o in
      let r : record_at m a l.thread.size ≡ Ok thread = record_stands_first l.thread.size (stands_object o _ s)
      (omega arith) in
      let w0 : u64_in thread l.thread.next ≡ next = u64_read l.thread.size ws g l.thread.size
      (omega arith) 0 _ _ refl below fits.next in
      let w1 : u64_in thread l.thread.interp ≡ interp = u64_read l.thread.size ws g l.thread.size
      (omega arith) 1 _ _ refl interp_below fits.interp in
      let w2 : u64_in thread l.thread.id ≡ t.id = u64_read l.thread.size ws g l.thread.size
      (omega arith) 2 _ _ refl is.id fits.id in
      let w3 : u64_in thread l.thread.frame ≡ field = u64_read l.thread.size ws g l.thread.size
      (omega arith) 3 _ _ refl field_below fits.frame in
      let w4 : native_id l.thread.native_id thread ≡ option_map (λ at. t.id) l.thread.native_id =
      native_read l.thread.size ws g 4 l.thread.native_id t.id refl is.id fits.native_id in
      record {
        after = rw (r, w0) refl;
        named = rw (r, w1) refl;
        trace = record {
          thread = thread;
          read = r;
          first = first;
          names = rw w3 through.0;
          fields = rw (w2, w4) refl;
          frames = frames_back l sound room types m q (frames_place l a) t.frames (omega arith) (omega (
            arith,
            cframe_even l.cframe,
          )) is.few is.frames through.1;
        };
      }
    where
      head_of_below : (a : ℕ) (fs : List Frame) → a < 2 ^ 64 → head_of a fs < 2 ^ 64
      head_of_below a [] h = omega arith
      head_of_below a (f ∷ fs) h = h

      field_small : (o : Option CframeAt) (a first : ℕ) → a < 2 ^ 64 → first < 2 ^ 64 → frame_field o a first < 2 ^ 64
      field_small None a first h k = k
      field_small (Some c) a first h k = h

  traces_of : (q : Asked) (m : Memory) (a : ℕ) (ts : List Thread)
      → AllAt (thread_size l) (λ at t. IsTraceOf q l m at (trace_for q l at t)) a ts
      → AreTracesOf q l m (addresses_from (thread_size l) a ts) (traces_for q l a ts)
  traces_of q m a [] h = tt
  traces_of q m a (t ∷ ts) h = (h.0, traces_of q m (a + thread_size l t) ts h.1)

  pub threads_each : (q : Asked) (m : Memory) (interp a : ℕ) (ts : List Thread) → interp < 2 ^ 64 → a ≢ 0 → a % 16 ≡ 0
      → AllByRecursion (IsThread l) ts → Stands m a (laid_threads l types interp a ts)
      → IsChain (thread_after l m) (head_of a ts) (addresses_from (thread_size l) a ts)
      × AllAt (thread_size l) (λ at t. IsTraceOf q l m at (trace_for q l at t)) a ts
  unfolding laid_threads
  threads_each q m interp a ts below some mul all s =
      chain_back (thread_size l) (laid_thread l types interp) (length-thread l sound types interp) m (IsThread l)
      (λ at t. IsTraceOf q l m at (trace_for q l at t)) (thread_after l m) (thread_even l sound types)
      (λ at next t some mul next_below is s. let h = thread_back q m interp at next t below some mul next_below is s in
      (h.after, h.trace))
      a ts some mul all s

  -- threads that stand in memory are the chain from the first one on, and these are their traces
  pub threads_back : (q : Asked) (m : Memory) (interp a : ℕ) (ts : List Thread) → interp < 2 ^ 64 → a ≢ 0 → a % 16 ≡ 0
      → length ts ≤ 4096 → AllByRecursion (IsThread l) ts
      → word_at m (interp + l.interpreter.threads) ≡ Ok (head_of a ts) → Stands m a (laid_threads l types interp a ts)
      → AreTraces q l m interp (traces_for q l a ts)
  threads_back q m interp a ts below some mul few all word s =
      let both = threads_each q m interp a ts below some mul all s in
      record {
        head = head_of a ts;
        names = word;
        threads = addresses_from (thread_size l) a ts;
        chain = both.0;
        each = traces_of q m a ts both.1;
        within = omega (arith, length-places (thread_size l) (λ at x. at) a ts);
      }

  -- the first of them names the interpreter
  pub first_named : (m : Memory) (interp a : ℕ) (t : Thread) (ts : List Thread) → interp < 2 ^ 64 → a ≢ 0 → a % 16 ≡ 0
      → AllByRecursion (IsThread l) (t ∷ ts)
      → Stands m a (laid_threads l types interp a (t ∷ ts)) → interpreter_named_by l m a ≡ Ok interp
  unfolding laid_threads laid_chain
  first_named m interp a t ts below some mul all s =
      let to = a + thread_size l t in
      let next = head_of to ts in
      let here = stands_left (laid_thread l types interp a next t) _ s in
      let rest : Stands m to (laid_chain (thread_size l) (laid_thread l types interp) to ts) =
      rw (length-thread l sound types interp a next t) at (stands_right (laid_thread l types interp a next t) _ s) in
      (thread_back nothing m interp a next t below some mul
      (head_below (thread_size l) (laid_thread l types interp) (length-thread l sound types interp) to ts rest) all.0
      here).named
