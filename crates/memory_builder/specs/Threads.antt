-- Threads, as they are laid: the record, the C frame where there is one, and the frames.
use Rattle.std.specs.Prelude.{ℕ, ◌+◌, Option, Some, None, List, [], ◌∷◌, ◌++◌}
use Rattle.py_fields.specs.declared.layout.CframeAt.{CframeAt}
use Rattle.py_fields.specs.declared.layout.Layout.{Layout}
use Rattle.object_builder.specs.Objects.{Write, optional_write, object, aligned}
use Rattle.object_builder.specs.Objects.Value.{U64}
use Rattle.memory_builder.specs.Program.{Thread}
use Rattle.memory_builder.specs.Chains.{head_of, laid_chain}
use Rattle.memory_builder.specs.Frames.{laid_frame}
use Rattle.memory_builder.specs.Sizes.{cframe_size, frame_size, rounded, thread_size}
use Rattle.memory_builder.specs.declared.values.TypesAt.{TypesAt}

-- ---- the C frame

-- the field of a C frame, `_PyCFrame`: the newest frame's address
abbrev pub cframe_writes : (current first : ℕ) → List Write
cframe_writes current first = record { at = current; value = U64 first } ∷ []

-- the C frame that names the newest frame, where the layout has one
unfoldable pub laid_cframe : Option CframeAt → ℕ → List ℕ
laid_cframe None first = []
laid_cframe (Some c) first = aligned (object (c.current + 8) (cframe_writes c.current first))

-- what the record says: the first frame, or where the C frame is, at `a`, that says it
abbrev pub frame_field : Option CframeAt → (a first : ℕ) → ℕ
frame_field None a first = first
frame_field (Some c) a first = a

-- ---- the group

-- the fields of a thread, `PyThreadState`: the next one, the interpreter, the ids, and what names the newest frame
abbrev pub thread_writes : Layout → (next interp id frame : ℕ) → List Write
thread_writes l next interp id frame =
    record { at = l.thread.next; value = U64 next } ∷
    record { at = l.thread.interp; value = U64 interp } ∷
    record { at = l.thread.id; value = U64 id } ∷
    record { at = l.thread.frame; value = U64 frame } ∷
    optional_write l.thread.native_id (U64 id) ∷ []

-- the address of a thread's C frame, behind its record
abbrev pub cframe_place : Layout → ℕ → ℕ
cframe_place l a = a + rounded l.thread.size

-- the address of a thread's newest frame, behind its C frame
abbrev pub frames_place : Layout → ℕ → ℕ
frames_place l a = cframe_place l a + cframe_size l.cframe

-- the record of a thread at an address, before the next one; 0 names no next one
abbrev pub thread_object : Layout → (interp a next : ℕ) → Thread → List ℕ
thread_object l interp a next t = object l.thread.size
    (thread_writes l next interp t.id (frame_field l.cframe (cframe_place l a) (head_of (frames_place l a) t.frames)))

-- all objects of a thread: its record, its C frame where there is one, and its frames
unfoldable pub laid_thread : Layout → TypesAt → (interp a next : ℕ) → Thread → List ℕ
laid_thread l types interp a next t =
    aligned (thread_object l interp a next t) ++
    (laid_cframe l.cframe (head_of (frames_place l a) t.frames) ++
    laid_chain (frame_size l) (laid_frame l types) (frames_place l a) t.frames)

-- all threads of an interpreter, one behind the other
unfoldable pub laid_threads : Layout → TypesAt → (interp a : ℕ) → List Thread → List ℕ
laid_threads l types interp a ts = laid_chain (thread_size l) (laid_thread l types interp) a ts
