-- Threads that are known as a process's own: the system's word and a class stand for them. A thread's id is the thread
-- pointer of one of the process's status records (`pthread_self`, which `PyThread_get_thread_ident` of
-- Python/thread_pthread.h gives), and the code of its newest frame is of the class of codes (`PyCode_Type`).
use Rattle.std.specs.Prelude.{ℕ, ◌+◌, nat_eq, ◌&&◌, Bool, false, List, Ok, Err}
use Rattle.std.specs.List.{list_any}
use Rattle.elf64_core.specs.Fields.{u64_in}
use Rattle.process_memory.specs.Memory.{Found, Memory, ◌>>=◌, record_at, word_at}
use Rattle.py_fields.specs.declared.layout.Layout.{Layout}
use Rattle.py_stacks.specs.Frames.{records_at}
use Rattle.py_stacks.specs.Member.{MemberAt}
use Rattle.py_stacks.specs.Threads.{first_frame_at}
use Rattle.py_fronts.specs.ThreadFronts.{threads_front}

-- the class of the code of a member of a chain of frames
abbrev pub class_of_code : Layout → Memory → MemberAt → Found ℕ
class_of_code l m member = word_at m (member.code_at + l.object.klass)

-- the class of the code of a frame
abbrev pub code_class_at : Layout → Memory → (frame : ℕ) → Found ℕ
code_class_at l m frame = records_at l m frame >>= class_of_code l m

-- that of the newest frame of a thread, by its record
unfoldable pub newest_class_at : Layout → Memory → (thread : List ℕ) → Found ℕ
newest_class_at l m thread = first_frame_at l m thread >>= code_class_at l m

-- whether a word that was found is this class's address
abbrev pub is_class : (class : ℕ) → Found ℕ → Bool
is_class class (Ok found) = nat_eq found class
is_class class (Err f) = false

-- whether an address is among some
abbrev pub is_among : List ℕ → ℕ → Bool
is_among xs a = list_any (λ x. nat_eq x a) xs

-- whether a thread is known, by its record
abbrev pub is_known_by : Layout → Memory → (pointers : List ℕ) → (class : ℕ) → (thread : List ℕ) → Bool
is_known_by l m pointers class thread =
    is_among pointers (u64_in thread l.thread.id) && is_class class (newest_class_at l m thread)

-- whether the core's notes confirm a thread that was read
abbrev pub is_known_in : Layout → Memory → (pointers : List ℕ) → (class : ℕ) → Found (List ℕ) → Bool
is_known_in l m pointers class (Ok thread) = is_known_by l m pointers class thread
is_known_in l m pointers class (Err f) = false

-- whether the thread at an address is
unfoldable pub is_known : Layout → Memory → (pointers : List ℕ) → (class : ℕ) → ℕ → Bool
is_known l m pointers class a = is_known_in l m pointers class (record_at m a l.thread.size)

-- whether one of the threads of an interpreter is
unfoldable pub has_known : Layout → Memory → (pointers : List ℕ) → (class interpreter head : ℕ) → Bool
has_known l m pointers class interpreter head =
    list_any (is_known l m pointers class) (threads_front l interpreter m head).members
