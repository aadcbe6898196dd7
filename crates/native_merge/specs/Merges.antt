-- What merged frames are, by what was answered for each address.
use Rattle.std.specs.Prelude.{◌≡◌, ◌≢◌, ℕ, ◌+◌, ◌≤◌, nat_eq, nat_le, nat_lt, ◌&&◌, ◌||◌, Bool, true, false, not, List}
use Rattle.std.specs.Prelude.{[], ◌∷◌, ◌++◌, count_by, Option, Some, None, IfOk, IfSome, Result, Ok, Err, Vec}
use Rattle.std.specs.Global.{Global}
use Rattle.std.specs.List.{AllZip}
use Rattle.std.specs.Map.{lookup}
use Rattle.outside.specs.Counts.{count_after}
use Rattle.py_process.specs.declared.binary.BinaryInfo.{BinaryInfo}
use Rattle.py_stacks.specs.declared.trace.Frame.{Frame}
use Rattle.py_stacks.specs.Frames.{Call}
use Rattle.native_merge.specs.declared.merge_error.MergeError.{MergeError}
use Rattle.native_merge.specs.declared.merge_error.MergeError.TheVariants.{Mismatch}
use Rattle.native_merge.specs.declared.symbol_fault.SymbolFault.TheVariants.{NoBinary, Failed, OutOfMemory as NoRoom}
use Rattle.native_merge.specs.Gathered.{capped}
use Rattle.native_merge.specs.MergedStacks.{StackItem, MergedFrame, Misfit, merged, pythons, natives, natives_in}
use Rattle.native_merge.specs.NativesShown.{NativeItem, ShowsFrame, answer_items}
use Rattle.native_merge.specs.PythonFrames.{calls, ends_part}
use Rattle.native_merge.specs.SymbolCaches.{Answer, AreKnown, HeldFrames, IsAfter, IsHeldAnswer, IsToldAnswer}
use Rattle.native_merge.specs.Symbols.{SymbolsSeen}

-- ---- which addresses are Python's

-- a binary is mapped at an address
abbrev pub is_mapped_at : ℕ → Option BinaryInfo → Bool
is_mapped_at addr None = false
is_mapped_at addr (Some binary) = nat_le binary.addr addr && nat_lt addr (binary.addr + binary.size)

-- one of Python's two binaries is
abbrev pub is_python : Option BinaryInfo → Option BinaryInfo → ℕ → Bool
is_python python libpython addr = is_mapped_at addr python || is_mapped_at addr libpython

-- lines are asked for at all other addresses
abbrev pub has_lines : (ℕ → Bool) → ℕ → Bool
has_lines python addr = not (python addr)

-- ---- what is answered for addresses

-- there was memory for an answer
abbrev pub HasRoom : Answer → Type 0
HasRoom answer = answer ≢ Err NoRoom

-- the answer for an address, and the cache before it and after it: the frame that was held, and then nothing is
-- asked; else what was answered, which is told or a fault, and `NoBinary` only for an address that is lacking
pub record IsAnswered (seen : SymbolsSeen) (python : ℕ → Bool) (held : HeldFrames) (addr : ℕ) (answer : Answer)
    (after : HeldFrames) : Type 0 where
  pub lacking : answer ≡ Err NoBinary → seen.lacks addr
  pub cached : IfSome (lookup (nat_eq addr) held.entries) (λ f. answer ≡ Ok (f ∷ []))
  pub told : lookup (nat_eq addr) held.entries ≡ None → IsToldAnswer seen addr (has_lines python addr) answer
  pub kept : IsAfter held after addr answer
  pub room : HasRoom answer

-- the answers for addresses, one for each, in order, and the cache before them and after them
pub data AreAnswered (seen : SymbolsSeen) (python : ℕ → Bool)
    : HeldFrames → List ℕ → List Answer → HeldFrames → Type 0 where
  NoMore : {held : HeldFrames} → AreAnswered seen python held [] [] held
  More : {held mid after : HeldFrames} {addr : ℕ} {answer : Answer} {addrs : List ℕ} {answers : List Answer}
      → IsAnswered seen python held addr answer mid → AreAnswered seen python mid addrs answers after
      → AreAnswered seen python held (addr ∷ addrs) (answer ∷ answers) after

-- an address that was asked about, whether or not there was memory for the answer, and the cache before it and after
-- it: the answer is the frame that was held, or what is told
pub record IsAsked (seen : SymbolsSeen) (python : ℕ → Bool) (held : HeldFrames) (addr : ℕ) (after : HeldFrames)
    : Type 0 where
  pub answer : Answer
  pub cached : IfSome (lookup (nat_eq addr) held.entries) (λ f. IsHeldAnswer f answer)
  pub told : lookup (nat_eq addr) held.entries ≡ None → IsToldAnswer seen addr (has_lines python addr) answer
  pub kept : IsAfter held after addr answer

-- the first of some addresses, or all of them, were asked about in order, and the cache before them and after them
pub data AreAsked (seen : SymbolsSeen) (python : ℕ → Bool) : HeldFrames → List ℕ → HeldFrames → Type 0 where
  Enough : {held : HeldFrames} {addrs : List ℕ} → AreAsked seen python held addrs held
  Asked : {held mid after : HeldFrames} {addr : ℕ} {addrs : List ℕ} → IsAsked seen python held addr mid
      → AreAsked seen python mid addrs after → AreAsked seen python held (addr ∷ addrs) after

-- whether an answer is the fault of its call
abbrev pub is_failed : Answer → Bool
is_failed (Ok fs) = false
is_failed (Err NoBinary) = false
is_failed (Err Failed) = true
is_failed (Err NoRoom) = false

-- how many answers are faults of their calls
abbrev pub failed_count : List Answer → ℕ
failed_count answers = count_by is_failed answers

-- what all answers add
unfoldable pub all_items : (ℕ → Bool) → List ℕ → List Answer → List (StackItem NativeItem)
all_items python [] answers = []
all_items python (addr ∷ addrs) [] = []
all_items python (addr ∷ addrs) (answer ∷ answers) =
    answer_items (python addr) addr answer ++ all_items python addrs answers

-- ---- the answer of a merge

-- merged frames are shown as these calls, or don't fit; the place of the cursor is what a u64 shows of it
abbrev pub ShowsMerged : (List ℕ → Bool) → Result (List (MergedFrame Call NativeItem)) Misfit
    → Result (List Call) MergeError → Type 0
ShowsMerged exists (Ok ms) (Ok shown) = AllZip (ShowsFrame exists) ms shown
ShowsMerged exists (Ok ms) (Err error) = ⊥
ShowsMerged exists (Err e) (Ok shown) = ⊥
ShowsMerged exists (Err e) (Err error) = error ≡ Mismatch (capped e.steps) e.frames

-- an answer with the calls of its frames
abbrev pub calls_of_answer : Result (Vec Frame Global) MergeError → Result (List Call) MergeError
calls_of_answer (Ok v) = Ok (calls v.items)
calls_of_answer (Err e) = Err e

-- The answer is that of the frames merged with what the answers for the addresses add. The count of faults rose by at
-- least as many as there are answers `Failed`, or stands at its end
pub record IsMerged (old new : SymbolsSeen) (exists : List ℕ → Bool) (python : ℕ → Bool) (frames : List Frame)
    (addrs : List ℕ) (held after : HeldFrames) (answer : Result (List Call) MergeError) : Type 0 where
  pub answers : List Answer
  pub each : AreAnswered old python held addrs answers after
  pub faults : count_after old.faults (failed_count answers) ≤ new.faults
  pub shows : ShowsMerged exists (merged ends_part (calls frames) (all_items python addrs answers)) answer

-- each Python frame stands among the merged ones once and in order, and so does each native one
abbrev pub EachOnce : Type 0
EachOnce = (fs : List Call) (is : List (StackItem NativeItem))
    → IfOk (merged ends_part fs is) (λ ms. (pythons ms ≡ fs) × (natives ms ≡ natives_in is))

-- where all that is held is told, so are the answers, also those that are held
pub record AllTold (seen : SymbolsSeen) (python : ℕ → Bool) (addrs : List ℕ) (answers : List Answer)
    (after : HeldFrames) : Type 0 where
  pub told : AllZip (λ addr answer. IsToldAnswer seen addr (has_lines python addr) answer) addrs answers
  pub known : AreKnown seen (has_lines python) after

-- where what a cache holds is as it is told, so are all answers, and what it holds after them
abbrev pub StayTold : SymbolsSeen → (ℕ → Bool) → Type 0
StayTold seen python = (held : HeldFrames) (addrs : List ℕ) (answers : List Answer) (after : HeldFrames)
    → AreAnswered seen python held addrs answers after → AreKnown seen (has_lines python) held
    → AllTold seen python addrs answers after
