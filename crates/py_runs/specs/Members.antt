-- The members of a thread's chain of frames, and the C frames of 3.11, as far as they are asked for and in memory.
use Rattle.std.specs.Prelude.{◌≡◌, ℕ, zero, suc, ◌+◌, nat_eq, not, Bool, true, false, List, [], ◌∷◌, Option, Some, None}
use Rattle.std.specs.Result.{result_ok}
use Rattle.process_memory.specs.Memory.{Memory, record_at, word_at}
use Rattle.py_fields.specs.declared.layout.CframeAt.{CframeAt}
use Rattle.py_fields.specs.declared.layout.Layout.{Layout}
use Rattle.py_runs.specs.declared.c_frame.CFrame.{CFrame}
use Rattle.py_runs.specs.declared.member.Member.{Member}
use Rattle.py_runs.specs.declared.member.Met.{Met}
use Rattle.py_runs.specs.declared.run_rule.RunEnd.{RunEnd}
use Rattle.py_runs.specs.declared.run_rule.RunEnd.TheVariants.{Each, Entry, Shim}

-- the first byte of some, where there is one
abbrev pub first_of : Option (List ℕ) → Option ℕ
first_of (Some (byte ∷ bytes)) = Some byte
first_of other = None

-- the byte at an address, and the word, where they are there
abbrev pub byte_known : Memory → ℕ → Option ℕ
byte_known m a = first_of (result_ok (record_at m a 1))

-- the word of 8 bytes at an address, where it is in memory
abbrev pub word_known : Memory → ℕ → Option ℕ
word_known m a = result_ok (word_at m a)

-- ---- where a run ends

-- whether a byte is there and is not this one
abbrev pub is_some_other : ℕ → Option ℕ → Bool
is_some_other n (Some byte) = not (nat_eq byte n)
is_some_other n None = false

-- whether a byte is there and is this one
abbrev pub is_this : ℕ → Option ℕ → Bool
is_this n (Some byte) = nat_eq byte n
is_this n None = false

-- a run ends at the member of an address
abbrev pub closes_at : RunEnd → Memory → ℕ → Bool
closes_at Each m a = true
closes_at (Entry place current previous) m a = is_some_other 0 (byte_known m (a + place))
closes_at (Shim place owner) m a = is_this owner (byte_known m (a + place))

-- ---- members

-- the member at an address, and whether a run ends at it
abbrev pub member_at : RunEnd → Memory → ℕ → Member
member_at e m a = record { address = a; is_last = closes_at e m a }

-- those behind one, where it leads to one
abbrev pub members_behind : Option ℕ → (ℕ → List Member) → List Member
members_behind (Some back) behind = behind back
members_behind None behind = []

-- at most so many members, from the one at an address on: each leads to the one behind it, and the last to 0 or to no
-- memory, or no more are asked for
unfoldable pub members_from : Layout → RunEnd → Memory → (count at : ℕ) → List Member
members_from l e m zero at = []
members_from l e m (suc count) zero = []
members_from l e m (suc count) (suc a) =
    member_at e m (suc a) ∷ members_behind (word_known m (suc a + l.frame.back)) (members_from l e m count)

-- what is read of a member: it, and where it leads to
pub record IsMet (l : Layout) (e : RunEnd) (m : Memory) (at : ℕ) (met : Met) : Type 0 where
  pub member : met.member ≡ member_at e m at
  pub back : met.back ≡ word_known m (at + l.frame.back)

-- ---- C frames

-- what is read of a C frame: it, and the one before, where both are in memory
abbrev pub c_frame_by : (at : ℕ) → Option ℕ → Option ℕ → Option (CFrame × ℕ)
c_frame_by at (Some current) (Some previous) = Some (record { address = at; current = current }, previous)
c_frame_by at _ _ = None

-- the C frame at an address, and the address of the one before it (`_PyCFrame` of 3.11)
abbrev pub c_frame_at : (current previous : ℕ) → Memory → ℕ → Option (CFrame × ℕ)
c_frame_at current previous m at = c_frame_by at (word_known m (at + current)) (word_known m (at + previous))

-- a C frame and those behind it, where it was read
abbrev pub c_frames_behind : Option (CFrame × ℕ) → (ℕ → List CFrame) → List CFrame
c_frames_behind (Some (c, previous)) behind = c ∷ behind previous
c_frames_behind None behind = []

-- at most so many C frames, from the one at an address on
unfoldable pub c_frames_from : (current previous : ℕ) → Memory → (count at : ℕ) → List CFrame
c_frames_from current previous m zero at = []
c_frames_from current previous m (suc count) zero = []
c_frames_from current previous m (suc count) (suc a) =
    c_frames_behind (c_frame_at current previous m (suc a)) (c_frames_from current previous m count)

-- ---- a thread

-- what a thread names as its newest frame, or as its newest C frame
abbrev pub named_by : Layout → Memory → (thread : ℕ) → Option ℕ
named_by l m thread = word_known m (thread + l.thread.frame)

-- the newest frame, by what a thread names: that frame, or the C frame that names it
abbrev pub current_of : Memory → Option CframeAt → ℕ → Option ℕ
current_of m None named = Some named
current_of m (Some c) named = word_known m (named + c.current)
