-- A member of a thread's chain of frames, as it was read.
use Rattle.std.specs.Prelude.{ℕ, Option, Some, None, List, Ok, Err}
use Rattle.process_memory.specs.Memory.{Found}

-- its two records, with their addresses
pub record MemberAt : Type 0 where
  pub frame_at : ℕ
  pub frame : List ℕ
  pub code_at : ℕ
  pub code : List ℕ

-- what is found, where it is; for parts of a member that it may lack
abbrev pub readable : {T : Type 0} → Found T → Option T
readable (Ok x) = Some x
readable (Err f) = None
