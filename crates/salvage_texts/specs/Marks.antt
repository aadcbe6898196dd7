-- Which lines among those of frames are no frame's.
use Rattle.std.specs.Prelude.{◌≢◌, ℕ, List, Some}
use Rattle.py_builtins.specs.declared.error.ObjectError.{ObjectError}
use Rattle.py_fronts.specs.declared.chain_end.ChainEnd.{ChainEnd}
use Rattle.py_stacks.specs.declared.error.StackError.{StackError}
use Rattle.salvage_texts.specs.Ends.{frames_end_text, more_text}
use Rattle.salvage_texts.specs.Standings.{locals_fault, member_line}

-- a line is none of those that stand where something is missing: a member without names, frames that are left out, the
-- end of a chain, locals that can't be read
pub record IsNoMark (line : List ℕ) : Type 0 where
  pub member : (why : ObjectError) → line ≢ member_line why
  pub more : (between : ℕ) → line ≢ more_text between
  pub ended : (end : ChainEnd) (met : ℕ) → line ≢ frames_end_text end met
  pub locals : (fault : StackError) → line ≢ locals_fault (Some fault)
