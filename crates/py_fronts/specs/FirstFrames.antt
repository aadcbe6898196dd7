-- What the front of a thread's frames is, in the subject's own words.
use Rattle.std.specs.Prelude.{◌≡◌, ℕ, ◌*◌, ◌<◌, ◌≤◌, ◌⊎◌, List, [], ◌++◌, length, map, Ok, Err}
use Rattle.std.specs.List.{filter}
use Rattle.process_memory.specs.Memory.{Found, Memory}
use Rattle.py_fields.specs.declared.layout.Layout.{Layout}
use Rattle.py_stacks.specs.declared.asked.Asked.{Asked}
use Rattle.py_fronts.specs.FrameFronts.{FramesShown}
use Rattle.py_fronts.specs.Front.{Front, IsFront}
use Rattle.py_fronts.specs.Front.Break.{Lost}
use Rattle.py_fronts.specs.Front.Ending.{Broken}
use Rattle.py_fronts.specs.Members.{caller_of, is_kept}
use Rattle.py_fronts.specs.Standings.{standing_at}

-- all of the kept members, where they are at most twice the limit; else the first so many and the last so many, and how
-- many stand between them
pub record ShowsEnds (q : Asked) (l : Layout) (m : Memory) (limit : ℕ) (kept : List ℕ)
    (frames : FramesShown) : Type 0 where
  pub first : List ℕ
  pub hidden : List ℕ
  pub last : List ℕ
  pub parts : kept ≡ first ++ (hidden ++ last)
  pub shows_first : frames.first ≡ map (standing_at q l m) first
  pub counts : frames.between ≡ length hidden
  pub shows_last : frames.last ≡ map (standing_at q l m) last
  pub sizes : ((length kept ≤ 2 * limit) × (hidden ≡ []) × (last ≡ []))
      ⊎ ((2 * limit < length kept) × (length first ≡ limit) × (length last ≡ limit))

-- a front from a first member on; broken before the first one, where the word that leads to it isn't in memory
abbrev pub IsFrontFrom : Layout → Memory → ℕ → Found ℕ → Front → Type 0
IsFrontFrom l m most (Ok first) front = IsFront (caller_of l m) most first front
IsFrontFrom l m most (Err f) front = front ≡ record { members = []; ending = Broken (Lost f) }

-- the frames are those of the first members of a thread's chain of callers, of which at most `most` are met, less those
-- that are left out, and their ending is the chain's
pub record AreFirstFrames (q : Asked) (l : Layout) (m : Memory) (limit most : ℕ) (first : Found ℕ)
    (frames : FramesShown) : Type 0 where
  pub members : List ℕ
  pub front : IsFrontFrom l m most first (record { members = members; ending = frames.ending })
  pub met : frames.met ≡ length members
  pub shows : ShowsEnds q l m limit (filter (is_kept l m) members) frames
