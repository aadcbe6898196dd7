-- What an object that looks up native addresses means. The conventions are those of `Files` (outside).
use Rattle.std.specs.Prelude.{◌≡◌, ◌↔◌, ℕ, ◌≤◌, Bool, true, List}
use Rattle.native_merge.specs.declared.native_frame.NativeFrame.{NativeFrame}

-- which addresses it lacks, whether it tells its answers, whether some frames are its answer for an address, with or
-- without lines, and how many calls failed
pub record SymbolsSeen : Type 1 where
  pub lacks : ℕ → Type 0
  pub tells : Bool
  pub gives : ℕ → Bool → List NativeFrame → Type 0
  pub faults : ℕ

-- a call leaves what is lacking and what is told, and the count of faults doesn't fall
pub record SymbolsStay (before now : SymbolsSeen) : Type 0 where
  pub lacks : (addr : ℕ) → now.lacks addr ↔ before.lacks addr
  pub tells : now.tells ≡ before.tells
  pub gives : (addr : ℕ) (lines : Bool) (frames : List NativeFrame)
      → now.gives addr lines frames ↔ before.gives addr lines frames
  pub faults : before.faults ≤ now.faults

-- these frames are the answer for an address, where answers are told
abbrev pub IsAsTold : SymbolsSeen → ℕ → Bool → List NativeFrame → Type 0
IsAsTold seen addr lines frames = seen.tells ≡ true → seen.gives addr lines frames

-- where answers are told, an address has one alone, with lines and without
abbrev pub AnswersOnce : SymbolsSeen → Type 0
AnswersOnce seen = seen.tells ≡ true → (addr : ℕ) (lines : Bool) (frames others : List NativeFrame)
    → seen.gives addr lines frames → seen.gives addr lines others → frames ≡ others
