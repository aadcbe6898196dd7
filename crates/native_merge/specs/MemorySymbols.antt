-- Answers for native addresses in memory.
use Rattle.std.specs.Prelude.{◌≡◌, ℕ, nat_eq, true, if◌then◌else◌, List, map, Option, Some, None, Result, Ok, Err, Vec}
use Rattle.std.specs.Global.{Global}
use Rattle.std.specs.Map.{lookup}
use Rattle.outside.specs.Counts.{count_after}
use Rattle.outside.specs.Files.{is_listed}
use Rattle.native_merge.specs.declared.native_frame.NativeFrame.{NativeFrame}
use Rattle.native_merge.specs.declared.symbol_fault.SymbolFault.{SymbolFault}
use Rattle.native_merge.specs.declared.symbol_fault.SymbolFault.TheVariants.{NoBinary, Failed, OutOfMemory}
use Rattle.native_merge.specs.Symbols.{SymbolsSeen}

-- addresses with their frames, the numbers of the calls that are to fail, how many calls there were, and how many
-- failed
pub record HeldSymbols : Type 0 where
  pub answers : List (ℕ × List NativeFrame)
  pub failing : List ℕ
  pub calls : ℕ
  pub faults : ℕ

-- addresses and frames that are held, as lists
abbrev pub answers_held : List (ℕ × Vec NativeFrame Global) → List (ℕ × List NativeFrame)
answers_held answers = map (λ a. (a.0, a.1.items)) answers

-- the frames of an address; its first answer counts
abbrev pub held_frames : List (ℕ × List NativeFrame) → ℕ → Option (List NativeFrame)
held_frames answers addr = lookup (λ held. nat_eq held addr) answers

-- what they mean: an address without an answer is lacking, and each answer is told, with lines and without
abbrev pub symbols_seen : HeldSymbols → SymbolsSeen
symbols_seen held = record {
  lacks = λ addr. held_frames held.answers addr ≡ None;
  tells = true;
  gives = λ addr lines frames. held_frames held.answers addr ≡ Some frames;
  faults = held.faults;
}

-- answers before the first call
abbrev pub unasked_symbols : List (ℕ × List NativeFrame) → List ℕ → HeldSymbols
unasked_symbols answers failing = record { answers = answers; failing = failing; calls = 0; faults = 0 }

-- what a call answers where there is memory
abbrev pub answer_held : HeldSymbols → Option (List NativeFrame) → Result (List NativeFrame) SymbolFault
answer_held held None = Err NoBinary
answer_held held (Some frames) = if is_listed held.failing held.calls then Err Failed else Ok frames

-- what a call answers for an address, where there is memory
abbrev pub held_answer : HeldSymbols → ℕ → Result (List NativeFrame) SymbolFault
held_answer held addr = answer_held held (held_frames held.answers addr)

-- the count of faults after an answer: one more after `Failed`
abbrev pub symbol_faults_with : ℕ → SymbolFault → ℕ
symbol_faults_with faults NoBinary = faults
symbol_faults_with faults Failed = count_after faults 1
symbol_faults_with faults OutOfMemory = faults

-- the count of faults after a result
abbrev pub symbol_faults : {T : Type 0} → ℕ → Result T SymbolFault → ℕ
symbol_faults faults (Ok _) = faults
symbol_faults faults (Err fault) = symbol_faults_with faults fault

-- what a call with this answer leaves
pub record HasAnswered {T : Type 0} (old : HeldSymbols) (answer : Result T SymbolFault)
    (new : HeldSymbols) : Type 0 where
  pub answers : new.answers ≡ old.answers
  pub failing : new.failing ≡ old.failing
  pub calls : new.calls ≡ count_after old.calls 1
  pub faults : new.faults ≡ symbol_faults old.faults answer
