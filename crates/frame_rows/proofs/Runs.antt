-- The list of a program's instructions: it is there, and one alone.
use Rattle.std.proofs.Common.{◌≡◌, ◌∙◌, ℕ, zero, suc, ◌+◌, ◌≤◌, ◌≢◌, List, [], ◌∷◌, ◌++◌, length, drop, refl, sym, ap}
use Rattle.std.proofs.Common.{arith, length-append}
use Rattle.std.specs.Prelude.{Result, Ok, Err}
use Rattle.std.proofs.lemmas.List.{length-drop}
use Rattle.frame_rows.specs.declared.number.Flaw.{Flaw}
use Rattle.frame_rows.specs.declared.instruction.Instruction.{Instruction}
use Rattle.frame_rows.specs.declared.instruction.Read.{Read}
use Rattle.frame_rows.specs.declared.row.Row.{Row}
use Rattle.frame_rows.specs.declared.program.Frame.{Frame}
use Rattle.frame_rows.specs.declared.program.Flow.{Flow}
use Rattle.frame_rows.specs.declared.program.RowError.{RowError}
use Rattle.frame_rows.specs.Instructions.{Spells, instruction_in}
use Rattle.frame_rows.specs.Programs.{State, Placed, Going, Ending, Whole, Broken, IsBroken, AreInstructions, Runs}
use Rattle.frame_rows.specs.Programs.{Follows}
use Rattle.frame_rows.proofs.Faults.{instruction_fails, one_fault}
use Rattle.frame_rows.proofs.Grammar.{behind_is, spelled_read, read_spelled}
use Rattle.frame_rows.proofs.Programs.{listing, listed, placed, one_more, none_listed, next_listed, course}

-- ---- it is there

both : (e : Flaw) (r : Read) → ◌≡◌ {A = Result Read Flaw} (Err e) (Ok r) → ⊥
both e r is = cc

broken_is : (bytes : List ℕ) (flaw : Flaw) → bytes ≢ [] → instruction_in bytes ≡ Err flaw → IsBroken bytes flaw
broken_is bytes flaw some is = record {
  some = some;
  none = λ text rest i parts spells. both flaw (record { instruction = i; size = length text }) (sym is
      ∙ ap instruction_in parts ∙ spelled_read text rest i spells);
  cause = instruction_fails bytes flaw some is;
}

spelled_some : (text : List ℕ) (i : Instruction) → Spells text i → 1 ≤ length text
spelled_some text i s = omega (arith, ap length s.parts)

listed_is : (most at : ℕ) (bytes : List ℕ) (r : Result Read Flaw) → bytes ≢ [] → length bytes ≤ suc most
    → instruction_in bytes ≡ r
    → ((place : ℕ) (rest : List ℕ) → length rest ≤ most
    → AreInstructions place rest (listing most place rest).list (listing most place rest).ending)
    → AreInstructions at bytes (listed at r (λ r. listing most (at + r.size) (drop r.size bytes))).list
    (listed at r (λ r. listing most (at + r.size) (drop r.size bytes))).ending
listed_is most at bytes (Err flaw) some enough is later = (refl, broken_is bytes flaw some is)
listed_is most at bytes (Ok r) some enough is later =
    let found = read_spelled bytes r is in
    let begins = spelled_some found.text r.instruction found.spells in
    let behind : drop r.size bytes
    ≡ found.behind = behind_is bytes found.text found.behind r.size found.parts found.long in
    let fewer : length (drop r.size bytes) ≤ most = simp length-drop (omega (arith, enough, begins, found.long)) in (
      drop r.size bytes,
      record {
        text = found.text;
        spells = found.spells;
        parts = found.parts
            ∙ ap (λ (l : List ℕ). found.text ++ l) (sym behind);
        begins = refl;
        ends = ap (λ (n : ℕ). at + n) found.long;
      },
      later (at + r.size) (drop r.size bytes) fewer,
    )

some_there : (b : ℕ) (bytes : List ℕ) → b ∷ bytes ≢ []
some_there b bytes = λ e. absurd (omega (arith, ap length e))

pub listing_is : (most at : ℕ) (bytes : List ℕ) → length bytes ≤ most
    → AreInstructions at bytes (listing most at bytes).list (listing most at bytes).ending
unfolding listing
listing_is zero at [] enough = refl
listing_is zero at (b ∷ bytes) enough = absurd (omega (arith, enough))
listing_is (suc most) at [] enough = refl
listing_is (suc most) at (b ∷ bytes) enough = listed_is most at (b ∷ bytes) (instruction_in (b ∷ bytes))
    (some_there b bytes) enough refl (λ place rest. listing_is most place rest)

pub runs_is : (frame : Frame) (old : List Row) (s : State) (base : ℕ) (program : List ℕ) (new : List Row)
    (result : Result Flow RowError)
    → Follows new result (course frame (length old) (Going s) (listing (length program) base program))
    → Runs frame old s base program new result
runs_is frame old s base program new result follows = record {
  list = (listing (length program) base program).list;
  ending = (listing (length program) base program).ending;
  are = listing_is (length program) base program (omega arith);
  follows = follows;
}

-- ---- it is one alone

none_or_some : (bytes : List ℕ) → bytes ≢ [] → length bytes ≢ 0
none_or_some [] some = absurd (some refl)
none_or_some (b ∷ bytes) some = omega arith

same_placed : (p : Placed) (at end : ℕ) → p.at ≡ at → p.end ≡ end
    → record { at = at; end = end; instruction = p.instruction } ≡ p
same_placed p at end begins ends = ap (λ (n : ℕ). record { at = n; end = end; instruction = p.instruction })
    (sym begins) ∙ ap (λ (n : ℕ). record { at = p.at; end = n; instruction = p.instruction }) (sym ends)

-- what is broken is not read, and for its cause
broken_read : (bytes : List ℕ) (flaw : Flaw) (r : Result Read Flaw) → instruction_in bytes ≡ r → IsBroken bytes flaw → r
    ≡ Err flaw
broken_read bytes flaw (Ok r) is broken =
    let found = read_spelled bytes r is in
    absurd (broken.none found.text found.behind r.instruction found.parts found.spells)
broken_read bytes flaw (Err f) is broken = ap (λ (k : Flaw). Err k)
    (one_fault bytes f flaw (instruction_fails bytes f broken.some is) broken.cause)

pub listing_only : (most at : ℕ) (bytes : List ℕ) (list : List Placed) (ending : Ending) → length bytes ≤ most
    → AreInstructions at bytes list ending → listing most at bytes ≡ record { list = list; ending = ending }
listing_only most at bytes [] Whole enough are = none_listed most at bytes (ap length are)
listing_only zero at bytes [] (Broken place flaw) enough are = absurd
    (none_or_some bytes are.1.some (omega (arith, enough)))
listing_only (suc most) at bytes [] (Broken place flaw) enough are =
    next_listed most at bytes (Err flaw) (none_or_some bytes are.1.some)
    (broken_read bytes flaw (instruction_in bytes) refl are.1)
    ∙ ap (λ (n : ℕ). record { list = []; ending = Broken n flaw }) (sym are.0)
listing_only zero at bytes (p ∷ ps) ending enough are =
    absurd
    (omega (
      arith,
      enough,
      ap length are.1.parts,
      length-append are.1.text are.0,
      spelled_some are.1.text p.instruction
          are.1.spells,
    ))
listing_only (suc most) at bytes (p ∷ ps) ending enough are =
    let stands = are.1 in
    let r : Read = record { instruction = p.instruction; size = length stands.text } in
    let begins = spelled_some stands.text p.instruction stands.spells in
    let whole : length bytes ≡ length stands.text + length are.0 = ap length stands.parts
    ∙ length-append stands.text are.0 in
    let read : instruction_in bytes ≡ Ok r = ap instruction_in stands.parts
    ∙ spelled_read stands.text are.0 p.instruction stands.spells in
    let some : length bytes ≢ 0 = omega (arith, whole, begins) in
    let behind : drop (length stands.text) bytes
    ≡ are.0 = behind_is bytes stands.text are.0 (length stands.text) stands.parts refl in
    let later = listing_only most p.end are.0 ps ending (omega (arith, whole, begins, enough)) are.2 in
    next_listed most at bytes (Ok r) some read
    ∙ ap (λ (l : List ℕ). one_more (placed at r) (listing most (at + length stands.text) l)) behind
    ∙ ap (λ (n : ℕ). one_more (placed at r) (listing most n are.0)) (sym stands.ends)
    ∙ ap (one_more (placed at r)) later
    ∙ ap (λ (q : Placed). record { list = q ∷ ps; ending = ending })
    (same_placed p at (at + length stands.text) stands.begins stands.ends)
