-- Programs of instructions.
use Rattle.std.proofs.Common.{◌≡◌, ◌∙◌, ℕ, zero, suc, ◌+◌, ◌<◌, ◌≤◌, ◌≢◌, List, [], ◌∷◌, length, drop}
use Rattle.std.proofs.Common.{refl, sym, ap, arith, set}
use Rattle.std.specs.Prelude.{Result, Ok, Err}
use Rattle.std.proofs.lemmas.List.{get_or-set_other, get_or-set_same, length-drop}
use Rattle.std.proofs.Math.ListN.{length-set}
use Rattle.std.proofs.lemmas.Bool.{lt-ltb}
use Rattle.frame_rows.specs.declared.row.Row.{Row}
use Rattle.frame_rows.specs.declared.program.Walk.{Walk}
use Rattle.frame_rows.specs.declared.program.Flow.TheVariants.{Goes, Reached}
use Rattle.frame_rows.specs.declared.number.Flaw.{Flaw}
use Rattle.frame_rows.specs.declared.program.Frame.{Frame}
use Rattle.frame_rows.specs.declared.program.RowError.{RowError}
use Rattle.frame_rows.specs.declared.instruction.Read.{Read}
use Rattle.frame_rows.specs.Instructions.{instruction_in}
use Rattle.frame_rows.specs.Numbers.{HasRoom}
use Rattle.frame_rows.specs.Programs.{State, Holds, AreKept, Follows, remembers, Placed, Course, Going, Arrived}
use Rattle.frame_rows.specs.Programs.{Refused, does}
use Rattle.frame_rows.specs.Programs.{Ending, Whole, Broken, course_of}

-- ---- rows that are kept

-- a write behind them leaves them
kept_below : (kept rows : List Row) (i : ℕ) (row : Row) → length rows ≤ i → AreKept kept rows
    → AreKept (set kept i row) rows
kept_below kept [] i row h are = tt
kept_below kept (r ∷ rows) i row h are =
    let other : length rows ≢ i = omega (arith, h) in
    (get_or-set_other kept i (length rows) row r other ∙ are.0, kept_below kept rows i row (omega (arith, h)) are.1)

pub one_more_kept : (kept : List Row) (walk : Walk) (s : State) (at : ℕ) → walk.depth < length kept → Holds kept walk s
    → Follows (set kept walk.depth walk.row) (Ok (Goes (record walk { depth = walk.depth + 1 })))
    (remembers (length kept) at s)
one_more_kept kept walk s at room holds =
    let below : length s.remembered < length kept = omega (arith, holds.depth, room) in
    let place : length s.remembered ≡ walk.depth = sym holds.depth in
    rw (lt-ltb (length s.remembered) (length kept) below) (record {
      location = holds.location;
      row = holds.row;
      depth = omega (arith, holds.depth);
      within = simp length-set (omega (arith, room));
      are_kept = (
        rw (place, get_or-set_same kept walk.depth walk.row s.row room) holds.row,
        kept_below kept
            s.remembered walk.depth walk.row (omega (arith, holds.depth)) holds.are_kept,
      );
    })

-- ---- the list of a program's instructions, as the reader finds it

pub record Listing : Type 0 where
  pub list : List Placed
  pub ending : Ending

abbrev pub placed : ℕ → Read → Placed
placed at r = record { at = at; end = at + r.size; instruction = r.instruction }

abbrev pub one_more : Placed → Listing → Listing
one_more p others = record { list = p ∷ others.list; ending = others.ending }

abbrev pub listed : ℕ → Result Read Flaw → (Read → Listing) → Listing
listed at (Err flaw) rest = record { list = []; ending = Broken at flaw }
listed at (Ok r) rest = one_more (placed at r) (rest r)

-- each instruction has a byte at least, so there are no more than bytes
unfoldable pub listing : ℕ → ℕ → List ℕ → Listing
listing zero at bytes = record { list = []; ending = Whole }
listing (suc most) at [] = record { list = []; ending = Whole }
listing (suc most) at (b ∷ bytes) = listed at (instruction_in (b ∷ bytes))
    (λ r. listing most (at + r.size) (drop r.size (b ∷ bytes)))

pub none_listed : (most at : ℕ) (bytes : List ℕ) → length bytes ≡ 0 → listing most at bytes
    ≡ record { list = []; ending = Whole }
unfolding listing
none_listed zero at bytes e = refl
none_listed (suc most) at [] e = refl
none_listed (suc most) at (b ∷ bytes) e = absurd (omega (arith, e))

pub next_listed : (most at : ℕ) (bytes : List ℕ) (r : Result Read Flaw) → length bytes ≢ 0 → instruction_in bytes ≡ r
    → listing (suc most) at bytes ≡ listed at r (λ r. listing most (at + r.size) (drop r.size bytes))
unfolding listing
next_listed most at [] r some is = absurd (some refl)
next_listed most at (b ∷ bytes) r some is = ap
    (λ (x : Result Read Flaw). listed at x (λ r. listing most (at + r.size) (drop r.size (b ∷ bytes)))) is

-- ---- how a program goes, as a walk finds it

abbrev pub course : Frame → ℕ → Course → Listing → Course
course frame cap c l = course_of frame cap c l.list l.ending

pub course_one : (frame : Frame) (cap : ℕ) (s : State) (p : Placed) (l : Listing)
    → course frame cap (Going s) (one_more p l) ≡ course frame cap (does frame cap s p.at p.end p.instruction) l
unfolding course_of
course_one frame cap s p l = refl

pub course_none : (frame : Frame) (cap : ℕ) (c : Course) → course frame cap c (record { list = []; ending = Whole }) ≡ c
unfolding course_of
course_none frame cap c = refl

pub course_broken : (frame : Frame) (cap : ℕ) (s : State) (at : ℕ) (flaw : Flaw)
    → course frame cap (Going s) (record { list = []; ending = Broken at flaw }) ≡ Refused at flaw
unfolding course_of
course_broken frame cap s at flaw = refl

arrived_stays : (frame : Frame) (cap : ℕ) (row : Row) (list : List Placed) (ending : Ending)
    → course_of frame cap (Arrived row) list ending ≡ Arrived row
unfolding course_of
arrived_stays frame cap row [] Whole = refl
arrived_stays frame cap row [] (Broken at flaw) = refl
arrived_stays frame cap row (p ∷ ps) ending = arrived_stays frame cap row ps ending

refused_stays : (frame : Frame) (cap at : ℕ) (flaw : Flaw) (list : List Placed) (ending : Ending)
    → course_of frame cap (Refused at flaw) list ending ≡ Refused at flaw
unfolding course_of
refused_stays frame cap at flaw [] Whole = refl
refused_stays frame cap at flaw [] (Broken place cause) = refl
refused_stays frame cap at flaw (p ∷ ps) ending = refused_stays frame cap at flaw ps ending

-- a walk that has come to a place, and how the program goes in all
pub record IsAhead (frame : Frame) (kept : List Row) (walk : Walk) (at : ℕ) (rest : List ℕ) (target : Course) : Type 0
  where
    pub state : State
    pub holds : Holds kept walk state
    pub most : ℕ
    pub enough : length rest ≤ most
    pub is : course frame (length kept) (Going state) (listing most at rest) ≡ target

module _ (frame : Frame) (kept : List Row) (walk : Walk) (at : ℕ) (rest : List ℕ) (target : Course) where
  -- behind one more instruction
  passes : (most : ℕ) (s : State) (r : Read) → length rest ≤ most
      → course frame (length kept) (Going s) (listing most at rest) ≡ target
      → instruction_in rest ≡ Ok r → HasRoom (length rest) r.size
      → (fewer : ℕ) × (length (drop r.size rest) ≤ fewer)
      × (course frame (length kept) (does frame (length kept) s at (at + r.size) r.instruction)
      (listing fewer (at + r.size) (drop r.size rest)) ≡ target)
  passes zero s r enough is read room = absurd (omega (arith, enough, room.begins, room.ends))
  passes (suc most) s r enough is read room =
      let some : length rest ≢ 0 = omega (arith, room.begins, room.ends) in
      let next = next_listed most at rest (Ok r) some read in (
        most,
        simp length-drop (omega (arith, enough, room.begins)),
        sym (course_one frame (length kept) s (placed at r) (listing most (at + r.size) (drop r.size rest)))
            ∙ ap (course frame (length kept) (Going s)) (sym next) ∙ is,
      )

  pub walk_refused : (ahead : IsAhead frame kept walk at rest target) (flaw : Flaw) → length rest ≢ 0
      → instruction_in rest ≡ Err flaw → target ≡ Refused at flaw
  walk_refused ahead flaw some read = refused_at ahead.most ahead.enough ahead.is where
    refused_at : (most : ℕ) → length rest ≤ most → course frame (length kept) (Going ahead.state) (listing most at rest)
        ≡ target → target ≡ Refused at flaw
    refused_at zero enough is = absurd (omega (arith, enough, some))
    refused_at (suc most) enough is = sym is
        ∙ ap (course frame (length kept) (Going ahead.state)) (next_listed most at rest (Err flaw) some read)
        ∙ course_broken frame (length kept) ahead.state at flaw

  pub walk_ends : (ahead : IsAhead frame kept walk at rest target) → length rest ≡ 0 → target ≡ Going ahead.state
  walk_ends ahead none = sym ahead.is
      ∙ ap (course frame (length kept) (Going ahead.state)) (none_listed ahead.most at rest none)
      ∙ course_none frame (length kept) (Going ahead.state)

  pub walk_arrives : (ahead : IsAhead frame kept walk at rest target) (r : Read) (row : Row) → instruction_in rest
      ≡ Ok r → HasRoom (length rest) r.size
      → does frame (length kept) ahead.state at (at + r.size) r.instruction ≡ Arrived row → target ≡ Arrived row
  walk_arrives ahead r row read room there =
      let past = passes ahead.most ahead.state r ahead.enough ahead.is read room in
      let l = listing past.0 (at + r.size) (drop r.size rest) in
      sym past.2 ∙ ap (λ c. course frame (length kept) c l) there
      ∙ arrived_stays frame (length kept) row l.list l.ending

  pub walk_stops : (ahead : IsAhead frame kept walk at rest target) (r : Read) (place : ℕ) (flaw : Flaw)
      → instruction_in rest ≡ Ok r → HasRoom (length rest) r.size
      → does frame (length kept) ahead.state at (at + r.size) r.instruction ≡ Refused place flaw → target
      ≡ Refused place flaw
  walk_stops ahead r place flaw read room there =
      let past = passes ahead.most ahead.state r ahead.enough ahead.is read room in
      let l = listing past.0 (at + r.size) (drop r.size rest) in
      sym past.2 ∙ ap (λ c. course frame (length kept) c l) there
      ∙ refused_stays frame (length kept) place flaw l.list l.ending

  pub walk_goes : (ahead : IsAhead frame kept walk at rest target) (r : Read) (kept' : List Row) (walk' : Walk)
      (s : State) → instruction_in rest ≡ Ok r → HasRoom (length rest) r.size
      → does frame (length kept) ahead.state at (at + r.size) r.instruction ≡ Going s → Holds kept' walk' s
      → length kept' ≡ length kept
      → IsAhead frame kept' walk' (at + r.size) (drop r.size rest) target
  walk_goes ahead r kept' walk' s read room goes holds long =
      let past = passes ahead.most ahead.state r ahead.enough ahead.is read room in
      let l = listing past.0 (at + r.size) (drop r.size rest) in
      record {
        state = s;
        holds = holds;
        most = past.0;
        enough = past.1;
        is = ap (λ (n : ℕ). course frame n (Going s) l) long ∙ ap (λ c. course frame (length kept) c l) (sym goes)
            ∙ past.2;
      }

-- what a step that follows its course says
pub refusal : (kept : List Row) (e : RowError) (course : Course) → Follows kept (Err e) course → course
    ≡ Refused e.at e.flaw
refusal kept e (Going s) f = absurd f
refusal kept e (Arrived row) f = absurd f
refusal kept e (Refused place flaw) f = rw (f.0, f.1) refl

pub arrival : (kept : List Row) (row : Row) (course : Course) → Follows kept (Ok (Reached row)) course → course
    ≡ Arrived row
arrival kept row (Going s) f = absurd f
arrival kept row (Arrived r) f = rw f refl
arrival kept row (Refused place flaw) f = absurd f

pub going : (kept : List Row) (w : Walk) (course : Course) → Follows kept (Ok (Goes w)) course → (s : State)
    × (course ≡ Going s) × Holds kept w s
going kept w (Going s) f = (s, refl, f)
going kept w (Arrived r) f = absurd f
going kept w (Refused place flaw) f = absurd f
