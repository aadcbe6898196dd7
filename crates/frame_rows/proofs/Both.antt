-- The initial instructions and an entry's own, one behind the other.
use Rattle.std.proofs.Common.{◌≡◌, ◌∙◌, ℕ, List, length, refl, sym, ap, arith, subst}
use Rattle.std.specs.Prelude.{Result, Ok, Err}
use Rattle.frame_rows.specs.declared.row.Row.{Row}
use Rattle.frame_rows.specs.declared.program.Frame.{Frame}
use Rattle.frame_rows.specs.declared.program.Walk.{Walk}
use Rattle.frame_rows.specs.declared.program.Flow.{Flow}
use Rattle.frame_rows.specs.declared.program.Flow.TheVariants.{Goes, Reached}
use Rattle.frame_rows.specs.declared.program.RowError.{RowError}
use Rattle.frame_rows.specs.declared.answer.Convention.{Convention}
use Rattle.frame_rows.specs.Rows.{empty_row}
use Rattle.frame_rows.specs.Programs.{State, Course, Going, Arrived, Refused, Holds, Follows, Runs, course_of}
use Rattle.frame_rows.specs.Answer.{start, frame_of, goes_on, whole_course, row_of, AreBoth, IsRow, FollowsBoth}
use Rattle.frame_rows.proofs.Programs.{Listing, listing, refusal, arrival, going}
use Rattle.frame_rows.proofs.Runs.{listing_is, listing_only}

module _ (a : Convention) (initial own : List ℕ) (begin address : ℕ) where
  pub begins : (frame : Frame) (walk : Walk) (kept kept' : List Row) (result : Result Flow RowError) → frame
      ≡ frame_of a address empty_row
      → walk.location ≡ begin → walk.row ≡ empty_row → walk.depth ≡ 0
      → ((s : State) → Holds kept walk s → Runs frame kept s 0 initial kept' result)
      → Runs (frame_of a address empty_row) kept (start begin) 0 initial kept' result
  begins frame walk kept kept' result is location row depth runs =
      subst (λ (f : Frame). Runs f kept (start begin) 0 initial kept' result) is
      (runs (start begin)
      (record { location = location; row = row; depth = depth; within = omega (arith, depth); are_kept = tt }))

  abbrev with_own : (kept kept' : List Row) (result : Result Flow RowError)
      → Runs (frame_of a address empty_row) kept (start begin) 0 initial kept' result → AreBoth initial own
  with_own kept kept' result runs = record {
    firsts = runs.list;
    ended = runs.ending;
    are_firsts = runs.are;
    owns = (listing (length own) (length initial) own).list;
    ending = (listing (length own) (length initial) own).ending;
    are_owns = listing_is (length own) (length initial) own (omega arith);
  }

  pub refused_first : (kept kept' : List Row) (e : RowError)
      → Runs (frame_of a address empty_row) kept (start begin) 0 initial kept' (Err e)
      → FollowsBoth a initial own begin address (length kept) kept' (Err e)
  refused_first kept kept' e runs =
      let both = with_own kept kept' (Err e) runs in
      let course = course_of (frame_of a address empty_row) (length kept) (Going (start begin)) runs.list runs.ending in
      let is : course ≡ Refused e.at e.flaw = refusal kept' e course runs.follows in
      let same : Follows kept' (Err e) (Refused e.at e.flaw) = (refl, refl) in
      record {
        both = both;
        follows = subst
            (λ (c : Course). Follows kept' (Err e) (goes_on a address (length kept) both.owns both.ending c)) (sym is)
            same;
      }

  pub arrived_first : (kept kept' : List Row) (row : Row)
      → Runs (frame_of a address empty_row) kept (start begin) 0 initial kept' (Ok (Reached row))
      → FollowsBoth a initial own begin address (length kept) kept' (Ok (Reached row))
  arrived_first kept kept' row runs =
      let both = with_own kept kept' (Ok (Reached row)) runs in
      let course = course_of (frame_of a address empty_row) (length kept) (Going (start begin)) runs.list runs.ending in
      let is : course ≡ Arrived row = arrival kept' row course runs.follows in
      let same : Follows kept' (Ok (Reached row)) (Arrived row) = refl in
      record {
        both = both;
        follows = subst
            (λ (c : Course). Follows kept' (Ok (Reached row)) (goes_on a address (length kept) both.owns both.ending c))
            (sym is) same;
      }

  pub gone_on : (kept kept' last : List Row) (frame : Frame) (w : Walk) (result : Result Flow RowError)
      → Runs (frame_of a address empty_row) kept (start begin) 0 initial kept' (Ok (Goes w))
      → frame ≡ frame_of a address w.row → length kept' ≡ length kept
      → ((s : State) → Holds kept' w s → Runs frame kept' s (length initial) own last result)
      → FollowsBoth a initial own begin address (length kept) last result
  gone_on kept kept' last frame w result runs is long then =
      let course = course_of (frame_of a address empty_row) (length kept) (Going (start begin)) runs.list runs.ending in
      let on = going kept' w course runs.follows in
      let second = then on.0 on.2 in
      let frame_now : frame ≡ frame_of a address on.0.row = is ∙ ap (frame_of a address) on.2.row in
      let first : Follows last result (course_of (frame_of a address on.0.row) (length kept') (Going on.0) second.list
      second.ending) =
      subst (λ (f : Frame). Follows last result (course_of f (length kept') (Going on.0) second.list second.ending))
      frame_now second.follows in
      let as_long : Follows last result (course_of (frame_of a address on.0.row) (length kept) (Going on.0) second.list
      second.ending) =
      subst
      (λ (n : ℕ). Follows last result
      (course_of (frame_of a address on.0.row) n (Going on.0) second.list second.ending)) long first in
      record {
        both = record {
          firsts = runs.list;
          ended = runs.ending;
          are_firsts = runs.are;
          owns = second.list;
          ending =
              second.ending;
          are_owns = second.are;
        };
        follows = subst
            (λ (c : Course). Follows last result (goes_on a address (length kept) second.list second.ending c))
            (sym on.1) as_long;
      }

  -- ---- the answer

  abbrev the_course : ℕ → Listing → Listing → Course
  the_course most first second = whole_course a begin address most first.list first.ending second.list second.ending

  one_course : (most : ℕ) (both : AreBoth initial own)
      → the_course most (listing (length initial) 0 initial) (listing (length own) (length initial) own)
      ≡ whole_course a begin address most both.firsts both.ended both.owns both.ending
  one_course most both =
      ap (λ (l : Listing). the_course most l (listing (length own) (length initial) own))
      (listing_only (length initial) 0 initial both.firsts both.ended (omega arith) both.are_firsts)
      ∙ ap (λ (l : Listing). the_course most (record { list = both.firsts; ending = both.ended }) l)
      (listing_only (length own) (length initial) own both.owns both.ending (omega arith) both.are_owns)

  -- two answers are one
  pub one_row : (most : ℕ) (x y : Result Row RowError) → IsRow a initial own begin address most x
      → IsRow a initial own begin address most y → x ≡ y
  one_row most x y p q = p.is ∙ ap row_of (sym (one_course most p.both) ∙ one_course most q.both) ∙ sym q.is

-- what the reader makes of its result
abbrev pub answer_of : Result Flow RowError → Result Row RowError
answer_of (Ok (Goes w)) = Ok w.row
answer_of (Ok (Reached row)) = Ok row
answer_of (Err e) = Err e

answered : (kept : List Row) (result : Result Flow RowError) (course : Course) → Follows kept result course
    → answer_of result ≡ row_of course
answered kept (Ok (Goes w)) (Going s) f = ap Ok f.row
answered kept (Ok (Goes w)) (Arrived row) f = absurd f
answered kept (Ok (Goes w)) (Refused at flaw) f = absurd f
answered kept (Ok (Reached r)) (Going s) f = absurd f
answered kept (Ok (Reached r)) (Arrived row) f = ap Ok f
answered kept (Ok (Reached r)) (Refused at flaw) f = absurd f
answered kept (Err e) (Going s) f = absurd f
answered kept (Err e) (Arrived row) f = absurd f
answered kept (Err e) (Refused at flaw) f = rw (f.0, f.1) refl

pub row_is : (a : Convention) (initial own : List ℕ) (begin address most : ℕ) (kept : List Row)
    (result : Result Flow RowError) → FollowsBoth a initial own begin address most kept result
    → IsRow a initial own begin address most (answer_of result)
row_is a initial own begin address most kept result f = record {
  both = f.both;
  is = answered kept result (whole_course a begin address most f.both.firsts f.both.ended f.both.owns f.both.ending)
      f.follows;
}
