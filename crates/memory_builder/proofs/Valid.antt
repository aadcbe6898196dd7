-- What a valid program says of its frames and threads, as what is read of them wants it.
use Rattle.std.proofs.Common.{◌≡◌, ◌≢◌, ℕ, ◌<◌, ◌≤◌, ◌^◌, ltb, leb, Bool, true, false, ◌&&◌, List, [], ◌∷◌, length}
use Rattle.std.proofs.Common.{take, refl, arith}
use Rattle.std.specs.Prelude.{ℤ, pos, negsuc, unsigned_abs, Option, Some, None, IfSome, IsTrue, slice_get, ◌||◌}
use Rattle.std.specs.List.{AllByRecursion, list_any}
use Rattle.std.specs.Int.{w32}
use Rattle.std.specs.Int.RustNames.{FitsSigned}
use Rattle.std.proofs.lemmas.Bool.{ltb-true}
use Rattle.std.proofs.lemmas.Int.{ints}
use Rattle.py_fields.specs.declared.layout.Layout.{Layout}
use Rattle.py_lines.specs.declared.lines.LineFamily.{LineFamily}
use Rattle.py_lines.specs.declared.lines.LineRange.{LineRange}
use Rattle.py_lines.specs.Lines.{holds}
use Rattle.py_lines.specs.Coding.{AreLines, IsLine, end_of, first_unordered}
use Rattle.py_lines.proofs.Coding.{all_stand, stands_so}
use Rattle.py_lines.proofs.Readback.{keeps_lines}
use Rattle.py_stacks.specs.Lines.{family_of}
use Rattle.memory_builder.specs.Frames.{coded_lines}
use Rattle.memory_builder.specs.Program.{Frame, Local, Program, Thread}
use Rattle.memory_builder.specs.Validity.{HasPositiveLine, IsBriefText, IsPositiveLine, IsValidFrame, IsValidHeld}
use Rattle.memory_builder.specs.Validity.{IsValidIn, IsValidLocal, IsValidProgram, IsValidRange}
use Rattle.memory_builder.proofs.Lists.{somewhere_all}
use Rattle.memory_builder.proofs.Names.{hidden_not}
use Rattle.memory_builder.proofs.Plain.{IsFrame, IsThread}
use Rattle.memory_builder.proofs.Programs.{owner_valid}
use Rattle.memory_builder.proofs.ProgramBack.{IsWhole}

-- ---- lines

first_small : (z : ℤ) → IsPositiveLine z → (unsigned_abs z < 2 ^ 31) × (pos (unsigned_abs z) ≡ z)
first_small (pos n) h = let fits = h.fits in (omega (arith, ints), refl)
first_small (negsuc n) h = let positive = h.positive in absurd (omega (arith, ints))

fits_line : (z : ℤ) → IsPositiveLine z → FitsSigned w32 z
fits_line (pos n) h = let fits = h.fits in omega (arith, ints)
fits_line (negsuc n) h = let positive = h.positive in absurd (omega (arith, ints))

line_is : (o : Option ℤ) → HasPositiveLine o → IsLine o
line_is None h = tt
line_is (Some z) h = fits_line z h

lines_are : (rs : List LineRange) → AllByRecursion IsValidRange rs → AreLines rs
lines_are [] h = tt
lines_are (r ∷ rs) h = (line_is r.line h.0.line, lines_are rs h.1)

-- ---- offsets

holds_so : (offset : ℕ) (r : LineRange) → holds offset r ≡ true → offset < r.end
holds_so offset r e = by (leb r.start offset) e
  where
    by : (b : Bool) → (b && ltb offset r.end) ≡ true → offset < r.end
    by true e = ltb-true offset r.end e
    by false e = absurd (cc)

behind : (family : LineFamily) (at : ℕ) (rs : List LineRange) → first_unordered family at rs ≡ None → at ≤ end_of at rs
unfolding end_of
behind family at [] e = omega arith
behind family at (r ∷ rs) e =
    let h = all_stand family at (r ∷ rs) r rs refl e in
    let s = stands_so family at r h.0 in
    omega (arith, s.begins, s.some, behind family r.end rs h.1)

-- an offset inside of one of the ranges is below their end
below_end : (family : LineFamily) (offset at : ℕ) (rs : List LineRange) → first_unordered family at rs ≡ None
    → IsTrue (list_any (holds offset) rs)
    → (offset < end_of at rs) × (offset < 2 ^ 31)
unfolding end_of
below_end family offset at [] e h = absurd (cc)
below_end family offset at (r ∷ rs) e h =
    let stand = all_stand family at (r ∷ rs) r rs refl e in
    let s = stands_so family at r stand.0 in
    by (holds offset r) refl h s.ends (behind family r.end rs stand.1) (below_end family offset r.end rs stand.1)
  where
    by : (b : Bool) → holds offset r ≡ b → (b || list_any (holds offset) rs) ≡ true → r.end < 2 ^ 31
        → r.end ≤ end_of r.end rs
        → (IsTrue (list_any (holds offset) rs) → (offset < end_of r.end rs) × (offset < 2 ^ 31))
        → (offset < end_of r.end rs) × (offset < 2 ^ 31)
    by true here e small from rest = let below = holds_so offset r here in
        (omega (arith, below, from), omega (arith, below, small))
    by false here e small from rest = rest e

-- ---- frames

names_of : (vs : List Local) → AllByRecursion IsValidLocal vs → AllByRecursion (λ (v : Local). IsBriefText v.name) vs
names_of [] h = tt
names_of (v ∷ vs) h = (h.0.name, names_of vs h.1)

values_of : (vs : List Local) → AllByRecursion IsValidLocal vs → AllByRecursion (λ (v : Local). IsValidHeld v.value) vs
values_of [] h = tt
values_of (v ∷ vs) h = (h.0.value, values_of vs h.1)

pub frame_is : (l : Layout) (f : Frame) → IsValidFrame (family_of l.lines) f → IsFrame l f
frame_is l f h =
    let family = family_of l.lines in
    let first = first_small f.first h.placed.first in
    let below = below_end family f.offset 0 f.ranges h.codable.ordered h.placed.inside in
    record {
      name = h.named.name;
      file = h.named.filename;
      shown = hidden_not f.filename h.named.shown;
      first = first.0;
      first_is = first.1;
      offset = below.1;
      even = h.placed.even;
      table = h.codable.short;
      line = keeps_lines family f.first f.ranges (coded_lines l f) (fits_line f.first h.placed.first)
          (lines_are f.ranges h.placed.ranges)
          (record { ordered = h.codable.ordered; bytes = refl; short = h.codable.short }) f.offset below.0;
      args = h.locals.args;
      locals = h.locals.few;
      names = names_of f.locals h.locals.each;
      values = values_of f.locals h.locals.each;
    }

frames_are : (l : Layout) (fs : List Frame) → AllByRecursion (IsValidFrame (family_of l.lines)) fs
    → AllByRecursion (IsFrame l) fs
frames_are l [] h = tt
frames_are l (f ∷ fs) h = (frame_is l f h.0, frames_are l fs h.1)

-- ---- threads

in_thread : (l : Layout) (earlier : List Thread) (o : Option Thread)
    → ((frame : ℕ) → IfSome o (λ t. IsValidIn (family_of l.lines) earlier t frame)) → IfSome o (IsThread l)
in_thread l earlier None h = tt
in_thread l earlier (Some t) h =
    let alone = (h 0).thread refl in
    record {
      id = alone.fits;
      few = alone.few;
      frames = frames_are l t.frames (somewhere_all (IsValidFrame (family_of l.lines)) t.frames
          (λ frame. (h frame).call));
    }

some_thread : (ts : List Thread) → 0 < length ts → ts ≢ []
some_thread [] h e = absurd (omega arith)
some_thread (t ∷ ts) h e = cc

pub program_whole : (l : Layout) (p : Program) → IsValidProgram (family_of l.lines) p → IsWhole l p
program_whole l p valid = record {
  some = some_thread p.threads ((valid 0 0).whole refl refl).some;
  few = (valid 4096 0).few refl refl;
  threads = somewhere_all (IsThread l) p.threads (λ k. in_thread l (take k p.threads) (slice_get p.threads k)
      (λ frame. (valid k frame).within));
  owner = owner_valid (family_of l.lines) p valid;
}
