use Rattle.std.proofs.Common.{◌≡◌, ◌≤◌, ◌<◌, ◌+◌, ℕ, Bool, true, false, List, get_or, sym, ap, subst, ◌∙◌, arith}
use Rattle.std.specs.Str.{chars}
use Rattle.std.specs.Str.Lines.{lines}
use Rattle.std.specs.Prelude.{nat_le, option_map}
use Rattle.std.proofs.lemmas.Bool.Decides.{nat_tests}
use Rattle.std.proofs.lemmas.Iterator.Consumers.{YieldsList-turn, YieldsList-end}
use Rattle.std.proofs.lemmas.Iterator.Splits.{YieldsList-from_lines}
use Rattle.std.proofs.lemmas.List.{length_push}
use Rattle.native_merge.specs.Paths.{cython_file}
use Rattle.native_merge.specs.SourceMaps.{AddsMark, line_limit}
use Rattle.native_merge.proofs.Marks.{reads_all, reads_on, stay_same, stays}
use Rattle.native_merge.proofs.source_map.read_marks.Goals as goal

past_limit : (n : ℕ) → nat_le line_limit n ≡ true → line_limit ≤ n
past_limit n is = grind (arith, nat_tests, is)

below_limit : (n : ℕ) → nat_le line_limit n ≡ false → n < line_limit
below_limit n is = grind (arith, nat_tests, is)

pub loop-line-init : goal.loop-line-init
loop-line-init g c = record {
  counted = omega arith;
  short = omega arith;
  stay = stay_same (g.F.Sources.seen c.args.sources.now);
  goes_on = λ marks are. rw c.new-marks.ensures.items are;
}

pub returns-then-is_too_long-clause-too_long : goal.returns-then-is_too_long-clause-too_long
returns-then-is_too_long-clause-too_long g c = λ _.
    let t = YieldsList-turn (YieldsList-from_lines c.args.contents.now cc) c.loop-line.yielded _ c.loop-line.yielded_by _ _ c.in-Some.line c.in-Some.is c.next.ensures.steps in
    let full = past_limit (c.loop-line.count + 1) (sym c.is_too_long.ensures ∙ c.if-is_too_long.true) in
    omega (arith, t.0, c.loop-line.invariant.counted, full)

pub loop-line-preserved : goal.loop-line-preserved
loop-line-preserved g c =
    let inv = c.loop-line.invariant in
    let seen = g.F.Sources.seen in
    let cpp = c.args.cpp_filename.now in
    let named = option_map (λ name. name.now) c.args.«module» in
    let ls = lines c.args.contents.now in
    let line = c.in-Some.line.now in
    let t = YieldsList-turn (YieldsList-from_lines c.args.contents.now cc) c.loop-line.yielded _ c.loop-line.yielded_by _ _ c.in-Some.line c.in-Some.is c.next.ensures.steps in
    let is : line ≡ get_or ls c.loop-line.count line = subst (λ (k : ℕ). line ≡ get_or ls k line) (sym inv.counted) t.1 in
    let adds : AddsMark (cython_file (seen c.args.sources.now).exists cpp named) c.loop-line.count line c.loop-line.marks.items c.add_mark.new.marks.items =
    subst (λ (e : List ℕ → Bool). AddsMark (cython_file e cpp named) c.loop-line.count line c.loop-line.marks.items c.add_mark.new.marks.items) inv.stay.exists c.in_ok-add_mark.ensures.added in
    record {
      counted = omega (arith, inv.counted, length_push c.loop-line.yielded c.in-Some.line);
      short = omega (arith, inv.short, below_limit (c.loop-line.count + 1) (sym c.is_too_long.ensures ∙ c.if-is_too_long.false));
      stay = stays (seen c.args.sources.now) (seen c.loop-line.sources) (seen c.add_mark.new.sources) inv.stay c.add_mark.ensures.stay;
      goes_on = λ marks are. reads_on (cython_file (seen c.args.sources.now).exists cpp named) c.loop-line.count ls line c.loop-line.marks.items c.add_mark.new.marks.items marks
          (omega (arith, t.0, inv.counted)) is adds inv.goes_on are;
    }

pub returns-clause-map : goal.returns-clause-map
returns-clause-map g c =
    let inv = c.loop-line.invariant in
    let t = YieldsList-end (YieldsList-from_lines c.args.contents.now cc) c.loop-line.yielded _ c.loop-line.yielded_by _ _ c.in-None.is c.next.ensures.steps in
    reads_all (cython_file (g.F.Sources.seen c.args.sources.now).exists c.args.cpp_filename.now (option_map (λ name. name.now) c.args.«module»))
    c.args.contents.now c.loop-line.count c.in_ok-file.file c.loop-line.marks.items c.push.new.self.items (inv.counted ∙ t.1) inv.goes_on
    (c.in_ok-file.ensures ∙ ap chars c.new.ensures.bytes) c.in_ok-push.ensures.items

pub returns-clause-short : goal.returns-clause-short
returns-clause-short g c =
    let inv = c.loop-line.invariant in
    let t = YieldsList-end (YieldsList-from_lines c.args.contents.now cc) c.loop-line.yielded _ c.loop-line.yielded_by _ _ c.in-None.is c.next.ensures.steps in
    omega (arith, t.1, inv.counted, inv.short)
