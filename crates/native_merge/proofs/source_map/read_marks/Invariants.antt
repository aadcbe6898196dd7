use Rattle.std.proofs.Common.{◌≡◌, ◌≤◌, ◌+◌, List, ◌++◌, length, drop}
use Rattle.std.specs.Prelude.{option_map}
use Rattle.std.specs.Str.Lines.{lines}
use Rattle.native_merge.specs.declared.source_map.SourceMark.{SourceMark}
use Rattle.native_merge.specs.Paths.{cython_file}
use Rattle.native_merge.specs.SourceMaps.{AreMarks, line_limit}
use Rattle.native_merge.specs.Sources.{Stay}
use Rattle.native_merge.proofs.source_map.read_marks.Given as goal

abbrev pub invariant-loop-line : goal.invariant-loop-line
invariant-loop-line g l =
    let file_of = cython_file (g.F.Sources.seen l.fn.sources).exists l.cpp_filename (option_map (λ name. name.now) l.«module») in
    record {
      counted : l.count ≡ length l.yielded;
      short : l.count + 1 ≤ line_limit;
      stay : Stay (g.F.Sources.seen l.fn.sources) (g.F.Sources.seen l.sources);
      goes_on : (marks : List SourceMark) → AreMarks file_of l.count (drop l.count (lines l.contents)) marks
          → AreMarks file_of 0 (lines l.contents) (l.marks.items ++ marks);
    }
