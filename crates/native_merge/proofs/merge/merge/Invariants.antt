use Rattle.std.proofs.Common.{take}
use Rattle.native_merge.specs.Merges.{is_python}
use Rattle.native_merge.specs.Merging.{Merging}
use Rattle.native_merge.proofs.merge.merge.Given as goal

abbrev pub invariant-loop-addr : goal.invariant-loop-addr
invariant-loop-addr g l = Merging (g.S.Symbolicator.seen l.initial.symbols) (g.S.Symbolicator.seen l.symbols)
    (g.F.Sources.seen l.initial.sources) (g.F.Sources.seen l.sources) (is_python l.python l.libpython) l.frames
    l.initial.cache l.cache (take l.addr-index l.native_stack) l.made.items l.cursor
