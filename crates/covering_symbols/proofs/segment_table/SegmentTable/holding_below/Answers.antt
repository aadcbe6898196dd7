use Rattle.std.proofs.Common.{refl, ap, ◌∙◌}
use Rattle.std.specs.Prelude.{option_copied, slice_get}
use Rattle.std.specs.List.{enumerate_from, find}
use Rattle.covering_symbols.specs.Covering.{holds_place}
use Rattle.covering_symbols.specs.SegmentTables.{range_of_segment}
use Rattle.covering_symbols.proofs.Finding.{found_none, found_some}
use Rattle.covering_symbols.proofs.Segments.{at_none, at_number, held_spans, holds_at, less_nothing}
use Rattle.covering_symbols.proofs.segment_table.SegmentTable.holding_below.Goals as goal

pub returns-in_err-piece : goal.returns-in_err-piece
returns-in_err-piece c = ap (λ found. option_copied found) c.from_residual.ensures
    ∙ at_none (holds_place c.args.place) 0 c.self.inside.segments.items
    (found_none range_of_segment (holds_at c.args.place) c.args.place (held_spans c.args.place c.requires)
    c.self.inside.table (enumerate_from 0 c.self.inside.segments.items) c.self.invariant (c.in_err-piece.ensures.none refl))
    ∙ ap (λ segments. find (holds_place c.args.place) segments) c.self.view_is

pub returns : goal.returns
returns c = c.numbered.ensures
    ∙ ap (λ segments. slice_get segments c.in_ok-piece.piece.file) c.deref.ensures.value
    ∙ ap (λ number. slice_get c.self.inside.segments.items number) (less_nothing c.in_ok-piece.piece.file)
    ∙ (at_number (holds_place c.args.place) 0 c.self.inside.segments.items c.in_ok-piece.piece.file
    (found_some range_of_segment (holds_at c.args.place) c.args.place (held_spans c.args.place c.requires)
    c.self.inside.table (enumerate_from 0 c.self.inside.segments.items) c.self.invariant c.in_ok-piece.piece
    c.in_ok-piece.ensures.piece c.in_ok-piece.ensures.holds)).1
    ∙ ap (λ segments. find (holds_place c.args.place) segments) c.self.view_is
