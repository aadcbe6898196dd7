use Rattle.std.proofs.Common.{◌≡◌, ◌∙◌, ◌+◌, ◌++◌, ◌<◌, ◌^◌, ap, subst, sym}
use Rattle.std.specs.Prelude.{IfOk}
use Rattle.std.specs.List.{sum_by}
use Rattle.memory_builder.specs.declared.frames.FrameSpots.{FrameSpots}
use Rattle.memory_builder.specs.Frames.{laid_contents, laid_frame, laid_records, spots_for, values_place}
use Rattle.memory_builder.specs.Mirror.{frame_in}
use Rattle.memory_builder.specs.Sizes.{local_size, name_size}
use Rattle.memory_builder.proofs.Adding.{two_added}
use Rattle.memory_builder.proofs.Spots.{places_fit}
use Rattle.memory_builder.proofs.frames.add_frame.Goals as goal

pub add_records-requires-clause-names : goal.add_records-requires-clause-names
add_records-requires-clause-names c =
    let l = c.args.layout.now in
    let f = frame_in c.args.frame.now in
    subst (λ (s : FrameSpots). s.names + sum_by (name_size l) f.locals < 2 ^ 63) (sym c.spots_of-spots.ensures)
    (places_fit l c.args.at f c.requires.fits).names

pub add_records-requires-clause-values : goal.add_records-requires-clause-values
add_records-requires-clause-values c =
    let l = c.args.layout.now in
    let f = frame_in c.args.frame.now in
    subst (λ (s : FrameSpots). s.values + sum_by (local_size l) f.locals < 2 ^ 63) (sym c.spots_of-spots.ensures)
    (places_fit l c.args.at f c.requires.fits).values

pub add_records-requires-clause-code : goal.add_records-requires-clause-code
add_records-requires-clause-code c =
    let f = frame_in c.args.frame.now in
    subst (λ (s : FrameSpots). s.code < 2 ^ 63) (sym c.spots_of-spots.ensures)
    (places_fit c.args.layout.now c.args.at f c.requires.fits).code

pub add_contents-requires-clause-values : goal.add_contents-requires-clause-values
add_contents-requires-clause-values c =
    let l = c.args.layout.now in
    let f = frame_in c.args.frame.now in
    subst (λ (s : FrameSpots). s.values + sum_by (local_size l) f.locals < 2 ^ 63) (sym c.spots_of-spots.ensures)
    (places_fit l c.args.at f c.requires.fits).values

pub returns : goal.returns
unfolding laid_frame
returns c =
    let l = c.args.layout.now in
    let f = frame_in c.args.frame.now in
    two_added c.add_contents.result c.add_contents.new.out.items c.args.out.now.items c.add_records.new.out.items
    (laid_records l (spots_for l c.args.at f) c.args.back f)
    (laid_contents l c.args.types (values_place l c.args.at f) f)
    (c.in_ok-add_records.ensures ∙ ap (λ s. c.args.out.now.items
    ++ laid_records l s c.args.back f) c.spots_of-spots.ensures)
    (subst (λ (s : FrameSpots). IfOk c.add_contents.result (λ _. c.add_contents.new.out.items
    ≡ c.add_records.new.out.items ++ laid_contents l c.args.types s.values f)) c.spots_of-spots.ensures
    c.add_contents.ensures)
