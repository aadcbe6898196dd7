use Rattle.std.proofs.Common.{sym, subst, ◌∙◌, ap}
use Rattle.std.specs.Prelude.{option_and_then, slice_get}
use Rattle.image_memory.specs.Contents.{AreContents}
use Rattle.image_memory.specs.Maps.{IsFilePlace}
use Rattle.image_memory.proofs.Noted.{IsFilePlace-of, IsFilePlace-once, place_is_named}
use Rattle.image_memory.proofs.core_dump.CoreDump.file_place.Goals as goal

pub returns-clause-is : goal.returns-clause-is
returns-clause-is c =
    let core = subst (λ bs. AreContents bs c.self.inside.contents) c.self.view_is c.self.invariant in
    let is = c.place_at.ensures ∙ ap (λ ps. option_and_then (λ place. place) (slice_get ps c.args.index)) c.deref.ensures.value in
    subst (IsFilePlace c.args.self.now c.args.index) (sym is) (IsFilePlace-of c.args.self.now c.args.index c.self.inside.contents.places.items core.places_are)

pub returns-clause-only : goal.returns-clause-only
returns-clause-only c = λ place h. IsFilePlace-once c.args.self.now c.args.index place c.place_at.result h (returns-clause-is c)

pub returns-clause-named : goal.returns-clause-named
returns-clause-named c = λ maps m. place_is_named c.args.self.now c.args.index c.place_at.result maps (returns-clause-is c) m
