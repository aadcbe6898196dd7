use Rattle.std.proofs.Common.{subst, sym}
use Rattle.native_merge.specs.ImageSymbols.{IsAtFile, files_mapped, image_seen}
use Rattle.native_merge.specs.ReadImages.{IsLookedUpUnder}
use Rattle.native_merge.specs.Symbols.{SymbolsStay}
use Rattle.native_merge.proofs.ImagesRead.{image_once, no_file, no_place}
use Rattle.native_merge.proofs.Stays.{symbols_same}
use Rattle.native_merge.proofs.image_symbolicator.ImageSymbolicatorSymbolicator.symbolicate.Goals as goal

pub returns-in_default-clause-no_binary : goal.returns-in_default-clause-no_binary
returns-in_default-clause-no_binary c = λ e path place bytes h.
    no_place (files_mapped c.self.inside.entries.now c.self.inside.images.now) c.args.addr c.in_default.ensures path place bytes
    (subst (λ f. IsAtFile f c.args.addr path place bytes) (sym c.self.view_is) h)

pub returns-in_default-clause-once : goal.returns-in_default-clause-once
returns-in_default-clause-once c = image_once c.args.self.now

pub returns-in_default-covered_under-clause-once : goal.returns-in_default-covered_under-clause-once
returns-in_default-covered_under-clause-once c = image_once c.args.self.now

pub returns-in_default-covered-clause-no_binary : goal.returns-in_default-covered-clause-no_binary
returns-in_default-covered-clause-no_binary c = λ e path place bytes h.
    no_file (files_mapped c.self.inside.entries.now c.self.inside.images.now) c.args.addr c.in-Some.place.path.now c.in-Some.place.offset
    c.in-Some.ensures
    (subst (IsLookedUpUnder c.self.inside.images.now c.in-Some.place.path.now c.in-Some.place.offset) c.in_default-covered.is c.in-Ok.ensures.covered)
    path place bytes (subst (λ f. IsAtFile f c.args.addr path place bytes) (sym c.self.view_is) h)

pub returns-in_default-covered-clause-once : goal.returns-in_default-covered-clause-once
returns-in_default-covered-clause-once c = image_once c.args.self.now

pub returns-in_default-covered_under-clause-stay : goal.returns-in_default-covered_under-clause-stay
returns-in_default-covered_under-clause-stay c = subst (λ f. SymbolsStay (image_seen c.args.self.now) (image_seen f)) (sym c.self.view_is) (symbols_same (image_seen c.args.self.now))

pub returns-in_default-covered-clause-stay : goal.returns-in_default-covered-clause-stay
returns-in_default-covered-clause-stay c = subst (λ f. SymbolsStay (image_seen c.args.self.now) (image_seen f)) (sym c.self.view_is) (symbols_same (image_seen c.args.self.now))

pub returns-clause-once : goal.returns-clause-once
returns-clause-once c = image_once c.args.self.now

pub returns-clause-stay : goal.returns-clause-stay
returns-clause-stay c = subst (λ f. SymbolsStay (image_seen c.args.self.now) (image_seen f)) (sym c.self.view_is) (symbols_same (image_seen c.args.self.now))
