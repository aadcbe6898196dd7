use Rattle.std.proofs.Common.{All, sym, subst}
use Rattle.native_merge.specs.ReadImages.{IsReadOf, IsReadUnder}
use Rattle.native_merge.proofs.ImagesRead.{found_read, read_answers}
use Rattle.native_merge.proofs.read_images.covered_under.Goals as goal

pub returns-in-Some-clause-covered : goal.returns-in-Some-clause-covered
returns-in-Some-clause-covered c = found_read c.args.images.now c.args.path.now c.args.place c.as_slice.result.now
    c.in-Some.image.now c.covered_at.result c.in-Some.ensures
    (subst (All (IsReadOf c.args.images.now)) (sym c.as_slice.ensures.value) c.requires.known) c.covered_at.ensures

pub returns-clause-covered : goal.returns-clause-covered
returns-clause-covered c = read_answers c.args.images.now c.args.path.now c.args.place c.in-Some-2.image c.covered_at-covered.result
    (subst (IsReadUnder c.args.images.now c.args.path.now) c.in-Some-2.is c.in_ok-image.ensures) c.covered_at-covered.ensures
