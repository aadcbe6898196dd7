use Rattle.std.proofs.Common.{refl, ◌+◌, arith}
use Rattle.std.specs.Int.{w32}
use Rattle.std.proofs.lemmas.Int.{to_z_pos}
use Rattle.image_builder.proofs.seeded.frame_of.Goals as goal

pub returns : goal.returns
returns c =
    let name = c.in_ok-name.ensures in
    let filename = c.in_ok-filename.ensures in
    let ranges = c.in_ok-ranges.ensures in
    let locals = c.in_ok-locals.ensures in
    let line = to_z_pos w32 (1 + c.args.frame) (omega (arith, c.requires.frame)) in
    rw (name, filename, ranges, locals, line, c.from.ensures, c.from-2.ensures) refl
