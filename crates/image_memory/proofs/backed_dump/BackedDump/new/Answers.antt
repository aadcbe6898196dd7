use Rattle.std.proofs.Common.{◌≡◌, ◌∷◌, ◌++◌, sym, subst, ◌∙◌, ap, map}
use Rattle.std.specs.Prelude.{All}
use Rattle.piece_table.specs.Files.{IsInFile}
use Rattle.image_memory.specs.Backed.{IsKept}
use Rattle.image_memory.specs.Images.{images_shown}
use Rattle.image_memory.specs.Mmap.{shown_bytes}
use Rattle.image_memory.specs.Pieces.{core_ranges}
use Rattle.image_memory.proofs.BackedRanges.{ranges_in_files, regions_are}
use Rattle.image_memory.proofs.Lists.{map_twice}
use Rattle.image_memory.proofs.backed_dump.BackedDump.new.Goals as goal

pub invariant_of-result-2 : goal.invariant_of-result-2
invariant_of-result-2 c =
    let bytes = c.core.inside.bytes.items in
    let images = c.args.images.now in
    let ranges = c.in_ok-ranges.ranges.items in
    let shown : map shown_bytes c.in_ok-shares.field-0.items ≡ images_shown images =
    ap (map shown_bytes) c.in_ok-shares.ensures ∙ map_twice shown_bytes (λ image. image.1) images in
    let whole : c.in_ok-table.table ≡ core_ranges bytes ++ ranges =
    c.in_ok-table.ensures ∙ ap (λ rs. rs ++ c.deref.result.now) (c.table.ensures.same ∙ ap core_ranges (sym c.core.view_is))
    ∙ ap (λ rs. core_ranges bytes ++ rs) c.deref.ensures.value in
    let held = ranges_in_files bytes (images_shown images) ranges c.core.invariant.fits c.core.invariant.core.accepted.readable c.in_ok-ranges.ensures.fit in
    subst (λ is. IsKept (record { core = bytes; images = is; ranges = c.in_ok-table.table })) (sym shown)
    (record { core = c.core.invariant.core; held = subst (All (IsInFile (bytes ∷ images_shown images))) (sym whole) held })

pub returns-clause-kept : goal.returns-clause-kept
returns-clause-kept c = record {
  core_is = c.core.view_is;
  images_are = ap (map shown_bytes) c.in_ok-shares.ensures ∙ map_twice shown_bytes (λ image. image.1) c.args.images.now;
  from_images = c.in_ok-ranges.ranges.items;
  images_have = c.in_ok-ranges.ensures.are;
  ranges_are = c.in_ok-table.ensures ∙ ap (λ rs. rs ++ c.deref.result.now) c.table.ensures.same
      ∙ ap (λ rs. core_ranges c.args.core ++ rs) c.deref.ensures.value;
}

pub returns-clause-memory : goal.returns-clause-memory
returns-clause-memory c =
    regions_are c.args.core c.args.images.now (record {
      core = c.core.inside.bytes.items;
      images = map shown_bytes c.in_ok-shares.field-0.items;
      ranges = c.in_ok-table.table;
    }) (returns-clause-kept c)
