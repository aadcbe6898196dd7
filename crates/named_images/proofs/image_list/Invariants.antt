use Rattle.std.proofs.Common.{◌≡◌, ◌++◌}
use Rattle.named_images.specs.Named.{contents, images_by}
use Rattle.named_images.proofs.image_list.Given as goal

abbrev pub invariant-loop-bytes : goal.invariant-loop-bytes
invariant-loop-bytes l = l.images ++ images_by (contents l.bytes-iterator.rest.items) l.names
    ≡ images_by (contents l.fn.files.items) l.words
