use Rattle.std.proofs.Common.{◌≡◌, take, map, true}
use Rattle.std.specs.List.{list_all}
use Rattle.core_words.specs.Dump.{image_of, is_image}
use Rattle.core_words.proofs.found.images_of.Given as goal

abbrev pub invariant-loop-word : goal.invariant-loop-word
invariant-loop-word l = record {
  images : l.images.items ≡ map (λ w. image_of w.now) (take l.word-index l.words);
  each : list_all (λ w. is_image w.now) (take l.word-index l.words) ≡ true;
}
