use Rattle.std.proofs.Common.{◌≡◌, take, map}
use Rattle.core_words.specs.Words.{texts}
use Rattle.core_words.proofs.found.images_in.Given as goal

abbrev pub invariant-loop-word : goal.invariant-loop-word
invariant-loop-word l = map (λ w. w.now) l.texts.items ≡ texts (take l.word-index l.words)
