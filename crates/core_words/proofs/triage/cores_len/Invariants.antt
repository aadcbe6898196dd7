use Rattle.std.proofs.Common.{◌≡◌, ◌+◌, drop}
use Rattle.std.specs.List.{position_or_len}
use Rattle.core_words.specs.Dump.{is_image}
use Rattle.core_words.specs.Words.{texts}
use Rattle.core_words.proofs.triage.cores_len.Given as goal

abbrev pub invariant-loop-place : goal.invariant-loop-place
invariant-loop-place l = position_or_len is_image (texts l.words)
    ≡ l.place + position_or_len is_image (texts (drop l.place l.words))
