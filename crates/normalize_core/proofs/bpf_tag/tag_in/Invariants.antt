use Rattle.std.proofs.Common.{◌≡◌, ◌*◌, take, drop, length}
use Rattle.normalize_core.specs.Tags.{pairs_of}
use Rattle.normalize_core.proofs.TagReading.{after}
use Rattle.normalize_core.proofs.bpf_tag.tag_in.Given as goal

abbrev pub invariant-loop-i : goal.invariant-loop-i
invariant-loop-i l = record {
  len : length l.tag ≡ 8;
  read : pairs_of l.text ≡ after (take l.i l.tag) (pairs_of (drop (2 * l.i) l.text));
}
