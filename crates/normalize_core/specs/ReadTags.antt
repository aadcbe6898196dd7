-- What is read of a tag.
use Rattle.std.specs.Prelude.{◌≡◌, ℕ, List, Option, option_map}
use Rattle.normalize_core.specs.declared.bpf_tag.BpfTag.{BpfTag}
use Rattle.normalize_core.specs.Tags.{tag_of}

-- the tag that a text writes was read, or none where it writes none
abbrev pub ReadsTag : List ℕ → Option BpfTag → Type 0
ReadsTag text tag = option_map (λ t. t.0) tag ≡ tag_of text
