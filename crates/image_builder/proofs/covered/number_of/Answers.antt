use Rattle.std.proofs.Common.{◌∙◌, ◌+◌, ◌*◌, ap}
use Rattle.std.specs.Option.{unwrap_or}
use Rattle.image_builder.specs.Covered.{number_of}
use Rattle.image_builder.proofs.Releases.{byte_same}
use Rattle.image_builder.proofs.covered.number_of.Goals as goal

pub returns : goal.returns
unfolding number_of
returns c =
    let v = c.args.version.now in
    let same = byte_same v.release_flags c.as_bytes.result.now (c.as_bytes.ensures.value
    ∙ c.as_str.ensures) c.requires.flags in
    let byte = c.from.ensures ∙ c.unwrap_or-byte.ensures ∙ ap (λ o. unwrap_or o 0) (c.release_byte.ensures ∙ same) in
    ap (λ n. ((v.major * 256 + v.minor) * 256 + v.patch) * 256 + n) byte
