use Rattle.std.proofs.Common.{◌≡◌, ◌<◌, ◌∷◌, [], false, Some, ap, subst, ◌∙◌, rules}
use Rattle.std.specs.Fmt.{DisplaysOnOk, styled_digits_output, padded_integral, format_spec}
use Rattle.std.specs.Prelude.{option_map}
use Rattle.std.proofs.lemmas.Fmt.{hex_byte}
use Rattle.normalize_core.specs.Tags.{tag_text}
use Rattle.normalize_core.proofs.bpf_tag.write_byte.Goals as goal

pub returns : goal.returns
returns g c =
    let small : c.args.byte < 256 = search rules in
    let text : styled_digits_output c.in_radix.result c.laid_out.result ≡ Some (tag_text (c.args.byte ∷ [])) =
    ap (λ s. styled_digits_output c.in_radix.result s) c.laid_out.ensures
    ∙ ap (λ o. option_map (padded_integral (format_spec 32 0 4 2 18446744073709551615) false []) o) c.in_radix.ensures
    ∙ ap (λ t. Some t) (hex_byte false c.args.byte small) in
    subst (λ o. DisplaysOnOk g.W.Write.write_str_gives c.args.f.now c.write.result o c.write.new.self) text c.write.ensures.writes
