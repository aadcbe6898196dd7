use Rattle.std.proofs.Common.{◌∙◌, ap, [], codes}
use Rattle.std.specs.Prelude.{unwrap_or}
use Rattle.clap.specs.Words.{found_of}
use Rattle.clap.proofs.WalkLemmas.{raw_values-rows}
use Rattle.core_words.proofs.found.image_words.Goals as goal

pub returns : goal.returns
returns c =
    ap (λ o. unwrap_or o []) (c.in-Some.ensures ∙ raw_values-rows (found_of c.args.matches.now) (codes "images"))

pub returns-in_default : goal.returns-in_default
returns-in_default c =
    ap (λ o. unwrap_or o []) (c.in_default.ensures ∙ raw_values-rows (found_of c.args.matches.now) (codes "images"))
