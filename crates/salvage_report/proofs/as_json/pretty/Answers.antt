use Rattle.std.proofs.Common.{◌∙◌, ap}
use Rattle.std.specs.Prelude.{Result, Ok, Err, IfOk, string_bytes}
use Rattle.json.specs.Layout.{pretty}
use Rattle.serde_json.proofs.Texts.{tokens_from_order}
use Rattle.salvage_report.proofs.as_json.pretty.Goals as goal

both : {T E : Type 0} (r : Result T E) (P Q R : T → Type 0) → IfOk r P → IfOk r Q → ((x : T) → P x → Q x → R x)
    → IfOk r R
both (Ok x) P Q R p q f = f x p q
both (Err e) P Q R p q f = p

pub returns : goal.returns
returns c = both c.to_string_pretty.result _ _ _ c.to_string_pretty.ensures.layout c.to_string_pretty.ensures.order
    (λ text layout order. layout ∙ ap pretty (tokens_from_order (string_bytes text) _ order c.requires))
