use Rattle.std.proofs.Common.{◌≡◌, ◌++◌, take, string_bytes}
use Rattle.std.specs.Prelude.{not}
use Rattle.std.specs.List.{list_any}
use Rattle.core_texts.specs.Text.{locals_text}
use Rattle.core_texts.proofs.frame.push_locals.Given as goal

abbrev pub invariant-loop-local : goal.invariant-loop-local
invariant-loop-local l = record {
  text : string_bytes l.text ≡ string_bytes l.initial.text ++ locals_text (take l.local-index l.locals);
  arguments : l.arguments ≡ list_any (λ v. v.arg) (take l.local-index l.locals);
  others : l.others ≡ list_any (λ v. not v.arg) (take l.local-index l.locals);
}
