use Rattle.std.specs.Borrow.{Bor}
use Rattle.std.proofs.Common.{◌≡◌, Equal, IfSome, List, ℕ, sym, encode_utf8_all}
use Rattle.std.specs.Prelude.{Option, Some, None, option_copied}
use Rattle.std.specs.Ordering.{nat_cmp}
use Rattle.std.specs.Cmp.Lexicographic.{slice_cmp}
use Rattle.std.proofs.lemmas.Map.Lookups.{exact_bytes}
use Rattle.std.proofs.lemmas.Str.{encodes_same}
use Rattle.shared_texts.proofs.SharedTexts.met.Goals as goal

same : (text met : List ℕ) → slice_cmp nat_cmp (encode_utf8_all text) (encode_utf8_all met) ≡ Equal → met ≡ text
same text met e = sym (encodes_same text met (exact_bytes (encode_utf8_all text) (encode_utf8_all met) e))

found : (text : List ℕ) (r : Option (Bor (List ℕ))) → IfSome r (λ k. slice_cmp nat_cmp (encode_utf8_all text) (encode_utf8_all k.now) ≡ Equal)
    → IfSome (option_copied r) (λ met. met ≡ text)
found text None e = tt
found text (Some k) e = same text k.now e

pub returns : goal.returns
returns c = found c.args.text.now c.get.result c.get.ensures.same_key
