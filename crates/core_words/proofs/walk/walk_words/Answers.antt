use Rattle.std.proofs.Common.{◌≡◌, ◌∙◌, ◌∷◌, [], ap}
use Rattle.core_words.specs.Words.{walk_words, texts}
use Rattle.core_words.proofs.Five.{not_five, five}
use Rattle.core_words.proofs.walk.walk_words.Goals as goal

pub returns-then-words-ne5 : goal.returns-then-words-ne5
returns-then-words-ne5 c = not_five c.args.words.now c.if-words-ne5.true

pub returns : goal.returns
returns c =
    let are = five c.args.words.now _ _ _ _ _ c.if-words-ne5.false
    c.index-words-0.is c.index-words-1.is c.index-words-2.is c.index-words-3.is c.index-words-4.is in
    let seen : c.as_str.result.now ∷ c.as_str-2.result.now ∷ c.as_str-3.result.now ∷ c.as_str-4.result.now ∷ c.as_str-5.result.now ∷ [] ≡ texts c.args.words.now =
    (λ i. c.as_str.ensures.value i ∷ c.as_str-2.ensures.value i ∷ c.as_str-3.ensures.value i ∷ c.as_str-4.ensures.value i ∷ c.as_str-5.ensures.value i ∷ []) ∙ are in
    c.walk_of.ensures ∙ ap walk_words seen
