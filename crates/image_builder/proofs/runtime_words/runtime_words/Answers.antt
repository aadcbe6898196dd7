use Rattle.std.proofs.Common.{◌≡◌, ◌∙◌, ◌++◌, ℕ, List, [], ◌∷◌, ap, ap₂, refl}
use Rattle.object_builder.specs.Objects.{Write, aligned, object, optional_write}
use Rattle.object_builder.specs.Objects.Value.{U64}
use Rattle.object_builder.proofs.Objects.{length-inside}
use Rattle.image_builder.specs.RuntimeWords.{runtime_words, words_writes}
use Rattle.image_builder.proofs.Appending.{aligned_none}
use Rattle.image_builder.proofs.RuntimeWords.{words_inside}
use Rattle.image_builder.proofs.runtime_words.runtime_words.Goals as goal

pub returns : goal.returns
unfolding runtime_words
returns c =
    let l = c.args.layout.now in
    let ws = words_writes l c.args.machine c.args.version.now c.args.holder in
    let three : (a b : ℕ) (p q r s : Write) → a ≡ b → p ≡ q → r ≡ s
    → ◌≡◌ {A = List Write} (record { at = a; value = U64 0x60_0000 } ∷ p ∷ r
    ∷ []) (record { at = b; value = U64 0x60_0000 } ∷ q ∷ s ∷ []) =
    λ a b p q r s e f g i. record { at = e i; value = U64 0x60_0000 } ∷ f i ∷ g i ∷ [] in
    let writes = three _ _ _ _ _ _ c.head_place.ensures.value (c.optional_write.ensures
    ∙ ap (λ o. optional_write o (U64 0x1_0000)) c.head_field.ensures.value)
    (c.optional_write-2.ensures ∙ ap (λ o. optional_write o (U64 c.args.holder)) c.lock_word_place.ensures.value) in
    c.in_ok-add_object.ensures ∙ ap₂ (λ xs ys. xs ++ aligned (object 0x2_0000 ys)) c.new-words.ensures.items writes
    ∙ aligned_none (object 0x2_0000 ws) 0x2_0000 (length-inside 0x2_0000 ws
    (words_inside l c.args.machine c.args.version.now c.args.holder c.requires)) refl
