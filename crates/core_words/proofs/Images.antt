-- Words of images, one by one.
use Rattle.std.proofs.Common.{◌≡◌, ◌∙◌, ◌<◌, ℕ, Bool, List, length, get_or, sym, ap, true, false, map, Some, None, refl}
use Rattle.std.specs.Borrow.{Bor}
use Rattle.std.specs.Prelude.{if◌then◌else◌}
use Rattle.std.proofs.lemmas.List.Folds.{list_all-map, list_all_at}
use Rattle.std.proofs.lemmas.Simd.{map-map}
use Rattle.std.specs.List.{list_all}
use Rattle.core_words.specs.Dump.{image_of, images_of, is_image, split_image}

abbrev Words : Type 0
Words = List (Bor (List ℕ))

-- each word is an image's
pub whole : (words : Words) (images : List (List ℕ × List ℕ)) → list_all (λ w. is_image w.now) words ≡ true
    → images ≡ map (λ w. image_of w.now) words → images_of (map (λ w. w.now) words) ≡ Some images
whole words images each is =
    ap (λ b. if b then Some (map image_of (map (λ w. w.now) words)) else None) (list_all-map is_image (λ w. w.now) words ∙ each)
    ∙ ap (λ xs. Some xs) (map-map image_of (λ w. w.now) words ∙ sym is)

-- one of them is none's
pub not_whole : (words : Words) (i : ℕ) (d : Bor (List ℕ)) → i < length words → is_image (get_or words i d).now ≡ false
    → images_of (map (λ w. w.now) words) ≡ None
not_whole words i d lt is =
    ap (λ b. if b then Some (map image_of (map (λ w. w.now) words)) else None)
    (list_all-map is_image (λ w. w.now) words ∙ list_all_at (λ w. is_image w.now) words i d lt is)

by_test : (b : Bool) (image : List ℕ × List ℕ) → None ≡ (if b then Some image else None) → b ≡ false
by_test true image is = absurd (let h : None ≡ Some image = is in cc)
by_test false image is = refl

pub not_split : (word : List ℕ) → None ≡ split_image word → is_image word ≡ false
not_split word is = by_test (is_image word) (image_of word) is
