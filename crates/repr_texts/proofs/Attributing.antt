-- Texts of attributes, one behind the other.
use Rattle.std.proofs.Common.{◌≡◌, ◌<◌, ℕ, zero, suc, List, [], ◌∷◌, ◌++◌, length, drop, take, refl, sym}
use Rattle.std.proofs.Common.{ap, ◌∙◌, arith, append_assoc, codes, cond, true, false}
use Rattle.std.specs.Prelude.{Option}
use Rattle.std.specs.Str.{IsUtf8, is_utf8}
use Rattle.std.proofs.lemmas.Str.{IsUtf8-from_is_utf8, is_utf8-from_IsUtf8}
use Rattle.repr_texts.specs.Identifiers.{attribute_name, inner, utf8_or}
use Rattle.repr_texts.specs.Leaves.{instance_opening}
use Rattle.repr_texts.specs.Writing.{attribute_text, attributes_of, between_text, instance_text, joined, more_text}
use Rattle.repr_texts.proofs.Parts.{part_added}

-- nothing stands within fewer than two bytes
pub inner_short : (bytes : List ℕ) → length bytes < 2 → [] ≡ inner bytes
unfolding inner
inner_short [] h = refl
inner_short (x ∷ []) h = refl
inner_short (x ∷ y ∷ rest) h = absurd (omega (arith, h))

pub utf8_is : (bytes other : List ℕ) → IsUtf8 bytes → bytes ≡ utf8_or bytes other
unfolding utf8_or
utf8_is bytes other h = rw (is_utf8-from_IsUtf8 bytes h) refl

pub utf8_not : (bytes other : List ℕ) → (IsUtf8 bytes → ⊥) → other ≡ utf8_or bytes other
unfolding utf8_or
utf8_not bytes other h =
    elim (is_utf8 bytes) as (λ b. is_utf8 bytes ≡ b → other ≡ cond b bytes other)
    [ true ↦ λ e. absurd (h (IsUtf8-from_is_utf8 bytes e)) | false ↦ λ e. refl ] refl

pub attributes_more : (ns vs : List (List ℕ)) (n v : List ℕ) → length ns ≡ length vs
    → attributes_of (ns ++ n ∷ []) (vs ++ v ∷ []) ≡ attributes_of ns vs ++ attribute_text n v ∷ []
attributes_more [] [] n v e = refl
attributes_more [] (y ∷ ys) n v e = absurd (omega (arith, e))
attributes_more (x ∷ xs) [] n v e = absurd (omega (arith, e))
attributes_more (x ∷ xs) (y ∷ ys) n v e =
    ap (λ ps. attribute_text x y ∷ ps) (attributes_more xs ys n v (omega (arith, e)))

pub attributes_length : (ns vs : List (List ℕ)) (n : ℕ) → length ns ≡ n → length vs ≡ n
    → length (attributes_of ns vs) ≡ n
attributes_length [] vs n e f = e
attributes_length (x ∷ xs) [] n e f = absurd (omega (arith, e, f))
attributes_length (x ∷ xs) (y ∷ ys) zero e f = absurd (omega (arith, e))
attributes_length (x ∷ xs) (y ∷ ys) (suc n) e f =
    ap suc (attributes_length xs ys n (omega (arith, e)) (omega (arith, f)))

-- a name is added with its value
pub attribute_added : (old name value text between named equated new : List ℕ) (ns vs : List (List ℕ)) (number : ℕ)
    → length ns ≡ number → length vs ≡ number → text ≡ old ++ joined (codes ", ") (attributes_of ns vs)
    → between ≡ text ++ between_text (codes ", ") number → named ≡ between ++ attribute_name name
    → equated ≡ named ++ codes "=" → new ≡ equated ++ value
    → new ≡ old ++ joined (codes ", ") (attributes_of (ns ++ name ∷ []) (vs ++ value ∷ []))
attribute_added old name value text between named equated new ns vs number all_names all_values is b k l n =
    part_added old (codes ", ") (attribute_text name value) text between new (attributes_of ns vs) number
    (attributes_length ns vs number all_names all_values) is b
    (n ∙ ap (λ xs. xs ++ value) (l ∙ ap (λ xs. xs ++ codes "=") k)
    ∙ append_assoc (between ++ attribute_name name) (codes "=") value
    ∙ append_assoc between (attribute_name name) (codes "=" ++ value))
    ∙ ap (λ ps. old ++ joined (codes ", ") ps) (sym (attributes_more ns vs name value (all_names ∙ sym all_values)))

-- an instance is added, piece by piece
pub instance_added : (class : Option (List ℕ)) (addr : ℕ) (old opened looped more_in new : List ℕ) (ns vs : List (List ℕ))
    (shown left_out : ℕ)
    → opened ≡ old ++ instance_opening class addr → looped ≡ opened ++ joined (codes ", ") (attributes_of ns vs)
    → more_in ≡ looped ++ more_text (codes ", ") shown left_out → new ≡ more_in ++ codes ">"
    → length (attributes_of ns vs) ≡ shown → new ≡ old ++ instance_text class addr (attributes_of ns vs) left_out
instance_added class addr old opened looped more_in new ns vs shown left_out o l m n e =
    n ∙ ap (λ xs. xs ++ codes ">") (m ∙ ap (λ xs. xs ++ more_text (codes ", ") shown left_out)
    (l ∙ ap (λ xs. xs ++ joined (codes ", ") (attributes_of ns vs)) o))
    ∙ append_assoc ((old ++ instance_opening class addr) ++ joined (codes ", ") (attributes_of ns vs))
    (more_text (codes ", ") shown left_out) (codes ">")
    ∙ append_assoc (old ++ instance_opening class addr) (joined (codes ", ") (attributes_of ns vs))
    (more_text (codes ", ") shown left_out ++ codes ">")
    ∙ append_assoc old (instance_opening class addr)
    (joined (codes ", ") (attributes_of ns vs) ++ (more_text (codes ", ") shown left_out ++ codes ">"))
    ∙ ap (λ n. old ++ (instance_opening class addr ++ (joined (codes ", ") (attributes_of ns vs)
    ++ (more_text (codes ", ") n left_out ++ codes ">")))) (sym e)
