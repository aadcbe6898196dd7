-- At one place one text alone spells a version.
use Rattle.std.proofs.Common.{◌≡◌, ℕ, List, ◌++◌, sym, ap, subst, ◌∙◌}
use Rattle.std.specs.Prelude.{Option, Some, None, codes}
use Rattle.std.proofs.lemmas.Option.{same_Some}
use Rattle.std.proofs.lemmas.List.{append_cancel_left, append_cancel_right}
use Rattle.py_fields.specs.declared.version.Version.{Version}
use Rattle.py_fields.specs.Spelling.{IsMetadata, Spells, SpellsOnce}
use Rattle.py_fields.specs.Fronts.{short_front, spelled}
use Rattle.py_fields.proofs.Numbers.{short_read}
use Rattle.py_fields.proofs.Ends.{behind_flags, behind_patch, end_once}
use Rattle.py_fields.proofs.Spellings.{along, spelled_read}

metadata_same : (one other : List ℕ) (m : Option (List ℕ)) → IsMetadata one m → IsMetadata other m → one ≡ other
metadata_same one other None a b = a ∙ sym b
metadata_same one other (Some m) a b = a.parts ∙ sym b.parts

-- what a spelling leaves after its patch
patch_left : (text after : List ℕ) (v : Version) (s : Spells text v) → short_front (s.patch ++ (v.release_flags ++ (s.metadata ++ (s.last ++ after)))) ≡ Some (v.patch, v.release_flags ++ (s.metadata ++ (s.last ++ after)))
patch_left text after v s =
    let behind = behind_flags s.metadata s.last after v.build_metadata s.is_metadata s.is_end in
    short_read s.patch _ v.patch s.is_patch (behind_patch v.release_flags _ s.are_flags behind.1)

-- what stands behind the dot after the same text
behind_dot : (one other x y : List ℕ) → one ≡ other → one ++ (codes "." ++ x) ≡ other ++ (codes "." ++ y) → x ≡ y
behind_dot one other x y e same = append_cancel_left (codes ".") x y (append_cancel_left other _ _ (sym (ap (λ t. t ++ (codes "." ++ x)) e) ∙ same))

text_once : (text other after left : List ℕ) (v : Version) → Spells text v → Spells other v → text ++ after ≡ other ++ left → text ≡ other
text_once text other after left v a b same =
    let majors : a.major ≡ b.major = a.is_major.text_is ∙ sym b.is_major.text_is in
    let minors : a.minor ≡ b.minor = a.is_minor.text_is ∙ sym b.is_minor.text_is in
    let flags = v.release_flags in
    let a_rest = flags ++ (a.metadata ++ (a.last ++ after)) in
    let b_rest = flags ++ (b.metadata ++ (b.last ++ left)) in
    let from_major : a.major ++ (codes "." ++ (a.minor ++ (codes "." ++ (a.patch ++ a_rest)))) ≡ b.major ++ (codes "." ++ (b.minor ++ (codes "." ++ (b.patch ++ b_rest)))) =
    sym (ap (λ t. t ++ after) a.parts ∙ along a.major a.minor a.patch flags a.metadata a.last after) ∙ same ∙ ap (λ t. t ++ left) b.parts ∙ along b.major b.minor b.patch flags b.metadata b.last left in
    let from_minor : a.minor ++ (codes "." ++ (a.patch ++ a_rest)) ≡ b.minor ++ (codes "." ++ (b.patch ++ b_rest)) =
    behind_dot a.major b.major _ _ majors from_major in
    let from_patch : a.patch ++ a_rest ≡ b.patch ++ b_rest = behind_dot a.minor b.minor _ _ minors from_minor in
    let fronts = same_Some (v.patch, a_rest) (v.patch, b_rest) (sym (patch_left text after v a) ∙ ap short_front from_patch ∙ patch_left other left v b) in
    let rests : a_rest ≡ b_rest = ap (λ (x : ℕ × List ℕ). x.1) fronts in
    let patches : a.patch ≡ b.patch = append_cancel_right a.patch b.patch b_rest (sym (ap (λ r. a.patch ++ r) rests) ∙ from_patch) in
    let from_metadata : a.metadata ++ (a.last ++ after) ≡ b.metadata ++ (b.last ++ left) = append_cancel_left flags _ _ rests in
    let metadatas : a.metadata ≡ b.metadata = metadata_same a.metadata b.metadata v.build_metadata a.is_metadata b.is_metadata in
    let from_last : a.last ++ after ≡ b.last ++ left = append_cancel_left b.metadata _ _ (sym (ap (λ m. m ++ (a.last ++ after)) metadatas) ∙ from_metadata) in
    let lasts : a.last ≡ b.last = end_once a.last b.last after left a.is_end b.is_end from_last in
    a.parts ∙ (λ i. majors i ++ (codes "." ++ (minors i ++ (codes "." ++ (patches i ++ (flags ++ (metadatas i ++ lasts i))))))) ∙ sym b.parts

version_once : (text other after left : List ℕ) (v w : Version) → Spells text v → Spells other w → text ++ after ≡ other ++ left → v ≡ w
version_once text other after left v w a b same =
    same_Some v w (sym (spelled_read text after v a) ∙ ap spelled same ∙ spelled_read other left w b)

pub spells_once : (bytes : List ℕ) → SpellsOnce bytes
spells_once bytes place text other v w a b =
    let same : text ++ a.after ≡ other ++ b.after = sym a.parts ∙ b.parts in
    let versions : v ≡ w = version_once text other a.after b.after v w a.spells b.spells same in
    (text_once text other a.after b.after w (subst (Spells text) versions a.spells) b.spells same, versions)
