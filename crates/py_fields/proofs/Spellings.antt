-- The reader takes a version exactly where one is spelled.
use Rattle.std.proofs.Common.{◌≡◌, ℕ, List, ◌∷◌, ◌++◌, length, take, drop, refl, sym, ap, subst, ◌∙◌, append_assoc}
use Rattle.std.specs.Prelude.{Option, Some, codes}
use Rattle.std.proofs.Math.Seq.{take-append_seam, drop-append_seam}
use Rattle.std.proofs.lemmas.List.{take-append-drop}
use Rattle.std.proofs.lemmas.Option.{option_and_then_some}
use Rattle.py_fields.specs.declared.version.Version.{Version}
use Rattle.py_fields.specs.Spelling.{AreFlags, IsEnd, IsMetadata, Spells}
use Rattle.py_fields.specs.Fronts.{flags_len, has_end, major_front, metadata_front, minor_front, short_front, spelled}
use Rattle.py_fields.specs.Fronts.{spelled_after, spelled_last, version_by}
use Rattle.py_fields.proofs.Numbers.{chose, major_read, major_spells, minor_read, minor_spells, short_read}
use Rattle.py_fields.proofs.Numbers.{short_spells}
use Rattle.py_fields.proofs.Flags.{flags_read, flags_spell}
use Rattle.py_fields.proofs.Builds.{metadata_read, metadata_spells}
use Rattle.py_fields.proofs.Ends.{behind_flags, behind_patch, end_ends, end_read, end_spells}

-- a text and what stands after it, part by part
pub along : (a b c d e f after : List ℕ) → (a ++ (codes "." ++ (b ++ (codes "." ++ (c ++ (d ++ (e ++ f))))))) ++ after ≡ a ++ (codes "." ++ (b ++ (codes "." ++ (c ++ (d ++ (e ++ (f ++ after)))))))
along a b c d e f after =
    append_assoc a (46 ∷ (b ++ (46 ∷ (c ++ (d ++ (e ++ f)))))) after
    ∙ ap (λ r. a ++ (46 ∷ r)) (append_assoc b (46 ∷ (c ++ (d ++ (e ++ f)))) after
    ∙ ap (λ r. b ++ (46 ∷ r)) (append_assoc c (d ++ (e ++ f)) after
    ∙ ap (λ r. c ++ r) (append_assoc d (e ++ f) after
    ∙ ap (λ r. d ++ r) (append_assoc e f after))))

-- what is spelled is taken, whatever stands after it
pub spelled_read : (text after : List ℕ) (v : Version) → Spells text v → spelled (text ++ after) ≡ Some v
unfolding spelled spelled_after
spelled_read text after v s =
    let flags = v.release_flags in
    let rest = s.metadata ++ (s.last ++ after) in
    let behind = behind_flags s.metadata s.last after v.build_metadata s.is_metadata s.is_end in
    let patch = short_read s.patch (flags ++ rest) v.patch s.is_patch (behind_patch flags rest s.are_flags behind.1) in
    let len : flags_len (flags ++ rest) ≡ length flags = flags_read flags rest s.are_flags behind.1 behind.0 in
    let metadata = metadata_read s.metadata (s.last ++ after) v.build_metadata s.is_metadata (end_ends s.last after s.is_end) in
    let minor = minor_read s.minor (s.patch ++ (flags ++ rest)) v.minor s.is_minor in
    let major = major_read s.major (s.minor ++ (codes "." ++ (s.patch ++ (flags ++ rest)))) v.major s.is_major in
    let whole : text ++ after ≡ s.major ++ (codes "." ++ (s.minor ++ (codes "." ++ (s.patch ++ (flags ++ rest))))) = ap (λ t. t ++ after) s.parts ∙ along s.major s.minor s.patch flags s.metadata s.last after in
    rw (whole, major, minor, patch, len, take-append_seam flags rest, drop-append_seam flags rest, metadata, end_read s.last after s.is_end) refl

-- a version at the front of some bytes
pub record Begins (bytes : List ℕ) (v : Version) : Type 0 where
  pub text : List ℕ
  pub after : List ℕ
  pub parts : bytes ≡ text ++ after
  pub spells : Spells text v

-- what stands behind the numbers
record Tail (major minor patch : ℕ) (rest : List ℕ) (v : Version) : Type 0 where
  pub flags : List ℕ
  pub are_flags : AreFlags flags
  pub metadata : List ℕ
  pub build : Option (List ℕ)
  pub is_metadata : IsMetadata metadata build
  pub last : List ℕ
  pub is_end : IsEnd last
  pub after : List ℕ
  pub parts : rest ≡ flags ++ (metadata ++ (last ++ after))
  pub version : version_by major minor patch flags build ≡ v

tail_spells : (major minor patch : ℕ) (rest : List ℕ) (v : Version) → spelled_after major minor patch rest ≡ Some v → Tail major minor patch rest v
unfolding spelled_after
tail_spells major minor patch rest v e =
    let flags = take (flags_len rest) rest in
    let left = drop (flags_len rest) rest in
    option_and_then_some (spelled_last major minor patch flags) (metadata_front left) v e (λ x found last.
    let got = chose (has_end x.1) (version_by major minor patch flags x.0) v last in
    let metadata = metadata_spells left x.1 x.0 found in
    let end = end_spells x.1 got.0 in
    record {
      flags = flags;
      are_flags = flags_spell rest;
      metadata = metadata.0;
      build = x.0;
      is_metadata = metadata.1;
      last = end.0;
      is_end = end.2;
      after = end.1;
      parts = sym (take-append-drop (flags_len rest) rest) ∙ ap (λ r. flags ++ r) (metadata.2 ∙ ap (λ r. metadata.0 ++ r) end.3);
      version = got.1;
    })

-- what is taken is spelled
pub spelled_spells : (bytes : List ℕ) (v : Version) → spelled bytes ≡ Some v → Begins bytes v
unfolding spelled
spelled_spells bytes v e =
    option_and_then_some _ (major_front bytes) v e (λ x one e1.
    option_and_then_some _ (minor_front x.1) v e1 (λ y two e2.
    option_and_then_some _ (short_front y.1) v e2 (λ z three e3. whole x y z one two three (tail_spells x.0 y.0 z.0 z.1 v e3))))
  where
    whole : (x y z : ℕ × List ℕ) → major_front bytes ≡ Some x → minor_front x.1 ≡ Some y → short_front y.1 ≡ Some z → Tail x.0 y.0 z.0 z.1 v → Begins bytes v
    whole x y z one two three t =
        let major = major_spells bytes x.1 x.0 one in
        let minor = minor_spells x.1 y.1 y.0 two in
        let patch = short_spells y.1 z.1 z.0 three in
        let text = major.0 ++ (codes "." ++ (minor.0 ++ (codes "." ++ (patch.0 ++ (t.flags ++ (t.metadata ++ t.last)))))) in
        let rest : y.1 ≡ patch.0 ++ (t.flags ++ (t.metadata ++ (t.last ++ t.after))) = patch.2 ∙ ap (λ r. patch.0 ++ r) t.parts in
        let from_minor : x.1 ≡ minor.0 ++ (codes "." ++ (patch.0 ++ (t.flags ++ (t.metadata ++ (t.last ++ t.after))))) = minor.2 ∙ ap (λ r. minor.0 ++ (codes "." ++ r)) rest in
        let all : bytes ≡ text ++ t.after = major.2 ∙ ap (λ r. major.0 ++ (codes "." ++ r)) from_minor ∙ sym (along major.0 minor.0 patch.0 t.flags t.metadata t.last t.after) in
        let spells : Spells text (version_by x.0 y.0 z.0 t.flags t.build) = record {
          major = major.0;
          is_major = major.1;
          minor = minor.0;
          is_minor = minor.1;
          patch = patch.0;
          is_patch = patch.1;
          are_flags = t.are_flags;
          metadata = t.metadata;
          is_metadata = t.is_metadata;
          last = t.last;
          is_end = t.is_end;
          parts = refl;
        } in
        subst (Begins bytes) t.version (record { text = text; after = t.after; parts = all; spells = spells })
