-- What the reader of a library's name takes is what is spelled.
use Rattle.std.proofs.Common.{◌≡◌, ℕ, Bool, true, false, List, [], ◌∷◌, ◌++◌, take, drop, length, refl, sym, ap, subst}
use Rattle.std.proofs.Common.{◌∙◌, arith, append_assoc, ⊎_elim, inl, inr}
use Rattle.std.specs.Prelude.{Option, Some, None, ◌==◌, ◌||◌, ◌&&◌, ◌⊎◌, codes, nat_eq}
use Rattle.std.specs.Char.{encode_utf8, is_ascii_digit}
use Rattle.std.specs.Str.{IsUtf8}
use Rattle.std.specs.List.{starts_with}
use Rattle.std.proofs.lemmas.Bool.{and_parts}
use Rattle.std.proofs.lemmas.Bool.Decides.{nat_tests, Decides-eqb}
use Rattle.std.proofs.lemmas.List.{take-append-drop}
use Rattle.std.proofs.lemmas.Slice.Eq.{starts_is}
use Rattle.std.proofs.Math.Seq.{drop-append_seam}
use Rattle.py_process.specs.Library.{IsDigit, IsDigitOrNone, IsFlagOrNone, IsLibrary, IsLibraryName, IsMark}
use Rattle.py_process.specs.LibraryFronts.{begins_library, begins_so, digit_end, end_behind, flag_end, has_version_end}
use Rattle.py_process.specs.LibraryFronts.{has_flag_end, has_minor, has_minor_end, has_version, is_flag, minor_behind}
use Rattle.py_process.specs.LibraryFronts.{past_mark}
use Rattle.py_process.proofs.Marks.{Marked, mark_read, mark_spells}

or_right : (a b : Bool) → b ≡ true → (a || b) ≡ true
or_right true b e = refl
or_right false b e = e

or_left : (a b : Bool) → a ≡ true → (a || b) ≡ true
or_left true b e = refl
or_left false b e = absurd (cc)

or_cases : (a b : Bool) → (a || b) ≡ true → (a ≡ true) ⊎ (b ≡ true)
or_cases true b e = inl refl
or_cases false b e = inr e

and_both : (a b : Bool) → a ≡ true → b ≡ true → (a && b) ≡ true
and_both true b e h = h
and_both false b e h = absurd (cc)

same_number : (a b : ℕ) → (a == b) ≡ true → a ≡ b
same_number a b e = grind (arith, nat_tests)

-- ---- what is spelled is taken

-- how a name ends
abbrev ending : ℕ → List ℕ → List ℕ
ending last after = encode_utf8 last ++ (115 ∷ 111 ∷ after)

end_read : (last : ℕ) (after : List ℕ) → IsMark last → has_version_end (ending last after) ≡ true
end_read last after is = ap end_behind (mark_read last (115 ∷ 111 ∷ after) is)

flag_read : (flag : List ℕ) (last : ℕ) (after : List ℕ) → IsFlagOrNone flag → IsMark last → has_flag_end (flag ++ ending last after) ≡ true
flag_read flag last after is mark =
    ⊎_elim (λ e. subst P (sym e) (or_left _ _ (end_read last after mark)))
    (λ a. ⊎_elim (λ e. subst P (sym e) (or_right _ _ (end_read last after mark)))
    (λ b. ⊎_elim (λ e. subst P (sym e) (or_right _ _ (end_read last after mark)))
    (λ e. subst P (sym e) (or_right _ _ (end_read last after mark))) b) a) is
  where
    P : List ℕ → Type 0
    P text = has_flag_end (text ++ ending last after) ≡ true

more_read : (more rest : List ℕ) → IsDigitOrNone more → has_flag_end rest ≡ true → has_minor_end (more ++ rest) ≡ true
more_read [] rest is ends = or_left _ _ ends
more_read (c ∷ []) rest is ends = or_right _ _ (and_both _ _ is ends)
more_read (c ∷ d ∷ more) rest is ends = absurd is

version_read : (major between minor : ℕ) (rest : List ℕ) → IsDigit major → IsMark between → IsDigit minor → has_minor_end rest ≡ true
    → has_version (major ∷ (encode_utf8 between ++ (minor ∷ rest))) ≡ true
version_read major between minor rest is_major mark is_minor ends =
    and_both _ _ is_major (ap minor_behind (mark_read between (minor ∷ rest) mark) ∙ and_both _ _ is_minor ends)

begun_read : (rest : List ℕ) → has_version rest ≡ true → begins_library (codes "/libpython" ++ rest) ≡ true
begun_read rest is = is

regroup : (between more flag last after : List ℕ) (major minor : ℕ)
    → (codes "/libpython" ++ (major ∷ (between ++ (minor ∷ (more ++ (flag ++ (last ++ codes "so"))))))) ++ after
    ≡ codes "/libpython" ++ (major ∷ (between ++ (minor ∷ (more ++ (flag ++ (last ++ (115 ∷ 111 ∷ after)))))))
regroup between more flag last after major minor = simp append_assoc

pub library_read : (name after : List ℕ) → IsLibraryName name → begins_library (name ++ after) ≡ true
library_read name after is =
    let rest = is.more ++ (is.flag ++ ending is.last after) in
    let tail = more_read is.more (is.flag ++ ending is.last after) is.is_more (flag_read is.flag is.last after is.is_flag is.is_last) in
    let version = version_read is.major is.between is.minor rest is.is_major is.is_between is.is_minor tail in
    ap (λ n. begins_library (n ++ after)) is.parts
    ∙ ap begins_library (regroup (encode_utf8 is.between) is.more is.flag (encode_utf8 is.last) after is.major is.minor)
    ∙ begun_read (is.major ∷ (encode_utf8 is.between ++ (is.minor ∷ rest))) version

-- ---- what is taken is spelled

record Ending (bytes : List ℕ) : Type 0 where
  pub last : ℕ
  pub after : List ℕ
  pub is_last : IsMark last
  pub parts : bytes ≡ ending last after

so_spells : (bytes : List ℕ) → begins_so bytes ≡ true → (after : List ℕ) × (bytes ≡ 115 ∷ 111 ∷ after)
so_spells [] e = absurd (cc)
so_spells (s ∷ []) e = absurd (cc)
so_spells (s ∷ o ∷ rest) e =
    let both = and_parts (s == 115) (o == 111) e in
    let first : s ≡ 115 = same_number s 115 both.0 in
    let second : o ≡ 111 = same_number o 111 both.1 in
    (rest, cc)

end_spells : (bytes : List ℕ) → has_version_end bytes ≡ true → Ending bytes
end_spells bytes e = by (past_mark bytes) refl e
  where
    by : (r : Option (List ℕ)) → past_mark bytes ≡ r → end_behind r ≡ true → Ending bytes
    by None is e = absurd (cc)
    by (Some rest) is e =
        let marked = mark_spells bytes rest is in
        let so = so_spells rest e in
        record { last = marked.char; after = so.0; is_last = marked.is; parts = marked.parts ∙ ap (λ r. encode_utf8 marked.char ++ r) so.1 }

record FlagEnding (bytes : List ℕ) : Type 0 where
  pub flag : List ℕ
  pub is_flag : IsFlagOrNone flag
  pub rest : List ℕ
  pub ends : Ending rest
  pub parts : bytes ≡ flag ++ rest

flag_letter : (c : ℕ) → is_flag c ≡ true → IsFlagOrNone (c ∷ [])
flag_letter c e =
    ⊎_elim (λ a. ⊎_elim (λ m. inr (inl (ap (λ x. x ∷ []) (same_number c 109 m))))
    (λ d. inr (inr (inl (ap (λ x. x ∷ []) (same_number c 100 d))))) (or_cases (c == 109) (c == 100) a))
    (λ u. inr (inr (inr (ap (λ x. x ∷ []) (same_number c 117 u))))) (or_cases (c == 109 || c == 100) (c == 117) e)

flagged_spells : (bytes : List ℕ) → flag_end bytes ≡ true → FlagEnding bytes
flagged_spells [] e = absurd (cc)
flagged_spells (c ∷ rest) e =
    let both = and_parts (is_flag c) (has_version_end rest) e in
    record { flag = c ∷ []; is_flag = flag_letter c both.0; rest = rest; ends = end_spells rest both.1; parts = refl }

flag_spells : (bytes : List ℕ) → has_flag_end bytes ≡ true → FlagEnding bytes
flag_spells bytes e =
    ⊎_elim (λ ends. record { flag = []; is_flag = inl refl; rest = bytes; ends = end_spells bytes ends; parts = refl })
    (flagged_spells bytes) (or_cases (has_version_end bytes) (flag_end bytes) e)

record MinorEnding (bytes : List ℕ) : Type 0 where
  pub more : List ℕ
  pub is_more : IsDigitOrNone more
  pub rest : List ℕ
  pub ends : FlagEnding rest
  pub parts : bytes ≡ more ++ rest

digit_spells : (bytes : List ℕ) → digit_end bytes ≡ true → MinorEnding bytes
digit_spells [] e = absurd (cc)
digit_spells (c ∷ rest) e =
    let both = and_parts (is_ascii_digit c) (has_flag_end rest) e in
    record { more = c ∷ []; is_more = both.0; rest = rest; ends = flag_spells rest both.1; parts = refl }

minor_spells : (bytes : List ℕ) → has_minor_end bytes ≡ true → MinorEnding bytes
minor_spells bytes e =
    ⊎_elim (λ ends. record { more = []; is_more = tt; rest = bytes; ends = flag_spells bytes ends; parts = refl })
    (digit_spells bytes) (or_cases (has_flag_end bytes) (digit_end bytes) e)

record Versioned (bytes : List ℕ) : Type 0 where
  pub major : ℕ
  pub is_major : IsDigit major
  pub between : ℕ
  pub is_between : IsMark between
  pub minor : ℕ
  pub is_minor : IsDigit minor
  pub rest : List ℕ
  pub ends : MinorEnding rest
  pub parts : bytes ≡ major ∷ (encode_utf8 between ++ (minor ∷ rest))

behind_spells : (major : ℕ) (rest behind : List ℕ) → IsDigit major → Marked rest behind → has_minor behind ≡ true → Versioned (major ∷ rest)
behind_spells major rest [] is marked e = absurd (cc)
behind_spells major rest (minor ∷ more) is marked e =
    let both = and_parts (is_ascii_digit minor) (has_minor_end more) e in
    record {
      major = major;
      is_major = is;
      between = marked.char;
      is_between = marked.is;
      minor = minor;
      is_minor = both.0;
      rest = more;
      ends = minor_spells more both.1;
      parts = ap (λ r. major ∷ r) marked.parts;
    }

version_spells : (bytes : List ℕ) → has_version bytes ≡ true → Versioned bytes
version_spells [] e = absurd (cc)
version_spells (major ∷ rest) e = by (past_mark rest) refl (and_parts (is_ascii_digit major) (minor_behind (past_mark rest)) e).1
  where
    by : (r : Option (List ℕ)) → past_mark rest ≡ r → minor_behind (past_mark rest) ≡ true → Versioned (major ∷ rest)
    by None is h = absurd (cc (sym (ap minor_behind is) ∙ h))
    by (Some behind) is h = behind_spells major rest behind (and_parts (is_ascii_digit major) (minor_behind (past_mark rest)) e).0 (mark_spells rest behind is) (sym (ap minor_behind is) ∙ h)

record Named (bytes : List ℕ) : Type 0 where
  pub name : List ℕ
  pub after : List ℕ
  pub is_name : IsLibraryName name
  pub parts : bytes ≡ name ++ after

named : (bytes rest : List ℕ) → bytes ≡ codes "/libpython" ++ rest → Versioned rest → Named bytes
named bytes rest begun v =
    let m = v.ends in
    let f = m.ends in
    let e = f.ends in
    let behind : rest ≡ v.major ∷ (encode_utf8 v.between ++ (v.minor ∷ (m.more ++ (f.flag ++ ending e.last e.after)))) =
    v.parts ∙ ap (λ r. v.major ∷ (encode_utf8 v.between ++ (v.minor ∷ r))) (m.parts ∙ ap (λ r. m.more ++ r) (f.parts ∙ ap (λ r. f.flag ++ r) e.parts)) in
    record {
      name = codes "/libpython" ++ (v.major ∷ (encode_utf8 v.between ++ (v.minor ∷ (m.more ++ (f.flag ++ (encode_utf8 e.last ++ codes "so"))))));
      after = e.after;
      is_name = record {
        major = v.major;
        is_major = v.is_major;
        between = v.between;
        is_between = v.is_between;
        minor = v.minor;
        is_minor = v.is_minor;
        more = m.more;
        is_more = m.is_more;
        flag = f.flag;
        is_flag = f.is_flag;
        last = e.last;
        is_last = e.is_last;
        parts = refl;
      };
      parts = begun ∙ ap (λ r. codes "/libpython" ++ r) behind
          ∙ sym (regroup (encode_utf8 v.between) m.more f.flag (encode_utf8 e.last) e.after v.major v.minor);
    }

library_spells : (bytes : List ℕ) → begins_library bytes ≡ true → Named bytes
library_spells bytes e =
    let both = and_parts (starts_with nat_eq bytes (codes "/libpython")) (has_version (drop 10 bytes)) e in
    let begun = (starts_is Decides-eqb bytes (codes "/libpython") _ refl).0 both.0 in
    named bytes (drop 10 bytes) begun (version_spells (drop 10 bytes) both.1)

-- ---- anywhere

pub is_library : (path : List ℕ) → IsUtf8 path → (place : ℕ) × (begins_library (drop place path) ≡ true) → IsLibrary path
is_library path utf8 found =
    let n = library_spells (drop found.0 path) found.1 in
    record {
      utf8 = utf8;
      before = take found.0 path;
      name = n.name;
      after = n.after;
      is_name = n.is_name;
      parts = sym (take-append-drop found.0 path) ∙ ap (λ r. take found.0 path ++ r) n.parts;
    }

pub library_found : (path : List ℕ) → IsLibrary path → (place : ℕ) × (begins_library (drop place path) ≡ true)
library_found path is = (
  length is.before,
  ap begins_library (ap (drop (length is.before)) is.parts ∙ drop-append_seam is.before (is.name ++ is.after))
      ∙ library_read is.name is.after is.is_name,
)
