-- Names of files in the lines of C files: what the reader of ends finds is the longest.
use Rattle.std.proofs.Common.{◌≡◌, ◌≢◌, ◌<◌, ◌≤◌, ◌+◌, ℕ, suc, true, false, cond, List, [], ◌∷◌, ◌++◌, length, take}
use Rattle.std.proofs.Common.{drop, get_or, refl, sym, ap, subst, ◌∙◌, arith, length-append, length-drop}
use Rattle.std.proofs.Common.{length-take-le, drop-cons, get_or-take}
use Rattle.std.specs.Prelude.{◌^◌, Some, None, codes}
use Rattle.std.specs.List.{prefix_len}
use Rattle.std.specs.Char.{is_ascii_digit}
use Rattle.std.specs.Str.{trim_start}
use Rattle.std.specs.Str.Parse.{digits_value}
use Rattle.std.specs.Str.Pattern.{FindsTextPrefix, StripsPrefix}
use Rattle.std.proofs.Math.ListN.{get_or-append}
use Rattle.std.proofs.Math.Seq.{get_or-append_seam, drop-append_seam, take-append_seam}
use Rattle.std.proofs.lemmas.Bool.Decides.{nat_tests}
use Rattle.std.proofs.lemmas.List.{take-append-drop}
use Rattle.native_merge.specs.Digits.{leading_digits, HasNumber}
use Rattle.native_merge.specs.NameEnds.{EndsAt, IsNameEnd, is_closing}
use Rattle.native_merge.specs.SourceLines.{HasInnerDot, Names, NamesLongest, TellsNone, TellsOnce}

-- ---- a quote, a colon and a digit

closes : (rest : List ℕ) → leading_digits rest ≢ [] → is_closing (34 ∷ 58 ∷ rest) ≡ true
closes [] some = absurd (some refl)
closes (c ∷ cs) some = (elim (is_ascii_digit c) as (λ b. is_ascii_digit c ≡ b → is_ascii_digit c ≡ true) [
  | true ↦ λ e. e
  | false ↦ λ e. absurd (some (ap (λ b. take (cond b (1 + prefix_len is_ascii_digit cs) 0) (c ∷ cs)) e))
]) refl

one_plus : (n : ℕ) → 1 + n ≡ suc n
one_plus n = omega arith

opens : (rest : List ℕ) → is_closing (34 ∷ 58 ∷ rest) ≡ true → leading_digits rest ≢ []
opens [] closed none = absurd (cc)
opens (c ∷ cs) closed none =
    let taken : leading_digits (c ∷ cs) ≡ c ∷ take (prefix_len is_ascii_digit cs) cs =
    ap (λ b. take (cond b (1 + prefix_len is_ascii_digit cs) 0) (c ∷ cs)) closed
    ∙ ap (λ n. take n (c ∷ cs)) (one_plus (prefix_len is_ascii_digit cs)) in
    let empty : c ∷ take (prefix_len is_ascii_digit cs) cs ≡ [] = sym taken ∙ none in
    absurd (cc)

pub closing_is : (text : List ℕ) → is_closing text ≡ true → (rest : List ℕ) × (text ≡ 34 ∷ 58 ∷ rest)
closing_is [] closed = absurd (cc)
closing_is (a ∷ []) closed = absurd (cc)
closing_is (a ∷ b ∷ []) closed = absurd (cc)
closing_is (a ∷ b ∷ c ∷ rest) closed =
    let quote : a ≡ 34 = grind (arith, nat_tests, closed) in
    let colon : b ≡ 58 = grind (arith, nat_tests, closed) in
    (c ∷ rest, ap (λ (x : ℕ). x ∷ b ∷ c ∷ rest) quote ∙ ap (λ (x : ℕ). 34 ∷ x ∷ c ∷ rest) colon)

-- ---- where a name ends

some_length : (text : List ℕ) → text ≢ [] → 1 ≤ length text
some_length [] some = absurd (some refl)
some_length (c ∷ cs) some = omega arith

no_length : (text : List ℕ) → 1 ≤ length text → text ≢ []
no_length text some e = let none : length text ≡ 0 = ap length e in absurd (omega (arith, some, none))

pub ends_at : (text name rest : List ℕ) → Names text name rest → EndsAt text (length name)
ends_at text name rest names =
    let d = names.dotted in
    let tail = 34 ∷ 58 ∷ rest in
    let size : length name ≡ length d.front + length (46 ∷ d.back) = ap length d.parts ∙ length-append d.front (46 ∷ d.back) in
    let front = some_length d.front d.not_first in
    let back = some_length d.back d.not_last in
    let inside : length d.front + 1 < length name = omega (arith, size, back) in
    let in_name : length d.front < length name = omega (arith, inside) in
    let dot : get_or text (length d.front) 0 ≡ 46 =
    ap (λ (t : List ℕ). get_or t (length d.front) 0) names.parts ∙ get_or-append name tail 0 (length d.front) in_name
    ∙ ap (λ (t : List ℕ). get_or t (length d.front) 0) d.parts ∙ get_or-append_seam d.front 46 d.back 0 in
    let closed : is_closing (drop (length name) text) ≡ true =
    ap (λ (t : List ℕ). is_closing (drop (length name) t)) names.parts ∙ ap is_closing (drop-append_seam name tail) ∙ closes rest names.digits in
    ((length d.front, front, inside, dot), closed)

inner_dot_of : (name : List ℕ) (dot : ℕ) → 1 ≤ dot → dot + 1 < length name → get_or name dot 0 ≡ 46 → HasInnerDot name
inner_dot_of name dot low high is =
    let taken : length (take dot name) ≡ dot = length-take-le dot name (omega (arith, high)) in
    let left = length-drop (suc dot) name in
    record {
      front = take dot name;
      back = drop (suc dot) name;
      not_first = no_length (take dot name) (omega (arith, taken, low));
      not_last = no_length (drop (suc dot) name) (omega (arith, left, high));
      parts = sym (take-append-drop dot name)
          ∙ ap (λ (t : List ℕ). take dot name ++ t) (drop-cons name dot 0 (omega (arith, high)) ∙ ap (λ (x : ℕ). x ∷ drop (suc dot) name) is);
    }

longest_at : (text : List ℕ) (end : ℕ) (rest : List ℕ) → IsNameEnd text (Some end) → drop end text ≡ 34 ∷ 58 ∷ rest → NamesLongest text (take end text) rest
longest_at text end rest is e =
    let size : length (take end text) ≡ end = length-take-le end text (omega (arith, is.1)) in
    let dot = is.0.0 in
    let in_name : get_or (take end text) dot.0 0 ≡ 46 = get_or-take end text dot.0 0 (omega (arith, dot.2)) ∙ dot.3 in
    record {
      names = record {
        dotted = inner_dot_of (take end text) dot.0 dot.1 (omega (arith, size, dot.2)) in_name;
        digits = opens rest (ap is_closing (sym e) ∙ is.0.1);
        parts = sym (take-append-drop end text) ∙ ap (λ (t : List ℕ). take end text ++ t) e;
      };
      longest = λ other after names. omega (arith, size, is.2 (length other) (ends_at text other after names));
    }

pub read_longest : (bytes text closing name rest : List ℕ) (end : ℕ) → bytes ≡ text → IsNameEnd bytes (Some end) → name ≡ take end text → closing ≡ drop end text
    → closing ≡ 34 ∷ 58 ∷ rest → NamesLongest text name rest
read_longest bytes text closing name rest end same is taken dropped e =
    subst (λ (n : List ℕ). NamesLongest text n rest) (sym taken)
    (longest_at text end rest (subst (λ (t : List ℕ). IsNameEnd t (Some end)) same is) (sym dropped ∙ e))

pub never_open : (bytes text closing : List ℕ) (end : ℕ) → bytes ≡ text → IsNameEnd bytes (Some end) → closing ≡ drop end text
    → ((rest : List ℕ) → closing ≢ 34 ∷ 58 ∷ rest) → ⊥
never_open bytes text closing end same is dropped none =
    let here = subst (λ (t : List ℕ). IsNameEnd t (Some end)) same is in
    let open_is = closing_is (drop end text) here.0.1 in
    none open_is.0 (dropped ∙ open_is.1)

-- ---- one name is the longest

pub longest_same : (text name other rest after : List ℕ) → NamesLongest text name rest → NamesLongest text other after → (name ≡ other) × (rest ≡ after)
longest_same text name other rest after a b =
    let len : length name ≡ length other = omega (arith, a.longest other after b.names, b.longest name rest a.names) in
    let names : name ≡ other = sym (take-append_seam name (34 ∷ 58 ∷ rest)) ∙ ap (take (length name)) (sym a.names.parts)
    ∙ ap (λ n. take n text) len ∙ ap (take (length other)) b.names.parts ∙ take-append_seam other (34 ∷ 58 ∷ after) in
    let tails : 34 ∷ 58 ∷ rest ≡ 34 ∷ 58 ∷ after = sym (drop-append_seam name (34 ∷ 58 ∷ rest)) ∙ ap (drop (length name)) (sym a.names.parts)
    ∙ ap (λ n. drop n text) len ∙ ap (drop (length other)) b.names.parts ∙ drop-append_seam other (34 ∷ 58 ∷ after) in
    (names, ap (drop 2) tails)

pub stripped : (front text left : List ℕ) → StripsPrefix (FindsTextPrefix front) text left → text ≡ front ++ left
stripped front text left found = found.1.1 ∙ ap (λ (t : List ℕ). front ++ t) (sym found.2)

same_text : (line text other : List ℕ) → trim_start line ≡ codes "/* \"" ++ text → trim_start line ≡ codes "/* \"" ++ other → text ≡ other
same_text line text other a b = ap (drop 4) (sym a ∙ b)

-- a line without an end of a name tells nothing
pub tells_no_name : (line bytes text : List ℕ) → trim_start line ≡ codes "/* \"" ++ text → bytes ≡ text → IsNameEnd bytes None → TellsNone line
tells_no_name line bytes text begins same none name number t =
    let e : t.text ≡ bytes = same_text line t.text text t.begins begins ∙ sym same in
    none (length name) (subst (λ (x : List ℕ). EndsAt x (length name)) e (ends_at t.text name t.rest t.names.names))

-- nor one whose number does not fit
pub tells_no_number : (line text name rest : List ℕ) → trim_start line ≡ codes "/* \"" ++ text → NamesLongest text name rest
    → (leading_digits rest ≢ [] → digits_value 10 (leading_digits rest) < 2 ^ 32 → ⊥) → TellsNone line
tells_no_number line text name rest begins longest large other number t =
    let e : t.text ≡ text = same_text line t.text text t.begins begins in
    let same = longest_same text name other rest t.rest longest (subst (λ (x : List ℕ). NamesLongest x other t.rest) e t.names) in
    let value : number ≡ digits_value 10 (leading_digits rest) = t.value ∙ ap (λ (r : List ℕ). digits_value 10 (leading_digits r)) (sym same.1) in
    large longest.names.digits (subst (λ n. n < 2 ^ 32) value t.fits)

pub no_number : (rest : List ℕ) → (HasNumber rest → ⊥) → leading_digits rest ≢ [] → digits_value 10 (leading_digits rest) < 2 ^ 32 → ⊥
no_number rest none some fits = none (record { some = some; fits = omega (arith, fits) })

-- no line tells two
pub tells_once : TellsOnce
tells_once line name other number again t u =
    let e : u.text ≡ t.text = same_text line u.text t.text u.begins t.begins in
    let same = longest_same t.text name other t.rest u.rest t.names (subst (λ (x : List ℕ). NamesLongest x other u.rest) e u.names) in
    (same.0, t.value ∙ ap (λ (r : List ℕ). digits_value 10 (leading_digits r)) same.1 ∙ sym u.value)
