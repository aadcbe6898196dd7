-- What is written in quotes is read back.
use Rattle.std.proofs.Common.{◌≡◌, ◌≢◌, ◌<◌, ◌≤◌, ◌^◌, ◌⊎◌, inl, inr, ℕ, zero, suc, Bool, true, false, ◌||◌, ◌&&◌, ◌==◌}
use Rattle.std.proofs.Common.{Option, Some, None, List, [], ◌∷◌, ◌++◌, All, refl, sym, ap, subst, ◌∙◌, arith, eqb}
use Rattle.std.proofs.Common.{eqb-true}
use Rattle.std.proofs.Common.{eq-eqb, ltb, ltb-true, ltb-false, lt-ltb, leb, nat_lt, append_assoc, encode_utf8}
use Rattle.std.proofs.Common.{if◌then◌else◌, length, cond, not, get_or, Fits, w32}
use Rattle.std.proofs.lemmas.Bool.{eqb-false, false≢true}
use Rattle.std.specs.List.{flat_map}
use Rattle.std.proofs.lemmas.List.Elements.{All-head, All-tail}
use lib.Utf8.{scalar}
use Rattle.python_literals.specs.declared.quotes.Style.{Style}
use Rattle.python_literals.specs.declared.quotes.Style.TheVariants.{Printable, Ascii, ByteArray}
use Rattle.python_literals.specs.Quotes.{hex_of, hex_text, is_printable, long_text, point_text, points_text, quote_of}
use Rattle.python_literals.specs.Quotes.{quoted}
use Rattle.python_literals.specs.Quotes.{escapes_apostrophe, has, short_of, stands_plain, text_by}
use Rattle.python_literals.specs.Literals.{AreWords, IsHex, Literal, Point, Points, escape_of, hex_width}
use Rattle.python_literals.specs.Literals.Point.{escaped, numbered, plain}
use Rattle.python_literals.specs.Literals.Points.{end, more}
use Rattle.python_literals.proofs.HexReading.{hex_reads}

abbrev IsQuote : ℕ → Type 0
IsQuote q = (q ≡ 34) ⊎ (q ≡ 39)

both_left : (a b : Bool) → a && b ≡ true → a ≡ true
both_left true b e = refl
both_left false b e = e

both_right : (a b : Bool) → a && b ≡ true → b ≡ true
both_right true b e = e
both_right false b e = absurd (false≢true e)

scalar_ascii : (c : ℕ) → c < 127 → scalar c ≡ true
scalar_ascii c h = ap (λ (t : Bool). cond t true (leb 57344 c && ltb c 1114112)) (lt-ltb c 55296 (omega arith))

ascii_scalar : (c : ℕ) (a b : Bool) → ltb c 127 ≡ b → a && b ≡ true → scalar c ≡ true
ascii_scalar c true true h e = scalar_ascii c (ltb-true c 127 h)
ascii_scalar c true false h e = absurd (false≢true e)
ascii_scalar c false b h e = absurd (false≢true e)

-- what stands for itself is a character
plain_scalar : (style : Style) (c : ℕ) → stands_plain style c ≡ true → scalar c ≡ true
plain_scalar Printable c e = both_left (scalar c) (is_printable c) e
plain_scalar Ascii c e = ascii_scalar c (leb 32 c) (ltb c 127) refl e
plain_scalar ByteArray c e = ascii_scalar c (leb 32 c) (ltb c 127) refl e

-- by its number, a code point is read back
numbered_reads : (quote c : ℕ) (after : List ℕ) → c < 2 ^ 32 → Point quote (hex_text c ++ after) c after
numbered_reads quote c after h = by (ltb c 0x100) (ltb c 0x1_0000) refl refl
  where
    by : (a b : Bool) → ltb c 0x100 ≡ a → ltb c 0x1_0000 ≡ b
        → Point quote ((if a then 92 ∷ 120 ∷ hex_of 2 c else if b then 92 ∷ 117 ∷ hex_of 4 c else 92 ∷ 85 ∷ hex_of 8 c) ++ after) c after
    by true b l m = numbered 120 2 (hex_of 2 c) refl (hex_reads 1 c (omega (arith, ltb-true c 0x100 l)) (omega arith)) refl
    by false true l m = numbered 117 4 (hex_of 4 c) refl (hex_reads 3 c (omega (arith, ltb-true c 0x1_0000 m)) (omega arith)) refl
    by false false l m = numbered 85 8 (hex_of 8 c) refl (hex_reads 7 c (omega arith) (omega arith)) refl

-- one that has no short form
long_reads : (style : Style) (quote c : ℕ) (after : List ℕ) → c < 2 ^ 32 → c ≢ quote → c ≢ 92
    → Point quote (long_text style c ++ after) c after
long_reads style quote c after h p q = by (stands_plain style c) refl
  where
    by : (t : Bool) → stands_plain style c ≡ t → Point quote ((if t then encode_utf8 c else hex_text c) ++ after) c after
    by true e = plain (plain_scalar style c e) p q refl
    by false e = numbered_reads quote c after h

-- a quote and a backslash stand behind a backslash
own_reads : (style : Style) (quote c : ℕ) (after : List ℕ) → IsQuote quote → (c ≡ quote) ⊎ (c ≡ 92)
    → Point quote (text_by style c (Some c) ++ after) c after
unfolding lib.Utf8.encode
own_reads style quote c after (inl a) (inl e) = subst (λ (n : ℕ). Point quote (text_by style n (Some n) ++ after) n after)
    (sym (e ∙ a)) (escaped 34 refl refl)
own_reads style quote c after (inr a) (inl e) = subst (λ (n : ℕ). Point quote (text_by style n (Some n) ++ after) n after)
    (sym (e ∙ a)) (escaped 39 refl refl)
own_reads style quote c after a (inr e) = subst (λ (n : ℕ). Point quote (text_by style n (Some n) ++ after) n after)
    (sym e) (escaped 92 refl refl)

either_true : (a b : Bool) → a || b ≡ true → (a ≡ true) ⊎ (b ≡ true)
either_true true b e = inl refl
either_true false b e = inr e

either_false : (a b : Bool) → a || b ≡ false → (a ≡ false) × (b ≡ false)
either_false true b e = absurd (false≢true (sym e))
either_false false b e = (refl, e)

-- each code point is read back
pub point_reads : (style : Style) (quote c : ℕ) (after : List ℕ) → IsQuote quote → c < 2 ^ 32
    → Point quote (point_text style quote c ++ after) c after
unfolding point_text lib.Utf8.encode
point_reads style quote c after q h = own (eqb c quote || eqb c 92) refl
  where
    Reads : Option ℕ → Type 0
    Reads short = Point quote (text_by style c short ++ after) c after

    fourth : c ≢ quote → c ≢ 92 → (t : Bool) → eqb c 13 ≡ t → Reads (if t then Some 114 else None)
    fourth p r true e = subst (λ (n : ℕ). Point quote (92 ∷ 114 ∷ after) n after) (sym (eqb-true c 13 e)) (escaped 114 refl refl)
    fourth p r false e = long_reads style quote c after h p r

    third : c ≢ quote → c ≢ 92 → (t : Bool) → eqb c 10 ≡ t → Reads (if t then Some 110 else if eqb c 13 then Some 114 else None)
    third p r true e = subst (λ (n : ℕ). Point quote (92 ∷ 110 ∷ after) n after) (sym (eqb-true c 10 e)) (escaped 110 refl refl)
    third p r false e = fourth p r (eqb c 13) refl

    second : c ≢ quote → c ≢ 92 → (t : Bool) → eqb c 9 ≡ t
        → Reads (if t then Some 116 else if eqb c 10 then Some 110 else if eqb c 13 then Some 114 else None)
    second p r true e = subst (λ (n : ℕ). Point quote (92 ∷ 116 ∷ after) n after) (sym (eqb-true c 9 e)) (escaped 116 refl refl)
    second p r false e = third p r (eqb c 10) refl

    apostrophe : c ≢ quote → c ≢ 92 → (t : Bool) → escapes_apostrophe style && eqb c 39 ≡ t
        → Reads (if t then Some c
        else if eqb c 9 then Some 116
        else if eqb c 10 then Some 110
        else if eqb c 13 then Some 114
        else None)
    apostrophe p r true e = subst (λ (n : ℕ). Point quote (text_by style n (Some n) ++ after) n after)
        (sym (eqb-true c 39 (both_right (escapes_apostrophe style) (eqb c 39) e))) (escaped 39 refl refl)
    apostrophe p r false e = second p r (eqb c 9) refl

    which : (eqb c quote ≡ true) ⊎ (eqb c 92 ≡ true) → (c ≡ quote) ⊎ (c ≡ 92)
    which (inl e) = inl (eqb-true c quote e)
    which (inr e) = inr (eqb-true c 92 e)

    own : (t : Bool) → eqb c quote || eqb c 92 ≡ t
        → Reads (if t then Some c
        else if escapes_apostrophe style && eqb c 39 then Some c
        else if eqb c 9 then Some 116
        else if eqb c 10 then Some 110
        else if eqb c 13 then Some 114
        else None)
    own true e = own_reads style quote c after q (which (either_true _ _ e))
    own false e = apostrophe (eqb-false c quote (either_false _ _ e).0) (eqb-false c 92 (either_false _ _ e).1) (escapes_apostrophe style && eqb c 39) refl

-- so are some, up to the quote behind them
pub points_read : (style : Style) (quote : ℕ) (points rest : List ℕ) → IsQuote quote → AreWords points
    → Points quote (points_text style quote points ++ quote ∷ rest) points rest
unfolding points_text
points_read style quote [] rest q a = end _ _ _ refl refl
points_read style quote (c ∷ cs) rest q a =
    more _ _ _ c (points_text style quote cs ++ quote ∷ rest) cs
    (subst (λ (text : List ℕ). Point quote text c (points_text style quote cs ++ quote ∷ rest))
    (sym (append_assoc (point_text style quote c) (points_text style quote cs) (quote ∷ rest)))
    (point_reads style quote c (points_text style quote cs ++ quote ∷ rest) q (All-head (λ n. n < 2 ^ 32) c cs a)))
    refl (points_read style quote cs rest q (All-tail (λ n. n < 2 ^ 32) c cs a))

quote_is : (points : List ℕ) → IsQuote (quote_of points)
quote_is points = by (has 39 points && not (has 34 points))
  where
    by : (t : Bool) → IsQuote (if t then 34 else 39)
    by true = inl refl
    by false = inr refl

-- what is written is a literal of these code points
pub literal_of : (style : Style) (points rest : List ℕ) → AreWords points
    → Literal (quoted style points ++ rest) points rest
unfolding quoted
literal_of style points rest a = record {
  quote = quote_of points;
  is = quote_is points;
  within = points_text style (quote_of points) points ++ quote_of points ∷ rest;
  text_is = ap (λ (text : List ℕ). quote_of points ∷ text)
      (append_assoc (points_text style (quote_of points) points) (quote_of points ∷ []) rest);
  points_are = points_read style (quote_of points) points rest (quote_is points) a;
}

same_in : (xs : List ℕ) (k d e : ℕ) → k < length xs → get_or xs k d ≡ get_or xs k e
same_in [] k d e h = absurd (omega (arith, h))
same_in (x ∷ xs) zero d e h = refl
same_in (x ∷ xs) (suc k) d e h = same_in xs k d e (omega (arith, h))

-- each element of a slice of such numbers has 32 bits
pub words : (points : List ℕ) → ((i : ℕ) → Fits w32 (get_or points i 0)) → AreWords points
words points fit k d h = omega (arith, fit k, same_in points k d 0 h)
