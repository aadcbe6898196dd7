-- A text has one reading as a literal.
use Rattle.std.proofs.Common.{◌≡◌, ◌≢◌, ◌⊎◌, inl, inr, ℕ, zero, suc, Option, Some, None, List, [], ◌∷◌, ◌++◌, length}
use Rattle.std.proofs.Common.{take, drop}
use Rattle.std.proofs.Common.{refl, sym, ap, subst, ◌∙◌, arith, encode_utf8, Bool, true, false, eqb, eqb-true}
use Rattle.std.proofs.Common.{if◌then◌else◌}
use Rattle.std.specs.Bool.{⊤}
use Rattle.std.proofs.lemmas.Str.{encode_same}
use Rattle.std.specs.Str.Parse.{digits_value}
use Rattle.python_literals.specs.Literals.{IsHex, Literal, Point, Points, escape_of, hex_width}
use Rattle.python_literals.specs.Literals.Point.{escaped, numbered, plain}
use Rattle.python_literals.specs.Literals.Points.{end, more}

abbrev Same : ℕ → List ℕ → ℕ → List ℕ → Type 0
Same c after d behind = (c ≡ d) × (after ≡ behind)

abbrev head_of : List ℕ → ℕ
head_of [] = 0
head_of (x ∷ xs) = x

abbrev tail_of : List ℕ → List ℕ
tail_of [] = []
tail_of (x ∷ xs) = xs

heads_same : (x y : ℕ) (xs ys : List ℕ) → x ∷ xs ≡ y ∷ ys → x ≡ y
heads_same x y xs ys e = ap head_of e

tails_same : (x y : ℕ) (xs ys : List ℕ) → x ∷ xs ≡ y ∷ ys → xs ≡ ys
tails_same x y xs ys e = ap tail_of e

abbrev some_of : Option ℕ → ℕ
some_of None = 0
some_of (Some n) = n

somes_same : (x y : ℕ) → Some x ≡ Some y → x ≡ y
somes_same x y e = ap some_of e

none_some : (c : ℕ) → None ≡ Some c → ⊥
none_some c e = subst told e tt
  where
    told : Option ℕ → Type 0
    told None = ⊤
    told (Some n) = ⊥

-- no character has two meanings behind a backslash
not_both : (k c n : ℕ) → escape_of k ≡ Some c → hex_width k ≡ Some n → ⊥
not_both k c n e w = first (eqb k 120) refl w
  where
    third : (t : Bool) → eqb k 85 ≡ t → (if t then Some 8 else None) ≡ Some n → ⊥
    third true h x = none_some c (subst (λ (m : ℕ). escape_of m ≡ Some c) (eqb-true k 85 h) e)
    third false h x = none_some n x

    second : (t : Bool) → eqb k 117 ≡ t → (if t then Some 4 else if eqb k 85 then Some 8 else None) ≡ Some n → ⊥
    second true h x = none_some c (subst (λ (m : ℕ). escape_of m ≡ Some c) (eqb-true k 117 h) e)
    second false h x = third (eqb k 85) refl x

    first : (t : Bool) → eqb k 120 ≡ t
        → (if t then Some 2 else if eqb k 117 then Some 4 else if eqb k 85 then Some 8 else None) ≡ Some n → ⊥
    first true h x = none_some c (subst (λ (m : ℕ). escape_of m ≡ Some c) (eqb-true k 120 h) e)
    first false h x = second (eqb k 117) refl x

fronts_same : (xs ys us vs : List ℕ) → length xs ≡ length ys → xs ++ us ≡ ys ++ vs → (xs ≡ ys) × (us ≡ vs)
fronts_same [] [] us vs l e = (refl, e)
fronts_same [] (y ∷ ys) us vs l e = absurd (omega (arith, l))
fronts_same (x ∷ xs) [] us vs l e = absurd (omega (arith, l))
fronts_same (x ∷ xs) (y ∷ ys) us vs l e =
    let r = fronts_same xs ys us vs (omega (arith, l)) (tails_same x y (xs ++ us) (ys ++ vs) e) in
    let h = heads_same x y (xs ++ us) (ys ++ vs) e in
    (ap (λ (n : ℕ). n ∷ xs) h ∙ ap (λ (ns : List ℕ). y ∷ ns) r.0, r.1)

-- a plain character is no backslash
not_plain : (c : ℕ) (after rest : List ℕ) → c ≢ 92 → encode_utf8 c ++ after ≡ 92 ∷ rest → ⊥
unfolding lib.Utf8.encode
not_plain c after rest n e = n (encode_same c 92 after rest e).0

one_point : (quote : ℕ) (text : List ℕ) (c d : ℕ) (after behind : List ℕ) → Point quote text c after → Point quote text d behind
    → Same c after d behind
one_point quote text c d after behind (escaped k e t) (escaped j f u) =
    let same = sym t ∙ u in
    let keys = heads_same k j after behind (tails_same 92 92 (k ∷ after) (j ∷ behind) same) in
    (somes_same c d (sym e ∙ ap escape_of keys ∙ f), tails_same k j after behind (tails_same 92 92 (k ∷ after) (j ∷ behind) same))
one_point quote text c d after behind (escaped k e t) (numbered j n hex w h u) =
    let same = tails_same 92 92 (k ∷ after) (j ∷ (hex ++ behind)) (sym t ∙ u) in
    absurd (not_both j c n (sym (ap escape_of (heads_same k j after (hex ++ behind) same)) ∙ e) w)
one_point quote text c d after behind (escaped k e t) (plain s q b u) =
    absurd (not_plain d behind (k ∷ after) b (sym u ∙ t))
one_point quote text c d after behind (numbered j n hex w h u) (escaped k e t) =
    let same = tails_same 92 92 (k ∷ behind) (j ∷ (hex ++ after)) (sym t ∙ u) in
    absurd (not_both j d n (sym (ap escape_of (heads_same k j behind (hex ++ after) same)) ∙ e) w)
one_point quote text c d after behind (numbered k n hex w h t) (numbered j m hexes v g u) =
    let same = tails_same 92 92 (k ∷ (hex ++ after)) (j ∷ (hexes ++ behind)) (sym t ∙ u) in
    let keys = heads_same k j (hex ++ after) (hexes ++ behind) same in
    let widths = somes_same n m (sym w ∙ ap hex_width keys ∙ v) in
    let parts = fronts_same hex hexes after behind (h.long ∙ widths ∙ sym g.long) (tails_same k j (hex ++ after) (hexes ++ behind) same) in
    (sym h.is ∙ ap (digits_value 16) parts.0 ∙ g.is, parts.1)
one_point quote text c d after behind (numbered k n hex w h t) (plain s q b u) =
    absurd (not_plain d behind (k ∷ (hex ++ after)) b (sym u ∙ t))
one_point quote text c d after behind (plain s q b u) (escaped k e t) = absurd (not_plain c after (k ∷ behind) b (sym u ∙ t))
one_point quote text c d after behind (plain s q b u) (numbered k n hex w h t) =
    absurd (not_plain c after (k ∷ (hex ++ behind)) b (sym u ∙ t))
one_point quote text c d after behind (plain s q b t) (plain r p a u) = encode_same c d after behind (sym t ∙ u)

abbrev IsQuote : ℕ → Type 0
IsQuote quote = (quote ≡ 34) ⊎ (quote ≡ 39)

not_slash : (quote : ℕ) → IsQuote quote → 92 ≡ quote → ⊥
not_slash quote (inl q) e = absurd (omega (arith, q, e))
not_slash quote (inr q) e = absurd (omega (arith, q, e))

not_quote : (quote c : ℕ) (after rest : List ℕ) → IsQuote quote → c ≢ quote → encode_utf8 c ++ after ≡ quote ∷ rest → ⊥
unfolding lib.Utf8.encode
not_quote quote c after rest (inl q) n e =
    n ((encode_same c 34 after rest (e ∙ ap (λ (m : ℕ). m ∷ rest) q)).0 ∙ sym q)
not_quote quote c after rest (inr q) n e =
    n ((encode_same c 39 after rest (e ∙ ap (λ (m : ℕ). m ∷ rest) q)).0 ∙ sym q)

-- at the quote no code point begins
no_point : (quote : ℕ) (text : List ℕ) (c : ℕ) (after rest : List ℕ) → IsQuote quote → text ≡ quote ∷ rest
    → Point quote text c after → ⊥
no_point quote text c after rest q t (escaped k e u) =
    not_slash quote q (heads_same 92 quote (k ∷ after) rest (sym u ∙ t))
no_point quote text c after rest q t (numbered k n hex w h u) =
    not_slash quote q (heads_same 92 quote (k ∷ (hex ++ after)) rest (sym u ∙ t))
no_point quote text c after rest q t (plain s p b u) = not_quote quote c after rest q p (sym u ∙ t)

abbrev SameLists : List ℕ → List ℕ → List ℕ → List ℕ → Type 0
SameLists points rest others behind = (others ≡ points) × (behind ≡ rest)

abbrev OneReading : ℕ → List ℕ → List ℕ → List ℕ → Type 0
OneReading quote text points rest =
    (others behind : List ℕ) → Points quote text others behind → SameLists points rest others behind

one_end : (quote : ℕ) (text points rest : List ℕ) → IsQuote quote → text ≡ quote ∷ rest → points ≡ []
    → OneReading quote text points rest
one_end quote text points rest q t e others behind (end tx ps rs u f) =
    (f ∙ sym e, sym (tails_same quote quote rest behind (sym t ∙ u)))
one_end quote text points rest q t e others behind (more tx ps rs c after left p f m) =
    absurd (no_point quote text c after rest q t p)

one_more : (quote : ℕ) (text points rest : List ℕ) (c : ℕ) (after left : List ℕ) → IsQuote quote → Point quote text c after
    → points ≡ c ∷ left → OneReading quote after left rest → OneReading quote text points rest
one_more quote text points rest c after left q p e turn others behind (end tx ps rs u f) =
    absurd (no_point quote text c after behind q u p)
one_more quote text points rest c after left q p e turn others behind (more tx ps rs d next those r f m) =
    let same = one_point quote text c d after next p r in
    let so = turn those behind (subst (λ (xs : List ℕ). Points quote xs those behind) (sym same.1) m) in
    (f ∙ ap (λ (n : ℕ). n ∷ those) (sym same.0) ∙ ap (λ (ns : List ℕ). c ∷ ns) so.0 ∙ sym e, so.1)

one_list : (quote : ℕ) (text points rest : List ℕ) → IsQuote quote → Points quote text points rest
    → OneReading quote text points rest
one_list quote text points rest q (end tx ps rs t e) = one_end quote text points rest q t e
one_list quote text points rest q (more tx ps rs c after left p e m) =
    one_more quote text points rest c after left q p e (one_list quote after left rest q m)

-- a literal has one reading
pub one_literal : (text points rest others behind : List ℕ) → Literal text points rest → Literal text others behind
    → (others ≡ points) × (behind ≡ rest)
one_literal text points rest others behind x y =
    let same = sym x.text_is ∙ y.text_is in
    let quotes = heads_same x.quote y.quote x.within y.within same in
    let insides = tails_same x.quote y.quote x.within y.within same in
    one_list x.quote x.within points rest x.is x.points_are others behind
    (subst (λ (n : ℕ). Points n x.within others behind) (sym quotes)
    (subst (λ (text : List ℕ). Points y.quote text others behind) (sym insides) y.points_are))
