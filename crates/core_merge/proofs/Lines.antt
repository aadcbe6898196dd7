-- The lines of addresses, one by one.
use Rattle.std.proofs.Common.{◌≡◌, ◌++◌, ◌∷◌, [], ◌+◌, ℕ, List, true, false, length, ap, map, refl, sym, subst, ◌∙◌, Ok}
use Rattle.std.proofs.Common.{Err, Result, suc}
use Rattle.std.proofs.lemmas.List.Elements.{All-append, All-cons, All-head, All-nil, All-tail}
use Rattle.std.proofs.lemmas.List.{map-append}
use Rattle.maps_text.specs.Texts.{lines_of}
use Rattle.core_merge.specs.Addresses.{AddressesSay, AreAddressLines, IsFirstBadLine, address_of_line, is_address_line}
use Rattle.core_merge.specs.declared.error.CoreMergeError.{CoreMergeError}
use Rattle.core_merge.specs.declared.error.CoreMergeError.TheVariants.{BadLine, BadOffset, MapsOverlap, OffsetOverflow}
use Rattle.core_merge.specs.declared.error.CoreMergeError.TheVariants.{Mismatch, OutOfMemory}

pub good_more : (before : List (List ℕ)) (line : List ℕ) → AreAddressLines before → is_address_line line ≡ true
    → AreAddressLines (before ++ line ∷ [])
good_more before line good is =
    All-append (λ l. is_address_line l ≡ true) before (line ∷ []) good
    (All-cons (λ l. is_address_line l ≡ true) line [] is (All-nil (λ l. is_address_line l ≡ true)))

pub map_more : (before : List (List ℕ)) (line : List ℕ) (addrs : List ℕ) (addr : ℕ)
    → addrs ≡ map (λ l. address_of_line l) before → addr ≡ address_of_line line
    → addrs ++ addr ∷ [] ≡ map (λ l. address_of_line l) (before ++ line ∷ [])
map_more before line addrs addr are is =
    ap (λ xs. xs ++ addr ∷ []) are ∙ ap (λ x. map (λ l. address_of_line l) before ++ x ∷ []) is
    ∙ sym (map-append (λ l. address_of_line l) before (line ∷ []))

-- ---- one answer

-- where all lines are good there is no bad one
none_bad : (lines : List (List ℕ)) (number : ℕ) → AreAddressLines lines → IsFirstBadLine lines number → ⊥
none_bad lines number good bad = bad_in bad.before bad.line bad.behind (subst AreAddressLines bad.lines_are good) bad.bad where
  bad_in : (before : List (List ℕ)) (line : List ℕ) (behind : List (List ℕ)) → AreAddressLines (before ++ line ∷ behind)
      → is_address_line line ≡ false → ⊥
  bad_in [] line behind good bad = let h = All-head (λ l. is_address_line l ≡ true) line behind good in absurd (let clash = sym h ∙ bad in cc)
  bad_in (l ∷ ls) line behind good bad = bad_in ls line behind (All-tail (λ l. is_address_line l ≡ true) l (ls ++ line ∷ behind) good) bad

-- the first bad line stands at one place
first_bad : (before other : List (List ℕ)) (line bad : List ℕ) (behind rest : List (List ℕ)) → before ++ line ∷ behind ≡ other ++ bad ∷ rest
    → AreAddressLines before → AreAddressLines other → is_address_line line ≡ false → is_address_line bad ≡ false
    → length before ≡ length other
first_bad [] [] line bad behind rest same good fine one two = refl
first_bad [] (o ∷ os) line bad behind rest same good fine one two =
    let h = All-head (λ l. is_address_line l ≡ true) o os fine in
    let head : line ≡ o = cc in
    absurd (let clash = sym h ∙ ap is_address_line (sym head) ∙ one in cc)
first_bad (b ∷ bs) [] line bad behind rest same good fine one two =
    let h = All-head (λ l. is_address_line l ≡ true) b bs good in
    let head : b ≡ bad = cc in
    absurd (let clash = sym h ∙ ap is_address_line head ∙ two in cc)
first_bad (b ∷ bs) (o ∷ os) line bad behind rest same good fine one two =
    ap suc (first_bad bs os line bad behind rest (tails same) (All-tail (λ l. is_address_line l ≡ true) b bs good)
    (All-tail (λ l. is_address_line l ≡ true) o os fine) one two)
  where
    tails : {X : Type 0} {x y : X} {xs ys : List X} → x ∷ xs ≡ y ∷ ys → xs ≡ ys
    tails h = cc

bad_once : (lines : List (List ℕ)) (n m : ℕ) → IsFirstBadLine lines n → IsFirstBadLine lines m → n ≡ m
bad_once lines n m h k = h.number_is ∙ ap (λ x. x + 1) (first_bad h.before k.before h.line k.line h.behind k.behind
    (sym h.lines_are ∙ k.lines_are) h.good k.good h.bad k.bad) ∙ sym k.number_is

pub addresses_once : (text : List ℕ) (a b : Result (List ℕ) CoreMergeError) → AddressesSay text a → AddressesSay text b → a ≡ b
addresses_once text (Ok x) (Ok y) h k = ap (λ z. Ok z) (h.1 ∙ sym k.1)
addresses_once text (Ok x) (Err (BadLine n)) h k = absurd (none_bad (lines_of text) n h.0 k)
addresses_once text (Ok x) (Err BadOffset) h k = absurd k
addresses_once text (Ok x) (Err MapsOverlap) h k = absurd k
addresses_once text (Ok x) (Err OffsetOverflow) h k = absurd k
addresses_once text (Ok x) (Err (Mismatch s f)) h k = absurd k
addresses_once text (Ok x) (Err OutOfMemory) h k = absurd k
addresses_once text (Err (BadLine n)) (Ok y) h k = absurd (none_bad (lines_of text) n k.0 h)
addresses_once text (Err (BadLine n)) (Err (BadLine m)) h k = ap (λ z. Err (BadLine z)) (bad_once (lines_of text) n m h k)
addresses_once text (Err (BadLine n)) (Err BadOffset) h k = absurd k
addresses_once text (Err (BadLine n)) (Err MapsOverlap) h k = absurd k
addresses_once text (Err (BadLine n)) (Err OffsetOverflow) h k = absurd k
addresses_once text (Err (BadLine n)) (Err (Mismatch s f)) h k = absurd k
addresses_once text (Err (BadLine n)) (Err OutOfMemory) h k = absurd k
addresses_once text (Err BadOffset) b h k = absurd h
addresses_once text (Err MapsOverlap) b h k = absurd h
addresses_once text (Err OffsetOverflow) b h k = absurd h
addresses_once text (Err (Mismatch s f)) b h k = absurd h
addresses_once text (Err OutOfMemory) b h k = absurd h
