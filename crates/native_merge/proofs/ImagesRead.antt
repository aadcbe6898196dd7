-- Images that were read, and that an address has one answer by them.
use Rattle.std.proofs.Common.{◌≡◌, ◌⊎◌, ℕ, ◌<◌, Bool, true, false, cond, bytes_eq, List, [], ◌∷◌, ◌++◌, All, Option}
use Rattle.std.proofs.Common.{Some, None, refl, sym, ◌∙◌, ap, subst, arith, inl, inr}
use Rattle.std.specs.List.{find}
use Rattle.std.proofs.lemmas.List.Elements.{All-head, All-tail, All-push}
use Rattle.elf64_core.specs.Header.{IsAccepted, segments_of}
use Rattle.elf64_core.specs.Symbols.{SymbolEntry}
use Rattle.elf64_core.specs.declared.symbol.SymbolKind.{SymbolKind}
use Rattle.image_memory.specs.Images.{Pushed, first_under}
use Rattle.image_memory.specs.Mmap.{shown_bytes}
use Rattle.covering_symbols.specs.Covering.{AreImageSymbols, AreSymbolsOf, Covering, IsNearer, address_of_place}
use Rattle.covering_symbols.specs.Covering.{symbol_name_at}
use Rattle.native_merge.specs.declared.read_images.Covered.{Covered}
use Rattle.native_merge.specs.declared.read_images.ReadImage.{ReadImage}
use Rattle.native_merge.specs.ImageSymbols.{FilesMapped, IsAtFile, IsNameAt, image_frame, image_seen, normal_place}
use Rattle.native_merge.specs.ReadImages.{IsLookedUp, IsLookedUpUnder, IsReadOf, IsReadOfBytes, is_read_under}
use Rattle.native_merge.specs.ReadImages.IsLookedUpUnder.{NoImage, InImage}
use Rattle.native_merge.specs.Symbols.{AnswersOnce}
use Rattle.std.proofs.lemmas.Slice.Eq.{bytes_eq-Decides}

-- ---- what was read

same_bytes : (a b : List ℕ) → bytes_eq a b ≡ true → a ≡ b
same_bytes a b h = (bytes_eq-Decides a b).0 h

find_holds : {X : Type 0} (p : X → Bool) (P : X → Type 0) (xs : List X) (y : X) → Some y ≡ find p xs → All P xs → P y × (p y ≡ true)
find_holds p P [] y h a = cc
find_holds {X} p P (x ∷ xs) y h a = by (p x) refl (λ e. find_holds p P xs y e (All-tail P x xs a))
  where
    by : (b : Bool) → p x ≡ b → (Some y ≡ find p xs → P y × (p y ≡ true)) → P y × (p y ≡ true)
    by true e rest =
        let found : Some y ≡ Some x = h ∙ ap (λ b. cond b (Some x) (find p xs)) e in
        let same : x ≡ y = cc in
        (subst P same (All-head P x xs a), subst (λ z. p z ≡ true) same e)
    by false e rest = rest (h ∙ ap (λ b. cond b (Some x) (find p xs)) e)

-- what was found under a path answers for the image there
pub found_read : (images : Pushed) (path : List ℕ) (place : ℕ) (reads : List ReadImage) (r : ReadImage) (covered : Option Covered)
    → Some r ≡ find (is_read_under path) reads → All (IsReadOf images) reads
    → ((bytes : List ℕ) → IsReadOfBytes bytes r.file → IsLookedUp bytes place covered) → IsLookedUpUnder images path place covered
found_read images path place reads r covered h a looked =
    let found = find_holds (is_read_under path) (IsReadOf images) reads r h a in
    let here : first_under path images ≡ Some found.0.image
    = ap (λ p. first_under p images) (sym (same_bytes r.path.now path found.1)) ∙ found.0.under in
    InImage found.0.image here (looked (shown_bytes found.0.image) found.0.is)

-- what was just read answers for its image
pub read_answers : (images : Pushed) (path : List ℕ) (place : ℕ) (r : ReadImage) (covered : Option Covered)
    → IsReadOf images r × (r.path.now ≡ path)
    → ((bytes : List ℕ) → IsReadOfBytes bytes r.file → IsLookedUp bytes place covered) → IsLookedUpUnder images path place covered
read_answers images path place r covered is looked =
    InImage is.0.image (ap (λ p. first_under p images) (sym is.1) ∙ is.0.under) (looked (shown_bytes is.0.image) is.0.is)

-- an image that is read is one more
pub read_more : (images : Pushed) (reads new : List ReadImage) (r : ReadImage) → IsReadOf images r → All (IsReadOf images) reads
    → new ≡ reads ++ r ∷ [] → All (IsReadOf images) new
read_more images reads new r one a n = subst (All (IsReadOf images)) (sym n) (All-push (IsReadOf images) reads r a one)

-- ---- where no file is

abbrev pair : List ℕ → ℕ → List ℕ × ℕ
pair path place = (path, place)

-- an address that is normalized to no place lies in no file
pub no_place : (files : FilesMapped) (addr : ℕ) → None ≡ normal_place files.entries addr → (path : List ℕ) (place : ℕ) (bytes : List ℕ)
    → IsAtFile files addr path place bytes → ⊥
no_place files addr none path place bytes h = let both : None ≡ Some (path, place) = none ∙ h.at in cc

-- the same of one at a place where nothing is looked up
pub no_file : (files : FilesMapped) (addr : ℕ) (at : List ℕ) (offset : ℕ) → Some (at, offset) ≡ normal_place files.entries addr
    → IsLookedUpUnder files.images at offset None → (path : List ℕ) (place : ℕ) (bytes : List ℕ) → IsAtFile files addr path place bytes → ⊥
no_file files addr at offset is looked path place bytes h = by looked
  where
    places : Some (pair at offset) ≡ Some (pair path place)
    places = is ∙ h.at

    same : at ≡ path
    same = ap (λ (p : List ℕ × ℕ). p.0) (let both : pair at offset ≡ pair path place = cc in both)

    under : first_under at files.images ≡ Some h.image
    under = ap (λ p. first_under p files.images) same ∙ h.under

    by : IsLookedUpUnder files.images at offset None → ⊥
    by (NoImage none e) = let both : None ≡ Some h.image = sym none ∙ under in cc
    by (InImage image is not) =
        let both : Some image ≡ Some h.image = sym is ∙ under in
        let one : image ≡ h.image = cc in
        not (subst IsAccepted (h.shows ∙ ap shown_bytes (sym one)) h.accepted)

-- ---- one answer

symbols-once : (bytes : List ℕ) (kind : SymbolKind) (x y : List SymbolEntry) → AreSymbolsOf bytes kind x → AreSymbolsOf bytes kind y → x ≡ y
symbols-once bytes kind x y (inl h) (inl k) = h.1 ∙ sym k.1
symbols-once bytes kind x y (inl h) (inr k) = absurd (k.0 h.0)
symbols-once bytes kind x y (inr h) (inl k) = absurd (h.0 k.0)
symbols-once bytes kind x y (inr h) (inr k) = h.1 ∙ sym k.1

image_symbols-once : (bytes : List ℕ) (x y : List SymbolEntry) → AreImageSymbols bytes x → AreImageSymbols bytes y → x ≡ y
image_symbols-once bytes x y h k = h.all
    ∙ ap (λ l. l ++ h.dynamic) (symbols-once bytes _ h.plain k.plain h.plain_are k.plain_are)
    ∙ ap (λ l. k.plain ++ l) (symbols-once bytes _ h.dynamic k.dynamic h.dynamic_are k.dynamic_are) ∙ sym k.all

both_nearer : (n m : ℕ × SymbolEntry) → IsNearer n m → IsNearer m n → ⊥
both_nearer n m (inl a) (inl b) = absurd (omega arith)
both_nearer n m (inl a) (inr b) = let e = b.0 in absurd (omega arith)
both_nearer n m (inr a) (inl b) = let e = a.0 in absurd (omega arith)
both_nearer n m (inr a) (inr b) = by a.1 b.1
  where
    by : (n.1.size < m.1.size) ⊎ ((n.1.size ≡ m.1.size) × (n.0 < m.0)) → (m.1.size < n.1.size) ⊎ ((m.1.size ≡ n.1.size) × (m.0 < n.0)) → ⊥
    by (inl c) (inl d) = absurd (omega arith)
    by (inl c) (inr d) = let e = d.0 in absurd (omega arith)
    by (inr c) (inl d) = let e = c.0 in absurd (omega arith)
    by (inr c) (inr d) = let e = c.1 in let f = d.1 in absurd (omega arith)

covering-once : (symbols : List SymbolEntry) (addr : ℕ) (x y : Option ℕ) → Covering symbols addr x → Covering symbols addr y → x ≡ y
covering-once symbols addr None None h k = refl
covering-once symbols addr None (Some n) h k = absurd (h (n, k.symbol) k.among k.covers)
covering-once symbols addr (Some n) None h k = absurd (k (n, h.symbol) h.among h.covers)
covering-once symbols addr (Some n) (Some m) h k = by (h.nearest (m, k.symbol) k.among k.covers) (k.nearest (n, h.symbol) h.among h.covers)
  where
    by : (m ≡ n) ⊎ IsNearer (n, h.symbol) (m, k.symbol) → (n ≡ m) ⊎ IsNearer (m, k.symbol) (n, h.symbol) → Some n ≡ Some m
    by (inl e) q = ap (λ i. Some i) (sym e)
    by (inr a) (inl e) = ap (λ i. Some i) e
    by (inr a) (inr b) = absurd (both_nearer (n, h.symbol) (m, k.symbol) a b)

name-once : (bytes : List ℕ) (a : Option ℕ) (x y : Option (List ℕ)) → IsNameAt bytes a x → IsNameAt bytes a y → x ≡ y
name-once bytes None x y h k = h ∙ sym k
name-once bytes (Some a) x y h k =
    let symbols : h.0 ≡ k.0 = image_symbols-once bytes h.0 k.0 h.1 k.1 in
    let found : h.2.0 ≡ k.2.0 = covering-once k.0 a h.2.0 k.2.0 (subst (λ s. Covering s a h.2.0) symbols h.2.1) k.2.1 in
    h.2.2 ∙ ap (λ s. symbol_name_at s h.2.0) symbols ∙ ap (λ f. symbol_name_at k.0 f) found ∙ sym k.2.2

-- an address has one answer
pub image_once : (files : FilesMapped) → AnswersOnce (image_seen files)
image_once files = λ t addr lines x y h k.
    let places : Some (pair h.path h.place) ≡ Some (pair k.path k.place) = sym h.file.at ∙ k.file.at in
    let both : pair h.path h.place ≡ pair k.path k.place = cc in
    let path : h.path ≡ k.path = ap (λ (p : List ℕ × ℕ). p.0) both in
    let place : h.place ≡ k.place = ap (λ (p : List ℕ × ℕ). p.1) both in
    let images : Some h.file.image ≡ Some k.file.image = sym h.file.under ∙ ap (λ p. first_under p files.images) path ∙ k.file.under in
    let image : h.file.image ≡ k.file.image = cc in
    let bytes : h.bytes ≡ k.bytes = h.file.shows ∙ ap shown_bytes image ∙ sym k.file.shows in
    let moved : IsNameAt k.bytes (address_of_place (segments_of k.bytes) k.place) h.name
    = subst (λ b. IsNameAt b (address_of_place (segments_of b) k.place) h.name) bytes
    (subst (λ o. IsNameAt h.bytes (address_of_place (segments_of h.bytes) o) h.name) place h.named) in
    let name : h.name ≡ k.name = name-once k.bytes (address_of_place (segments_of k.bytes) k.place) h.name k.name moved k.named in
    h.are ∙ ap (λ p. image_frame addr p h.name ∷ []) path ∙ ap (λ n. image_frame addr k.path n ∷ []) name ∙ sym k.are
