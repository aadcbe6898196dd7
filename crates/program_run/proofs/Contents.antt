-- Files read in turn: one file more, one that could not be read, and that the contents are the same where the files
-- tell them.
use Rattle.std.proofs.Common.{◌≡◌, ◌<◌, ◌+◌, ℕ, List, [], ◌∷◌, ◌++◌, length, take, drop, get_or, map, refl, sym, ap}
use Rattle.std.proofs.Common.{subst, ◌∙◌}
use Rattle.std.specs.Prelude.{IsSome, Some, None}
use Rattle.std.proofs.lemmas.List.{take_more, take-append-drop, at_drop_more, map-append}
use Rattle.std.proofs.lemmas.Option.{same_Some}
use Rattle.outside.specs.Files.{FilesSeen, Told, Gives}
use Rattle.program_run.specs.declared.trouble.FileTrouble.{FileTrouble}
use Rattle.program_run.specs.declared.trouble.FileTrouble.TheVariants.{File, OutOfMemory}
use Rattle.program_run.specs.Reading.{AreRead, AsksAmong, IsUnreadTrouble}

-- one file more
pub more_read : (told : Told) (names contents : List (List ℕ)) (name bytes : List ℕ) → AreRead told names contents
    → Gives told name bytes → AreRead told (names ++ name ∷ []) (contents ++ bytes ∷ [])
more_read told [] [] name bytes are gives = (gives, tt)
more_read told [] (b ∷ bs) name bytes are gives = absurd are
more_read told (n ∷ ns) [] name bytes are gives = absurd are
more_read told (n ∷ ns) (b ∷ bs) name bytes are gives = (are.0, more_read told ns bs name bytes are.1 gives)

-- the files of the first elements of a list, and one more
pub one_more : {T : Type 0} (told now : Told) (f : T → List ℕ) (xs : List T) (i : ℕ) (x d : T)
    (contents new : List (List ℕ)) (bytes : List ℕ) → i < length xs → x ≡ get_or xs i d → AreRead told (map f (take i xs)) contents → now ≡ told → Gives now (f x) bytes
    → new ≡ contents ++ bytes ∷ [] → AreRead told (map f (take (i + 1) xs)) new
one_more told now f xs i x d contents new bytes lt is are same gives pushed =
    let names : map f (take (i + 1) xs) ≡ map f (take i xs) ++ f x ∷ [] =
    ap (map f) (take_more xs i d lt) ∙ map-append f (take i xs) (get_or xs i d ∷ [])
    ∙ ap (λ y. map f (take i xs) ++ f y ∷ []) (sym is) in
    subst (λ ns. AreRead told ns new) (sym names) (subst (AreRead told (map f (take i xs) ++ f x ∷ [])) (sym pushed)
    (more_read told (map f (take i xs)) contents (f x) bytes are (subst (λ t. Gives t (f x) bytes) same gives)))

-- the names before and behind one
pub around : {T : Type 0} (f : T → List ℕ) (xs : List T) (i : ℕ) (x d : T) → i < length xs → x ≡ get_or xs i d
    → map f xs ≡ map f (take i xs) ++ f x ∷ map f (drop (i + 1) xs)
around f xs i x d lt is =
    ap (map f) (sym (take-append-drop i xs)) ∙ map-append f (take i xs) (drop i xs)
    ∙ ap (λ ys. map f (take i xs) ++ map f ys) (at_drop_more (λ ys. ys) xs i d lt)
    ∙ ap (λ y. map f (take i xs) ++ f y ∷ map f (drop (i + 1) xs)) (sym is)

-- ---- a file that could not be read

pub unread : (old mid new : FilesSeen) (names before behind contents : List (List ℕ)) (name : List ℕ) (t : FileTrouble)
    → names ≡ before ++ name ∷ behind → AreRead old.told before contents → mid.failed ≡ old.failed
    → IsUnreadTrouble (λ asked. asked ≡ name) mid new t → IsUnreadTrouble (AsksAmong old.told names) old new t
unread old mid new names before behind contents name OutOfMemory are read same h = h ∙ same
unread old mid new names before behind contents name (File n why) are read same h = record {
  asks = record {
    before = before;
    behind = behind;
    are = are ∙ ap (λ x. before ++ x ∷ behind) (sym h.asks);
    contents = contents;
    read = read;
  };
  not_memory = h.not_memory;
  failed = h.failed ∙ ap (λ b. b ++ (n.now, why) ∷ []) same;
}

-- after another file that was read
pub later : (old mid new : FilesSeen) (names : List (List ℕ)) (name bytes : List ℕ) (t : FileTrouble)
    → mid.told ≡ old.told → mid.failed ≡ old.failed → Gives old.told name bytes
    → IsUnreadTrouble (AsksAmong mid.told names) mid new t
    → IsUnreadTrouble (AsksAmong old.told (name ∷ names)) old new t
later old mid new names name bytes OutOfMemory told failed gives h = h ∙ failed
later old mid new names name bytes (File n why) told failed gives h = record {
  asks = record {
    before = name ∷ h.asks.before;
    behind = h.asks.behind;
    are = ap (λ ns. name ∷ ns) h.asks.are;
    contents = bytes ∷ h.asks.contents;
    read = (gives, subst (λ t. AreRead t h.asks.before h.asks.contents) told h.asks.read);
  };
  not_memory = h.not_memory;
  failed = h.failed ∙ ap (λ b. b ++ (n.now, why) ∷ []) failed;
}

-- ---- the contents are the same where the files tell them

pub told_same : (told : Told) (name a b : List ℕ) → IsSome told → Gives told name a → Gives told name b → a ≡ b
told_same None name a b some one other = absurd (let h : _ = some in cc)
told_same (Some files) name a b some one other = same_Some a b (sym one ∙ other)

pub same_contents : (told : Told) (names xs ys : List (List ℕ)) → IsSome told → AreRead told names xs
    → AreRead told names ys → xs ≡ ys
same_contents told [] [] [] some a b = refl
same_contents told [] (x ∷ xs) ys some a b = absurd a
same_contents told [] [] (y ∷ ys) some a b = absurd b
same_contents told (n ∷ ns) [] ys some a b = absurd a
same_contents told (n ∷ ns) (x ∷ xs) [] some a b = absurd b
same_contents told (n ∷ ns) (x ∷ xs) (y ∷ ys) some a b =
    ap (λ z. z ∷ xs) (told_same told n x y some a.0 b.0) ∙ ap (λ zs. y ∷ zs) (same_contents told ns xs ys some a.1 b.1)

-- ---- the names of the files of a core

abbrev Named : Type 0
Named = List (List ℕ × List ℕ)

abbrev pub core_names : List ℕ → List ℕ → Named → List (List ℕ)
core_names core layouts images = core ∷ layouts ∷ map (λ image. image.1) images

pub same_names : (core c layouts l : List ℕ) (images pairs : Named) → core ≡ c → layouts ≡ l → images ≡ pairs
    → core_names core layouts images ≡ core_names c l pairs
same_names core c layouts l images pairs one two three i =
    one i ∷ two i ∷ map (λ (image : List ℕ × List ℕ). image.1) (three i)
