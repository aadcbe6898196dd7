-- Frames that are put in their files, one after the other.
use Rattle.std.proofs.Common.{◌≡◌, ◌⊎◌, ℕ, zero, suc, ◌+◌, ◌<◌, ◌≤◌, Bool, true, false, List, [], ◌∷◌, ◌++◌, length}
use Rattle.std.proofs.Common.{get_or, set, Vec, Ok, Err, IsErrOf, inl, inr, take, drop, refl, sym, ◌∙◌, ap, subst}
use Rattle.std.proofs.Common.{arith, take_all}
use Rattle.std.specs.Global.{Global}
use Rattle.py_stacks.specs.declared.trace.Frame.{Frame}
use Rattle.native_merge.specs.declared.merge_error.MergeError.{MergeError}
use Rattle.native_merge.specs.declared.merge_error.MergeError.TheVariants.{OutOfMemory}
use Rattle.native_merge.specs.KeptMaps.{AddsMap, Kept, translated, wants_map}
use Rattle.native_merge.specs.Merges.{IsMerged}
use Rattle.native_merge.specs.PythonFrames.{calls}
use Rattle.native_merge.specs.Sources.{SourcesSeen, Stay}
use Rattle.native_merge.specs.SymbolCaches.{HeldFrames}
use Rattle.native_merge.specs.Symbols.{SymbolsSeen}
use Rattle.native_merge.specs.TranslatedStacks.{AreTranslated, IsMergedStack, IsTranslated}
use Rattle.native_merge.specs.TranslatedStacks.AreTranslated.{NoMore, More}

pub translated_more : {seen mid now : SourcesSeen} {kept between new : Kept} {frames shown : List Frame} {frame put : Frame}
    → AreTranslated seen kept frames mid between shown → IsTranslated mid between frame now new put
    → AreTranslated seen kept (frames ++ frame ∷ []) now new (shown ++ put ∷ [])
translated_more NoMore one = More one NoMore
translated_more (More a rest) one = More a (translated_more rest one)

abbrev no : (X : Type 0) → List X
no X = []

module _ {X : Type 0} where
  take_next : (xs : List X) (i : ℕ) (d : X) → i < length xs → take (i + 1) xs ≡ take i xs ++ get_or xs i d ∷ []
  take_next [] i d h = absurd (omega arith)
  take_next (x ∷ xs) zero d h = refl
  take_next (x ∷ xs) (suc i) d h = let e : suc i + 1 ≡ suc (i + 1) = omega arith in
      rw e (ap (λ l. x ∷ l) (take_next xs i d (omega arith)))

  take_set : (xs : List X) (i : ℕ) (v : X) → i < length xs → take (i + 1) (set xs i v) ≡ take i xs ++ v ∷ []
  take_set [] i v h = absurd (omega arith)
  take_set (x ∷ xs) zero v h = refl
  take_set (x ∷ xs) (suc i) v h = let e : suc i + 1 ≡ suc (i + 1) = omega arith in
      rw e (ap (λ l. x ∷ l) (take_set xs i v (omega arith)))

  drop_set : (xs : List X) (i : ℕ) (v : X) → drop (i + 1) (set xs i v) ≡ drop (i + 1) xs
  drop_set [] i v = refl
  drop_set (x ∷ xs) zero v = refl
  drop_set (x ∷ xs) (suc i) v = let e : suc i + 1 ≡ suc (i + 1) = omega arith in rw e (drop_set xs i v)

  drop_none : (n : ℕ) → drop n (no X) ≡ []
  drop_none zero = refl
  drop_none (suc n) = refl

  drop_next : (xs : List X) (i : ℕ) → drop (i + 1) xs ≡ drop 1 (drop i xs)
  drop_next xs zero = refl
  drop_next [] (suc i) = drop_none (suc i + 1)
  drop_next (x ∷ xs) (suc i) = let e : suc i + 1 ≡ suc (i + 1) = omega arith in rw e (drop_next xs i)

  get_dropped : (xs : List X) (i : ℕ) (d : X) → get_or xs i d ≡ get_or (drop i xs) 0 d
  get_dropped xs zero d = refl
  get_dropped [] (suc i) d = refl
  get_dropped (x ∷ xs) (suc i) d = get_dropped xs i d

  dropped_more : (xs ys : List X) (i : ℕ) (v : X) → drop i xs ≡ drop i ys → drop (i + 1) (set xs i v) ≡ drop (i + 1) ys
  dropped_more xs ys i v h = drop_set xs i v ∙ drop_next xs i ∙ ap (drop 1) h ∙ sym (drop_next ys i)

  same_at : (xs ys : List X) (i : ℕ) (d : X) → drop i xs ≡ drop i ys → get_or xs i d ≡ get_or ys i d
  same_at xs ys i d h = get_dropped xs i d ∙ ap (λ l. get_or l 0 d) h ∙ sym (get_dropped ys i d)

pub translating_more : {seen mid now : SourcesSeen} {kept between new : Kept} (first frames : List Frame) (i : ℕ) (d put : Frame)
    → i < length frames → i < length first → drop i frames ≡ drop i first
    → AreTranslated seen kept (take i first) mid between (take i frames)
    → put ≡ translated new (get_or frames i d)
    → (wants_map between (get_or frames i d) ≡ true → AddsMap mid now (get_or frames i d) between new)
    → (wants_map between (get_or frames i d) ≡ false → new ≡ between) → Stay mid now
    → AreTranslated seen kept (take (i + 1) first) now new (take (i + 1) (set frames i put))
translating_more first frames i d put h k rest done put_is adds same stay =
    rw (take_next first i d k) (rw (sym (same_at frames first i d rest)) (rw (take_set frames i put h)
    (translated_more done (record { frame_is = put_is; adds = adds; same = same; stay = stay }))))

pub translating_left : (first frames : List Frame) (i : ℕ) (frame put : Frame) → drop i frames ≡ drop i first
    → drop (i + 1) (set frames i put) ≡ drop (i + 1) first
translating_left first frames i frame put h = dropped_more frames first i put h

pub translating_done : {seen now : SourcesSeen} {kept new : Kept} (first frames : List Frame) (i : ℕ) → length frames ≡ length first
    → length frames ≤ i → AreTranslated seen kept (take i first) now new (take i frames)
    → AreTranslated seen kept first now new frames
translating_done {seen} {now} {kept} {new} first frames i e h a =
    let one : take i first ≡ first = take_all i first (omega arith) in
    let two : take i frames ≡ frames = take_all i frames h in
    subst (λ l. AreTranslated seen kept l now new frames) one (subst (λ l. AreTranslated seen kept (take i first) now new l) two a)

-- ---- the answer of a merge

pub whole_prefix : {X : Type 0} (n : ℕ) (xs ys : List X) → length xs ≡ n → take n (xs ++ ys) ≡ xs
whole_prefix zero [] ys e = refl
whole_prefix (suc n) [] ys e = absurd (omega arith)
whole_prefix zero (x ∷ xs) ys e = absurd (omega arith)
whole_prefix (suc n) (x ∷ xs) ys e = ap (λ l. x ∷ l) (whole_prefix n xs ys (omega arith))

pub stack_refused : {old new : SymbolsSeen} {seen mid : SourcesSeen} {python : ℕ → Bool} {frames : List Frame} {addrs : List ℕ}
    {held after : HeldFrames} (kept : Kept) (e : MergeError) → Stay seen mid
    → IsErrOf {T = Vec Frame Global} (Err e) OutOfMemory ⊎ IsMerged old new seen.exists python frames addrs held after (Err e)
    → IsErrOf {T = Vec Frame Global} (Err e) OutOfMemory ⊎ IsMergedStack old new seen mid python frames addrs held after kept kept (Err e)
stack_refused kept e stay (inl h) = inl h
stack_refused {mid = mid} kept e stay (inr d) = inr (record {
  before = Err e;
  mid = mid;
  stay = stay;
  merges = d;
  translates = (refl, refl);
})

pub stack_done : {old new : SymbolsSeen} {seen mid now : SourcesSeen} {python : ℕ → Bool} {frames : List Frame} {addrs : List ℕ}
    {held after : HeldFrames} {kept keeps : Kept} (v : Vec Frame Global) → Stay seen mid
    → IsErrOf (Ok v) OutOfMemory ⊎ IsMerged old new seen.exists python frames addrs held after (Ok (calls v.items))
    → (first put shown : List Frame) → first ≡ v.items → shown ≡ put → AreTranslated mid kept first now keeps put
    → IsMergedStack old new seen now python frames addrs held after kept keeps (Ok shown)
stack_done v stay (inl h) first put shown e f t = cc
stack_done {mid = mid} {now = now} {kept = kept} {keeps = keeps} v stay (inr m) first put shown e f t = record {
  before = Ok v.items;
  mid = mid;
  stay = stay;
  merges = m;
  translates = rw f (subst (λ l. AreTranslated mid kept l now keeps put) e t);
}
