-- The steps of a merge of a core's thread, and that it has one right answer.
use Rattle.std.proofs.Common.{◌≡◌, ◌⊎◌, ℕ, Bool, true, false, List, Result, Ok, Err, refl, sym, ap, subst, ◌∙◌, inl}
use Rattle.std.proofs.Common.{inr}
use Rattle.std.specs.Prelude.{IsErrOf, Vec, filter, map}
use Rattle.maps_text.specs.Relevance.{is_relevant}
use Rattle.std.specs.Global.{Global}
use Rattle.std.specs.List.{list_all}
use Rattle.image_memory.specs.Images.{Pushed}
use Rattle.image_memory.specs.Pieces.{loads_of}
use Rattle.image_memory.proofs.Noted.{entries_same}
use Rattle.maps_text.specs.declared.entry.MapsEntry.{MapsEntry}
use Rattle.normalize_core.specs.Order.{in_order}
use Rattle.py_stacks.specs.declared.trace.Frame.{Frame}
use Rattle.py_stacks.specs.Frames.{Call, calls_of_result}
use Rattle.native_merge.specs.ImageSymbols.{FilesMapped, files_mapped}
use Rattle.native_merge.specs.declared.merge_error.MergeError.{MergeError}
use Rattle.native_merge.specs.declared.merge_error.MergeError.TheVariants as merging
use Rattle.core_merge.specs.Addresses.{AddressesSay}
use Rattle.core_merge.specs.CoreEntries.{AreCoreEntries, AreOrdered, EntriesSay, SaysMade, SaysOrdered, entry_of}
use Rattle.core_merge.specs.CoreEntries.{is_placed}
use Rattle.core_merge.specs.CoreMerges.{CoreMergeIs, MergedBy, MergedWith}
use Rattle.core_merge.specs.ImageMerges.{ImageMergeSays}
use Rattle.py_process.specs.Steps.{Then}
use Rattle.core_merge.specs.declared.error.CoreMergeError.{CoreMergeError}
use Rattle.core_merge.specs.declared.error.CoreMergeError.TheVariants.{BadLine, BadOffset, MapsOverlap, OffsetOverflow}
use Rattle.core_merge.specs.declared.error.CoreMergeError.TheVariants.{Mismatch, OutOfMemory}
use Rattle.core_merge.proofs.Lines.{addresses_once}
use Rattle.core_merge.proofs.Once.{image_merge_once}
use Rattle.core_merge.proofs.Ordering.{ordered_once}

-- two right answers are one
abbrev pub Once : {T : Type 0} → (Result T CoreMergeError → Type 0) → Type 0
Once {T} Right = (a b : Result T CoreMergeError) → Right a → Right b → a ≡ b

pub err_is : {T : Type 0} (d e : CoreMergeError) → ◌≡◌ {A = Result T CoreMergeError} (Err d) (Err e) → d ≡ e
err_is d e h = cc

ok_is : {T : Type 0} (x y : T) → ◌≡◌ {A = Result T CoreMergeError} (Ok x) (Ok y) → x ≡ y
ok_is x y h = cc

pub ok_err : {T : Type 0} (x : T) (e : CoreMergeError) → ◌≡◌ {A = Result T CoreMergeError} (Ok x) (Err e) → ⊥
ok_err x e h = cc

pub then_once : {T U : Type 0} (First : Result T CoreMergeError → Type 0) (Rest : T → Result U CoreMergeError → Type 0)
    → Once First → ((x : T) → First (Ok x) → Once (Rest x)) → Once (Then First Rest)
then_once First Rest first rest a b (inl (d, one, is)) (inl (e, other, same)) =
    is ∙ ap (λ x. Err x) (err_is d e (first (Err d) (Err e) one other)) ∙ sym same
then_once First Rest first rest a b (inl (d, one, is)) (inr (y, other, h)) = absurd (ok_err y d (first (Ok y) (Err d) other one))
then_once First Rest first rest a b (inr (x, one, h)) (inl (e, other, same)) = absurd (ok_err x e (first (Ok x) (Err e) one other))
then_once First Rest first rest a b (inr (x, one, h)) (inr (y, other, k)) =
    rest x one a b h (subst (λ z. Rest z b) (sym (ok_is x y (first (Ok x) (Ok y) one other))) k)

-- ---- the maps

made_once : (bytes : List ℕ) (x y : List MapsEntry) → AreCoreEntries bytes x → AreCoreEntries bytes y → x ≡ y
made_once bytes x y h k =
    h.says ∙ ap (λ es. filter is_relevant (map (entry_of es) (loads_of bytes)))
    (entries_same bytes h.notes k.notes h.entries k.entries h.found k.found) ∙ sym k.says

both_ways : (bytes : List ℕ) (x y : List MapsEntry) → AreCoreEntries bytes x → AreCoreEntries bytes y
    → list_all is_placed x ≡ true → list_all is_placed y ≡ false → ⊥
both_ways bytes x y h k fits past = let clash = sym fits ∙ ap (list_all is_placed) (made_once bytes x y h k) ∙ past in absurd (cc)

says_made_once : (bytes : List ℕ) → Once (SaysMade bytes)
says_made_once bytes (Ok x) (Ok y) h k = ap (λ z. Ok z) (made_once bytes x y h.0 k.0)
says_made_once bytes (Ok x) (Err BadOffset) h k = absurd (both_ways bytes x k.0 h.0 k.1 h.1 k.2)
says_made_once bytes (Ok x) (Err (BadLine n)) h k = absurd k
says_made_once bytes (Ok x) (Err MapsOverlap) h k = absurd k
says_made_once bytes (Ok x) (Err OffsetOverflow) h k = absurd k
says_made_once bytes (Ok x) (Err (Mismatch s f)) h k = absurd k
says_made_once bytes (Ok x) (Err OutOfMemory) h k = absurd k
says_made_once bytes (Err BadOffset) (Ok y) h k = absurd (both_ways bytes y h.0 k.0 h.1 k.1 h.2)
says_made_once bytes (Err BadOffset) (Err BadOffset) h k = refl
says_made_once bytes (Err BadOffset) (Err (BadLine n)) h k = absurd k
says_made_once bytes (Err BadOffset) (Err MapsOverlap) h k = absurd k
says_made_once bytes (Err BadOffset) (Err OffsetOverflow) h k = absurd k
says_made_once bytes (Err BadOffset) (Err (Mismatch s f)) h k = absurd k
says_made_once bytes (Err BadOffset) (Err OutOfMemory) h k = absurd k
says_made_once bytes (Err (BadLine n)) b h k = absurd h
says_made_once bytes (Err MapsOverlap) b h k = absurd h
says_made_once bytes (Err OffsetOverflow) b h k = absurd h
says_made_once bytes (Err (Mismatch s f)) b h k = absurd h
says_made_once bytes (Err OutOfMemory) b h k = absurd h

says_ordered_once : (made : List MapsEntry) → Once (SaysOrdered made)
says_ordered_once made (Ok x) (Ok y) h k = ap (λ z. Ok z) (ordered_once made x y h.0 k.0)
says_ordered_once made (Ok x) (Err MapsOverlap) h k =
    let clash = sym h.1 ∙ ap in_order (ordered_once made x k.0 h.0 k.1) ∙ k.2 in absurd (cc)
says_ordered_once made (Ok x) (Err (BadLine n)) h k = absurd k
says_ordered_once made (Ok x) (Err BadOffset) h k = absurd k
says_ordered_once made (Ok x) (Err OffsetOverflow) h k = absurd k
says_ordered_once made (Ok x) (Err (Mismatch s f)) h k = absurd k
says_ordered_once made (Ok x) (Err OutOfMemory) h k = absurd k
says_ordered_once made (Err MapsOverlap) (Ok y) h k =
    let clash = sym k.1 ∙ ap in_order (ordered_once made y h.0 k.0 h.1) ∙ h.2 in absurd (cc)
says_ordered_once made (Err MapsOverlap) (Err MapsOverlap) h k = refl
says_ordered_once made (Err MapsOverlap) (Err (BadLine n)) h k = absurd k
says_ordered_once made (Err MapsOverlap) (Err BadOffset) h k = absurd k
says_ordered_once made (Err MapsOverlap) (Err OffsetOverflow) h k = absurd k
says_ordered_once made (Err MapsOverlap) (Err (Mismatch s f)) h k = absurd k
says_ordered_once made (Err MapsOverlap) (Err OutOfMemory) h k = absurd k
says_ordered_once made (Err (BadLine n)) b h k = absurd h
says_ordered_once made (Err BadOffset) b h k = absurd h
says_ordered_once made (Err OffsetOverflow) b h k = absurd h
says_ordered_once made (Err (Mismatch s f)) b h k = absurd h
says_ordered_once made (Err OutOfMemory) b h k = absurd h

pub entries_once : (bytes : List ℕ) → Once (EntriesSay bytes)
entries_once bytes = then_once (SaysMade bytes) SaysOrdered (says_made_once bytes) (λ made h. says_ordered_once made)

-- ---- the merge

says_once : (files : FilesMapped) (python : ℕ → Bool) (frames : List Call) (addrs : List ℕ) → Once (ImageMergeSays files python frames addrs)
says_once files python frames addrs (Ok x) (Ok y) h k =
    ap (λ z. Ok z) (ok_merged x y (image_merge_once files python frames addrs (Ok x) (Ok y) h k))
  where
    ok_merged : (x y : List Call) → ◌≡◌ {A = Result (List Call) MergeError} (Ok x) (Ok y) → x ≡ y
    ok_merged x y h = cc
says_once files python frames addrs (Ok x) (Err (Mismatch s f)) h k =
    absurd (let clash = image_merge_once files python frames addrs (Ok x) (Err (merging.Mismatch s f)) h k in cc)
says_once files python frames addrs (Ok x) (Err (BadLine n)) h k = absurd k
says_once files python frames addrs (Ok x) (Err BadOffset) h k = absurd k
says_once files python frames addrs (Ok x) (Err MapsOverlap) h k = absurd k
says_once files python frames addrs (Ok x) (Err OffsetOverflow) h k = absurd k
says_once files python frames addrs (Ok x) (Err OutOfMemory) h k = absurd k
says_once files python frames addrs (Err (Mismatch s f)) (Ok y) h k =
    absurd (let clash = image_merge_once files python frames addrs (Ok y) (Err (merging.Mismatch s f)) k h in cc)
says_once files python frames addrs (Err (Mismatch s f)) (Err (Mismatch t g)) h k =
    same s f t g (image_merge_once files python frames addrs (Err (merging.Mismatch s f)) (Err (merging.Mismatch t g)) h k)
  where
    same : (s f t g : ℕ) → ◌≡◌ {A = Result (List Call) MergeError} (Err (merging.Mismatch s f)) (Err (merging.Mismatch t g))
        → ◌≡◌ {A = Result (List Call) CoreMergeError} (Err (Mismatch s f)) (Err (Mismatch t g))
    same s f t g h = cc
says_once files python frames addrs (Err (Mismatch s f)) (Err (BadLine n)) h k = absurd k
says_once files python frames addrs (Err (Mismatch s f)) (Err BadOffset) h k = absurd k
says_once files python frames addrs (Err (Mismatch s f)) (Err MapsOverlap) h k = absurd k
says_once files python frames addrs (Err (Mismatch s f)) (Err OffsetOverflow) h k = absurd k
says_once files python frames addrs (Err (Mismatch s f)) (Err OutOfMemory) h k = absurd k
says_once files python frames addrs (Err (BadLine n)) b h k = absurd h
says_once files python frames addrs (Err BadOffset) b h k = absurd h
says_once files python frames addrs (Err MapsOverlap) b h k = absurd h
says_once files python frames addrs (Err OffsetOverflow) b h k = absurd h
says_once files python frames addrs (Err OutOfMemory) b h k = absurd h

merged_by_once : (images : Pushed) (python : ℕ → Bool) (frames : List Call) (addrs : List ℕ) (entries : List MapsEntry)
    → Once (MergedBy images python frames addrs entries)
merged_by_once images python frames addrs entries a b (inl h) (inl k) = h.1 ∙ sym k.1
merged_by_once images python frames addrs entries a b (inl h) (inr k) = let clash = sym h.0 ∙ k.0 in absurd (cc)
merged_by_once images python frames addrs entries a b (inr h) (inl k) = let clash = sym k.0 ∙ h.0 in absurd (cc)
merged_by_once images python frames addrs entries a b (inr h) (inr k) =
    says_once (files_mapped entries images) python frames addrs a b h.1 k.1

pub core_merge_once : (bytes : List ℕ) (images : Pushed) (python : ℕ → Bool) (frames : List Call) (text : List ℕ)
    → Once (CoreMergeIs bytes images python frames text)
core_merge_once bytes images python frames text =
    then_once (AddressesSay text) (MergedWith bytes images python frames) (addresses_once text)
    (λ addrs h. then_once (EntriesSay bytes) (MergedBy images python frames addrs) (entries_once bytes)
    (λ entries k. merged_by_once images python frames addrs entries))

-- ---- the code's steps

abbrev Answers : List ℕ → Pushed → (ℕ → Bool) → List Call → List ℕ → Result (Vec Frame Global) CoreMergeError → Type 0
Answers bytes images python frames text r =
    IsErrOf r OutOfMemory ⊎ CoreMergeIs bytes images python frames text (calls_of_result r)

module _ (bytes : List ℕ) (images : Pushed) (python : ℕ → Bool) (frames : List Call) (text : List ℕ) where
  -- a step's error is the answer's
  pub addresses_fail : (e : CoreMergeError) (r : Result (Vec Frame Global) CoreMergeError)
      → IsErrOf {T = Vec ℕ Global} (Err e) OutOfMemory ⊎ AddressesSay text (Err e) → r ≡ Err e → Answers bytes images python frames text r
  addresses_fail e r (inl wants) is = inl (is ∙ ap (λ x. Err x) (err_is e OutOfMemory wants))
  addresses_fail e r (inr says) is = inr (subst (CoreMergeIs bytes images python frames text) (sym (ap calls_of_result is)) (inl (e, says, refl)))

  pub entries_fail : (addrs : Vec ℕ Global) (e : CoreMergeError) (r : Result (Vec Frame Global) CoreMergeError)
      → IsErrOf {T = Vec ℕ Global} (Ok addrs) OutOfMemory ⊎ AddressesSay text (Ok addrs.items)
      → IsErrOf {T = Vec MapsEntry Global} (Err e) OutOfMemory ⊎ EntriesSay bytes (Err e) → r ≡ Err e → Answers bytes images python frames text r
  entries_fail addrs e r (inl wants) says is = absurd (ok_err addrs OutOfMemory wants)
  entries_fail addrs e r (inr told) (inl wants) is = inl (is ∙ ap (λ x. Err x) (err_is e OutOfMemory wants))
  entries_fail addrs e r (inr told) (inr says) is =
      inr (subst (CoreMergeIs bytes images python frames text) (sym (ap calls_of_result is)) (inr (addrs.items, told, inl (e, says, refl))))

  pub all_go : (addrs : Vec ℕ Global) (entries : Vec MapsEntry Global) (r : Result (Vec Frame Global) CoreMergeError)
      → IsErrOf {T = Vec ℕ Global} (Ok addrs) OutOfMemory ⊎ AddressesSay text (Ok addrs.items)
      → IsErrOf {T = Vec MapsEntry Global} (Ok entries) OutOfMemory ⊎ EntriesSay bytes (Ok entries.items)
      → IsErrOf r OutOfMemory ⊎ MergedBy images python frames addrs.items entries.items (calls_of_result r)
      → Answers bytes images python frames text r
  all_go addrs entries r (inl wants) says last = absurd (ok_err addrs OutOfMemory wants)
  all_go addrs entries r (inr told) (inl wants) last = absurd (ok_err entries OutOfMemory wants)
  all_go addrs entries r (inr told) (inr says) (inl wants) = inl wants
  all_go addrs entries r (inr told) (inr says) (inr h) = inr (inr (addrs.items, told, inr (entries.items, says, h)))

-- ---- the code's steps over the maps

pub entries_overlap : (bytes : List ℕ) (made : Vec MapsEntry Global) (ordered : List MapsEntry)
    → IsErrOf {T = Vec MapsEntry Global} (Ok made) OutOfMemory ⊎ SaysMade bytes (Ok made.items)
    → AreOrdered made.items ordered → in_order ordered ≡ false
    → IsErrOf {T = Vec MapsEntry Global} (Err MapsOverlap) OutOfMemory ⊎ EntriesSay bytes (Err MapsOverlap)
entries_overlap bytes made ordered (inl wants) are overlap = absurd (ok_err made OutOfMemory wants)
entries_overlap bytes made ordered (inr says) are overlap = inr (inr (made.items, says, (ordered, are, overlap)))

pub entries_go : (bytes : List ℕ) (made ordered : Vec MapsEntry Global)
    → IsErrOf {T = Vec MapsEntry Global} (Ok made) OutOfMemory ⊎ SaysMade bytes (Ok made.items)
    → AreOrdered made.items ordered.items → in_order ordered.items ≡ true
    → IsErrOf {T = Vec MapsEntry Global} (Ok ordered) OutOfMemory ⊎ EntriesSay bytes (Ok ordered.items)
entries_go bytes made ordered (inl wants) are apart = absurd (ok_err made OutOfMemory wants)
entries_go bytes made ordered (inr says) are apart = inr (inr (made.items, says, (are, apart)))
