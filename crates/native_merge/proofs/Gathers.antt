-- What is merged goes on by items.
use Rattle.std.proofs.Common.{◌≡◌, ℕ, zero, suc, ◌+◌, ◌^◌, ◌<◌, Bool, true, false, List, [], ◌∷◌, ◌++◌, length, get_or}
use Rattle.std.proofs.Common.{take, drop, map, refl, sym, subst, ◌∙◌, ap, arith, append_assoc, append-nil, inl, inr, Ok}
use Rattle.std.proofs.Common.{Err}
use Rattle.std.proofs.lemmas.List.{length-map, map-append, drop_all}
use Rattle.std.proofs.lemmas.Bool.{cases_lt}
use Rattle.std.specs.List.{AllZip, flat_map}
use Rattle.py_stacks.specs.declared.trace.Frame.{Frame}
use Rattle.py_stacks.specs.Frames.{Call, call_of}
use Rattle.native_merge.specs.declared.native_frame.NativeFrame.{NativeFrame}
use Rattle.native_merge.specs.declared.symbol_fault.SymbolFault.{SymbolFault}
use Rattle.native_pairs.specs.declared.kind.FunctionKind.{FunctionKind}
use Rattle.native_pairs.specs.declared.kind.FunctionKind.TheVariants.{Step as IsStep, Native as IsNative}
use Rattle.native_pairs.specs.declared.kind.FunctionKind.TheVariants.{LeftOut as IsLeftOut}
use Rattle.native_merge.specs.FunctionKinds.{function_kind}
use Rattle.native_merge.specs.SymbolCaches.{Answer}
use Rattle.native_merge.specs.NativesShown.{NativeItem, ShowsFrame, ShowsNative, answer_items, fault_call, is_dropped}
use Rattle.native_merge.specs.NativesShown.{items_met, items_shown, judged}
use Rattle.native_merge.specs.NativesShown.NativeItem.{OfFrame, OfFault}
use Rattle.native_merge.specs.StackParts.{part, cursor, step_len}
use Rattle.native_merge.specs.PythonFrames.{calls, ends_part}
use Rattle.native_merge.specs.MergedStacks.{StackItem, interleaved, step_count}
use Rattle.native_merge.specs.MergedStacks.StackItem.{Step, Shown}
use Rattle.native_merge.specs.MergedStacks.MergedFrame.{Python, Native}
use Rattle.native_merge.specs.Gathered.{GathersMore, capped, width_at, taken_at}
use Rattle.native_merge.proofs.StackCuts.{cursor-suc, part_is}
use Rattle.native_merge.proofs.MergeLaws.{interleaved-append, step_count-append}

pub AllZip-append : {A B : Type 0} (R : A → B → Type 0) (xs us : List A) (ys vs : List B) → AllZip R xs ys → AllZip R us vs
    → AllZip R (xs ++ us) (ys ++ vs)
AllZip-append R [] us [] vs h k = k
AllZip-append R [] us (y ∷ ys) vs h k = absurd h
AllZip-append R (x ∷ xs) us [] vs h k = absurd h
AllZip-append R (x ∷ xs) us (y ∷ ys) vs h k = (h.0, AllZip-append R xs us ys vs h.1 k)

module _ {exists : List ℕ → Bool} where
  pub more_none : (fs old : List Frame) (at : ℕ) → GathersMore exists fs [] old at old at
  more_none fs old at = record { more = λ is g. rw (append-nil is) g }

  pub more_then : {fs : List Frame} {js ks : List (StackItem NativeItem)} {old mid new : List Frame} {at next last : ℕ}
      → GathersMore exists fs js old at mid next → GathersMore exists fs ks mid next new last
      → GathersMore exists fs (js ++ ks) old at new last
  more_then {fs} {js} {ks} a b = record { more = λ is g. rw (sym (append_assoc is js ks)) (b.more (is ++ js) (a.more is g)) }

-- Python frames are shown as they are
pub pythons_shown : (exists : List ℕ → Bool) (cs : List Call) → AllZip (ShowsFrame exists) (map Python cs) cs
pythons_shown exists [] = tt
pythons_shown exists (c ∷ cs) = (refl, pythons_shown exists cs)

one_shown : (fs : List Call) (k : ℕ) (x : NativeItem) → interleaved ends_part fs k (Shown x ∷ []) ≡ Native x ∷ []
unfolding interleaved
one_shown fs k x = refl

one_step : (fs : List Call) (k : ℕ) → interleaved {N = NativeItem} ends_part fs k (Step ∷ []) ≡ map Python (part ends_part k fs)
unfolding interleaved
one_step fs k = append-nil (map Python (part ends_part k fs))

count_shown : (x : NativeItem) → step_count (Shown x ∷ []) ≡ 0
unfolding step_count
count_shown x = refl

count_step : step_count {N = NativeItem} (Step ∷ []) ≡ 1
unfolding step_count
count_step = refl

-- one more item: what was laid out, and what it adds
interleaved_more : (fs : List Call) (is js : List (StackItem NativeItem)) → interleaved ends_part fs 0 (is ++ js)
    ≡ interleaved ends_part fs 0 is ++ interleaved ends_part fs (step_count is) js
interleaved_more fs is js = let z : 0 + step_count is ≡ step_count is = omega arith in
    interleaved-append ends_part fs 0 is js ∙ ap (λ k. interleaved ends_part fs 0 is ++ interleaved ends_part fs k js) z

-- past the end nothing stands from either place on
same_drop : {X : Type 0} (xs : List X) (at c : ℕ) → length xs < 2 ^ 64 → at ≡ capped c → drop at xs ≡ drop c xs
same_drop xs at c h e = elim (cases_lt c (2 ^ 64)) [
  | inl lt ↦ let same : at ≡ c = omega arith in ap (λ n. drop n xs) same
  | inr ge ↦ drop_all at xs (omega arith) ∙ sym (drop_all c xs (omega arith))
]

module _ {exists : List ℕ → Bool} where
  pub more_shown : {fs old new : List Frame} {at : ℕ} (x : NativeItem) (c : Call) → ShowsFrame exists (Native x) c
      → calls new ≡ calls old ++ c ∷ [] → GathersMore exists fs (Shown x ∷ []) old at new at
  more_shown {fs} {old} {new} {at} x c s e = record {
    more = λ is g. record {
      shown = rw (interleaved_more (calls fs) is (Shown x ∷ []))
          (rw (one_shown (calls fs) (step_count is) x) (rw e
          (AllZip-append (ShowsFrame exists) (interleaved ends_part (calls fs) 0 is) (Native x ∷ []) (calls old) (c ∷ []) g.shown (s, tt))));
      stands = let n : step_count (is ++ Shown x ∷ []) ≡ step_count is
          = step_count-append is (Shown x ∷ []) ∙ ap (λ k. step_count is + k) (count_shown x) ∙ omega arith in rw n g.stands;
    };
  }

  pub more_step : {fs old new : List Frame} {at next : ℕ} → length fs < 2 ^ 64 → next ≡ capped (at + width_at fs at)
      → calls new ≡ calls old ++ taken_at fs at → GathersMore exists fs (Step ∷ []) old at new next
  more_step {fs} {old} {new} {at} {next} h n e = record {
    more = λ is g.
        let cs = calls fs in
        let here = cursor ends_part (step_count is) cs in
        let short : length cs < 2 ^ 64 = omega (arith, length-map fs call_of) in
        let same : drop at cs ≡ drop here cs = same_drop cs at here short g.stands in
        let taken : taken_at fs at ≡ part ends_part (step_count is) cs
        = ap (λ l. take (step_len ends_part l) l) same ∙ sym (part_is ends_part (step_count is) cs) in
        let wide : width_at fs at ≡ step_len ends_part (drop here cs) = ap (step_len ends_part) same in
        record {
          shown = rw (interleaved_more cs is (Step ∷ [])) (rw (one_step cs (step_count is)) (rw e (rw taken
              (AllZip-append (ShowsFrame exists) (interleaved ends_part cs 0 is) (map Python (part ends_part (step_count is) cs))
              (calls old) (part ends_part (step_count is) cs) g.shown (pythons_shown exists (part ends_part (step_count is) cs))))));
          stands =
              let m : step_count (is ++ Step ∷ []) ≡ suc (step_count is)
              = step_count-append is (Step ∷ []) ∙ ap (λ k. step_count is + k) count_step ∙ omega arith in
              rw m (let s = cursor-suc ends_part (step_count is) cs in let t = g.stands in omega arith);
        };
  }

-- ---- what one native frame adds

pub shown_dropped : (f : NativeFrame) → is_dropped f ≡ true → items_shown f ≡ []
shown_dropped f e = rw e refl

pub shown_kept : (f : NativeFrame) → is_dropped f ≡ false → items_shown f ≡ Shown (OfFrame f) ∷ []
shown_kept f e = rw e refl

pub items_outside : (b : Bool) (f : NativeFrame) → b ≡ false → items_met b f ≡ items_shown f
unfolding items_met
items_outside b f e = rw e refl

items_inside : (b : Bool) (f : NativeFrame) (k : FunctionKind) → b ≡ true → k ≡ function_kind f.function → items_met b f ≡ judged f k
unfolding items_met
items_inside b f k e h = rw e (ap (judged f) (sym h))

pub items_step : (b : Bool) (f : NativeFrame) → b ≡ true → IsStep ≡ function_kind f.function → items_met b f ≡ Step ∷ []
items_step b f e h = items_inside b f IsStep e h

pub items_native : (b : Bool) (f : NativeFrame) → b ≡ true → IsNative ≡ function_kind f.function → items_met b f ≡ items_shown f
items_native b f e h = items_inside b f IsNative e h

pub items_left_out : (b : Bool) (f : NativeFrame) → b ≡ true → IsLeftOut ≡ function_kind f.function → items_met b f ≡ []
items_left_out b f e h = items_inside b f IsLeftOut e h

flat_map_more : {X A : Type 0} (f : X → List A) (xs : List X) (i : ℕ) (d : X) → i < length xs
    → flat_map f (take (i + 1) xs) ≡ flat_map f (take i xs) ++ f (get_or xs i d)
flat_map_more f [] i d h = absurd (omega arith)
flat_map_more f (x ∷ xs) zero d h = append-nil (f x)
flat_map_more f (x ∷ xs) (suc i) d h = let e : suc i + 1 ≡ suc (i + 1) = omega arith in
    rw e (ap (λ l. f x ++ l) (flat_map_more f xs i d (omega arith)) ∙ sym (append_assoc (f x) (flat_map f (take i xs)) (f (get_or xs i d))))

module _ {exists : List ℕ → Bool} where
  pub more_frame : {fs old new : List Frame} {at : ℕ} (native : NativeFrame) (f : Frame) → is_dropped native ≡ false
      → ShowsNative exists native (call_of f) → new ≡ old ++ f ∷ [] → GathersMore exists fs (items_shown native) old at new at
  more_frame {fs} {old} {new} {at} native f k s n = rw (shown_kept native k)
      (more_shown {exists = exists} {fs = fs} {old = old} {new = new} {at = at} (OfFrame native) (call_of f) s (ap calls n ∙ map-append call_of old (f ∷ [])))

  pub more_natives : {fs old mid new : List Frame} {at next last : ℕ} (python : Bool) (xs : List NativeFrame) (i : ℕ) (x : NativeFrame)
      → i < length xs → x ≡ get_or xs i x
      → GathersMore exists fs (flat_map (items_met python) (take i xs)) old at mid next
      → {between : List ℕ → Bool} → between ≡ exists → GathersMore between fs (items_met python x) mid next new last
      → GathersMore exists fs (flat_map (items_met python) (take (i + 1) xs)) old at new last
  more_natives {fs = fs} {mid = mid} {new = new} {next = next} {last = last} python xs i x h e a same b =
      rw (flat_map_more (items_met python) xs i x h ∙ ap (λ y. flat_map (items_met python) (take i xs) ++ items_met python y) (sym e))
      (more_then a (subst (λ y. GathersMore y fs (items_met python x) mid next new last) same b))

  -- ---- what an answer adds

  pub more_ok : {fs old new : List Frame} {at next : ℕ} (python : Bool) (addr : ℕ) (answer : Answer) (natives : List NativeFrame)
      → answer ≡ Ok natives → GathersMore exists fs (flat_map (items_met python) natives) old at new next
      → GathersMore exists fs (answer_items python addr answer) old at new next
  unfolding answer_items
  more_ok python addr answer natives e g = rw e g

  pub more_fault : {fs old new : List Frame} {at : ℕ} (python : Bool) (addr : ℕ) (answer : Answer) (fault : SymbolFault) (f : Frame)
      → answer ≡ Err fault → call_of f ≡ fault_call addr → new ≡ old ++ f ∷ []
      → GathersMore exists fs (answer_items python addr answer) old at new at
  unfolding answer_items
  more_fault {fs} {old} {new} {at} python addr answer fault f e h n = rw e
      (more_shown {exists = exists} {fs = fs} {old = old} {new = new} {at = at} (OfFault addr) (call_of f) h (ap calls n ∙ map-append call_of old (f ∷ [])))
