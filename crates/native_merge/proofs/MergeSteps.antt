-- A merge under way, address by address.
use Rattle.std.proofs.Common.{◌≡◌, ◌⊎◌, inl, inr, ℕ, zero, suc, ◌+◌, ◌≤◌, ◌<◌, nat_eq, Bool, true, false, cond, not}
use Rattle.std.proofs.Common.{List, [], ◌∷◌, ◌++◌, length, get_or, take, Vec, IfSome, IsErrOf, Option, Some, None}
use Rattle.std.proofs.Common.{Result, Ok, Err, refl, sym, ◌∙◌, ap, subst, arith, zero-add, append_assoc, append-nil}
use Rattle.std.proofs.Common.{take_all}
use Rattle.std.specs.Global.{Global}
use Rattle.std.proofs.lemmas.List.Sums.{sum_by-append}
use Rattle.std.specs.Map.{lookup}
use Rattle.outside.specs.Counts.{Rose, count_after}
use Rattle.py_stacks.specs.declared.trace.Frame.{Frame}
use Rattle.native_merge.specs.declared.native_frame.NativeFrame.{NativeFrame}
use Rattle.native_merge.specs.declared.symbol_fault.SymbolFault.{SymbolFault}
use Rattle.native_merge.specs.declared.symbol_fault.SymbolFault.TheVariants.{NoBinary, Failed, OutOfMemory}
use Rattle.native_merge.specs.declared.merge_error.MergeError.{MergeError}
use Rattle.native_merge.specs.declared.merge_error.MergeError.TheVariants.{OutOfMemory as NoMemory}
use Rattle.native_merge.specs.Gathered.{Gathered, GathersMore, capped}
use Rattle.native_merge.specs.MergedStacks.{StackItem, interleaved, merged, step_count}
use Rattle.native_merge.specs.Merges.{AreAnswered, HasRoom, IsAnswered, IsMerged, ShowsMerged, all_items}
use Rattle.native_merge.specs.Merges.{calls_of_answer, failed_count, is_failed}
use Rattle.native_merge.specs.Merges.AreAnswered.{NoMore, More}
use Rattle.native_merge.specs.Merging.{Merging}
use Rattle.native_merge.specs.NativesShown.{NativeItem, answer_items}
use Rattle.native_merge.specs.PythonFrames.{calls, ends_part}
use Rattle.native_merge.specs.Sources.{SourcesSeen, Stay}
use Rattle.native_merge.specs.SymbolCaches.{Answer, HeldFrames, IsAfter, IsHeldAnswer, IsToldAnswer, answer_listed}
use Rattle.native_merge.specs.Symbols.{SymbolsSeen, SymbolsStay}
use Rattle.native_merge.proofs.StackCuts.{cursor-zero}
use Rattle.native_merge.proofs.Stays.{stay_same, stay_then, symbols_same, symbols_then}

take_more : (xs : List ℕ) (i : ℕ) → i < length xs → take (i + 1) xs ≡ take i xs ++ get_or xs i 0 ∷ []
take_more [] i h = absurd (omega arith)
take_more (x ∷ xs) zero h = refl
take_more (x ∷ xs) (suc i) h = let e : suc i + 1 ≡ suc (i + 1) = omega arith in rw e (ap (λ l. x ∷ l) (take_more xs i (omega arith)))

-- one more answer
answers_more : {seen : SymbolsSeen} {python : ℕ → Bool} {held mid after : HeldFrames} {addrs : List ℕ} {answers : List Answer} (addr : ℕ) (answer : Answer)
    → AreAnswered seen python held addrs answers mid → IsAnswered seen python mid addr answer after
    → AreAnswered seen python held (addrs ++ addr ∷ []) (answers ++ answer ∷ []) after
answers_more addr answer NoMore a = More a NoMore
answers_more addr answer (More b rest) a = More b (answers_more addr answer rest a)

items_more : {seen : SymbolsSeen} {python : ℕ → Bool} {held mid : HeldFrames} {addrs : List ℕ} {answers : List Answer} (addr : ℕ) (answer : Answer)
    → AreAnswered seen python held addrs answers mid
    → all_items python (addrs ++ addr ∷ []) (answers ++ answer ∷ []) ≡ all_items python addrs answers ++ answer_items (python addr) addr answer
unfolding all_items
items_more {python = python} addr answer NoMore = append-nil (answer_items (python addr) addr answer)
items_more {python = python} addr answer (More {addr = a} {answer = r} {addrs = bs} {answers = rs} b rest) =
    ap (λ l. answer_items (python a) a r ++ l) (items_more addr answer rest)
    ∙ sym (append_assoc (answer_items (python a) a r) (all_items python bs rs) (answer_items (python addr) addr answer))

-- one more fault at most
count_more : (answers : List Answer) (answer : Answer)
    → failed_count (answers ++ answer ∷ []) ≡ failed_count answers + cond (is_failed answer) 1 0
count_more answers answer = sum_by-append (λ a. cond (is_failed a) 1 0) answers (answer ∷ [])
    ∙ ap (λ n. failed_count answers + n) (zero-add (cond (is_failed answer) 1 0))

faults_rose : (n : ℕ) (b : Bool) (old mid now : ℕ) → count_after old n ≤ mid → (b ≡ true → Rose mid now) → mid ≤ now
    → count_after old (n + cond b 1 0) ≤ now
faults_rose n false old mid now c r le = omega arith
faults_rose n true old mid now c r le = let x = r refl in omega arith

rose_where : (before now : ℕ) (r : Result (Vec NativeFrame Global) SymbolFault) → (IsErrOf r Failed → Rose before now)
    → is_failed (answer_listed r) ≡ true → Rose before now
rose_where before now (Ok v) f e = cc
rose_where before now (Err NoBinary) f e = cc
rose_where before now (Err Failed) f e = f refl
rose_where before now (Err OutOfMemory) f e = cc

-- what an answer that was asked for says, by the symbolicator before all calls
held_is : (f : NativeFrame) (answer : Answer) → HasRoom answer → IsHeldAnswer f answer → answer ≡ Ok (f ∷ [])
held_is f (Ok fs) k h = ap Ok h
held_is f (Err e) k h = absurd (k (ap Err h))

pub told_as : (old mid : SymbolsSeen) (addr : ℕ) (lines : Bool) (answer : Answer) → SymbolsStay old mid
    → IsToldAnswer mid addr lines answer → IsToldAnswer old addr lines answer
told_as old mid addr lines (Ok fs) s h = λ t. (s.gives addr lines fs).0 (h (s.tells ∙ t))
told_as old mid addr lines (Err e) s h = tt

lacking_is : (r : Result (Vec NativeFrame Global) SymbolFault) → answer_listed r ≡ Err NoBinary → IsErrOf r NoBinary
lacking_is (Ok v) e = cc
lacking_is (Err f) e = let same : f ≡ NoBinary = cc in ap Err same

by_held : (o : Option NativeFrame) (answer : Answer) → HasRoom answer → IfSome o (λ f. IsHeldAnswer f answer) → IfSome o (λ f. answer ≡ Ok (f ∷ []))
by_held None answer k h = tt
by_held (Some f) answer k h = held_is f answer k h

answered : (old mid : SymbolsSeen) (python : ℕ → Bool) {held after : HeldFrames} (addr : ℕ) (inside : Bool) (r : Result (Vec NativeFrame Global) SymbolFault)
    → SymbolsStay old mid → inside ≡ python addr → (IsErrOf r NoBinary → mid.lacks addr)
    → IfSome (lookup (nat_eq addr) held.entries) (λ f. IsHeldAnswer f (answer_listed r))
    → (lookup (nat_eq addr) held.entries ≡ None → IsToldAnswer mid addr (not inside) (answer_listed r))
    → IsAfter held after addr (answer_listed r) → HasRoom (answer_listed r)
    → IsAnswered old python held addr (answer_listed r) after
answered old mid python {held} {after} addr inside r s e l h t k room = record {
  lacking = λ x. (s.lacks addr).0 (l (lacking_is r x));
  cached = by_held (lookup (nat_eq addr) held.entries) (answer_listed r) room h;
  told = λ n. subst (λ b. IsToldAnswer old addr b (answer_listed r)) (ap not e) (told_as old mid addr (not inside) (answer_listed r) s (t n));
  kept = k;
  room = room;
}

pub merging_none : (old : SymbolsSeen) (sources : SourcesSeen) (python : ℕ → Bool) (frames : List Frame) (held : HeldFrames) (made : List Frame)
    → made ≡ [] → Merging old old sources sources python frames held held [] made 0
unfolding all_items interleaved step_count
merging_none old sources python frames held made e = record {
  symbols = symbols_same old;
  stay = stay_same sources;
  answers = [];
  each = NoMore;
  faults = omega arith;
  gathered = rw e (record { shown = tt; stands = sym (ap capped (cursor-zero ends_part (calls frames))) });
}

pub merging_more : {old mid new : SymbolsSeen} {before between sources : SourcesSeen} {python : ℕ → Bool} {frames made after : List Frame}
    {held kept keeps : HeldFrames} {at next : ℕ} (addrs : List ℕ) (i : ℕ) (inside : Bool) (r : Result (Vec NativeFrame Global) SymbolFault)
    → i < length addrs → inside ≡ python (get_or addrs i 0)
    → Merging old mid before between python frames held kept (take i addrs) made at
    → (IsErrOf r NoBinary → mid.lacks (get_or addrs i 0)) → (IsErrOf r Failed → Rose mid.faults new.faults)
    → SymbolsStay mid new
    → IfSome (lookup (nat_eq (get_or addrs i 0)) kept.entries) (λ f. IsHeldAnswer f (answer_listed r))
    → (lookup (nat_eq (get_or addrs i 0)) kept.entries ≡ None → IsToldAnswer mid (get_or addrs i 0) (not inside) (answer_listed r))
    → IsAfter kept keeps (get_or addrs i 0) (answer_listed r) → HasRoom (answer_listed r)
    → GathersMore between.exists frames (answer_items inside (get_or addrs i 0) (answer_listed r)) made at after next
    → Stay between sources
    → Merging old new before sources python frames held keeps (take (i + 1) addrs) after next
merging_more {old} {mid} {new} {before} {between} {sources} {python} {frames} {made} {after} {held} {kept} {keeps} {at} {next} addrs i inside r lt e m l f s h t k room g stay =
    let addr : ℕ = get_or addrs i 0 in
    let answer : Answer = answer_listed r in
    let one : IsAnswered old python kept addr answer keeps = answered old mid python addr inside r m.symbols e l h t k room in
    let on : GathersMore before.exists frames (answer_items (python addr) addr answer) made at after next
    = subst (λ x. GathersMore x frames (answer_items (python addr) addr answer) made at after next) m.stay.exists
    (subst (λ x. GathersMore between.exists frames (answer_items x addr answer) made at after next) e g) in
    record {
      symbols = symbols_then m.symbols s;
      stay = stay_then m.stay stay;
      answers = m.answers ++ answer ∷ [];
      each = rw (take_more addrs i lt) (answers_more addr answer m.each one);
      faults = rw (count_more m.answers answer) (faults_rose (failed_count m.answers) (is_failed answer) old.faults mid.faults new.faults
          m.faults (rose_where mid.faults new.faults r f) s.faults);
      gathered = rw (take_more addrs i lt) (rw (items_more addr answer m.each) (on.more (all_items python (take i addrs) m.answers) m.gathered));
    }

pub merging_done : {old new : SymbolsSeen} {before sources : SourcesSeen} {python : ℕ → Bool} {frames made : List Frame} {held after : HeldFrames} {at : ℕ}
    (addrs : List ℕ) (i : ℕ) (r : Result (Vec Frame Global) MergeError) → length addrs ≤ i
    → Merging old new before sources python frames held after (take i addrs) made at
    → IsErrOf r NoMemory ⊎ ((exists : List ℕ → Bool) (items : List (StackItem NativeItem)) → Gathered exists frames items made at
    → ShowsMerged exists (merged ends_part (calls frames) items) (calls_of_answer r))
    → IsErrOf r NoMemory ⊎ IsMerged old new before.exists python frames addrs held after (calls_of_answer r)
merging_done {old} {new} {before} {sources} {python} {frames} {made} {held} {after} {at} addrs i r h m f =
    let q : Merging old new before sources python frames held after addrs made at
    = subst (λ l. Merging old new before sources python frames held after l made at) (take_all i addrs h) m in
    elim f [
      | inl want ↦ inl want
      | inr d ↦ inr (record {
        answers = q.answers;
        each = q.each;
        faults = q.faults;
        shows = d before.exists (all_items python addrs q.answers) q.gathered;
      })
    ]
