-- What a merge leaves of the cache, wherever it stopped.
use Rattle.std.proofs.Common.{◌≡◌, ℕ, ◌+◌, ◌<◌, nat_eq, Bool, not, List, ◌∷◌, ◌++◌, length, get_or, take, drop, Vec, IfSome}
use Rattle.std.proofs.Common.{None, Result, refl, sym, ◌∙◌, ap, subst, inl, inr}
use Rattle.std.specs.Global.{Global}
use Rattle.std.specs.Map.{lookup}
use Rattle.std.proofs.lemmas.List.{drop_more, take-append-drop}
use Rattle.py_stacks.specs.declared.trace.Frame.{Frame}
use Rattle.native_merge.specs.declared.native_frame.NativeFrame.{NativeFrame}
use Rattle.native_merge.specs.declared.symbol_fault.SymbolFault.{SymbolFault}
use Rattle.native_merge.specs.Merges.{AreAnswered, AreAsked, IsAnswered, IsAsked, has_lines}
use Rattle.native_merge.specs.Merges.AreAnswered.{NoMore, More}
use Rattle.native_merge.specs.Merges.AreAsked.{Enough, Asked}
use Rattle.native_merge.specs.Merging.{Merging}
use Rattle.native_merge.specs.Sources.{SourcesSeen}
use Rattle.native_merge.specs.SymbolCaches.{Answer, AreKnown, HeldFrames, IsAfter, IsHeldAnswer, IsToldAnswer, answer_listed}
use Rattle.native_merge.specs.Symbols.{SymbolsSeen}
use Rattle.native_merge.proofs.AnswersTold.{as_held}
use Rattle.native_merge.proofs.MergeSteps.{told_as}
use Rattle.native_merge.proofs.SymbolsKnown.{told_answer, known_after}

module _ {seen : SymbolsSeen} {python : ℕ → Bool} where
  as_asked : {held after : HeldFrames} (addr : ℕ) (answer : Answer) → IsAnswered seen python held addr answer after → IsAsked seen python held addr after
  as_asked {held} addr answer is = record {
    answer = answer;
    cached = as_held answer (lookup (nat_eq addr) held.entries) is.cached;
    told = is.told;
    kept = is.kept;
  }

  -- addresses that were answered, and then some of the others
  asked_behind : {held mid after : HeldFrames} {addrs : List ℕ} {answers : List Answer} (rest : List ℕ) → AreAnswered seen python held addrs answers mid
      → AreAsked seen python mid rest after → AreAsked seen python held (addrs ++ rest) after
  asked_behind rest NoMore more = more
  asked_behind rest (More {addr = addr} {answer = answer} one others) more = Asked (as_asked addr answer one) (asked_behind rest others more)

-- after some steps no more were asked about
pub asked_so_far : {old now : SymbolsSeen} {before sources : SourcesSeen} {python : ℕ → Bool} {frames made : List Frame} {held after : HeldFrames} {at : ℕ}
    (addrs : List ℕ) (i : ℕ) → Merging old now before sources python frames held after (take i addrs) made at
    → AreAsked old python held addrs after
asked_so_far {old = old} {python = python} {held = held} {after = after} addrs i m =
    subst (λ l. AreAsked old python held l after) (take-append-drop i addrs) (asked_behind (drop i addrs) m.each Enough)

-- the next was asked about, and then no more
pub asked_last : {old mid : SymbolsSeen} {before sources : SourcesSeen} {python : ℕ → Bool} {frames made : List Frame} {held kept keeps : HeldFrames} {at : ℕ}
    (addrs : List ℕ) (i : ℕ) (inside : Bool) (r : Result (Vec NativeFrame Global) SymbolFault) → i < length addrs → inside ≡ python (get_or addrs i 0)
    → Merging old mid before sources python frames held kept (take i addrs) made at
    → IfSome (lookup (nat_eq (get_or addrs i 0)) kept.entries) (λ f. IsHeldAnswer f (answer_listed r))
    → (lookup (nat_eq (get_or addrs i 0)) kept.entries ≡ None → IsToldAnswer mid (get_or addrs i 0) (not inside) (answer_listed r))
    → IsAfter kept keeps (get_or addrs i 0) (answer_listed r)
    → AreAsked old python held addrs keeps
asked_last {old} {mid} {python = python} {held = held} {kept = kept} {keeps = keeps} addrs i inside r below is m cached told after =
    let addr : ℕ = get_or addrs i 0 in
    let one : IsAsked old python kept addr keeps = record {
      answer = answer_listed r;
      cached = cached;
      told = λ none. subst (λ b. IsToldAnswer old addr b (answer_listed r)) (ap not is) (told_as old mid addr (not inside) (answer_listed r) m.symbols (told none));
      kept = after;
    } in
    let all : take i addrs ++ (addr ∷ drop (i + 1) addrs) ≡ addrs = ap (λ l. take i addrs ++ l) (sym (drop_more addrs i 0 below)) ∙ take-append-drop i addrs in
    subst (λ l. AreAsked old python held l keeps) all (asked_behind (addr ∷ drop (i + 1) addrs) m.each (Asked one Enough))

-- what is held and told stays so
pub asked_known : (seen : SymbolsSeen) (python : ℕ → Bool) {held after : HeldFrames} {addrs : List ℕ} → AreAsked seen python held addrs after
    → AreKnown seen (has_lines python) held → AreKnown seen (has_lines python) after
asked_known seen python Enough known = known
asked_known seen python (Asked {held} {mid} {addr = addr} one rest) known =
    let told : IsToldAnswer seen addr (has_lines python addr) one.answer = told_answer seen (has_lines python) held known addr one.answer one.cached one.told in
    asked_known seen python rest (known_after seen (has_lines python) held known addr mid one.answer told one.kept)

after_cap : (old new : HeldFrames) (addr : ℕ) (answer : Answer) → IsAfter old new addr answer → new.cap ≡ old.cap
after_cap old new addr answer (inl e) = ap (λ (h : HeldFrames). h.cap) e
after_cap old new addr answer (inr (inl e)) = ap (λ (h : HeldFrames). h.cap) e
after_cap old new addr answer (inr (inr p)) = ap (λ (h : HeldFrames). h.cap) p.2

pub asked_cap : {seen : SymbolsSeen} {python : ℕ → Bool} {held after : HeldFrames} {addrs : List ℕ} → AreAsked seen python held addrs after
    → after.cap ≡ held.cap
asked_cap Enough = refl
asked_cap (Asked {held} {mid} {addr = addr} one rest) = asked_cap rest ∙ after_cap held mid addr one.answer one.kept
