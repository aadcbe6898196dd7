-- The traces that a pass has changed so far, each by the same rule.
use Rattle.std.proofs.Common.{◌≡◌, ◌<◌, ◌≤◌, ◌+◌, ℕ, List, [], ◌∷◌, ◌++◌, length, map, take, drop, get_or, set, refl}
use Rattle.std.proofs.Common.{sym, ◌∙◌, ap, arith}
use Rattle.std.proofs.lemmas.List.{map-append, take_more, take_more_set, take_all, drop_more, drop-set-lt, length-set}
use Rattle.py_stacks.specs.declared.trace.StackTrace.{StackTrace}
use Rattle.py_stacks.specs.Threads.{Trace, trace_of}

-- the traces before an index are changed, and those from it on are as they were
pub record Marked (f : Trace → Trace) (old new : List StackTrace) (i : ℕ) : Type 0 where
  pub same : length new ≡ length old
  pub before : map trace_of (take i new) ≡ map f (map trace_of (take i old))
  pub after : drop i new ≡ drop i old

pub marked_init : (f : Trace → Trace) (old : List StackTrace) → Marked f old old 0
marked_init f old = record { same = refl; before = refl; after = refl }

heads : (x y : StackTrace) (xs ys : List StackTrace) → x ∷ xs ≡ y ∷ ys → x ≡ y
heads x y xs ys e = cc

tails : (x y : StackTrace) (xs ys : List StackTrace) → x ∷ xs ≡ y ∷ ys → xs ≡ ys
tails x y xs ys e = cc

pub marked_more : (f : Trace → Trace) (old new : List StackTrace) (i : ℕ) (x d : StackTrace) → i < length new
    → Marked f old new i → trace_of x ≡ f (trace_of (get_or new i d))
    → Marked f old (set new i x) (i + 1)
marked_more f old new i x d lt h is =
    let lt_old : i < length old = omega (arith, h.same, lt) in
    let both : get_or new i d ∷ drop (i + 1) new ≡ get_or old i d ∷ drop (i + 1) old = sym (drop_more new i d lt) ∙ h.after ∙ drop_more old i d lt_old in
    let here : get_or new i d ≡ get_or old i d = heads _ _ _ _ both in
    record {
      same = length-set new i x ∙ h.same;
      before = ap (map trace_of) (take_more_set new i x lt) ∙ map-append trace_of (take i new) (x ∷ []) ∙ ap (λ ts. ts ++ trace_of x ∷ []) h.before
          ∙ ap (λ t. map f (map trace_of (take i old)) ++ t ∷ []) (is ∙ ap (λ t. f (trace_of t)) here)
          ∙ sym (ap (λ ts. map f (map trace_of ts)) (take_more old i d lt_old) ∙ ap (map f) (map-append trace_of (take i old) (get_or old i d ∷ [])) ∙ map-append f (map trace_of (take i old)) (trace_of (get_or old i d) ∷ []));
      after = drop-set-lt (i + 1) new i x (omega arith) ∙ tails _ _ _ _ both;
    }

pub marked_all : (f : Trace → Trace) (old new : List StackTrace) (i : ℕ) → length new ≤ i → Marked f old new i
    → map trace_of new ≡ map f (map trace_of old)
marked_all f old new i le h =
    ap (map trace_of) (sym (take_all i new le)) ∙ h.before ∙ ap (λ ts. map f (map trace_of ts)) (take_all i old (omega (arith, h.same, le)))
