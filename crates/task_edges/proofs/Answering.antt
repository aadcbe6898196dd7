-- The tasks among what leads to an object; and that there is one answer alone.
use Rattle.std.proofs.Common.{◌≡◌, ℕ, ◌+◌, ◌<◌, ◌⊎◌, ◌↔◌, Bool, true, false, cond, List, [], ◌∷◌, ◌++◌, length, map, take}
use Rattle.std.proofs.Common.{append-nil, get_or, refl, sym, ◌∙◌, ap, inl, inr, subst, nat_eq, IsTrue}
use Rattle.std.specs.Prelude.{Option, Some, None, Result, Ok, Err, IfOk}
use Rattle.std.specs.Global.{Vec}
use Rattle.std.specs.BTreeSet.{BTreeSet, contains}
use Rattle.std.specs.List.{AllZip, Contains, filter, list_any}
use Rattle.std.specs.Ordering.{nat_cmp}
use Rattle.std.proofs.lemmas.List.{map-append, take_more}
use Rattle.std.proofs.lemmas.List.Elements.{filter-append}
use Rattle.std.proofs.lemmas.Map.Views.{Contains-from_any, exact_unsigned_eq}
use Rattle.task_edges.specs.declared.waits.Waiting.{Waiting}
use Rattle.task_edges.specs.declared.waits.Waits.{Waits}
use Rattle.task_edges.specs.Leading.{LeadsTo, before}
use Rattle.task_edges.specs.Waits.{AllWait, AreKept, IsWaits, WaitsFor, answer_of, task_of}
use Rattle.task_edges.proofs.Adding.{before_other, before_task, same_more}
use Rattle.task_edges.proofs.Sets.{has_set}

-- a test that tells of which it holds keeps those
kept_filter : (Is : ℕ → Type 0) (test : ℕ → Bool) → ((a : ℕ) → IsTrue (test a) ↔ Is a) → (xs : List ℕ)
    → AreKept Is xs (filter test xs)
kept_filter Is test tells [] = refl
kept_filter Is test tells (x ∷ xs) = by (test x) refl (kept_filter Is test tells xs)
  where
    by : (b : Bool) → test x ≡ b → AreKept Is xs (filter test xs) → AreKept Is (x ∷ xs) (filter test (x ∷ xs))
    by true e rest = inl ((tells x).0 e, filter test xs, ap (λ b. cond b (x ∷ filter test xs) (filter test xs)) e, rest)
    by false e rest =
        inr (
          (λ h. let t = (tells x).1 h in cc),
          subst (λ ys. AreKept Is xs ys) (sym (ap (λ b. cond b (x ∷ filter test xs) (filter test xs)) e)) rest,
        )

-- a set that has what leads to an object
pub kept_by_set : (direct : ℕ → List ℕ) (target : ℕ) (s : BTreeSet ℕ) (tasks list : List ℕ)
    → ((a : ℕ) → Contains s.keys a ↔ LeadsTo direct a target) → list ≡ filter (contains nat_cmp s) tasks
    → AreKept (λ a. LeadsTo direct a target) tasks list
kept_by_set direct target s tasks list exact is =
    subst (λ ys. AreKept (λ a. LeadsTo direct a target) tasks ys) (sym is)
    (kept_filter (λ a. LeadsTo direct a target) (contains nat_cmp s)
    (λ a. (λ h. (exact a).0 ((has_set s a).0 h), λ h. (has_set s a).1 ((exact a).1 h))) tasks)

-- ---- one answer alone

kept_only : (Is : ℕ → Type 0) (xs ys zs : List ℕ) → AreKept Is xs ys → AreKept Is xs zs → ys ≡ zs
kept_only Is [] ys zs h k = h ∙ sym k
kept_only Is (x ∷ xs) ys zs h k =
    elim h [
      | inl p ↦ elim k [
        | inl q ↦ p.2 ∙ ap (λ rest. x ∷ rest) (kept_only Is xs p.1 q.1 p.3 q.3) ∙ sym q.2
        | inr q ↦ absurd (q.0 p.0)
      ]
      | inr p ↦ elim k [ inl q ↦ absurd (p.0 q.0) | inr q ↦ kept_only Is xs ys zs p.1 q.1 ]
    ]

waits_only : (direct : ℕ → List ℕ) (tasks : List ℕ) (limit : ℕ) (target : ℕ) (a b : Option (List ℕ))
    → IsWaits direct tasks limit target a → IsWaits direct tasks limit target b → a ≡ b
waits_only direct tasks limit target None None h k = refl
waits_only direct tasks limit target None (Some ys) h k = absurd (k.1 h)
waits_only direct tasks limit target (Some xs) None h k = absurd (h.1 k)
waits_only direct tasks limit target (Some xs) (Some ys) h k =
    ap (λ zs. Some zs) (kept_only (λ a. LeadsTo direct a target) tasks xs ys h.0 k.0)

answer_only : (direct : ℕ → List ℕ) (tasks : List ℕ) (limit : ℕ) (w : Option ℕ) (a b : Option (List ℕ))
    → WaitsFor direct tasks limit w a → WaitsFor direct tasks limit w b → a ≡ b
answer_only direct tasks limit None a b h k = h ∙ sym k
answer_only direct tasks limit (Some target) a b h k = waits_only direct tasks limit target a b h k

pub all_only : (direct : ℕ → List ℕ) (tasks : List ℕ) (limit : ℕ) (ws : List Waiting) (xs ys : List (Option (List ℕ)))
    → AllWait direct tasks limit ws xs → AllWait direct tasks limit ws ys → xs ≡ ys
all_only direct tasks limit [] [] [] h k = refl
all_only direct tasks limit [] [] (y ∷ ys) h k = absurd k
all_only direct tasks limit [] (x ∷ xs) ys h k = absurd h
all_only direct tasks limit (w ∷ ws) [] ys h k = absurd h
all_only direct tasks limit (w ∷ ws) (x ∷ xs) [] h k = absurd k
all_only direct tasks limit (w ∷ ws) (x ∷ xs) (y ∷ ys) h k =
    ap (λ z. z ∷ xs) (answer_only direct tasks limit w.waiter x y h.0 k.0)
    ∙ ap (λ zs. y ∷ zs) (all_only direct tasks limit ws xs ys h.1 k.1)

-- ---- the same sources and tasks

tell : (a : ℕ) (tasks : List ℕ) (b : Bool) → list_any (nat_eq a) tasks ≡ b → (Contains tasks a) ⊎ (b ≡ false)
tell a tasks true e = inl (Contains-from_any exact_unsigned_eq a tasks e)
tell a tasks false e = inr refl

same_before : (sources others : ℕ → List ℕ) (keys tasks : List ℕ) → ((q : ℕ) → sources q ≡ others q)
    → ((a : ℕ) → Contains keys a ↔ Contains tasks a) → (q : ℕ) → before sources keys q ≡ before others tasks q
same_before sources others keys tasks same has q = by (list_any (nat_eq q) keys) refl
  where
    by : (b : Bool) → list_any (nat_eq q) keys ≡ b → before sources keys q ≡ before others tasks q
    by true e =
        let there = Contains-from_any exact_unsigned_eq q keys e in
        before_task sources keys q there ∙ sym (before_task others tasks q ((has q).0 there))
    by false e =
        let no : Contains keys q → ⊥ = λ h. let t = before_task (λ z. 0 ∷ []) keys q h in
        let u : before (λ z. 0 ∷ []) keys q ≡ 0 ∷ [] = ap (λ b. cond b [] (0 ∷ [])) e in cc in
        before_other sources keys q no ∙ same q ∙ sym (before_other others tasks q (λ h. no ((has q).1 h)))

pub same_direct : (sources others : ℕ → List ℕ) (keys tasks : List ℕ) → ((q : ℕ) → sources q ≡ others q)
    → ((a : ℕ) → Contains keys a ↔ Contains tasks a) → before sources keys ≡ before others tasks
same_direct sources others keys tasks same has = λ i q. same_before sources others keys tasks same has q i

-- ---- one more

abbrev pub no_waiting : Waiting
no_waiting = record { task = 0; waiter = None }

tasks_shown : (ws : List Waiting) (i : ℕ) → i < length ws
    → map task_of (take (i + 1) ws) ≡ map task_of (take i ws) ++ (get_or ws i no_waiting).task ∷ []
tasks_shown ws i lt =
    ap (map task_of) (take_more ws i no_waiting lt) ∙ map-append task_of (take i ws) (get_or ws i no_waiting ∷ [])

pub tasks_more : (ws : List Waiting) (i : ℕ) (keys more : List ℕ) → i < length ws
    → ((a : ℕ) → Contains keys a ↔ Contains (map task_of (take i ws)) a)
    → ((a : ℕ) → Contains more a ↔ (Contains keys a ⊎ (a ≡ (get_or ws i no_waiting).task)))
    → (a : ℕ) → Contains more a ↔ Contains (map task_of (take (i + 1) ws)) a
tasks_more ws i keys more lt same adds =
    subst (λ xs. (a : ℕ) → Contains more a ↔ Contains xs a) (sym (tasks_shown ws i lt))
    (same_more keys (map task_of (take i ws)) more (get_or ws i no_waiting).task same adds)

among_shown : (test : ℕ → Bool) (ws : List Waiting) (i : ℕ) → i < length ws
    → filter test (map task_of (take (i + 1) ws)) ≡ filter test (map task_of (take i ws))
    ++ cond (test (get_or ws i no_waiting).task) ((get_or ws i no_waiting).task ∷ []) []
among_shown test ws i lt =
    ap (filter test) (tasks_shown ws i lt)
    ∙ filter-append test (map task_of (take i ws)) ((get_or ws i no_waiting).task ∷ [])

pub among_more : (test : ℕ → Bool) (ws : List Waiting) (i : ℕ) (list : List ℕ) → i < length ws
    → test (get_or ws i no_waiting).task ≡ true → list ≡ filter test (map task_of (take i ws))
    → list ++ (get_or ws i no_waiting).task ∷ [] ≡ filter test (map task_of (take (i + 1) ws))
among_more test ws i list lt e is =
    let x = (get_or ws i no_waiting).task in
    ap (λ ys. ys ++ x ∷ []) is
    ∙ sym (among_shown test ws i lt ∙ ap (λ b. filter test (map task_of (take i ws)) ++ cond b (x ∷ []) []) e)

pub among_kept : (test : ℕ → Bool) (ws : List Waiting) (i : ℕ) (list : List ℕ) → i < length ws
    → test (get_or ws i no_waiting).task ≡ false → list ≡ filter test (map task_of (take i ws))
    → list ≡ filter test (map task_of (take (i + 1) ws))
among_kept test ws i list lt e is =
    let x = (get_or ws i no_waiting).task in
    is ∙ sym (append-nil (filter test (map task_of (take i ws))))
    ∙ sym (among_shown test ws i lt ∙ ap (λ b. filter test (map task_of (take i ws)) ++ cond b (x ∷ []) []) e)

all_zip_push : {A B : Type 0} (R : A → B → Type 0) (xs : List A) (ys : List B) (x : A) (y : B) → AllZip R xs ys → R x y
    → AllZip R (xs ++ x ∷ []) (ys ++ y ∷ [])
all_zip_push R [] [] x y h r = (r, tt)
all_zip_push R [] (z ∷ ys) x y h r = absurd h
all_zip_push R (z ∷ xs) [] x y h r = absurd h
all_zip_push R (z ∷ xs) (w ∷ ys) x y h r = (h.0, all_zip_push R xs ys x y h.1 r)

pub waits_more : (direct : ℕ → List ℕ) (tasks : List ℕ) (limit : ℕ) (ws : List Waiting) (i : ℕ) (list : List Waits)
    (waits : Waits) → i < length ws → AllWait direct tasks limit (take i ws) (map answer_of list)
    → WaitsFor direct tasks limit (get_or ws i no_waiting).waiter (answer_of waits)
    → AllWait direct tasks limit (take (i + 1) ws) (map answer_of (list ++ waits ∷ []))
waits_more direct tasks limit ws i list waits lt all is =
    let Is : Waiting → Option (List ℕ) → Type 0 = λ w answer. WaitsFor direct tasks limit w.waiter answer in
    subst (λ v. AllZip Is v (map answer_of (list ++ waits ∷ []))) (sym (take_more ws i no_waiting lt))
    (subst (λ ys. AllZip Is (take i ws ++ get_or ws i no_waiting ∷ []) ys) (sym (map-append answer_of list (waits ∷ [])))
    (all_zip_push Is (take i ws) (map answer_of list) (get_or ws i no_waiting) (answer_of waits) all is))

-- ---- the whole

pub all_right : {E : Type 0} (direct others : ℕ → List ℕ) (tasks : List ℕ) (limit : ℕ) (ws : List Waiting)
    (r : Result (Vec Waits) E) → direct ≡ others
    → IfOk r (λ list. AllWait direct tasks limit ws (map answer_of list.items))
    → IfOk r (λ list. AllWait others tasks limit ws (map answer_of list.items))
all_right direct others tasks limit ws r same h =
    subst (λ d. IfOk r (λ list. AllWait d tasks limit ws (map answer_of list.items))) same h

pub all_are_only : {E : Type 0} (direct : ℕ → List ℕ) (tasks : List ℕ) (limit : ℕ) (ws : List Waiting)
    (r : Result (Vec Waits) E) → IfOk r (λ list. AllWait direct tasks limit ws (map answer_of list.items))
    → (other : List (Option (List ℕ))) → AllWait direct tasks limit ws other
    → IfOk r (λ list. map answer_of list.items ≡ other)
all_are_only direct tasks limit ws (Ok list) h other is =
    all_only direct tasks limit ws (map answer_of list.items) other h is
all_are_only direct tasks limit ws (Err e) h other is = tt
