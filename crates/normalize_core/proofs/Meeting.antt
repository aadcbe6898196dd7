-- What is met by one address more.
use Rattle.std.proofs.Common.{◌≡◌, ℕ, ◌+◌, ◌<◌, ◌≤◌, suc, Bool, true, false, not, ◌||◌, List, [], ◌∷◌, ◌++◌, length}
use Rattle.std.proofs.Common.{get_or, eqb, ltb, refl, sym, ap, subst, ◌∙◌, arith, Option, Some, None, Ok, Err, add-zero}
use Rattle.std.proofs.Common.{length-append}
use Rattle.std.specs.Prelude.{All, cond, map, is_some, unwrap_or}
use Rattle.std.specs.List.{AllZip, filter, list_any, position, position_or_len}
use Rattle.std.proofs.lemmas.Bool.{cond-true, cond-false, le-ltb, lt-ltb, eq-eqb, ne_eqb}
use Rattle.std.proofs.lemmas.List.Elements.{All-same, All-map}
use Rattle.std.proofs.lemmas.List.Folds.{position_or_len_push, list_any_at}
use Rattle.std.proofs.lemmas.List.Sorted.{list_any-IsPermutation}
use Rattle.std.proofs.lemmas.Slice.Eq.{bytes_eq-Decides}
use Rattle.normalize_core.specs.declared.meta.Reason.{Reason}
use Rattle.normalize_core.specs.declared.meta.Reason.TheVariants.{Unmapped, MissingComponent, Unsupported}
use Rattle.normalize_core.specs.declared.meta.UserMeta.{UserMeta}
use Rattle.normalize_core.specs.declared.metas.Metas.{Metas}
use Rattle.normalize_core.specs.Met.{HasMet, has_target, meta_number_of, output_by}
use Rattle.normalize_core.specs.Normal.{Asked, Normal, IsMetaAt, IsNormal, first_addrs, meta_number_at, output_at}
use Rattle.normalize_core.specs.Numbered.{number_in}
use Rattle.normalize_core.specs.Targets.{Target, same_target, same_reason, target_at, normal_value_at, meets}

-- targets that are the same are equal
reason-refl : (r : Reason) → same_reason r r ≡ true
reason-refl Unmapped = refl
reason-refl MissingComponent = refl
reason-refl Unsupported = refl

reason-is : (r s : Reason) → same_reason r s ≡ true → r ≡ s
reason-is Unmapped Unmapped h = refl
reason-is Unmapped MissingComponent h = cc
reason-is Unmapped Unsupported h = cc
reason-is MissingComponent Unmapped h = cc
reason-is MissingComponent MissingComponent h = refl
reason-is MissingComponent Unsupported h = cc
reason-is Unsupported Unmapped h = cc
reason-is Unsupported MissingComponent h = cc
reason-is Unsupported Unsupported h = refl

pub same-refl : (t : Target) → same_target t t ≡ true
same-refl (Ok path) = let d = bytes_eq-Decides path path in d.1 refl
same-refl (Err r) = reason-refl r

pub same-is : (s t : Target) → same_target s t ≡ true → s ≡ t
same-is (Ok one) (Ok other) h = let d = bytes_eq-Decides one other in ap (λ (p : List ℕ). Ok p) (d.0 h)
same-is (Ok one) (Err r) h = cc
same-is (Err r) (Ok other) h = cc
same-is (Err r) (Err s) h = ap (λ (x : Reason). Err x) (reason-is r s h)

same-symm : (s t : Target) → same_target s t ≡ same_target t s
same-symm s t = by (same_target s t) (same_target t s) refl refl
  where
    by : (b c : Bool) → same_target s t ≡ b → same_target t s ≡ c → b ≡ c
    by true true e f = refl
    by false false e f = refl
    by true false e f =
        let is = same-is s t e in
        let g = subst (λ x. same_target x s ≡ true) is (same-refl s) in
        let both : true ≡ false = sym g ∙ f in cc
    by false true e f =
        let is = same-is t s f in
        let g = subst (λ x. same_target x t ≡ true) is (same-refl t) in
        let both : false ≡ true = sym e ∙ g in cc

-- the filter keeps what the test asks for
any-filter : {X : Type 0} (p q : X → Bool) → ((x : X) → p x ≡ true → q x ≡ true) → (xs : List X)
    → list_any p (filter q xs) ≡ list_any p xs
any-filter p q h [] = refl
any-filter {X} p q h (x ∷ xs) = by (q x) refl (any-filter p q h xs)
  where
    at_p : (b : Bool) → p x ≡ b → q x ≡ false → p x ≡ false
    at_p true e f = let both : true ≡ false = sym (h x e) ∙ f in cc
    at_p false e f = e

    by : (b : Bool) → q x ≡ b → list_any p (filter q xs) ≡ list_any p xs
        → list_any p (cond (q x) (x ∷ filter q xs) (filter q xs)) ≡ (p x || list_any p xs)
    by true e go = ap (λ c. list_any p (cond c (x ∷ filter q xs) (filter q xs))) e ∙ ap (λ c. p x || c) go
    by false e go =
        ap (λ c. list_any p (cond c (x ∷ filter q xs) (filter q xs))) e
        ∙ go ∙ ap (λ c. c || list_any p xs) (sym (at_p (p x) refl e))

filter-push : {X : Type 0} (q : X → Bool) (xs ys : List X) → filter q (xs ++ ys) ≡ filter q xs ++ filter q ys
filter-push q [] ys = refl
filter-push {X} q (x ∷ xs) ys = by (q x) (filter-push q xs ys)
  where
    by : (b : Bool) → filter q (xs ++ ys) ≡ filter q xs ++ filter q ys
        → cond b (x ∷ filter q (xs ++ ys)) (filter q (xs ++ ys)) ≡ cond b (x ∷ filter q xs) (filter q xs) ++ filter q ys
    by true go = ap (λ zs. x ∷ zs) go
    by false go = go

abbrev key : Asked → ℕ → Target
key asked addr = target_at asked.entries asked.map_files addr

abbrev is_other : Asked → ℕ → ℕ → Bool
is_other asked one other = not (meets asked.entries asked.map_files one other)

-- a target is met first where it is met
other_kept : (asked : Asked) (t : Target) (x : ℕ) → has_target asked t x ≡ false
    → (y : ℕ) → has_target asked t y ≡ true → is_other asked x y ≡ true
other_kept asked t x apart y met_too = by (meets asked.entries asked.map_files x y) refl
  where
    by : (b : Bool) → meets asked.entries asked.map_files x y ≡ b → not b ≡ true
    by false e = refl
    by true e =
        let one = same-is t (key asked y) met_too in
        let two = same-is (key asked x) (key asked y) e in
        let t_is : t ≡ key asked x = one ∙ sym two in
        let met = subst (λ k. same_target t k ≡ true) t_is (same-refl t) in
        let both : false ≡ true = sym apart ∙ met in cc

pub any-firsts : (asked : Asked) (t : Target) (xs : List ℕ)
    → list_any (has_target asked t) (first_addrs asked xs) ≡ list_any (has_target asked t) xs
any-firsts asked t [] = refl
any-firsts asked t (x ∷ xs) = by (has_target asked t x) refl (any-firsts asked t xs)
  where
    by : (b : Bool) → has_target asked t x ≡ b
        → list_any (has_target asked t) (first_addrs asked xs) ≡ list_any (has_target asked t) xs
        → (has_target asked t x || list_any (has_target asked t) (filter (is_other asked x) (first_addrs asked xs)))
        ≡ (has_target asked t x || list_any (has_target asked t) xs)
    by true e go = ap (λ c. c || list_any (has_target asked t) (filter (is_other asked x) (first_addrs asked xs))) e
        ∙ ap (λ c. c || list_any (has_target asked t) xs) (sym e)
    by false e go = ap (λ c. has_target asked t x || c)
        (any-filter (has_target asked t) (is_other asked x) (other_kept asked t x e) (first_addrs asked xs) ∙ go)

-- one address more
abbrev unless : Bool → ℕ → List ℕ
unless true x = []
unless false x = x ∷ []

filter_unless : (asked : Asked) (y x : ℕ) (c : Bool)
    → filter (is_other asked y) (unless c x) ≡ unless (has_target asked (key asked x) y || c) x
filter_unless asked y x true = by (has_target asked (key asked x) y)
  where
    by : (b : Bool) → [] ≡ unless (b || true) x
    by true = refl
    by false = refl
filter_unless asked y x false =
    ap (λ b. cond (not b) (x ∷ []) []) (same-symm (key asked y) (key asked x)) ∙ by (has_target asked (key asked x) y)
  where
    by : (b : Bool) → cond (not b) (x ∷ []) [] ≡ unless (b || false) x
    by true = refl
    by false = refl

firsts-unless : (asked : Asked) (xs : List ℕ) (x : ℕ)
    → first_addrs asked (xs ++ x ∷ []) ≡ first_addrs asked xs ++ unless (list_any (has_target asked (key asked x)) xs) x
firsts-unless asked [] x = refl
firsts-unless asked (y ∷ ys) x =
    ap (λ zs. y ∷ filter (is_other asked y) zs) (firsts-unless asked ys x)
    ∙ ap (λ zs. y ∷ zs) (filter-push (is_other asked y) (first_addrs asked ys) (unless (list_any (has_target asked (key asked x)) ys) x)
    ∙ ap (λ zs. filter (is_other asked y) (first_addrs asked ys) ++ zs) (filter_unless asked y x (list_any (has_target asked (key asked x)) ys)))

firsts_by : (asked : Asked) (xs : List ℕ) (x : ℕ) (b : Bool) → list_any (has_target asked (key asked x)) (first_addrs asked xs) ≡ b
    → first_addrs asked (xs ++ x ∷ []) ≡ first_addrs asked xs ++ unless b x
firsts_by asked xs x b e =
    firsts-unless asked xs x
    ∙ ap (λ c. first_addrs asked xs ++ unless c x) (sym (any-firsts asked (key asked x) xs) ∙ e)

append-none : (xs : List ℕ) → xs ++ [] ≡ xs
append-none [] = refl
append-none (x ∷ xs) = ap (λ ys. x ∷ ys) (append-none xs)

-- where a test passes first
abbrev pos_by : ℕ → ℕ → Option ℕ
pos_by n len = cond (ltb n len) (Some n) None

pos-lt : (n len : ℕ) → n < len → pos_by n len ≡ Some n
pos-lt n len lt = cond-true (ltb n len) (Some n) None (lt-ltb n len lt)

pos-ge : (n len : ℕ) → len ≤ n → pos_by n len ≡ None
pos-ge n len le = cond-false (ltb n len) (Some n) None (le-ltb n len le)

pol-by : (p : ℕ → Bool) (x : ℕ) (xs : List ℕ) (b : Bool) → p x ≡ b
    → position_or_len p (x ∷ xs) ≡ cond (not b) (1 + position_or_len p xs) 0
pol-by p x xs b e = ap (λ c. cond (not c) (1 + position_or_len p xs) 0) e

-- a test that some element passes stops before the end, and one that none passes doesn't
abbrev Stops : Bool → ℕ → ℕ → Type 0
Stops true n len = n < len
Stops false n len = n ≡ len

stops : (p : ℕ → Bool) (xs : List ℕ) → Stops (list_any p xs) (position_or_len p xs) (length xs)
stops p [] = refl
stops p (x ∷ xs) = by (p x) refl (list_any p xs) (stops p xs)
  where
    by : (b : Bool) → p x ≡ b → (c : Bool) → Stops c (position_or_len p xs) (length xs)
        → Stops (p x || c) (position_or_len p (x ∷ xs)) (length (x ∷ xs))
    by true e c go =
        let n = pol-by p x xs true e in
        subst (λ d. Stops (d || c) (position_or_len p (x ∷ xs)) (length (x ∷ xs))) (sym e) (omega (arith, n))
    by false e true go =
        let n = pol-by p x xs false e in
        subst (λ d. Stops (d || true) (position_or_len p (x ∷ xs)) (length (x ∷ xs))) (sym e) (omega (arith, n, go))
    by false e false go =
        let n = pol-by p x xs false e in
        subst (λ d. Stops (d || false) (position_or_len p (x ∷ xs)) (length (x ∷ xs))) (sym e) (omega (arith, n, go))

stops-some : (n len : ℕ) (b : Bool) → Stops b n len → is_some (pos_by n len) ≡ b
stops-some n len true h = ap is_some (pos-lt n len h)
stops-some n len false h = ap is_some (pos-ge n len (omega (arith, h)))

position-some : (p : ℕ → Bool) (xs : List ℕ) → is_some (position p xs) ≡ list_any p xs
position-some p xs = stops-some (position_or_len p xs) (length xs) (list_any p xs) (stops p xs)

pushed-by : (n m len long : ℕ) (b last : Bool) → Stops b n len → long ≡ len + 1
    → m ≡ cond (eqb n len) (len + cond last 0 1) n
    → pos_by m long ≡ cond (is_some (pos_by n len)) (pos_by n len) (cond last (Some len) None)
pushed-by n m len long true last h e is =
    let here : m ≡ n = is ∙ cond-false (eqb n len) (len + cond last 0 1) n (ne_eqb n len (λ same. omega (arith, h, same))) in
    let old = pos-lt n len h in
    ap (λ k. pos_by k long) here ∙ pos-lt n long (omega (arith, h, e))
    ∙ sym (ap (λ o. cond (is_some o) o (cond last (Some len) None)) old)
pushed-by n m len long false last h e is =
    let here : m ≡ len + cond last 0 1 = is ∙ cond-true (eqb n len) (len + cond last 0 1) n (eq-eqb n len h) in
    let old = pos-ge n len (omega (arith, h)) in
    ap (λ k. pos_by k long) here ∙ by last
    ∙ sym (ap (λ o. cond (is_some o) o (cond last (Some len) None)) old)
  where
    by : (b : Bool) → pos_by (len + cond b 0 1) long ≡ cond b (Some len) None
    by true = ap (λ k. pos_by k long) (add-zero len) ∙ pos-lt len long (omega (arith, e))
    by false = pos-ge (len + 1) long (omega (arith, e))

position-push : (p : ℕ → Bool) (xs : List ℕ) (y : ℕ)
    → position p (xs ++ y ∷ []) ≡ cond (is_some (position p xs)) (position p xs) (cond (p y) (Some (length xs)) None)
position-push p xs y =
    pushed-by (position_or_len p xs) (position_or_len p (xs ++ y ∷ [])) (length xs) (length (xs ++ y ∷ []))
    (list_any p xs) (p y) (stops p xs) (length-append xs (y ∷ [])) (position_or_len_push p xs y)

or-by : (n m len : ℕ) (b : Bool) → Stops b n len → m ≡ len → unwrap_or (pos_by n len) m ≡ n
or-by n m len true h e = ap (λ o. unwrap_or o m) (pos-lt n len h)
or-by n m len false h e = ap (λ o. unwrap_or o m) (pos-ge n len (omega (arith, h))) ∙ e ∙ sym h

pub position-or : (p : ℕ → Bool) (xs : List ℕ) (n : ℕ) → n ≡ length xs → unwrap_or (position p xs) n ≡ position_or_len p xs
position-or p xs n e = or-by (position_or_len p xs) n (length xs) (list_any p xs) (stops p xs) e

each-length : {X Y : Type 0} (R : X → Y → Type 0) (xs : List X) (ys : List Y) → AllZip R xs ys → length ys ≡ length xs
each-length R [] [] h = refl
each-length R [] (y ∷ ys) h = absurd h
each-length R (x ∷ xs) [] h = absurd h
each-length R (x ∷ xs) (y ∷ ys) h = ap suc (each-length R xs ys h.1)

each-push : {X Y : Type 0} (R : X → Y → Type 0) (xs : List X) (ys : List Y) (x : X) (y : Y) → AllZip R xs ys → R x y
    → AllZip R (xs ++ x ∷ []) (ys ++ y ∷ [])
each-push R [] [] x y h r = (r, tt)
each-push R [] (z ∷ ys) x y h r = absurd h
each-push R (w ∷ xs) [] x y h r = absurd h
each-push R (w ∷ xs) (z ∷ ys) x y h r = (h.0, each-push R xs ys x y h.1 r)

pub met-none : (asked : Asked) (metas : Metas) → ((t : Target) → number_in metas.numbers t ≡ None)
    → metas.list.items ≡ [] → HasMet asked [] metas
met-none asked metas none empty = record {
  numbers = none;
  list = subst (λ ms. AllZip (IsMetaAt asked) [] ms) (sym empty) tt;
}

pub met-again : (asked : Asked) (met : List ℕ) (addr : ℕ) (metas : Metas) → HasMet asked met metas
    → is_some (number_in metas.numbers (target_at asked.entries asked.map_files addr)) ≡ true
    → HasMet asked (met ++ addr ∷ []) metas
met-again asked met addr metas h some =
    let t = key asked addr in
    let any : list_any (has_target asked t) (first_addrs asked met) ≡ true =
    sym (position-some (has_target asked t) (first_addrs asked met)) ∙ ap is_some (sym (h.numbers t)) ∙ some in
    let same = firsts_by asked met addr true any ∙ append-none (first_addrs asked met) in
    record {
      numbers = λ u. h.numbers u ∙ ap (λ xs. position (has_target asked u) xs) (sym same);
      list = subst (λ xs. AllZip (IsMetaAt asked) xs metas.list.items) (sym same) h.list;
    }

itself : (o : Option ℕ) → cond (is_some o) o None ≡ o
itself None = refl
itself (Some n) = refl

pub met-more : (asked : Asked) (met : List ℕ) (addr : ℕ) (old new : Metas) (m : UserMeta) → HasMet asked met old
    → is_some (number_in old.numbers (target_at asked.entries asked.map_files addr)) ≡ false
    → IsMetaAt asked addr m → new.list.items ≡ old.list.items ++ m ∷ []
    → ((u : Target) → number_in new.numbers u
    ≡ cond (same_target (target_at asked.entries asked.map_files addr) u) (Some (length old.list.items)) (number_in old.numbers u))
    → HasMet asked (met ++ addr ∷ []) new
met-more asked met addr old new m h none is pushed numbered = record {
  numbers = λ u. numbered u ∙ at u (same_target t u) refl ∙ ap (λ xs. position (has_target asked u) xs) (sym same);
  list = subst (λ ms. AllZip (IsMetaAt asked) (first_addrs asked (met ++ addr ∷ [])) ms) (sym pushed)
      (subst (λ xs. AllZip (IsMetaAt asked) xs (old.list.items ++ m ∷ [])) (sym same)
      (each-push (IsMetaAt asked) (first_addrs asked met) old.list.items addr m h.list is));
}
  where
    t : Target
    t = key asked addr

    fs : List ℕ
    fs = first_addrs asked met

    any : list_any (has_target asked t) fs ≡ false
    any = sym (position-some (has_target asked t) fs) ∙ ap is_some (sym (h.numbers t)) ∙ none

    same : first_addrs asked (met ++ addr ∷ []) ≡ fs ++ addr ∷ []
    same = firsts_by asked met addr false any

    count : length old.list.items ≡ length fs
    count = each-length (IsMetaAt asked) fs old.list.items h.list

    pushed_at : (u : Target) → position (has_target asked u) (fs ++ addr ∷ [])
        ≡ cond (is_some (position (has_target asked u) fs)) (position (has_target asked u) fs) (cond (has_target asked u addr) (Some (length fs)) None)
    pushed_at u = position-push (has_target asked u) fs addr

    at : (u : Target) (b : Bool) → same_target t u ≡ b
        → cond (same_target t u) (Some (length old.list.items)) (number_in old.numbers u)
        ≡ position (has_target asked u) (fs ++ addr ∷ [])
    at u true e =
        let t_is = same-is t u e in
        let old_none : is_some (position (has_target asked u) fs) ≡ false =
        ap is_some (sym (h.numbers u)) ∙ ap (λ k. is_some (number_in old.numbers k)) (sym t_is) ∙ none in
        let here : has_target asked u addr ≡ true = subst (λ k. same_target u k ≡ true) (sym t_is) (same-refl u) in
        cond-true (same_target t u) (Some (length old.list.items)) (number_in old.numbers u) e
        ∙ ap (λ n. Some n) count
        ∙ sym (pushed_at u
        ∙ cond-false (is_some (position (has_target asked u) fs)) (position (has_target asked u) fs) (cond (has_target asked u addr) (Some (length fs)) None) old_none
        ∙ cond-true (has_target asked u addr) (Some (length fs)) None here)
    at u false e =
        let apart : has_target asked u addr ≡ false = same-symm u t ∙ e in
        cond-false (same_target t u) (Some (length old.list.items)) (number_in old.numbers u) e
        ∙ h.numbers u
        ∙ sym (pushed_at u
        ∙ ap (λ b. cond (is_some (position (has_target asked u) fs)) (position (has_target asked u) fs) (cond b (Some (length fs)) None)) apart
        ∙ itself (position (has_target asked u) fs))

-- an output by what the ascending addresses have met is the one that is asked for
pub output-met : (asked : Asked) (ascending : List ℕ) (metas : Metas) → HasMet asked ascending metas
    → (addrs : List ℕ) → map (output_by asked metas) addrs ≡ map (output_at asked ascending) addrs
output-met asked ascending metas h [] = refl
output-met asked ascending metas h (a ∷ rest) =
    let t = key asked a in
    let count = each-length (IsMetaAt asked) (first_addrs asked ascending) metas.list.items h.list in
    let number : meta_number_of metas t ≡ meta_number_at asked ascending a =
    ap (λ o. unwrap_or o (length metas.list.items)) (h.numbers t)
    ∙ position-or (has_target asked t) (first_addrs asked ascending) (length metas.list.items) count in
    ap (λ n. (normal_value_at asked.entries a, n) ∷ map (output_by asked metas) rest) number
    ∙ ap (λ os. output_at asked ascending a ∷ os) (output-met asked ascending metas h rest)

-- each output has the number of a meta
pub numbered : (asked : Asked) (addrs : List ℕ) (n : Normal) → IsNormal asked addrs n
    → All (λ o. o.1 < length n.metas) n.outputs
numbered asked addrs n h =
    All-same (λ (o : ℕ × ℕ). o.1 < length n.metas) n.outputs (map (output_at asked h.ascending) addrs) h.outputs
    (All-map (λ (o : ℕ × ℕ). o.1 < length n.metas) (output_at asked h.ascending) addrs each)
  where
    firsts_of : List ℕ
    firsts_of = first_addrs asked h.ascending

    each : (k d : ℕ) → k < length addrs → meta_number_at asked h.ascending (get_or addrs k d) < length n.metas
    each k d lt =
        let p = has_target asked (key asked (get_or addrs k d)) in
        let here = list_any_at p addrs k d lt (same-refl (key asked (get_or addrs k d))) in
        let any : list_any p firsts_of ≡ true =
        any-firsts asked (key asked (get_or addrs k d)) h.ascending
        ∙ sym (list_any-IsPermutation p addrs h.ascending h.same) ∙ here in
        let stop : position_or_len p firsts_of < length firsts_of =
        subst (λ b. Stops b (position_or_len p firsts_of) (length firsts_of)) any (stops p firsts_of) in
        let count = each-length (IsMetaAt asked) firsts_of n.metas h.metas in
        subst (λ m. position_or_len p firsts_of < m) (sym count) stop
