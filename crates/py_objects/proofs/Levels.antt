-- One level of a value that is shown, exit by exit.
use Rattle.std.proofs.Common.{◌≡◌, ℕ, zero, suc, ◌<◌, ◌≤◌, ◌++◌, true, false, List, refl, arith}
use Rattle.std.proofs.Math.Nat.{le_refl}
use Rattle.std.specs.Prelude.{Option, Some, None, Result, Ok, Err, nat_le, codes}
use Rattle.std.proofs.lemmas.Bool.Decides.{nat_tests}
use Rattle.process_memory.specs.Memory.Fault.{Depth}
use Rattle.process_memory.specs.Seen.{Answers}
use Rattle.py_builtins.specs.declared.error.ObjectError.{ObjectError}
use Rattle.py_builtins.specs.declared.error.ObjectError.TheVariants.{Depth as TooDeep}
use Rattle.py_builtins.specs.ObjectError.{object_fault}
use Rattle.py_objects.specs.Shown.{Shown, ◌>>=◌, give, consult, visit, TellsShown}
use Rattle.py_objects.specs.ShownTexts.{dots}
use Rattle.py_objects.specs.Shows.{Brackets, Node, Child, Source, looked_at, child_shown, part_at, node_shown, show_at}
use Rattle.py_objects.specs.Shows.Child.{Item, Empty, Entry}
use Rattle.py_objects.proofs.Steps.{Rises, tells_is, tells_then, tells_stop, tells_lost, tells_err, tells_found}
use Rattle.py_objects.proofs.Steps.{bind_rises}
use Rattle.py_objects.proofs.Rising.{show_rises, child_rises, node_rises}

module _ {V P : Type 0} (s : Source V P) (levels w : ℕ) (a : V) where
  show_small : w ≤ 5 → show_at s levels w a ≡ give dots
  unfolding show_at
  show_small h = elim levels as (λ n. show_at s n w a ≡ give dots) [
    | zero ↦ let few : nat_le w 5 ≡ true = grind (arith, nat_tests) in rw few refl
    | suc n ↦ let few : nat_le w 5 ≡ true = grind (arith, nat_tests) in rw few refl
  ]

show_last : {V P : Type 0} (s : Source V P) (levels w : ℕ) (a : V) → 5 < w → levels ≡ 0 → show_at s levels w a ≡ (visit >>= (λ u v. (Err Depth, v)))
unfolding show_at
show_last s zero w a h e = let many : nat_le w 5 ≡ false = grind (arith, nat_tests) in rw many refl
show_last s (suc levels) w a h e = absurd (omega arith)

-- what follows the visit
abbrev pub after_visit : {V P : Type 0} → Source V P → ℕ → ℕ → V → Shown (List ℕ)
after_visit s below w a = consult (s.node a) >>= node_shown s (λ w2 a2. show_at s below w2 a2) w

show_large : {V P : Type 0} (s : Source V P) (levels w : ℕ) (a : V) (below : ℕ) → 5 < w → levels ≡ suc below → show_at s levels w a ≡ (visit >>= (λ u. after_visit s below w a))
unfolding show_at
show_large s zero w a below h e = absurd (omega arith)
show_large s (suc levels) w a below h e = let many : nat_le w 5 ≡ false = grind (arith, nat_tests) in let same : levels ≡ below = omega arith in rw (many, same) refl

below_rises : {V P : Type 0} (s : Source V P) (below w : ℕ) (n : Node P) → Rises (node_shown s (λ w2 a2. show_at s below w2 a2) w n)
below_rises s below w n = node_rises s (λ w2 a2. show_at s below w2 a2) (λ w2 a2. show_rises s below w2 a2) w n

pub level_small : {V P : Type 0} (s : Source V P) (levels w : ℕ) (a : V) (v : ℕ) (t : List ℕ) → w ≤ 5 → t ≡ dots → TellsShown {E = ObjectError} object_fault (show_at s levels w a v) (Ok t) v
level_small s levels w a v t h e = rw (show_small s levels w a h, e) (tells_is refl)

module _ {V P : Type 0} (s : Source V P) (levels w : ℕ) (a : V) (v : ℕ) (wide : 5 < w) where
  pub level_refused : {v1 : ℕ} (e e' : ObjectError) → TellsShown {T = Unit {0}} object_fault (visit v) (Err e) v1 → object_fault e' ≡ object_fault e → TellsShown object_fault (show_at s levels w a v) (Err e') v1
  level_refused {v1 = v1} e e' t same = elim levels as (λ n. TellsShown object_fault (show_at s n w a v) (Err e') v1) [
    | zero ↦ rw (show_last s zero w a wide refl) (tells_stop object_fault visit v (λ u v. (Err Depth, v)) e' t same (λ u v. le_refl v))
    | suc n ↦ rw (show_large s (suc n) w a n wide refl) (tells_stop object_fault visit v (λ u. after_visit s n w a) e' t same (λ u. bind_rises (consult (s.node a)) _ (λ v. le_refl v) (below_rises s n w)))
  ]

  pub level_deep : {v1 : ℕ} {u : Unit {0}} → TellsShown {E = ObjectError} object_fault (visit v) (Ok u) v1 → levels ≡ 0 → TellsShown {T = List ℕ} object_fault (show_at s levels w a v) (Err TooDeep) v1
  level_deep t e = rw (show_last s levels w a wide e) (tells_then visit v (λ u v. (Err Depth, v)) t (tells_err TooDeep Depth refl refl))

  module _ (below : ℕ) {v1 : ℕ} {u : Unit {0}} (t : TellsShown {E = ObjectError} object_fault (visit v) (Ok u) v1) (e : levels ≡ suc below) where
    pub level_stops : (x x' : ObjectError) → Answers object_fault (s.node a) (Err x) → object_fault x' ≡ object_fault x → TellsShown object_fault (show_at s levels w a v) (Err x') v1
    level_stops x x' p same = rw (show_large s levels w a below wide e) (tells_then visit v (λ u. after_visit s below w a) t
        (tells_stop object_fault (consult (s.node a)) v1 (node_shown s (λ w2 a2. show_at s below w2 a2) w) x' (tells_found v1 (Err x) p) same (below_rises s below w)))

    pub level_goes : {v2 : ℕ} {r : Result (List ℕ) ObjectError} (n : Node P) → Answers {E = ObjectError} object_fault (s.node a) (Ok n) → TellsShown object_fault (node_shown s (λ w2 a2. show_at s below w2 a2) w n v1) r v2 → TellsShown object_fault (show_at s levels w a v) r v2
    level_goes n p q = rw (show_large s levels w a below wide e) (tells_then visit v (λ u. after_visit s below w a) t
        (tells_then (consult (s.node a)) v1 (node_shown s (λ w2 a2. show_at s below w2 a2) w) (tells_found v1 (Ok n) p) q))

module _ {V : Type 0} (show : ℕ → V → Shown (List ℕ)) (r : (w : ℕ) (a : V) → Rises (show w a)) (w : ℕ) (child : Child V) (v : ℕ) where
  pub child_empty : child ≡ Empty → TellsShown {E = ObjectError} object_fault (child_shown show w child v) (Ok None) v
  unfolding child_shown
  child_empty e = rw e (tells_is refl)

  module _ (value : V) (e : child ≡ Item value) where
    pub item_fails : {v1 : ℕ} (x x' : ObjectError) → TellsShown object_fault (show w value v) (Err x) v1 → object_fault x' ≡ object_fault x → TellsShown object_fault (child_shown show w child v) (Err x') v1
    unfolding child_shown
    item_fails x x' t same = rw e (tells_stop object_fault (show w value) v _ x' t same (λ t v. le_refl v))

    pub item_goes : {v1 : ℕ} (text : List ℕ) → TellsShown {E = ObjectError} object_fault (show w value v) (Ok text) v1 → TellsShown {E = ObjectError} object_fault (child_shown show w child v) (Ok (Some text)) v1
    unfolding child_shown
    item_goes text t = rw e (tells_then (show w value) v _ t (tells_is refl))

  module _ (key value : V) (e : child ≡ Entry key value) where
    pub key_fails : {v1 : ℕ} (x x' : ObjectError) → TellsShown object_fault (show w key v) (Err x) v1 → object_fault x' ≡ object_fault x → TellsShown object_fault (child_shown show w child v) (Err x') v1
    unfolding child_shown
    key_fails x x' t same = rw e (tells_stop object_fault (show w key) v _ x' t same (λ t. bind_rises (show w value) _ (r w value) (λ u v. le_refl v)))

    module _ {v1 : ℕ} (text : List ℕ) (t : TellsShown {E = ObjectError} object_fault (show w key v) (Ok text) v1) where
      pub value_fails : {v2 : ℕ} (x x' : ObjectError) → TellsShown object_fault (show w value v1) (Err x) v2 → object_fault x' ≡ object_fault x → TellsShown object_fault (child_shown show w child v) (Err x') v2
      unfolding child_shown
      value_fails x x' q same = rw e (tells_then (show w key) v _ t (tells_stop object_fault (show w value) v1 _ x' q same (λ u v. le_refl v)))

      pub entry_lost : {v2 : ℕ} (text2 : List ℕ) → TellsShown {E = ObjectError} object_fault (show w value v1) (Ok text2) v2 → (x' : ObjectError) → object_fault x' ≡ None → TellsShown object_fault (child_shown show w child v) (Err x') v2
      unfolding child_shown
      entry_lost {v2 = v2} text2 q x' none = rw e (tells_then (show w key) v _ t (tells_then (show w value) v1 _ q (tells_lost x' none (le_refl v2))))

      pub entry_goes : {v2 : ℕ} (text2 : List ℕ) → TellsShown {E = ObjectError} object_fault (show w value v1) (Ok text2) v2 → (out : List ℕ) → out ≡ text ++ codes ": " ++ text2 → TellsShown {E = ObjectError} object_fault (child_shown show w child v) (Ok (Some out)) v2
      unfolding child_shown
      entry_goes {v2 = v2} text2 q out is = rw (e, is) (tells_then (show w key) v _ t (tells_then (show w value) v1 _ q (tells_is refl)))

module _ {V P : Type 0} (s : Source V P) (show : ℕ → V → Shown (List ℕ)) (r : (w : ℕ) (a : V) → Rises (show w a)) (b : Brackets) (p : P) (k w v : ℕ) where
  pub look_refused : {v1 : ℕ} (x x' : ObjectError) → TellsShown {T = Unit {0}} object_fault (looked_at b v) (Err x) v1 → object_fault x' ≡ object_fault x → TellsShown object_fault (part_at s show b p k w v) (Err x') v1
  unfolding part_at
  look_refused x x' t same = tells_stop object_fault (looked_at b) v _ x' t same (λ u. bind_rises (consult (s.child p k)) _ (λ v. le_refl v) (child_rises s show r w))

  module _ {v1 : ℕ} {u : Unit {0}} (t : TellsShown {E = ObjectError} object_fault (looked_at b v) (Ok u) v1) where
    pub child_stops : (x x' : ObjectError) → Answers object_fault (s.child p k) (Err x) → object_fault x' ≡ object_fault x → TellsShown object_fault (part_at s show b p k w v) (Err x') v1
    unfolding part_at
    child_stops x x' a same = tells_then (looked_at b) v _ t (tells_stop object_fault (consult (s.child p k)) v1 _ x' (tells_found v1 (Err x) a) same (child_rises s show r w))

    pub child_goes : {v2 : ℕ} {o : Result (Option (List ℕ)) ObjectError} (c : Child V) → Answers {E = ObjectError} object_fault (s.child p k) (Ok c) → TellsShown object_fault (child_shown show w c v1) o v2 → TellsShown object_fault (part_at s show b p k w v) o v2
    unfolding part_at
    child_goes c a q = tells_then (looked_at b) v _ t (tells_then (consult (s.child p k)) v1 _ (tells_found v1 (Ok c) a) q)
