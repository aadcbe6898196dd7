-- Stacks of words as arrays, and what operations make of them.
use Rattle.std.proofs.Common.{◌≡◌, ◌∙◌, ℕ, zero, suc, ◌+◌, ◌<◌, ◌≤◌, ◌≢◌, List, [], ◌∷◌, length, set, refl, ap, arith}
use Rattle.std.proofs.Common.{add-one, get_or, ◌-◌}
use Rattle.std.proofs.Math.ListN.{length-set}
use Rattle.std.specs.Prelude.{Option, Some, None}
use Rattle.std.proofs.lemmas.Bool.{lt-ltb, ne_eqb}
use Rattle.std.proofs.lemmas.List.{get_or-set_other, get_or-set_same}
use Rattle.process_memory.specs.Memory.{Memory}
use Rattle.frame_expressions.specs.declared.operation.Operation.{Operation}
use Rattle.frame_expressions.specs.declared.operation.Operation.TheVariants.{Push, Register, Combine, PlusConstant}
use Rattle.frame_expressions.specs.declared.operation.Operation.TheVariants.{Load, Drop, Duplicate, Over, Swap, Nop}
use Rattle.frame_expressions.specs.Meanings.{meaning_of, pushed}
use Rattle.core_unwind.specs.Expressions.{arranged, first_word, load_in, words_from}

pub length_words : (ws : List ℕ) (d : ℕ) → length (words_from ws d) ≡ d
length_words ws zero = refl
length_words ws (suc d) = omega (arith, length_words ws d)

-- a write behind them leaves them
set_behind : (ws : List ℕ) (i x d : ℕ) → d ≤ i → words_from (set ws i x) d ≡ words_from ws d
set_behind ws i x zero h = refl
set_behind ws i x (suc d) h =
    let other : d ≢ i = omega (arith, h) in
    ap (λ (y : ℕ). y ∷ words_from (set ws i x) d) (get_or-set_other ws i d x 0 other)
    ∙ ap (λ (ys : List ℕ). get_or ws d 0 ∷ ys) (set_behind ws i x d (omega (arith, h)))

one_more : (ws : List ℕ) (d x : ℕ) → d < length ws → words_from (set ws d x) (d + 1) ≡ x ∷ words_from ws d
one_more ws d x room =
    ap (words_from (set ws d x)) (add-one d)
    ∙ ap (λ (y : ℕ). y ∷ words_from (set ws d x) d) (get_or-set_same ws d x 0 room)
    ∙ ap (λ (ys : List ℕ). x ∷ ys) (set_behind ws d x d (omega arith))

pub pushed_is : (ws : List ℕ) (d x : ℕ) → length ws ≡ 64 → d < 64
    → Some (words_from (set ws d x) (d + 1)) ≡ pushed x (words_from ws d)
pushed_is ws d x long room =
    let below : length (words_from ws d) < 64 = omega (arith, length_words ws d, room) in
    rw (lt-ltb (length (words_from ws d)) 64 below) (ap Some (one_more ws d x (omega (arith, long, room))))

-- ---- operations

abbrev pub IsPlain : Operation → Type 0
IsPlain (Register r o) = ⊥
IsPlain (Load size) = ⊥
IsPlain o = Unit {0}

module _ (register : ℕ → Option ℕ) (memory : (address size : ℕ) → Option ℕ) where
  -- one that asks for no register and no memory does the same whatever these have
  pub arranged_same : (o : Operation) (stack : List ℕ) → IsPlain o → arranged o stack ≡ meaning_of register memory
      o stack
  arranged_same (Push word) stack plain = refl
  arranged_same (Register r o) stack plain = absurd plain
  arranged_same (Combine c) [] plain = refl
  arranged_same (Combine c) (x ∷ []) plain = refl
  arranged_same (Combine c) (x ∷ (y ∷ stack)) plain = refl
  arranged_same (PlusConstant n) [] plain = refl
  arranged_same (PlusConstant n) (x ∷ stack) plain = refl
  arranged_same (Load size) stack plain = absurd plain
  arranged_same Drop [] plain = refl
  arranged_same Drop (x ∷ stack) plain = refl
  arranged_same Duplicate [] plain = refl
  arranged_same Duplicate (x ∷ stack) plain = refl
  arranged_same Over [] plain = refl
  arranged_same Over (x ∷ []) plain = refl
  arranged_same Over (x ∷ (y ∷ stack)) plain = refl
  arranged_same Swap [] plain = refl
  arranged_same Swap (x ∷ []) plain = refl
  arranged_same Swap (x ∷ (y ∷ stack)) plain = refl
  arranged_same Nop stack plain = refl

pub load_empty : (m : Memory) (size : ℕ) (stack : List ℕ) → None ≡ first_word stack → None ≡ load_in m size stack
load_empty m size [] is = refl
load_empty m size (x ∷ stack) is = absurd cc

pub load_other : (m : Memory) (size : ℕ) (stack : List ℕ) → size ≢ 8 → None ≡ load_in m size stack
load_other m size [] other = refl
load_other m size (x ∷ stack) other = rw (ne_eqb size 8 other) refl

-- ---- the two words on top in each other's place

pub swapped_none : (ws : List ℕ) (d : ℕ) → d < 2 → None ≡ arranged Swap (words_from ws d)
swapped_none ws zero few = refl
swapped_none ws (suc zero) few = refl
swapped_none ws (suc (suc e)) few = absurd (omega (arith, few))

swapped_at : (ws : List ℕ) (e : ℕ) → suc e < length ws
    → Some (words_from (set (set ws (suc e) (get_or ws e 0)) e (get_or ws (suc e) 0)) (suc (suc e)))
    ≡ arranged Swap (words_from ws (suc (suc e)))
swapped_at ws e room =
    let below = get_or ws e 0 in
    let top = get_or ws (suc e) 0 in
    let once = set ws (suc e) below in
    let other : suc e ≢ e = omega arith in
    let inside : e < length once = omega (arith, room, length-set ws (suc e) below) in
    let first : get_or (set once e top) (suc e) 0 ≡ below =
    get_or-set_other once e (suc e) top 0 other ∙ get_or-set_same ws (suc e) below 0 room in
    let second : get_or (set once e top) e 0 ≡ top = get_or-set_same once e top 0 inside in
    let rest : words_from (set once e top) e ≡ words_from ws e =
    set_behind once e top e (omega arith) ∙ set_behind ws (suc e) below e (omega arith) in
    ap (λ (x : ℕ). Some (x ∷ (get_or (set once e top) e 0 ∷ words_from (set once e top) e))) first
    ∙ ap (λ (y : ℕ). Some (below ∷ (y ∷ words_from (set once e top) e))) second
    ∙ ap (λ (ys : List ℕ). Some (below ∷ (top ∷ ys))) rest

pub swapped_is : (ws : List ℕ) (d first second : ℕ) → 2 ≤ d → d ≤ length ws → first ≡ d - 1 → second ≡ d - 2
    → Some (words_from (set (set ws first (get_or ws second 0)) second (get_or ws first 0)) d)
    ≡ arranged Swap (words_from ws d)
swapped_is ws zero first second two room f s = absurd (omega (arith, two))
swapped_is ws (suc zero) first second two room f s = absurd (omega (arith, two))
swapped_is ws (suc (suc e)) first second two room f s =
    let one : first ≡ suc e = omega (arith, f) in
    let other : second ≡ e = omega (arith, s) in
    ap (λ (f : ℕ). Some (words_from (set (set ws f (get_or ws second 0)) second (get_or ws f 0)) (suc (suc e)))) one
    ∙ ap (λ (s : ℕ). Some (words_from (set (set ws (suc e) (get_or ws s 0)) s (get_or ws (suc e) 0)) (suc (suc
    e)))) other
    ∙ swapped_at ws e (omega (arith, room))
