-- How a value comes to be shown, step by step.
use Rattle.std.proofs.Common.{List, ◌≡◌, ℕ, ◌+◌, ◌≤◌, refl, sym, ◌∙◌, ap, arith}
use Rattle.std.proofs.Math.Nat.{le_refl}
use Rattle.std.specs.Prelude.{Option, Some, None, Result, Ok, Err}
use Rattle.process_memory.specs.Memory.{Memory, Found, Fault}
use Rattle.process_memory.specs.declared.memory.Span.{Span}
use Rattle.process_memory.specs.Seen.{Seen, ReadingOf, Answers}
use Rattle.process_memory.proofs.Reading.{reading_then, reading_gives, reading_none}
use Rattle.py_objects.specs.Shown.{Shown, goes_on_shown, ◌>>=◌, consult, TellsShown, CountOf}
use Rattle.py_objects.specs.Shows.{Source, show_at, FaultShows, AnswerShows}
use Rattle.py_builtins.specs.Consulted.{IsWidth}
use Rattle.py_builtins.specs.Consulted.IsWidth.{One, Two, Four, Word}
use Rattle.py_objects.specs.Kinds.{scalar_width}
use Rattle.py_objects.specs.declared.kinds.Scalar.{Scalar}
use Rattle.py_objects.specs.declared.kinds.Scalar.TheVariants.{Truth, U8, U16, U32, U64, I8, I16, I32, I64, F32, F64}

-- visits only rise
abbrev pub Rises : {T : Type 0} → Shown T → Type 0
Rises c = (v : ℕ) → v ≤ (c v).1

pub pair_is : {A B : Type 0} {a b : A} {c d : B} → a ≡ b → c ≡ d → ◌≡◌ {A = A × B} (a, c) (b, d)
pair_is p q = cc

-- what a definition gives where the result is a value
pub tells_ok : {T E : Type 0} {fault : E → Option Fault} {p : Found T × ℕ} {x : T} {n : ℕ} → TellsShown {E = E} fault p (Ok x) n → p ≡ (Ok x, n)
tells_ok t = pair_is t.answer (sym t.count)

pub tells_is : {T E : Type 0} {fault : E → Option Fault} {p : Found T × ℕ} {x : T} {n : ℕ} → p ≡ (Ok x, n) → TellsShown {E = E} fault p (Ok x) n
tells_is e = record { answer = ap (λ u. u.0) e; count = sym (ap (λ u. u.1) e) }

pub bind_is : {T U : Type 0} (c : Shown T) (v : ℕ) (f : T → Shown U) {p : Found T × ℕ} → c v ≡ p → (c >>= f) v ≡ goes_on_shown p f
unfolding ◌>>=◌
bind_is c v f e = ap (λ u. goes_on_shown u f) e

goes_on_rises : {T U : Type 0} (p : Found T × ℕ) (f : T → Shown U) → ((x : T) → Rises (f x)) → p.1 ≤ (goes_on_shown p f).1
goes_on_rises (Ok x, v) f r = r x v
goes_on_rises (Err e, v) f r = le_refl v

pub bind_rises : {T U : Type 0} (c : Shown T) (f : T → Shown U) → Rises c → ((x : T) → Rises (f x)) → Rises (c >>= f)
unfolding ◌>>=◌
bind_rises c f p q v = let a = p v in let b = goes_on_rises (c v) f q in omega (arith, a, b)

-- goes on with a value
pub tells_then : {T U E E' : Type 0} {fault : E → Option Fault} {fault' : E' → Option Fault} (c : Shown T) (v : ℕ) (f : T → Shown U) {n n' : ℕ} {x : T} {r : Result U E'} → TellsShown fault (c v) (Ok x) n → TellsShown fault' (f x n) r n' → TellsShown fault' ((c >>= f) v) r n'
tells_then c v f p q = rw (bind_is c v f (tells_ok p)) q

-- memory is wanting
pub tells_lost : {T E : Type 0} {fault : E → Option Fault} {p : Found T × ℕ} {n : ℕ} (e : E) → fault e ≡ None → n ≤ p.1 → TellsShown fault p (Err e) n
tells_lost {p = p} {n = n} e none le = record { answer = rw none tt; count = rw none le }

-- what a failure says
pub tells_err : {T E : Type 0} {fault : E → Option Fault} {p : Found T × ℕ} {n : ℕ} (e : E) (f : Fault) → fault e ≡ Some f → p ≡ (Err f, n) → TellsShown fault p (Err e) n
tells_err e f is g = record { answer = rw is (ap (λ u. u.0) g); count = rw is (sym (ap (λ u. u.1) g)) }

bind_least : {T U : Type 0} (c : Shown T) (f : T → Shown U) (v n : ℕ) → ((x : T) → Rises (f x)) → n ≤ (c v).1 → n ≤ ((c >>= f) v).1
unfolding ◌>>=◌
bind_least c f v n rises le = let b = goes_on_rises (c v) f rises in omega (arith, b, le)

-- stops at a failure
pub tells_stop : {T U E E' : Type 0} {fault : E → Option Fault} (fault' : E' → Option Fault) (c : Shown T) (v : ℕ) (f : T → Shown U) {n : ℕ} {e : E} (e' : E') → TellsShown {T = T} fault (c v) (Err e) n → fault' e' ≡ fault e → ((x : T) → Rises (f x)) → TellsShown fault' ((c >>= f) v) (Err e') n
tells_stop {U = U} {fault = fault} fault' c v f {n = n} {e = e} e' t same rises =
    elim (fault e) as (λ o. fault e ≡ o → TellsShown {T = U} fault' ((c >>= f) v) (Err e') n) [
      | None ↦ λ is. let le : n ≤ (c v).1 = rw is at t.count in tells_lost e' (same ∙ is) (bind_least c f v n rises le)
      | Some x ↦ λ is. let a : (c v).0 ≡ Err x = rw is at t.answer in let b : n ≡ (c v).1 = rw is at t.count in tells_err e' x (same ∙ is) (bind_is c v f (pair_is a (sym b)))
    ] refl

-- what is found, with nothing counted
pub tells_found : {T E : Type 0} {fault : E → Option Fault} {d : Found T} (v : ℕ) (r : Result T E) → Answers fault d r → TellsShown fault (consult d v) r v
tells_found v (Ok x) a = record { answer = a.is; count = refl }
tells_found {fault = fault} v (Err e) a = record { answer = a.is; count = elim (fault e) as (λ o. CountOf o v v) [ None ↦ le_refl v | Some f ↦ refl ] }

-- the same of readers
pub shown_next : {allowed : Memory → Span → Type 0} {T U E E' : Type 0} {fault : E → Option Fault} {fault' : E' → Option Fault} {n k : ℕ} (t : ℕ) {s0 s1 s2 : Seen} (c : Memory → Shown T) (v : ℕ) (f : Memory → T → Shown U) {v1 v2 : ℕ} {x : T} {r : Result U E'} → ReadingOf allowed n s0 s1 (λ m. TellsShown fault (c m v) (Ok x) v1) → ReadingOf allowed k s1 s2 (λ m. TellsShown fault' (f m x v1) r v2) → n + k ≤ t → ReadingOf allowed t s0 s2 (λ m. TellsShown fault' ((c m >>= f m) v) r v2)
shown_next t c v f p q le = reading_gives t _ (reading_then _ p q (λ m a b. tells_then (c m) v (f m) a b)) le (λ m a. a)

pub shown_halt : {allowed : Memory → Span → Type 0} {T U E E' : Type 0} {fault : E → Option Fault} {fault' : E' → Option Fault} {n : ℕ} (t : ℕ) {s0 s1 : Seen} (c : Memory → Shown T) (v : ℕ) (f : Memory → T → Shown U) {v1 : ℕ} {e : E} (e' : E') → ReadingOf allowed n s0 s1 (λ m. TellsShown {T = T} fault (c m v) (Err e) v1) → fault' e' ≡ fault e → ((m : Memory) (x : T) → Rises (f m x)) → n ≤ t → ReadingOf allowed t s0 s1 (λ m. TellsShown fault' ((c m >>= f m) v) (Err e') v1)
shown_halt {fault' = fault'} t c v f e' p same rises le = reading_gives t _ p le (λ m a. tells_stop fault' (c m) v (f m) e' a same (rises m))

pub shown_found : {allowed : Memory → Span → Type 0} {T E : Type 0} {fault : E → Option Fault} {n : ℕ} {s0 s1 : Seen} {d : Memory → Found T} (v : ℕ) (r : Result T E) → ReadingOf allowed n s0 s1 (λ m. Answers fault (d m) r) → ReadingOf allowed n s0 s1 (λ m. TellsShown fault (consult (d m) v) r v)
shown_found {n = n} v r p = reading_gives n _ p (le_refl n) (λ m a. tells_found v r a)

-- nothing is read
pub shown_pure : {allowed : Memory → Span → Type 0} {T E : Type 0} {fault : E → Option Fault} (k : ℕ) {s : Seen} (d : Memory → Found T × ℕ) (r : Result T E) (v : ℕ) → ((m : Memory) → TellsShown fault (d m) r v) → ReadingOf allowed k s s (λ m. TellsShown fault (d m) r v)
shown_pure k d r v f = reading_none k _ _ f

-- memory is wanting after what was read
pub shown_lost : {allowed : Memory → Span → Type 0} {T U E E' : Type 0} {fault : E → Option Fault} {fault' : E' → Option Fault} {n : ℕ} (t : ℕ) {s0 s1 : Seen} (c : Memory → Shown T) (v : ℕ) (f : Memory → T → Shown U) {v1 : ℕ} {x : T} (e' : E') → ReadingOf allowed n s0 s1 (λ m. TellsShown {E = E} fault (c m v) (Ok x) v1) → fault' e' ≡ None → ((m : Memory) (x : T) → Rises (f m x)) → n ≤ t → ReadingOf allowed t s0 s1 (λ m. TellsShown fault' ((c m >>= f m) v) (Err e') v1)
shown_lost t c v f {v1 = v1} {x = x} e' p none rises le = reading_gives t _ p le (λ m a. let q = rises m x v1 in tells_then (c m) v (f m) a (tells_lost e' none q))

-- the count is at most what the definition says
pub tells_least : {T E : Type 0} {fault : E → Option Fault} (p : Found T × ℕ) (r : Result T E) {n : ℕ} → TellsShown fault p r n → n ≤ p.1
tells_least p (Ok x) t = rw t.count (le_refl p.1)
tells_least {fault = fault} p (Err e) {n} t = elim (fault e) as (λ o. CountOf o p.1 n → n ≤ p.1) [ None ↦ λ h. h | Some f ↦ λ h. rw h (le_refl p.1) ] t.count

-- two readers, with the bound as a side condition
pub reading_both : {allowed : Memory → Span → Type 0} {n k : ℕ} {s0 s1 s2 : Seen} {P Q : Memory → Type 0} (t : ℕ) (R : Memory → Type 0) → ReadingOf allowed n s0 s1 P → ReadingOf allowed k s1 s2 Q → ((m : Memory) → P m → Q m → R m) → n + k ≤ t → ReadingOf allowed t s0 s2 R
reading_both t R p q f le = reading_gives t R (reading_then R p q f) le (λ m a. a)

-- memory is wanting
pub reads_lost : {allowed : Memory → Span → Type 0} {T E : Type 0} {fault : E → Option Fault} {n : ℕ} (k : ℕ) {s0 s1 : Seen} {Q : Memory → Type 0} (d : Memory → Found T) (e : E) → ReadingOf allowed n s0 s1 Q → n ≤ k → fault e ≡ None → ReadingOf allowed k s0 s1 (λ m. Answers fault (d m) (Err e))
reads_lost k d e p le none = reading_gives k _ p le (λ m a. record { is = rw none tt })

-- what is told, in the words of the public clause
module _ {V P E : Type 0} (fault : E → Option Fault) (s : Source V P) (a : V) (w v : ℕ) where
  pub told_ok : (text : List ℕ) (n : ℕ) → TellsShown {E = E} fault (show_at s 256 w a v) (Ok text) n → AnswerShows {E = E} fault s a w v (Ok text) n
  told_ok text n t = tells_ok t

  pub told_err : (e : E) (n : ℕ) → TellsShown {T = List ℕ} fault (show_at s 256 w a v) (Err e) n → AnswerShows fault s a w v (Err e) n
  told_err e n t =
      elim (fault e) as (λ o. fault e ≡ o → FaultShows s a w v o n) [
        | None ↦ λ is. let le : n ≤ (show_at s 256 w a v).1 = rw is at t.count in ((show_at s 256 w a v).0, (show_at s 256 w a v).1, refl, le)
        | Some f ↦ λ is. let x : (show_at s 256 w a v).0 ≡ Err f = rw is at t.answer in let y : n ≡ (show_at s 256 w a v).1 = rw is at t.count in pair_is x (sym y)
      ] refl

-- how wide one of numpy's numbers is
pub scalar_wide : (s : Scalar) → IsWidth (scalar_width s)
scalar_wide Truth = One
scalar_wide U8 = One
scalar_wide U16 = Two
scalar_wide U32 = Four
scalar_wide U64 = Word
scalar_wide I8 = One
scalar_wide I16 = Two
scalar_wide I32 = Four
scalar_wide I64 = Word
scalar_wide F32 = Four
scalar_wide F64 = Word
