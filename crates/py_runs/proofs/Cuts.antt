-- A thread's members in runs.
use Rattle.std.proofs.Common.{◌≡◌, ℕ, ◌+◌, ◌≤◌, Bool, true, false, cond, List, [], ◌∷◌, ◌++◌, map, refl, sym, ◌∙◌, ap}
use Rattle.std.proofs.Common.{arith, append_assoc, Option, Some, None}
use Rattle.std.specs.Prelude.{IfSome}
use Rattle.py_runs.specs.declared.c_frame.CFrame.{CFrame}
use Rattle.py_runs.specs.declared.cut.Run.{Run}
use Rattle.py_runs.specs.declared.cut.Span.{Span}
use Rattle.py_runs.specs.declared.member.Member.{Member}
use Rattle.py_runs.specs.Cuts.{alone, c_runs, in_front, joined, left_by, onto, open_if, opened, plain_run, pushed_if}
use Rattle.py_runs.specs.Cuts.{spans_of, taken, with_open}

onto_twice : (o own : Span) (rs : List Span) → onto o (onto own rs) ≡ onto (joined o own) rs
onto_twice o own [] = refl
onto_twice o own (r ∷ rs) =
    let same : o.frames + (own.frames + r.frames) ≡ (o.frames + own.frames) + r.frames = omega arith in
    ap (λ n. record { begins = o.begins; ends = r.ends; frames = n; is_whole = r.is_whole } ∷ rs) same

step_by : (unclosed : Option Span) (own : Span) (rs : List Span)
    → with_open unclosed (in_front own.is_whole own rs)
    ≡ pushed_if (opened unclosed own) ++ with_open (open_if (opened unclosed own)) rs
step_by None own rs =
    elim own.is_whole as (λ b. in_front b own rs ≡ cond b (own ∷ []) [] ++ with_open (cond b None (Some own)) rs) [
      | true ↦ refl
      | false ↦ refl
    ]
step_by (Some o) own rs =
    elim own.is_whole as (λ b. onto o (in_front b own rs)
    ≡ cond b (joined o own ∷ []) [] ++ with_open (cond b None (Some (joined o own))) rs) [
      | true ↦ refl
      | false ↦ onto_twice o own rs
    ]

-- one more member
pub cut_step : (shims : Bool) (whole spans more : List Span) (before after : List Member) (unclosed : Option Span)
    (x : Member) (own span : Span)
    (next : Option Span) → before ≡ x ∷ after → whole ≡ spans ++ with_open unclosed (spans_of shims before)
    → own ≡ alone shims x
    → span ≡ opened unclosed own → more ≡ spans ++ pushed_if span → next ≡ open_if span
    → whole ≡ more ++ with_open next (spans_of shims after)
unfolding spans_of
cut_step shims whole spans more before after unclosed x own span next b w o s m n =
    w ∙ rw (b, m, n, s, o) (ap (λ rs. spans ++ rs) (step_by unclosed (alone shims x) (spans_of shims after))
    ∙ sym (append_assoc spans (pushed_if (opened unclosed (alone shims x)))
    (with_open (open_if (opened unclosed (alone shims x))) (spans_of shims after))))

pub cut_done : (shims : Bool) (whole spans more : List Span) (rest : List Member) (unclosed : Option Span) → rest ≡ []
    → whole ≡ spans ++ with_open unclosed (spans_of shims rest) → more ≡ spans ++ with_open unclosed [] → more ≡ whole
unfolding spans_of
cut_done shims whole spans more rest unclosed none w m = m ∙ sym (w ∙ rw none refl)

pub few_alone : (shims : Bool) (x : Member) (own : Span) → own ≡ alone shims x → own.frames ≤ 1
few_alone shims x own e = rw e (elim x.is_last as (λ b. cond b (cond shims 0 1) 1 ≤ 1) [
  | true ↦ elim shims as (λ s. cond s 0 1 ≤ 1) [ true ↦ omega arith | false ↦ omega arith ]
  | false ↦ omega arith
])

few_open : (r : Span) (n : ℕ) → r.frames ≤ n → IfSome (open_if r) (λ s. s.frames ≤ n)
few_open r n h = elim r.is_whole as (λ b. IfSome (cond b None (Some r)) (λ s. s.frames ≤ n)) [ true ↦ tt | false ↦ h ]

few_opened : (unclosed : Option Span) (own : Span) (i : ℕ) → IfSome unclosed (λ s. s.frames ≤ i) → own.frames ≤ 1
    → (opened unclosed own).frames ≤ i + 1
few_opened None own i h one = omega (arith, one)
few_opened (Some o) own i h one = omega (arith, one, h)

pub few_step : (unclosed next : Option Span) (own span : Span) (i : ℕ) → IfSome unclosed (λ s. s.frames ≤ i)
    → own.frames ≤ 1
    → span ≡ opened unclosed own → next ≡ open_if span → IfSome next (λ s. s.frames ≤ i + 1)
few_step unclosed next own span i h one s n =
    rw (n, s) (few_open (opened unclosed own) (i + 1) (few_opened unclosed own i h one))

pub room_for : (unclosed : Option Span) (own : Span) (i room : ℕ) → IfSome unclosed (λ s. s.frames ≤ i) → own.frames ≤ 1
    → i + 1 ≤ room
    → IfSome unclosed (λ s. s.frames + own.frames ≤ room)
room_for None own i room h one within = tt
room_for (Some o) own i room h one within = omega (arith, one, h, within)

-- ---- C frames

pub taken_step : (whole runs more : List Run) (before after : List CFrame) (spans left : List Span) (c : CFrame)
    → before ≡ c ∷ after
    → whole ≡ runs ++ c_runs before spans → more ≡ runs ++ taken c spans → left ≡ left_by c spans
    → whole ≡ more ++ c_runs after left
unfolding c_runs
taken_step whole runs more before after spans left c b w m l =
    w ∙ rw (b, m, l) (sym (append_assoc runs (taken c spans) (c_runs after (left_by c spans))))

pub taken_done : (whole runs more : List Run) (rest : List CFrame) (spans : List Span) → rest ≡ []
    → whole ≡ runs ++ c_runs rest spans → more ≡ runs ++ map plain_run spans → more ≡ whole
unfolding c_runs
taken_done whole runs more rest spans none w m = m ∙ sym (w ∙ rw none refl)
