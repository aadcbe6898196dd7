-- Ranges have at most as many pieces as there are of them: each piece takes a range that begins where the piece does.
use Rattle.std.proofs.Common.{◌≡◌, ℕ, suc, ◌+◌, ◌<◌, ◌≤◌, Bool, true, false, List, [], ◌∷◌, length, refl, sym, ap, ◌∙◌}
use Rattle.std.proofs.Common.{arith, ⊎_elim, ◌||◌}
use Rattle.std.specs.Prelude.{filter, nat_lt}
use Rattle.std.proofs.lemmas.Bool.{cases_Bool, cases_lt}
use Rattle.std.proofs.lemmas.Bool.Decides.{nat_tests}
use Rattle.process_memory.specs.declared.memory.Span.{Span}
use Rattle.core_slim.specs.Joined.{AreJoined, covers, lies_in}
use Rattle.core_slim.proofs.Joining.{Rises, apart_rises, covers_before, covers_behind, covers_within, in_span}
use Rattle.core_slim.proofs.Joining.{lies_before}

-- the ranges that begin behind an address
abbrev behind : ℕ → List Span → List Span
behind e ss = filter (λ (s : Span). nat_lt e s.start) ss

or_false : (b c : Bool) → (b || c) ≡ false → (b ≡ false) × (c ≡ false)
or_false true c is = absurd (cc)
or_false false c is = (refl, is)

one_kept : (e a : ℕ) (s : Span) (ss : List Span) → e < a → covers e s ≡ false → lies_in (behind e ss) a ≡ lies_in ss a
    → lies_in (behind e (s ∷ ss)) a ≡ lies_in (s ∷ ss) a
one_kept e a s ss lt out more = ⊎_elim kept dropped (cases_Bool (nat_lt e s.start))
  where
    kept : nat_lt e s.start ≡ true → lies_in (behind e (s ∷ ss)) a ≡ lies_in (s ∷ ss) a
    kept is = rw is (ap (λ b. covers a s || b) more)

    dropped : nat_lt e s.start ≡ false → lies_in (behind e (s ∷ ss)) a ≡ lies_in (s ∷ ss) a
    dropped is =
        let begins : s.start ≤ e = grind (arith, nat_tests, is) in
        let ends : s.start + s.len ≤ e = ⊎_elim (λ within. absurd (let yes = covers_within e s begins within in cc)) (λ le. le) (cases_lt e (s.start + s.len)) in
        rw (is, covers_behind a s (omega (arith, ends, lt))) more

-- they are all ranges of the addresses behind it, where it lies in no range
lies_kept : (e a : ℕ) (ss : List Span) → e < a → lies_in ss e ≡ false → lies_in (behind e ss) a ≡ lies_in ss a
lies_kept e a [] lt none = refl
lies_kept e a (s ∷ ss) lt none =
    let parts = or_false (covers e s) (lies_in ss e) none in
    one_kept e a s ss lt parts.0 (lies_kept e a ss lt parts.1)

one_not : (e a : ℕ) (s : Span) (ss : List Span) → a ≤ e → lies_in (behind e ss) a ≡ false → lies_in (behind e (s ∷ ss)) a ≡ false
one_not e a s ss le rest = ⊎_elim kept dropped (cases_Bool (nat_lt e s.start))
  where
    kept : nat_lt e s.start ≡ true → lies_in (behind e (s ∷ ss)) a ≡ false
    kept is =
        let later : e < s.start = grind (arith, nat_tests, is) in
        rw (is, covers_before a s (omega (arith, later, le))) rest

    dropped : nat_lt e s.start ≡ false → lies_in (behind e (s ∷ ss)) a ≡ false
    dropped is = rw is rest

-- and of no other address
lies_not : (e a : ℕ) (ss : List Span) → a ≤ e → lies_in (behind e ss) a ≡ false
lies_not e a [] le = refl
lies_not e a (s ∷ ss) le = one_not e a s ss le (lies_not e a ss le)

one_most : (e n : ℕ) (s : Span) (ss : List Span) → length (behind e ss) ≤ n → length (behind e (s ∷ ss)) ≤ suc n
one_most e n s ss le = ⊎_elim (λ is. rw is (omega (arith, le))) (λ is. rw is (omega (arith, le))) (cases_Bool (nat_lt e s.start))

most : (e : ℕ) (ss : List Span) → length (behind e ss) ≤ length ss
most e [] = omega arith
most e (s ∷ ss) = one_most e (length ss) s ss (most e ss)

-- a range of an address that doesn't lie behind is not among them
here_fewer : (e a : ℕ) (s : Span) (ss : List Span) → a ≤ e → covers a s ≡ true → length (behind e (s ∷ ss)) < suc (length ss)
here_fewer e a s ss le at =
    let no : nat_lt e s.start ≡ false = let from = (in_span a s at).0 in grind (arith, nat_tests) in
    rw no (omega (arith, most e ss))

there_fewer : (e : ℕ) (s : Span) (ss : List Span) → length (behind e ss) < length ss → length (behind e (s ∷ ss)) < suc (length ss)
there_fewer e s ss more = ⊎_elim (λ is. rw is (omega (arith, more))) (λ is. rw is (omega (arith, more))) (cases_Bool (nat_lt e s.start))

fewer : (e a : ℕ) (ss : List Span) → a ≤ e → lies_in ss a ≡ true → length (behind e ss) < length ss
fewer e a [] le is = absurd (cc)
fewer e a (s ∷ ss) le is =
    ⊎_elim (here_fewer e a s ss le) (λ out. there_fewer e s ss (fewer e a ss le (rw out at is))) (cases_Bool (covers a s))

few_of : (low : ℕ) (ps ss : List Span) → Rises low ps → ((a : ℕ) → lies_in ps a ≡ lies_in ss a) → length ps ≤ length ss
few_of low [] ss r same = omega arith
few_of low (p ∷ ps) ss r same =
    let e = p.start + p.len in
    let here : covers p.start p ≡ true = covers_within p.start p (omega arith) (omega (arith, r.1)) in
    let there : lies_in (p ∷ ps) p.start ≡ true = rw here refl in
    let past : lies_in (p ∷ ps) e ≡ false = rw (covers_behind e p (omega arith), lies_before (e + 1) ps e r.2 (omega arith)) refl in
    let less = fewer e p.start ss (omega arith) (sym (same p.start) ∙ there) in
    let rest : (a : ℕ) → lies_in ps a ≡ lies_in (behind e ss) a =
    λ a. ⊎_elim (λ lt. behind_it a lt) (λ le. before_it a le) (cases_lt e a) in
    omega (arith, few_of (e + 1) ps (behind e ss) r.2 rest, less)
  where
    behind_it : (a : ℕ) → p.start + p.len < a → lies_in ps a ≡ lies_in (behind (p.start + p.len) ss) a
    behind_it a lt =
        let past : lies_in (p ∷ ps) (p.start + p.len) ≡ false =
        rw (covers_behind (p.start + p.len) p (omega arith), lies_before (p.start + p.len + 1) ps (p.start + p.len) r.2 (omega arith)) refl in
        let no : covers a p ≡ false = covers_behind a p (omega (arith, lt)) in
        let all = same a in
        (rw no at all) ∙ sym (lies_kept (p.start + p.len) a ss lt (sym (same (p.start + p.len)) ∙ past))

    before_it : (a : ℕ) → a ≤ p.start + p.len → lies_in ps a ≡ lies_in (behind (p.start + p.len) ss) a
    before_it a le = lies_before (p.start + p.len + 1) ps a r.2 (omega (arith, le)) ∙ sym (lies_not (p.start + p.len) a ss le)

-- there are at most as many pieces as ranges
pub pieces_few : (ranges pieces : List Span) → AreJoined ranges pieces → length pieces ≤ length ranges
pieces_few ranges pieces joined = few_of 0 pieces ranges
    (apart_rises 0 pieces joined.some joined.apart (λ d lt. omega arith)) joined.same
