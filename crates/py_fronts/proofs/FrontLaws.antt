-- Fronts of chains, member by member; that there is one alone; and that a whole one is the chain to null.
use Rattle.std.proofs.Common.{◌≡◌, ◌≢◌, ℕ, zero, suc, ◌≤◌, List, [], ◌∷◌, ◌++◌, length, refl, sym, ◌∙◌, ap, arith}
use Rattle.std.proofs.Common.{append-nil, append_assoc}
use Rattle.std.specs.Prelude.{Ok, Err, IsOkAnd, Result}
use Rattle.process_memory.specs.Memory.{Found}
use Rattle.process_memory.specs.Walk.{IsChain}
use Rattle.py_fronts.specs.Front.{Break, EndsAt, Ending, Front, IsFront, Leads, behind, front_at, front_by}
use Rattle.py_fronts.specs.Front.Ending.{Whole, Cut, Broken}

-- a value, where it is there and passes
pub some_next : {T E : Type 0} (d : Result T E) (P : T → Type 0) → IsOkAnd d P → (x : T) × (d ≡ Ok x) × P x
some_next (Ok x) P h = (x, refl, h)
some_next (Err e) P h = absurd h

module _ (next : ℕ → Result ℕ Break) where
  pub front_more : (k : ℕ) (at n : ℕ) → at ≢ 0 → next at ≡ Ok n → front_at next (suc k) at ≡ behind (at ∷ []) (front_at next k n)
  unfolding front_at
  front_more k zero n some e = absurd (some refl)
  front_more k (suc a) n some e = rw e refl

  pub front_end : (k : ℕ) (at : ℕ) → at ≡ 0 → front_at next k at ≡ record { members = []; ending = Whole }
  unfolding front_at
  front_end k at e = rw e refl

  pub front_full : (at : ℕ) → at ≢ 0 → front_at next 0 at ≡ record { members = []; ending = Cut }
  unfolding front_at
  front_full zero some = absurd (some refl)
  front_full (suc a) some = refl

  pub front_stop : (k : ℕ) (at : ℕ) (why : Break) → at ≢ 0 → next at ≡ Err why → front_at next (suc k) at ≡ record { members = []; ending = Broken why }
  unfolding front_at
  front_stop k zero why some e = absurd (some refl)
  front_stop k (suc a) why some e = rw e refl

  further : (k met i : ℕ) (e : Ending) → EndsAt next k met i e → EndsAt next (suc k) (suc met) i e
  further k met i Whole h = h
  further k met i Cut h = (h.0, omega (arith, h.1))
  further k met i (Broken why) h = (h.0, omega (arith, h.1), h.2)

  nearer : (k met i : ℕ) (e : Ending) → EndsAt next (suc k) (suc met) i e → EndsAt next k met i e
  nearer k met i Whole h = h
  nearer k met i Cut h = (h.0, omega (arith, h.1))
  nearer k met i (Broken why) h = (h.0, omega (arith, h.1), h.2)

  -- what is read is a front
  pub front_found : (k : ℕ) (head : ℕ) → IsFront next k head (front_at next k head)
  unfolding front_at Leads
  front_found k zero = record { at = 0; leads = refl; within = omega arith; ends = refl }
  front_found zero (suc a) = record { at = suc a; leads = refl; within = omega arith; ends = (λ z. cc, refl) }
  front_found (suc k) (suc a) =
      elim (next (suc a)) as (λ v. next (suc a) ≡ v → IsFront next (suc k) (suc a) (front_by (suc a) v (front_at next k))) [
        | Ok n ↦ λ e. let h = front_found k n in record {
          at = h.at;
          leads = (λ z. cc, refl, rw e h.leads);
          within = omega (arith, h.within);
          ends = further k (length (front_at next k n).members) h.at (front_at next k n).ending h.ends;
        }
        | Err why ↦ λ e. record { at = suc a; leads = refl; within = omega arith; ends = (λ z. cc, omega arith, e) }
      ] refl

  -- and what is a front is read, so that there is one alone
  pub front_only : (k head : ℕ) (members : List ℕ) (ending : Ending) (at : ℕ) → Leads next head members at → length members ≤ k
      → EndsAt next k (length members) at ending → front_at next k head ≡ record { members = members; ending = ending }
  unfolding Leads
  front_only k head [] Whole at leads le ends = front_end k head (leads ∙ ends)
  front_only zero head [] Cut at leads le ends = front_full head (λ z. ends.0 (sym leads ∙ z))
  front_only (suc k) head [] Cut at leads le ends = absurd (omega (arith, ends.1))
  front_only zero head [] (Broken why) at leads le ends = absurd (omega (arith, ends.1))
  front_only (suc k) head [] (Broken why) at leads le ends = front_stop k head why (λ z. ends.0 (sym leads ∙ z)) (ap next leads ∙ ends.2)
  front_only zero head (x ∷ xs) ending at leads le ends = absurd (omega (arith, le))
  front_only (suc k) head (x ∷ xs) ending at leads le ends =
      let n = some_next (next x) (λ n. Leads next n xs at) leads.2 in
      let two : next head ≡ Ok n.0 = ap next (sym leads.1) ∙ n.1 in
      let rest = front_only k n.0 xs ending at n.2 (omega (arith, le)) (nearer k (length xs) at ending ends) in
      front_more k head n.0 leads.0 two ∙ ap (behind (head ∷ [])) rest ∙ ap (λ (y : ℕ). record { members = y ∷ xs; ending = ending }) (sym leads.1)

  pub front_unique : (k head : ℕ) (r : Front) → IsFront next k head r → front_at next k head ≡ r
  front_unique k head r h = front_only k head r.members r.ending h.at h.leads h.within h.ends

behind_twice : (xs ys : List ℕ) (r : Front) → behind xs (behind ys r) ≡ behind (xs ++ ys) r
behind_twice xs ys r = ap (λ ps. record { members = ps; ending = r.ending }) (sym (append_assoc xs ys r.members))

pub behind_more : (next : ℕ → Result ℕ Break) (k : ℕ) (xs : List ℕ) (r : Front) (at n : ℕ) → at ≢ 0 → next at ≡ Ok n → r ≡ behind xs (front_at next (suc k) at) → r ≡ behind (xs ++ at ∷ []) (front_at next k n)
behind_more next k xs r at n some e h = h ∙ ap (behind xs) (front_more next k at n some e) ∙ behind_twice xs (at ∷ []) (front_at next k n)

pub behind_ends : (next : ℕ → Result ℕ Break) (k : ℕ) (xs : List ℕ) (r : Front) (at : ℕ) (ending : Ending) → front_at next k at ≡ record { members = []; ending = ending } → r ≡ behind xs (front_at next k at) → r ≡ record { members = xs; ending = ending }
behind_ends next k xs r at ending e h = h ∙ ap (behind xs) e ∙ ap (λ ps. record { members = ps; ending = ending }) (append-nil xs)

-- ---- whole fronts and chains to null

module _ (next : ℕ → Result ℕ Break) (to : ℕ → Found ℕ) where
  -- a chain to null whose members are members of the other is a whole front
  pub chain_leads : (head : ℕ) (members : List ℕ) → ((a n : ℕ) → to a ≡ Ok n → next a ≡ Ok n) → IsChain to head members → Leads next head members 0
  unfolding Leads IsChain
  chain_leads head [] same h = h
  chain_leads head (x ∷ xs) same h =
      let n = some_next (to x) (λ n. IsChain to n xs) h.2 in
      (h.0, h.1, rw (same x n.0 n.1) (chain_leads n.0 xs same n.2))

  pub leads_chain : (head : ℕ) (members : List ℕ) → ((a n : ℕ) → next a ≡ Ok n → to a ≡ Ok n) → Leads next head members 0 → IsChain to head members
  unfolding Leads IsChain
  leads_chain head [] same h = h
  leads_chain head (x ∷ xs) same h =
      let n = some_next (next x) (λ n. Leads next n xs 0) h.2 in
      (h.0, h.1, rw (same x n.0 n.1) (leads_chain n.0 xs same n.2))

  pub chain_front : (k head : ℕ) (members : List ℕ) → ((a n : ℕ) → to a ≡ Ok n → next a ≡ Ok n) → IsChain to head members → length members ≤ k → front_at next k head ≡ record { members = members; ending = Whole }
  chain_front k head members same h le = front_only next k head members Whole 0 (chain_leads head members same h) le refl
