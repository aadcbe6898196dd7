-- No thread but the owner has the owner's id.
use Rattle.std.proofs.Common.{◌≡◌, ◌≢◌, ◌∙◌, ◌<◌, ℕ, zero, suc, List, [], ◌∷◌, length, map, take, inl, inr, refl, sym}
use Rattle.std.proofs.Common.{ap, subst, arith}
use Rattle.std.specs.Prelude.{◌↔◌, Option, Some, None, IfSome, slice_get, slice_index_or}
use Rattle.std.specs.List.{AllByRecursion}
use Rattle.std.proofs.lemmas.Bool.{cases_lt}
use Rattle.std.proofs.lemmas.Option.{same_Some}
use Rattle.py_fields.proofs.Fields.{some_is}
use Rattle.py_lines.specs.declared.lines.LineFamily.{LineFamily}
use Rattle.memory_builder.specs.Laid.{owner_id, place_or_none}
use Rattle.memory_builder.specs.Program.{Program, Thread}
use Rattle.memory_builder.specs.Validity.{IsValidIn, IsValidProgram, IsValidThread}
use Rattle.memory_builder.proofs.Programs.{owner_valid}

-- what holds of the first items holds of each of them
taken_at : {X : Type 0} (P : X → Type 0) (n : ℕ) (xs : List X) (k : ℕ) (x : X) → AllByRecursion P (take n xs) → k < n
    → slice_get xs k ≡ Some x → P x
taken_at P zero xs k x h lt e = absurd (omega arith)
taken_at P (suc n) [] k x h lt e = absurd (cc)
taken_at P (suc n) (y ∷ ys) zero x h lt e = subst P (same_Some y x e) h.0
taken_at P (suc n) (y ∷ ys) (suc k) x h lt e = taken_at P n ys k x h.1 (omega arith) e

record IsThreadAt (ts : List Thread) (i : ℕ) : Type 0 where
  thread : Thread
  there : slice_get ts i ≡ Some thread
  id : slice_index_or (map (λ (t : Thread). t.id) ts) i 0 ≡ thread.id

thread_at : (ts : List Thread) (i : ℕ) → i < length ts → IsThreadAt ts i
thread_at [] i lt = absurd (omega arith)
thread_at (t ∷ ts) zero lt = record { thread = t; there = refl; id = refl }
thread_at (t ∷ ts) (suc i) lt =
    let h = thread_at ts i (omega arith) in
    record { thread = h.thread; there = h.there; id = h.id }

module _ (family : LineFamily) (p : Program) (valid : IsValidProgram family p) where
  alone_in : (k : ℕ) (t : Thread) → slice_get p.threads k ≡ Some t → IsValidThread (take k p.threads) t
  alone_in k t e =
      (some_is (slice_get p.threads k) (λ t. IsValidIn family (take k p.threads) t 0) t (valid k 0).within e).thread
      refl

  -- two threads of one id are one
  same_place : (k i : ℕ) (t o : Thread) → slice_get p.threads k ≡ Some t → slice_get p.threads i ≡ Some o → t.id ≡ o.id
      → i ≡ k
  same_place k i t o at_k at_i same = elim (cases_lt k i) [
    | inl before ↦ absurd
        (taken_at (λ (other : Thread). other.id ≢ o.id) i p.threads k t (alone_in i o at_i).new before at_k same)
    | inr from ↦ elim (cases_lt i k) [
      | inl behind ↦ absurd
          (taken_at (λ (other : Thread). other.id ≢ t.id) k p.threads i o (alone_in k t at_k).new behind at_i
          (sym same))
      | inr to ↦ omega (arith, from, to)
    ]
  ]

  owner_by : (k : ℕ) (t : Thread) → slice_get p.threads k ≡ Some t → (o : Option ℕ)
      → IfSome o (λ i. i < length p.threads)
      → (t.id ≡ place_or_none (map (λ (t : Thread). t.id) p.threads) o) ↔ (o ≡ Some k)
  owner_by k t e None h =
      let positive = (alone_in k t e).positive in
      (λ same. absurd (omega (arith, positive, same)), λ is. absurd (cc))
  owner_by k t e (Some i) h =
      let owner = thread_at p.threads i h in (
        λ same. ap Some (same_place k i t owner.thread e owner.there (same ∙ owner.id)),
        λ is.
            let one : Some owner.thread ≡ Some t = sym owner.there ∙ ap (slice_get p.threads) (same_Some i k is) ∙ e in
            ap (λ (x : Thread). x.id) (sym (same_Some owner.thread t one)) ∙ sym owner.id,
      )

  -- a thread has the owner's id exactly where it is the owner
  pub owner_alone : (k : ℕ) (t : Thread) → slice_get p.threads k ≡ Some t → (t.id ≡ owner_id p) ↔ (p.owner ≡ Some k)
  owner_alone k t e = owner_by k t e p.owner (owner_valid family p valid)
