-- What a cache holds stays what is told.
use Rattle.std.proofs.Common.{◌≡◌, ℕ, Bool, true, nat_eq, inl, inr, [], ◌∷◌, Option, Some, None, IfSome, Ok, Err, refl}
use Rattle.std.proofs.Common.{sym, subst, arith}
use Rattle.std.proofs.lemmas.Bool.Decides.{nat_tests}
use Rattle.std.specs.Map.{lookup}
use Rattle.lru.specs.LruCache.{lru_cache, promoted, put_entries}
use Rattle.lru.proofs.CallerLemmas.{Contains-lookup, Contains-promoted, Contains-put_entries}
use Rattle.native_merge.specs.declared.native_frame.NativeFrame.{NativeFrame}
use Rattle.native_merge.specs.Symbols.{SymbolsSeen, IsAsTold}
use Rattle.native_merge.specs.SymbolCaches.{Answer, HeldFrames, AreKnown, IsAfter, IsHeldAnswer, IsToldAnswer}

same_key : (addr a : ℕ) → nat_eq addr a ≡ true → a ≡ addr
same_key addr a h = grind (arith, nat_tests)

module _ (seen : SymbolsSeen) (lines : ℕ → Bool) (c : HeldFrames) (k : AreKnown seen lines c) (addr : ℕ) where
  pub known_entry : (f : NativeFrame) → lookup (nat_eq addr) c.entries ≡ Some f → IsAsTold seen addr (lines addr) (f ∷ [])
  known_entry f e = let p = Contains-lookup (nat_eq addr) c.entries f e in
      subst (λ a. IsAsTold seen a (lines a) (f ∷ [])) (same_key addr p.0 p.2) (k.each p.0 f p.1)

  known_promoted : AreKnown seen lines (lru_cache (promoted (nat_eq addr) c.entries) c.cap)
  known_promoted = record { each = λ a f h. k.each a f (Contains-promoted (nat_eq addr) c.entries (a, f) h) }

  known_put : (f : NativeFrame) → IsAsTold seen addr (lines addr) (f ∷ [])
      → AreKnown seen lines (lru_cache (put_entries nat_eq c addr f) c.cap)
  known_put f g = record {
    each = λ a x h. elim (Contains-put_entries nat_eq c addr f (a, x) h) [
      | inl was ↦ k.each a x was
      | inr p ↦ let key : a ≡ addr = elim p.1 [ inl e ↦ e | inr q ↦ same_key addr a q.2 ] in
          subst (λ y. IsAsTold seen a (lines a) (y ∷ [])) (sym p.0)
          (subst (λ b. IsAsTold seen b (lines b) (f ∷ [])) (sym key) g)
    ];
  }

  -- an answer that is the held frame, or is told where none is held, is what is told
  pub told_answer : (answer : Answer) → IfSome (lookup (nat_eq addr) c.entries) (λ f. IsHeldAnswer f answer)
      → (lookup (nat_eq addr) c.entries ≡ None → IsToldAnswer seen addr (lines addr) answer)
      → IsToldAnswer seen addr (lines addr) answer
  told_answer (Err e) h g = tt
  told_answer (Ok fs) h g = by_lookup (lookup (nat_eq addr) c.entries) refl h where
    by_lookup : (o : Option NativeFrame) → lookup (nat_eq addr) c.entries ≡ o
        → IfSome o (λ f. IsHeldAnswer f (Ok fs)) → IsAsTold seen addr (lines addr) fs
    by_lookup None e h = g e
    by_lookup (Some f) e h = subst (λ l. IsAsTold seen addr (lines addr) l) (sym h) (known_entry f e)

  pub known_after : (new : HeldFrames) (answer : Answer) → IsToldAnswer seen addr (lines addr) answer
      → IsAfter c new addr answer → AreKnown seen lines new
  known_after new answer g (inl e) = subst (AreKnown seen lines) (sym e) k
  known_after new answer g (inr (inl e)) = subst (AreKnown seen lines) (sym e) known_promoted
  known_after new answer g (inr (inr p)) = subst (AreKnown seen lines) (sym p.2)
      (known_put p.0 (subst (λ a. IsToldAnswer seen addr (lines addr) a) p.1 g))
