-- Whether heads stand where they are looked for, one after another.
use Rattle.std.proofs.Common.{◌≡◌, ℕ, true, false, List, [], ◌∷◌, refl, Option, Some, None}
use Rattle.gc_lists.specs.declared.links.Links.{Links}
use Rattle.gc_lists.specs.Heads.{first_unheld, is_held}

module _ (links : ℕ → Option Links) where
  pub unheld_more : (h : ℕ) (hs : List ℕ) → is_held links h ≡ true → first_unheld links (h ∷ hs) ≡ first_unheld links hs
  unfolding first_unheld
  unheld_more h hs e = rw e refl

  pub unheld_here : (h : ℕ) (hs : List ℕ) → is_held links h ≡ false → first_unheld links (h ∷ hs) ≡ Some h
  unfolding first_unheld
  unheld_here h hs e = rw e refl

  pub unheld_none : (hs : List ℕ) → hs ≡ [] → first_unheld links hs ≡ None
  unfolding first_unheld
  unheld_none hs none = rw none refl
