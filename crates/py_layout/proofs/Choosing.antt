-- Of layouts of which no two clash, one at most covers a version.
use Rattle.std.proofs.Common.{◌≡◌, ◌<◌, ℕ, List, length, get_or, sym, ap, ◌∙◌, arith, ⊎_elim}
use Rattle.std.proofs.lemmas.Bool.{cases_order}
use Rattle.std.proofs.lemmas.List.{get_or_default}
use Rattle.std.specs.Borrow.{Bor}
use Rattle.std.specs.Prelude.{AllPairs, Contains, IfSome, Option, Some, None}
use Rattle.py_fields.specs.Sound.{Covers}
use Rattle.py_fields.specs.declared.layout.Layout.{Layout}
use Rattle.py_layout.specs.Lists.{Clash}
use Rattle.py_fields.specs.declared.version.Version.{Version}

covers_clash : (a b : Layout) (version : Version) → Covers a version → Covers b version → Clash a b
covers_clash a b version ca cb = record {
  major = sym ca.major ∙ cb.major;
  first = omega (arith, ca.first, cb.last);
  last = omega (arith, cb.first, ca.last);
}

not_before : (list : List Layout) (version : Version) (a b : Layout) (i j : ℕ) → AllPairs (λ a b. ¬ Clash a b) list
    → i < j → j < length list → get_or list i a ≡ a → get_or list j b ≡ b → Covers a version → Covers b version → ⊥
not_before list version a b i j apart order within ia jb ca cb =
    let ja : get_or list j a ≡ b = get_or_default list j a b within ∙ jb in
    let clash : Clash (get_or list i a) (get_or list j a) = rw (ia, ja) (covers_clash a b version ca cb) in
    apart i j a order within clash

pub covers_same : (list : List Layout) (version : Version) (a b : Layout) → AllPairs (λ a b. ¬ Clash a b) list
    → Contains list a → Covers a version → Contains list b → Covers b version → a ≡ b
covers_same list version a b apart (i, within, ia) ca (j, below, jb) cb =
    ⊎_elim (λ same. sym ia ∙ get_or_default list i a b within ∙ ap (λ k. get_or list k b) same ∙ jb)
    (⊎_elim (λ lt. absurd (not_before list version a b i j apart lt below ia jb ca cb))
    (λ lt. absurd (not_before list version b a j i apart lt within jb ia cb ca)))
    (cases_order i j)

pub choose_only : (o : Option (Bor Layout)) (list : List Layout) (version : Version) → AllPairs (λ a b. ¬ Clash a b) list
    → IfSome o (λ layout. Contains list layout.now) → IfSome o (λ layout. Covers layout.now version)
    → IfSome o (λ layout. (other : Layout) → Contains list other → Covers other version → other ≡ layout.now)
choose_only None list version apart member covers = tt
choose_only (Some layout) list version apart member covers =
    λ other listed also. covers_same list version other layout.now apart listed also member covers
