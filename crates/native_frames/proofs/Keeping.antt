-- The symbols that are kept, and the functions by them.
use Rattle.std.proofs.Common.{◌≡◌, ℕ, Bool, true, false, cond, List, refl, sym, ◌∙◌, subst, arith}
use Rattle.std.proofs.lemmas.Bool.Decides.{nat_tests}
use Rattle.std.specs.Prelude.{Option, Some, Result, Ok, Err, IfOk}
use Rattle.std.specs.BTreeMap.{BTreeMap, get}
use Rattle.std.specs.Ordering.{is_eq, nat_cmp}
use Rattle.elf64_core.specs.Symbols.{SymbolEntry}
use Rattle.core_unwind.specs.declared.place.Mapping.{Mapping}
use Rattle.native_frames.specs.declared.stacks.Function.{Function}
use Rattle.native_frames.specs.Kept.{AreKept}
use Rattle.native_frames.specs.Naming.{IsFunctionAmong, IsFunctionIn, IsKept, bytes_of}

same_key : (a b : ℕ) → is_eq (nat_cmp a b) ≡ true → a ≡ b
same_key a b h = grind (arith, nat_tests)

same_some : (x y : List SymbolEntry) → ◌≡◌ {A = Option (List SymbolEntry)} (Some x) (Some y) → x ≡ y
same_some x y e = cc

module _ (mappings : List Mapping) (file : ℕ) (symbols : List SymbolEntry) where
  pub kept_more : (old new : BTreeMap ℕ (List SymbolEntry)) → AreKept mappings old → IsKept mappings file symbols
      → ((q : ℕ) → get nat_cmp new q ≡ cond (is_eq (nat_cmp file q)) (Some symbols) (get nat_cmp old q))
      → AreKept mappings new
  kept_more old new h own updates = λ q s is. by q s (is_eq (nat_cmp file q)) refl (sym (updates q) ∙ is)
    where
      by : (q : ℕ) (s : List SymbolEntry) (b : Bool) → is_eq (nat_cmp file q) ≡ b
          → cond (is_eq (nat_cmp file q)) (Some symbols) (get nat_cmp old q) ≡ Some s → IsKept mappings q s
      by q s true e is =
          let one : ◌≡◌ {A = Option (List SymbolEntry)} (Some symbols) (Some s) = rw e at is in
          subst (λ (n : ℕ). IsKept mappings n s) (same_key file q e)
          (subst (λ (t : List SymbolEntry). IsKept mappings file t) (same_some symbols s one) own)
      by q s false e is = h q s (rw e at is)

  function_in : (address more : ℕ) (f : Option Function) → IsKept mappings file symbols
      → IsFunctionAmong symbols address more f → IsFunctionIn (bytes_of mappings file) address more f
  function_in address more f kept a = rw kept.are ((Some kept.bytes, kept.opened, (symbols, kept.symbols_of, a)))

  pub kept_function : {E : Type 0} (kept : BTreeMap ℕ (List SymbolEntry)) (address more : ℕ)
      (r : Result (Option Function) E) → AreKept mappings kept → get nat_cmp kept file ≡ Some symbols
      → IfOk r (IsFunctionAmong symbols address more)
      → IfOk r (IsFunctionIn (bytes_of mappings file) address more)
  kept_function kept address more (Ok f) h is a = function_in address more f (h file symbols is) a
  kept_function kept address more (Err e) h is a = tt
