-- The functions of symbols, one after the other, and their ranges.
use Rattle.std.proofs.Common.{◌≡◌, ℕ, zero, suc, ◌+◌, ◌-◌, ◌^◌, ◌<◌, ◌≤◌, List, [], ◌∷◌, ◌++◌, length, get_or, take, drop}
use Rattle.std.proofs.Common.{map, All, refl, sym, ◌∙◌, ap, subst, arith, inr, append_assoc, append-nil, take_all}
use Rattle.std.proofs.lemmas.List.{drop_all}
use Rattle.std.proofs.lemmas.List.Elements.{All-more}
use Rattle.elf64_core.specs.Symbols.{symbol_entry_of}
use Rattle.elf64_core.specs.declared.symbol.Symbol.{Symbol}
use Rattle.std.proofs.lemmas.Bool.Decides.{nat_tests}
use Rattle.piece_table.specs.Overlays.{spans}
use Rattle.piece_table.specs.Places.{IsBounded}
use Rattle.covering_symbols.specs.declared.function_key.FunctionKey.{FunctionKey}
use Rattle.covering_symbols.specs.FunctionKeys.{function_keys, key_covers, keys_of, range_of_key}

drop_at : {X : Type 0} (xs : List X) (i : ℕ) (d : X) → i < length xs → drop i xs ≡ get_or xs i d ∷ drop (i + 1) xs
drop_at [] i d h = absurd (omega arith)
drop_at (x ∷ xs) zero d h = refl
drop_at (x ∷ xs) (suc i) d h = let e : suc i + 1 ≡ suc (i + 1) = omega arith in rw e (drop_at xs i d (omega arith))

-- the functions from a number on
abbrev pub rest_keys : ℕ → List Symbol → List FunctionKey
rest_keys i symbols = function_keys i (map symbol_entry_of (drop i symbols))

-- one more symbol
pub keys_more : (d : Symbol) (symbols : List Symbol) (i : ℕ) (all keys new : List FunctionKey) → i < length symbols
    → keys ++ rest_keys i symbols ≡ all → new ≡ keys ++ keys_of (i, symbol_entry_of (get_or symbols i d))
    → new ++ rest_keys (i + 1) symbols ≡ all
keys_more d symbols i all keys new h k added =
    let next : rest_keys i symbols ≡ keys_of (i, symbol_entry_of (get_or symbols i d)) ++ rest_keys (i + 1) symbols
    = ap (λ l. function_keys i (map symbol_entry_of l)) (drop_at symbols i d h) in
    ap (λ l. l ++ rest_keys (i + 1) symbols) added
    ∙ append_assoc keys (keys_of (i, symbol_entry_of (get_or symbols i d))) (rest_keys (i + 1) symbols)
    ∙ ap (λ l. keys ++ l) (sym next) ∙ k

pub fit_more : (d : Symbol) (symbols : List Symbol) (i : ℕ) → i < length symbols → (get_or symbols i d).value < 2 ^ 64
    → All (λ (s : Symbol). s.value < 2 ^ 64) (take i symbols) → All (λ (s : Symbol). s.value < 2 ^ 64) (take (i + 1) symbols)
fit_more d symbols i h f a = All-more (λ (s : Symbol). s.value < 2 ^ 64) symbols i d h a f

pub fit_done : (symbols : List Symbol) (i : ℕ) → length symbols ≤ i → All (λ (s : Symbol). s.value < 2 ^ 64) (take i symbols)
    → All (λ (s : Symbol). s.value < 2 ^ 64) symbols
fit_done symbols i h a = subst (All (λ (s : Symbol). s.value < 2 ^ 64)) (take_all i symbols h) a

pub keys_done : (symbols : List Symbol) (i : ℕ) (all keys : List FunctionKey) → length symbols ≤ i → keys ++ rest_keys i symbols ≡ all → keys ≡ all
keys_done symbols i all keys h k = sym (append-nil keys)
    ∙ ap (λ l. keys ++ function_keys i (map symbol_entry_of l)) (sym (drop_all i symbols h)) ∙ k

pub bounded : (key : FunctionKey) → key.below < 2 ^ 64 → IsBounded (range_of_key key)
bounded key h = record { ends = omega arith; found_ends = inr (omega arith) }

-- below 2^64 - 1 a function covers an address where its range holds it
pub covers_spans : (addr : ℕ) → addr < 2 ^ 64 - 1 → (key : FunctionKey) → spans addr (range_of_key key).range ≡ key_covers addr key
covers_spans addr h key = grind (arith, nat_tests)
