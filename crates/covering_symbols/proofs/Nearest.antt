-- The first key that covers an address is that of the nearest function.
use Rattle.std.proofs.Common.{◌≡◌, ◌⊎◌, ℕ, zero, suc, ◌+◌, ◌-◌, ◌^◌, ◌<◌, ◌≤◌, leb, ltb, Bool, true, false, cond, List}
use Rattle.std.proofs.Common.{[], ◌∷◌, length, get_or, map, All, Contains, Option, Some, None, refl, sym, ◌∙◌, ap}
use Rattle.std.proofs.Common.{subst, arith, inl, inr}
use Rattle.std.specs.Prelude.{option_map}
use Rattle.std.specs.List.{enumerate_from, filter, find}
use Rattle.std.specs.List.Sorted.{IsPermutation}
use Rattle.std.proofs.lemmas.Bool.{and_parts, and_from, leb-true, ltb-true, le-leb, lt-ltb, cases_lt}
use Rattle.std.proofs.lemmas.List.Elements.{All-nil, All-cons, All-head, All-tail, All-contains}
use Rattle.std.proofs.lemmas.List.Sorted.{IsPermutation-sym, Contains-permutation}
use Rattle.elf64_core.specs.Symbols.{SymbolEntry}
use Rattle.covering_symbols.specs.declared.function_key.FunctionKey.{FunctionKey}
use Rattle.covering_symbols.specs.Covering.{Covering, CoversAddr, IsNearer, functions_in, is_function}
use Rattle.covering_symbols.specs.FunctionKeys.{function_keys, is_function_info, key_covers, symbol_key}
use Rattle.covering_symbols.specs.FunctionTables.{IsTableOf, key_number}
use Rattle.covering_symbols.specs.KeyOrder.{ComesFirst}

abbrev Numbered : Type 0
Numbered = ℕ × SymbolEntry

-- the keys are those of the functions
keys_mapped : (k : ℕ) (symbols : List SymbolEntry) → function_keys k symbols ≡ map symbol_key (filter is_function (enumerate_from k symbols))
keys_mapped k [] = refl
keys_mapped k (s ∷ symbols) = by (is_function_info s.info) refl (keys_mapped (k + 1) symbols)
  where
    by : (b : Bool) → is_function_info s.info ≡ b
        → function_keys (k + 1) symbols ≡ map symbol_key (filter is_function (enumerate_from (k + 1) symbols))
        → function_keys k (s ∷ symbols) ≡ map symbol_key (filter is_function (enumerate_from k (s ∷ symbols)))
    by true e rest = rw e (ap (λ l. symbol_key (k, s) ∷ l) rest)
    by false e rest = rw e rest

-- what holds of all symbols holds of the functions among them
functions_fit : (P : SymbolEntry → Type 0) (k : ℕ) (symbols : List SymbolEntry) → All P symbols
    → All (λ (m : Numbered). P m.1) (filter is_function (enumerate_from k symbols))
functions_fit P k [] h = All-nil (λ (m : Numbered). P m.1)
functions_fit P k (s ∷ symbols) h = by (is_function_info s.info) refl (functions_fit P (k + 1) symbols (All-tail P s symbols h))
  where
    by : (b : Bool) → is_function_info s.info ≡ b
        → All (λ (m : Numbered). P m.1) (filter is_function (enumerate_from (k + 1) symbols))
        → All (λ (m : Numbered). P m.1) (filter is_function (enumerate_from k (s ∷ symbols)))
    by true e rest = rw e (All-cons (λ (m : Numbered). P m.1) (k, s) (filter is_function (enumerate_from (k + 1) symbols)) (All-head P s symbols h) rest)
    by false e rest = rw e rest

module _ {X Y : Type 0} (f : X → Y) where
  get_or_mapped : (xs : List X) (k : ℕ) (d : X) → get_or (map f xs) k (f d) ≡ f (get_or xs k d)
  get_or_mapped [] k d = refl
  get_or_mapped (x ∷ xs) zero d = refl
  get_or_mapped (x ∷ xs) (suc k) d = get_or_mapped xs k d

  length_mapped : (xs : List X) → length (map f xs) ≡ length xs
  length_mapped [] = refl
  length_mapped (x ∷ xs) = ap suc (length_mapped xs)

  Contains-mapped : (xs : List X) (x : X) → Contains xs x → Contains (map f xs) (f x)
  Contains-mapped xs x c = (c.0, subst (λ n. c.0 < n) (sym (length_mapped xs)) c.1, get_or_mapped xs c.0 x ∙ ap f c.2)

  -- an element of a mapped list is that of an element
  from_mapped : (xs : List X) (k : ℕ) (y : Y) → k < length (map f xs) → get_or (map f xs) k y ≡ y → (x : X) × Contains xs x × (f x ≡ y)
  from_mapped [] k y h e = absurd (omega arith)
  from_mapped (x ∷ xs) zero y h e = (x, (0, omega arith, refl), e)
  from_mapped (x ∷ xs) (suc k) y h e = let rest = from_mapped xs k y (omega arith) e in
      (rest.0, (suc rest.1.0, (let lt = rest.1.1 in omega arith), rest.1.2), rest.2)

-- the first element that passes
record IsFirst {X : Type 0} (p : X → Bool) (xs : List X) (y : X) : Type 0 where
  index : ℕ
  within : index < length xs
  is : (d : X) → get_or xs index d ≡ y
  passes : p y ≡ true
  least : (j : ℕ) (d : X) → j < length xs → p (get_or xs j d) ≡ true → index ≤ j

first_of_find : {X : Type 0} (p : X → Bool) (xs : List X) (y : X) → find p xs ≡ Some y → IsFirst p xs y
first_of_find p [] y h = cc
first_of_find {X} p (x ∷ xs) y h = by (p x) refl (λ e. first_of_find p xs y e)
  where
    by : (b : Bool) → p x ≡ b → (find p xs ≡ Some y → IsFirst p xs y) → IsFirst p (x ∷ xs) y
    by true e rest =
        let found : Some x ≡ Some y = sym (ap (λ b. cond b (Some x) (find p xs)) e) ∙ h in
        let same : x ≡ y = cc in
        record { index = 0; within = omega arith; is = λ d. same; passes = subst (λ z. p z ≡ true) same e; least = λ j d lt q. omega arith }
    by false e rest =
        let r = rest (sym (ap (λ b. cond b (Some x) (find p xs)) e) ∙ h) in
        record {
          index = suc r.index;
          within = let lt = r.within in omega arith;
          is = r.is;
          passes = r.passes;
          least = least_of r;
        }
      where
        least_of : (r : IsFirst p xs y) (j : ℕ) (d : X) → j < length (x ∷ xs) → p (get_or (x ∷ xs) j d) ≡ true → suc r.index ≤ j
        least_of r zero d lt q = let both : true ≡ false = sym q ∙ e in cc
        least_of r (suc j) d lt q = let le = r.least j d (omega arith) q in omega arith

none_passes : {X : Type 0} (p : X → Bool) (xs : List X) (k : ℕ) (d : X) → find p xs ≡ None → k < length xs → p (get_or xs k d) ≡ false
none_passes p [] k d h lt = absurd (omega arith)
none_passes {X} p (x ∷ xs) k d h lt = by (p x) refl (λ e j l. none_passes p xs j d e l) k lt
  where
    by : (b : Bool) → p x ≡ b → (find p xs ≡ None → (j : ℕ) → j < length xs → p (get_or xs j d) ≡ false)
        → (i : ℕ) → i < length (x ∷ xs) → p (get_or (x ∷ xs) i d) ≡ false
    by true e rest i l = let both : Some x ≡ None = sym (ap (λ b. cond b (Some x) (find p xs)) e) ∙ h in cc
    by false e rest zero l = e
    by false e rest (suc i) l = rest (sym (ap (λ b. cond b (Some x) (find p xs)) e) ∙ h) i (omega arith)

-- ---- keys and symbols

covers_key : (addr : ℕ) (m : Numbered) → m.1.value < 2 ^ 64 → CoversAddr addr m → key_covers addr (symbol_key m) ≡ true
covers_key addr m fit c = let from = c.0 in let to = c.1 in
    and_from (leb (2 ^ 64 - 1 - (2 ^ 64 - 1 - m.1.value)) addr) (ltb addr (2 ^ 64 - 1 - (2 ^ 64 - 1 - m.1.value) + m.1.size))
    (le-leb (2 ^ 64 - 1 - (2 ^ 64 - 1 - m.1.value)) addr (omega arith))
    (lt-ltb addr (2 ^ 64 - 1 - (2 ^ 64 - 1 - m.1.value) + m.1.size) (omega arith))

key_covers_is : (addr : ℕ) (m : Numbered) → m.1.value < 2 ^ 64 → key_covers addr (symbol_key m) ≡ true → CoversAddr addr m
key_covers_is addr m fit h =
    let p = and_parts (leb (2 ^ 64 - 1 - (2 ^ 64 - 1 - m.1.value)) addr) (ltb addr (2 ^ 64 - 1 - (2 ^ 64 - 1 - m.1.value) + m.1.size)) h in
    let from = leb-true (2 ^ 64 - 1 - (2 ^ 64 - 1 - m.1.value)) addr p.0 in
    let to = ltb-true addr (2 ^ 64 - 1 - (2 ^ 64 - 1 - m.1.value) + m.1.size) p.1 in
    (omega arith, omega arith)

first_is_near : (n m : Numbered) → n.1.value < 2 ^ 64 → m.1.value < 2 ^ 64 → ComesFirst (symbol_key n) (symbol_key m) → (m.0 ≡ n.0) ⊎ IsNearer n m
first_is_near n m f g (inl lt) = inr (inl (omega arith))
first_is_near n m f g (inr p) = by p.1
  where
    by : (n.1.size < m.1.size) ⊎ ((n.1.size ≡ m.1.size) × (n.0 ≤ m.0)) → (m.0 ≡ n.0) ⊎ IsNearer n m
    by (inl lt) = let b = p.0 in inr (inr (omega arith, inl lt))
    by (inr q) = let b = p.0 in elim (cases_lt n.0 m.0) [
      | inl lt ↦ inr (inr (omega arith, inr (q.0, lt)))
      | inr ge ↦ let le = q.1 in inl (omega arith)
    ]

module _ (symbols : List SymbolEntry) (keys : List FunctionKey) (t : IsTableOf symbols keys) (addr : ℕ) where
  same : IsPermutation (map symbol_key (functions_in symbols)) keys
  same = subst (λ l. IsPermutation l keys) (keys_mapped 0 symbols) t.same

  fits : (m : Numbered) → Contains (functions_in symbols) m → m.1.value < 2 ^ 64
  fits m c = All-contains (λ (x : Numbered). x.1.value < 2 ^ 64) (functions_in symbols) m
      (functions_fit (λ (s : SymbolEntry). s.value < 2 ^ 64) 0 symbols t.fit) c

  has_key : (m : Numbered) → Contains (functions_in symbols) m → Contains keys (symbol_key m)
  has_key m c = Contains-permutation (map symbol_key (functions_in symbols)) keys (symbol_key m) same (Contains-mapped symbol_key (functions_in symbols) m c)

  none_covers : find (key_covers addr) keys ≡ None → Covering symbols addr None
  none_covers h m c k =
      let at = has_key m c in
      let no = none_passes (key_covers addr) keys at.0 (symbol_key m) h at.1 in
      let yes = covers_key addr m (fits m c) k in
      let both : true ≡ false = sym yes ∙ ap (key_covers addr) (sym at.2) ∙ no in absurd (cc)

  some_covers : (key : FunctionKey) → find (key_covers addr) keys ≡ Some key → Covering symbols addr (Some key.number)
  some_covers key h =
      let first = first_of_find (key_covers addr) keys key h in
      let back = Contains-permutation keys (map symbol_key (functions_in symbols)) key
      (IsPermutation-sym (map symbol_key (functions_in symbols)) keys same) (first.index, first.within, first.is key) in
      let n = from_mapped symbol_key (functions_in symbols) back.0 key back.1 back.2 in
      by first n.0 n.1 n.2
    where
      by : IsFirst (key_covers addr) keys key → (n : Numbered) → Contains (functions_in symbols) n → symbol_key n ≡ key
          → Covering symbols addr (Some key.number)
      by first n c e =
          let number : n.0 ≡ key.number = ap key_number e in
          let among : Contains (functions_in symbols) (key.number, n.1) = subst (λ k. Contains (functions_in symbols) (k, n.1)) number c in
          record {
            symbol = n.1;
            among = among;
            covers = key_covers_is addr n (fits n c) (ap (key_covers addr) e ∙ first.passes);
            nearest = λ m d k.
                let at = has_key m d in
                let passes : key_covers addr (get_or keys at.0 (symbol_key m)) ≡ true = ap (key_covers addr) at.2 ∙ covers_key addr m (fits m d) k in
                let le = first.least at.0 (symbol_key m) at.1 passes in
                let before = t.order first.index at.0 (symbol_key m) le at.1 in
                let here : ComesFirst (symbol_key n) (symbol_key m) = subst (λ x. ComesFirst x (symbol_key m)) (first.is (symbol_key m) ∙ sym e)
                (subst (λ y. ComesFirst (get_or keys first.index (symbol_key m)) y) at.2 before) in
                subst (λ j. (m.0 ≡ j) ⊎ IsNearer (j, n.1) m) number (first_is_near n m (fits n c) (fits m d) here);
          }

  pub covering_found : Covering symbols addr (option_map key_number (find (key_covers addr) keys))
  covering_found = by (find (key_covers addr) keys) refl
    where
      by : (o : Option FunctionKey) → find (key_covers addr) keys ≡ o → Covering symbols addr (option_map key_number o)
      by None e = none_covers e
      by (Some key) e = some_covers key e
