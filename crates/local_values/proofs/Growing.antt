-- Shares of nodes by one more `-l`: four times as many items are shown of a value, and it has four times the nodes.
use Rattle.std.proofs.Common.{◌≡◌, ℕ, zero, suc, ◌+◌, ◌-◌, ◌*◌, ◌/◌, ◌≤◌, ◌<◌, ◌⊎◌, ⊎_elim, inl, inr, false, eqb, refl}
use Rattle.std.proofs.Common.{sym, subst, arith}
use Rattle.std.proofs.lemmas.Bool.{cases_order}
use Rattle.std.proofs.lemmas.Bool.Decides.{nat_tests}
use Rattle.std.proofs.Math.Nat.{div-le_of_le-mul, div-le_self, le-div_iff_mul-le, mul-div-le, mul-le-mul_right}
use Rattle.py_reprs.specs.Limits.{limits_by, share, shown_count, shown_entries}

-- the nodes of a value by fewer `-l` and by more: four times as many, or so few by fewer that no item more is shown
abbrev pub Grown : (items fewer more : ℕ) → Type 0
Grown items fewer more = (4 * fewer ≤ more × fewer ≤ 64 * items) ⊎ (fewer ≤ more × fewer ≤ items)

share_some : (n k : ℕ) → 0 < k → share n k ≡ (n - k) / k
unfolding share
share_some n zero some = absurd (omega (arith, some))
share_some n (suc k) some = let no : eqb (suc k) 0 ≡ false = grind (arith, nat_tests) in rw no refl

share_none : (n : ℕ) → share n 0 ≡ 0
unfolding share
share_none n = refl

-- at first there are four times as many
pub grown_first : (times levels more : ℕ) → Grown (limits_by times levels).items (limits_by times levels).nodes
    (limits_by (4 * times) more).nodes
grown_first times levels more = inl (omega arith, omega arith)

-- shares are within the nodes
within : (n k : ℕ) → 0 < k → ((n - k) / k) * k ≤ n - k
within n k some = let le = mul-div-le (n - k) k in grind (arith, le)

at_least : (s m l : ℕ) → 0 < l → s * l ≤ m - l → s ≤ (m - l) / l
at_least s m l some le = (le-div_iff_mul-le some).1 le

-- where all items are shown by fewer, each has a greater share by more
same_more : (n m k : ℕ) → 0 < k → n ≤ m → share n k ≤ share m k
same_more n m k some le =
    let s = (n - k) / k in
    let under : s * k ≤ n - k = within n k some in
    let is = share_some n k some in
    let more = share_some m k some in
    let fits : s * k ≤ m - k = omega (arith, under, le) in
    let grows : s ≤ (m - k) / k = at_least s m k some fits in
    omega (arith, is, more, grows)

-- and four times as great a one, where there are four times the nodes
same_four : (n m k : ℕ) → 0 < k → 4 * n ≤ m → 4 * share n k ≤ share m k
same_four n m k some le =
    let s = (n - k) / k in
    let under : s * k ≤ n - k = within n k some in
    let is = share_some n k some in
    let more = share_some m k some in
    let four : 4 * s * k ≡ 4 * (s * k) = grind arith in
    let fits : 4 * s * k ≤ m - k = omega (arith, under, le, four) in
    let grows : 4 * s ≤ (m - k) / k = at_least (4 * s) m k some fits in
    omega (arith, is, more, grows)

-- where four times as many are shown by more, each has as great a share
items_more : (n m k l : ℕ) → 0 < k → 0 < l → k ≤ n → l ≤ 4 * k → 4 * n ≤ m → share n k ≤ share m l
items_more n m k l some any le few four =
    let s = (n - k) / k in
    let under : s * k ≤ n - k = within n k some in
    let is = share_some n k some in
    let more = share_some m l any in
    let wide : s * l ≤ 4 * (s * k) = times s l k few in
    let fits : s * l ≤ m - l = omega (arith, under, le, few, four, wide) in
    let grows : s ≤ (m - l) / l = at_least s m l any fits in
    omega (arith, is, more, grows)
  where
    times : (s l k : ℕ) → l ≤ 4 * k → s * l ≤ 4 * (s * k)
    times s l k few = let le = mul-le-mul_right s few in grind (arith, le)

-- a share is no more than the nodes, and none where all nodes are taken by the items themselves
few : (n k : ℕ) → 0 < k → share n k ≤ n
few n k some = let is = share_some n k some in let le = div-le_self (n - k) k in omega (arith, is, le)

none : (n k : ℕ) → 0 < k → n ≤ k → share n k ≤ 0
none n k some le =
    let is = share_some n k some in
    let zero_of : (n - k) / k ≤ 0 = div-le_of_le-mul k (omega (arith, le)) in
    omega (arith, is, zero_of)

-- of at most 64 times as many nodes as items, each of so many items has fewer than 64
fewer : (n k : ℕ) → 0 < k → n ≤ 64 * k → share n k ≤ 63
fewer n k some le =
    let is = share_some n k some in
    let under : (n - k) / k ≤ 63 = div-le_of_le-mul k (omega (arith, le)) in
    omega (arith, is, under)

-- at least as many items are shown by more
pub counts_more : (items n m count : ℕ) → Grown items n m → shown_count items n count ≤ shown_count (4 * items) m count
counts_more items n m count h = ⊎_elim (λ a. omega (arith, a.0)) (λ b. omega (arith, b.0)) h

-- where no node is left for what stands within the items
none_left : (items n m k l : ℕ) → 0 < k → n ≤ k → Grown items (share n k) (share m l)
none_left items n m k l some le = let no = none n k some le in inr (omega (arith, no), omega (arith, no))

-- where all items are shown
all_shown : (items n m k : ℕ) → 0 < k → Grown items n m → Grown items (share n k) (share m k)
all_shown items n m k some h = ⊎_elim
    (λ a. inl (same_four n m k some a.0, let le = few n k some in omega (arith, le, a.1)))
    (λ b. inr (same_more n m k some b.0, let le = few n k some in omega (arith, le, b.1))) h

-- where as many are shown as the limit has
first_shown : (items n m l : ℕ) → 64 ≤ items → items ≤ n → 0 < l → l ≤ 4 * items → Grown items n m
    → Grown items (share n items) (share m l)
first_shown items n m l wide le any four h = ⊎_elim
    (λ a. inr (
      items_more n m items l (omega (arith, wide)) any le four a.0,
      let less = fewer n items (omega (arith, wide)) a.1 in omega (arith, less, wide),
    ))
    (λ b. none_left items n m items l (omega (arith, wide)) b.1) h

grown_some : (items n m count k l : ℕ) → 64 ≤ items → 0 < k → Grown items n m → k ≡ shown_count items n count
    → l ≡ shown_count (4 * items) m count → Grown items (share n k) (share m l)
grown_some items n m count k l wide some h shown more =
    ⊎_elim all_of (⊎_elim some_of (λ past. absurd (omega (arith, past, shown))))
    (cases_order k count)
  where
    all_of : k ≡ count → Grown items (share n k) (share m l)
    all_of is = subst (λ x. Grown items (share n k) (share m x))
        (⊎_elim (λ a. omega (arith, is, shown, more, a.0)) (λ b. omega (arith, is, shown, more, b.0)) h)
        (all_shown items n m k some h)

    some_of : k < count → Grown items (share n k) (share m l)
    some_of less = ⊎_elim
        (λ is. subst (λ x. Grown items (share n x) (share m l)) (sym is)
        (first_shown items n m l wide (omega (arith, is, shown))
        (⊎_elim (λ a. omega (arith, is, some, shown, more, less, a.0))
        (λ b. omega (arith, is, some, shown, more, less, b.0)) h)
        (omega (arith, more)) h))
        (λ rest. ⊎_elim (λ under. none_left items n m k l some (omega (arith, under, less, shown)))
        (λ past. absurd (omega (arith, past, shown))) rest) (cases_order k items)

-- each item's nodes are so again: what is shown of a row by fewer `-l` is shown by one more
pub shares_more : (items n m count k l : ℕ) → 64 ≤ items → Grown items n m → k ≡ shown_count items n count
    → l ≡ shown_count (4 * items) m count → Grown items (share n k) (share m l)
shares_more items n m count zero l wide h shown more =
    let no = share_none n in inr (omega (arith, no), omega (arith, no))
shares_more items n m count (suc k) l wide h shown more =
    grown_some items n m count (suc k) l wide (omega arith) h shown more

-- ---- of a dict's entries each is two values

-- fewer nodes are left than values are shown
none_whole : (n k : ℕ) → 0 < k → n - k < k → share n k ≤ 0
none_whole n k some less =
    let is = share_some n k some in
    let under : ((n - k) / k) * k ≤ n - k = within n k some in
    let no : (n - k) / k ≤ 0 = by ((n - k) / k) under in omega (arith, is, no)
  where
    by : (s : ℕ) → s * k ≤ n - k → s ≤ 0
    by zero le = omega arith
    by (suc s) le = let more : suc s * k ≡ k + s * k = grind arith in absurd (omega (arith, le, less, more))

entries_left : (items n m k l : ℕ) → 0 < k → n - k < k → Grown items (share n k) (share m l)
entries_left items n m k l some less = let no = none_whole n k some less in inr (omega (arith, no), omega (arith, no))

first_entries : (items n m l : ℕ) → 64 ≤ items → 2 * items ≤ n → 0 < l → l ≤ 4 * (2 * items) → Grown items n m
    → Grown items (share n (2 * items)) (share m l)
first_entries items n m l wide le any four h = ⊎_elim
    (λ a. inr (
      items_more n m (2 * items) l (omega (arith, wide)) any le four a.0,
      let less = fewer n (2 * items) (omega (arith, wide)) (omega (arith, a.1)) in omega (arith, less, wide),
    ))
    (λ b. none_left items n m (2 * items) l (omega (arith, wide)) (omega (arith, b.1))) h

entries_some : (items n m count k l : ℕ) → 64 ≤ items → 0 < k → Grown items n m → k ≡ shown_entries items n count
    → l ≡ shown_entries (4 * items) m count → Grown items (share n (2 * k)) (share m (2 * l))
entries_some items n m count k l wide some h shown more =
    ⊎_elim all_of (⊎_elim some_of (λ past. absurd (omega (arith, past, shown))))
    (cases_order k count)
  where
    all_of : k ≡ count → Grown items (share n (2 * k)) (share m (2 * l))
    all_of is = subst (λ x. Grown items (share n (2 * k)) (share m (2 * x)))
        (⊎_elim (λ a. omega (arith, is, shown, more, a.0)) (λ b. omega (arith, is, shown, more, b.0)) h)
        (all_shown items n m (2 * k) (omega (arith, some)) h)

    some_of : k < count → Grown items (share n (2 * k)) (share m (2 * l))
    some_of less = ⊎_elim
        (λ is. subst (λ x. Grown items (share n (2 * x)) (share m (2 * l))) (sym is)
        (first_entries items n m (2 * l) wide (omega (arith, is, shown))
        (⊎_elim (λ a. omega (arith, is, some, shown, more, less, a.0))
        (λ b. omega (arith, is, some, shown, more, less, b.0)) h)
        (omega (arith, more)) h))
        (λ rest. ⊎_elim (λ under. entries_left items n m (2 * k) (2 * l) (omega (arith, some))
        (omega (arith, under, less, shown, some)))
        (λ past. absurd (omega (arith, past, shown))) rest) (cases_order k items)

-- at least as many entries are shown by more
pub entries_more : (items n m count : ℕ) → Grown items n m
    → shown_entries items n count ≤ shown_entries (4 * items) m count
entries_more items n m count h = ⊎_elim (λ a. omega (arith, a.0)) (λ b. omega (arith, b.0)) h

-- and so it is of the nodes of each key and value
pub entry_shares_more : (items n m count k l : ℕ) → 64 ≤ items → Grown items n m → k ≡ shown_entries items n count
    → l ≡ shown_entries (4 * items) m count → Grown items (share n (2 * k)) (share m (2 * l))
entry_shares_more items n m count zero l wide h shown more =
    let no = share_none n in inr (omega (arith, no), omega (arith, no))
entry_shares_more items n m count (suc k) l wide h shown more =
    entries_some items n m count (suc k) l wide (omega arith) h shown more
