-- How many reads there are of several that take as many each.
use Rattle.std.proofs.Common.{◌≡◌, ℕ, suc, ◌+◌, ◌*◌, ◌<◌, ◌≤◌, ◌^◌, ap, arith}
use Rattle.std.proofs.Math.Nat.{add-mul, mul-le-mul_left, mul-suc, mul_assoc}

pub fits : (k n m : ℕ) → n < m → k * n + k ≤ k * m
fits k n m lt = omega (arith, mul-le-mul_left {m = suc n} {n = m} k (omega (arith, lt)), mul-suc n k)

pub step : (k n : ℕ) → k * n + k ≤ k * (n + 1)
step k n = fits k n (n + 1) (omega arith)

pub same : (k n m : ℕ) → n ≡ m → k * n ≤ k * m
same k n m e = omega (arith, ap (λ (x : ℕ). k * x) e)

pub whole : (limit n : ℕ) → n ≤ 65536 → limit * n ≤ 2 ^ 20 → (16568 + 17 * limit) * n ≤ 1103626240
whole limit n few all = omega (arith, add-mul 16568 (17 * limit) n, mul_assoc 17 limit n, few, all)

pub more : (n t : ℕ) → n ≤ t → n + 0 ≤ t
more n t le = omega (arith, le)
