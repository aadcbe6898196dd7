-- What a value that was found says of the steps that it came of.
use Rattle.std.proofs.Common.{◌≡◌, refl}
use Rattle.std.specs.Prelude.{Ok, Err}
use Rattle.process_memory.specs.Memory.{Found, ◌>>=◌}

-- a value that comes of two steps
pub bound : {T U : Type 0} (d : Found T) (f : T → Found U) (y : U) → (d >>= f) ≡ Ok y → (x : T) × (d ≡ Ok x) × (f x ≡ Ok y)
bound (Ok x) f y e = (x, refl, e)
bound (Err q) f y e = absurd (cc)

-- one value was found
pub ok_same : {X : Type 0} (x y : X) → ◌≡◌ {A = Found X} (Ok x) (Ok y) → x ≡ y
ok_same x y e = cc
