-- What is added to bytes.
use Rattle.std.proofs.Common.{◌≡◌, ◌∙◌, ◌+◌, ◌-◌, ◌<◌, ◌≤◌, ℕ, zero, suc, List, [], ◌∷◌, ◌++◌, get_or, length, map}
use Rattle.std.proofs.Common.{take, refl, ap, ap₂, arith, append_assoc, append-nil, length-append}
use Rattle.std.proofs.Math.ListN.{replicate}
use Rattle.std.specs.Prelude.{IfOk, Result, Ok, Err, if◌then◌else◌}
use Rattle.std.specs.Result.{is_ok}
use Rattle.std.specs.List.{flat_map}
use Rattle.std.proofs.lemmas.List.{get_or_default}
use Rattle.object_builder.specs.Objects.{Value, aligned, bytes_of, len_of}
use Rattle.object_builder.specs.Sizes.{rounded}
use Rattle.object_builder.specs.Writes.{value_of}
use Rattle.object_builder.specs.declared.object.Value as d
use Rattle.memory_builder.proofs.Growing.{flat_more}
use Rattle.object_builder.proofs.Objects.{length-bytes_of}
use Rattle.memory_builder.proofs.Sums.{take_all}
use Rattle.image_builder.specs.Records.{filled, record_of}

-- what a call added that went well
pub if_added : {T E : Type 0} (r : Result T E) (new old xs : List ℕ) → new ≡ (if is_ok r then old ++ xs else old)
    → IfOk r (λ _. new ≡ old ++ xs)
if_added (Ok u) new old xs h = h
if_added (Err e) new old xs h = tt

-- ---- records

-- one field more
pub field_more : (xs : List d.Value) (i : ℕ) (x : d.Value) (start out next : List ℕ) → i < length xs
    → out ≡ start ++ flat_map bytes_of (take i (map value_of xs))
    → next ≡ out ++ bytes_of (value_of (get_or xs i x)) → next ≡ start
    ++ flat_map bytes_of (take (i + 1) (map value_of xs))
field_more xs i x start out next small so_far added =
    flat_more bytes_of value_of xs i (get_or xs i x) start out next small
    (get_or_default xs i x (get_or xs i x) small) so_far added

-- how long a record is
abbrev pub span : List Value → ℕ
span [] = 0
span (v ∷ vs) = len_of v + span vs

pub length-record : (vs : List Value) → length (record_of vs) ≡ span vs
unfolding record_of
length-record [] = refl
length-record (v ∷ vs) = length-append (bytes_of v) (record_of vs)
    ∙ ap₂ (λ a b. a + b) (length-bytes_of v) (length-record vs)

-- ---- zeros behind bytes

pub filled_is : (old bytes now : List ℕ) (size k n : ℕ) → length bytes ≤ size → k ≡ length old + size
    → now ≡ old ++ bytes → n ≡ length now
    → take k now ++ replicate (k - n) 0 ≡ old ++ filled size bytes
unfolding filled
filled_is old bytes now size k n inside k_is now_is n_is =
    let len : length now ≡ length old + length bytes = ap length now_is ∙ length-append old bytes in
    let all : take k now ≡ old ++ bytes = take_all now k (omega (arith, len)) ∙ now_is in
    let zeros : k - n ≡ size - length bytes = omega (arith, len) in
    ap₂ (λ xs m. xs ++ replicate m 0) all zeros ∙ append_assoc old bytes (replicate (size - length bytes) 0)

pub length-filled : (size : ℕ) (bytes : List ℕ) → length bytes ≤ size → length (filled size bytes) ≡ size
unfolding filled
length-filled size bytes inside =
    length-append bytes (replicate {A = ℕ} (size - length bytes) 0) ∙ rest
  where
    rest : length bytes + length (replicate {A = ℕ} (size - length bytes) 0) ≡ size
    rest = omega (arith, zeros (size - length bytes))
      where
        zeros : (n : ℕ) → length (replicate {A = ℕ} n 0) ≡ n
        zeros zero = refl
        zeros (suc n) = ap (λ k. suc k) (zeros n)

-- an object whose size is a multiple of 16 is followed by nothing
pub aligned_none : (o : List ℕ) (n : ℕ) → length o ≡ n → rounded n ≡ n → aligned o ≡ o
unfolding aligned
aligned_none o n len even =
    let zeros : rounded (length o) - length o ≡ 0 = omega (arith, len, ap rounded len) in
    ap (λ k. o ++ replicate k 0) zeros ∙ append-nil o
