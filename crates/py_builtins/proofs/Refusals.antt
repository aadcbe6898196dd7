-- That lengths are refused early.
use Rattle.std.proofs.Common.{◌≡◌, ℕ, zero, suc, ◌*◌, ◌^◌, ltb, true, false, inl, inr, arith}
use Rattle.std.proofs.lemmas.Bool.{cases_lt}
use Rattle.std.proofs.lemmas.Bool.Decides.{nat_tests}
use Rattle.std.specs.Prelude.{List, Option, Some, None, Result, Ok, Err, ℤ}
use Rattle.process_memory.specs.Memory.{Memory, Found, Fault, found_or, bytes_at, outside, record_at, ◌>>=◌}
use Rattle.process_memory.specs.Memory.Fault.{Missing, TooLong as IsTooLong, NoText as HasNoText}
use Rattle.process_memory.specs.Seen.{Seen, Reads, Answers}
use Rattle.process_memory.proofs.Reading.{reading_gives}
use Rattle.py_builtins.specs.declared.error.ObjectError.{ObjectError}
use Rattle.py_builtins.specs.declared.error.ObjectError.TheVariants.{TooLong, Unreadable, NoText, BadDict, BadType}
use Rattle.py_builtins.specs.declared.error.ObjectError.TheVariants.{Visits, Depth, BadCount, BadBool, OutOfMemory}
use Rattle.py_builtins.specs.declared.strings.Characters.{Characters}
use Rattle.py_builtins.specs.TextKind.{width, decoded}
use Rattle.py_builtins.specs.Texts.{characters_at}
use Rattle.py_builtins.specs.ObjectError.{object_fault}
use Rattle.py_builtins.specs.Refusals.{RefusesEarly}

-- a reader that made one read at most
pub early_one : {T : Type 0} {old new : Seen} (d : Memory → Found T) (r : Result T ObjectError) → Reads object_fault 1 old new d r → RefusesEarly old new d r
early_one d (Ok x) p = tt
early_one d (Err (TooLong n)) p = reading_gives 1 _ p (omega arith) (λ m h. h.is)
early_one d (Err (Unreadable a n)) p = tt
early_one d (Err NoText) p = tt
early_one d (Err BadDict) p = tt
early_one d (Err BadType) p = tt
early_one d (Err Visits) p = tt
early_one d (Err Depth) p = tt
early_one d (Err (BadCount n)) p = tt
early_one d (Err (BadBool b)) p = tt
early_one d (Err OutOfMemory) p = tt

-- a definition that refuses no length
pub no_refusal : {T U : Type 0} (old new : Seen) (d : Memory → Found U) (e : Found T) (r : Result T ObjectError) → ((n : ℤ) → e ≡ Err (IsTooLong n) → ⊥) → Answers object_fault e r → RefusesEarly old new d r
no_refusal old new d e (Ok x) never p = tt
no_refusal old new d e (Err (TooLong n)) never p = absurd (never n p.is)
no_refusal old new d e (Err (Unreadable a n)) never p = tt
no_refusal old new d e (Err NoText) never p = tt
no_refusal old new d e (Err BadDict) never p = tt
no_refusal old new d e (Err BadType) never p = tt
no_refusal old new d e (Err Visits) never p = tt
no_refusal old new d e (Err Depth) never p = tt
no_refusal old new d e (Err (BadCount n)) never p = tt
no_refusal old new d e (Err (BadBool b)) never p = tt
no_refusal old new d e (Err OutOfMemory) never p = tt

found_no_length : {T : Type 0} (o : Option T) (f : Fault) (n : ℤ) → (f ≡ IsTooLong n → ⊥) → found_or o f ≡ Err (IsTooLong n) → ⊥
found_no_length None f n never e = never (cc)
found_no_length (Some x) f n never e = cc

outside_no_length : (len : ℕ) (n : ℤ) → outside len ≡ Err (IsTooLong n) → ⊥
outside_no_length zero n e = cc
outside_no_length (suc len) n e = cc

-- a record is there or missing
pub record_no_length : (m : Memory) (a len : ℕ) (n : ℤ) → record_at m a len ≡ Err (IsTooLong n) → ⊥
unfolding record_at
record_no_length m a len n e = elim (cases_lt a (2 ^ 64)) [
  | inl below ↦ let is : ltb a (2 ^ 64) ≡ true = grind (arith, nat_tests) in found_no_length (bytes_at m a len) (Missing a len) n (λ h. cc) (rw is at e)
  | inr past ↦ let is : ltb a (2 ^ 64) ≡ false = grind (arith, nat_tests) in outside_no_length len n (rw is at e)
]

decoded_no_length : (m : Memory) (k : ℕ) (p : Characters) (d : Found (List ℕ)) (n : ℤ) → ((j : ℤ) → d ≡ Err (IsTooLong j) → ⊥) → (d >>= (λ bytes. found_or (decoded p.kind bytes) HasNoText)) ≡ Err (IsTooLong n) → ⊥
decoded_no_length m k p (Ok bytes) n never e = found_no_length (decoded p.kind bytes) HasNoText n (λ h. cc) e
decoded_no_length m k p (Err f) n never e = never n e

-- characters are there, missing or none
pub characters_no_length : (m : Memory) (k : ℕ) (p : Characters) (n : ℤ) → characters_at m k (Some p) ≡ Err (IsTooLong n) → ⊥
unfolding characters_at
characters_no_length m k p n e = decoded_no_length m k p (record_at m p.at (k * width p.kind)) n (record_no_length m p.at (k * width p.kind)) e
