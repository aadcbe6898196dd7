-- The steps of reading a text.
use Rattle.std.proofs.Common.{◌≡◌, ℕ, zero, suc, ◌*◌, ◌<◌, ◌≤◌, leb, true, false, List, [], refl, sym, ap, ◌∙◌, arith}
use Rattle.std.proofs.Common.{inl, inr}
use Rattle.std.specs.Prelude.{Option, Some, None, Result, Ok, Err, IfOk, MatchResult}
use Rattle.std.specs.Str.{chars}
use Rattle.std.proofs.lemmas.Str.{chars-nil}
use Rattle.std.specs.Int.{w64, cast_signed}
use Rattle.std.proofs.lemmas.Bool.{cases_lt}
use Rattle.std.proofs.lemmas.Bool.Decides.{nat_tests}
use Rattle.elf64_core.specs.Fields.{u64_in}
use Rattle.process_memory.specs.Memory.{Memory, Found, Fault, found_or, ◌>>=◌, record_at}
use Rattle.process_memory.specs.Memory.Fault.{Missing, NoText, TooLong}
use Rattle.process_memory.specs.Seen.{Answers}
use Rattle.py_fields.specs.declared.layout.Layout.{Layout}
use Rattle.py_builtins.specs.declared.strings.Characters.{Characters}
use Rattle.py_builtins.specs.declared.error.ObjectError.{ObjectError}
use Rattle.py_builtins.specs.declared.error.ObjectError.TheVariants.{Unreadable, NoText as HasNoText}
use Rattle.py_builtins.specs.declared.error.ObjectError.TheVariants.{TooLong as IsTooLong, BadDict, BadType, Visits}
use Rattle.py_builtins.specs.declared.error.ObjectError.TheVariants.{Depth, BadCount, BadBool, OutOfMemory}
use Rattle.py_builtins.specs.ObjectError.{object_fault}
use Rattle.py_builtins.specs.TextKind.{width, decoded}
use Rattle.py_builtins.specs.Texts.{characters_of, characters_at, text_of_length, text_at, StandsAt, HasCharacters}
use Rattle.py_builtins.specs.Texts.{IsText}
use Rattle.py_builtins.proofs.Codings.{decoded_is, coding_of_decoded}

module _ (l : Layout) (m : Memory) (a : ℕ) (object : List ℕ) where
  pub length_zero : (n : ℕ) → n ≡ 0 → text_of_length l m a object n ≡ Ok []
  unfolding text_of_length
  length_zero n e = rw e refl

  pub length_long : (n : ℕ) → 4096 ≤ n → text_of_length l m a object n ≡ Err (TooLong (cast_signed w64 n))
  unfolding text_of_length
  length_long zero le = absurd (omega arith)
  length_long (suc n) le = let long : leb 4096 (suc n) ≡ true = grind (arith, nat_tests) in rw long refl

  pub length_fine : (n : ℕ) → 0 < n → n < 4096 → text_of_length l m a object n ≡ characters_at m n (characters_of l a object)
  unfolding text_of_length
  length_fine zero some short = absurd (omega arith)
  length_fine (suc n) some short = let fine : leb 4096 (suc n) ≡ false = grind (arith, nat_tests) in rw fine refl

pub no_kind : (m : Memory) (n : ℕ) → characters_at m n None ≡ Err NoText
unfolding characters_at
no_kind m n = refl

pub with_kind : (m : Memory) (n : ℕ) (p : Characters) → characters_at m n (Some p) ≡ (record_at m p.at (n * width p.kind) >>= (λ bytes. found_or (decoded p.kind bytes) NoText))
unfolding characters_at
with_kind m n p = refl

bind_ok : {T U : Type 0} (d : Found T) (f : T → Found U) (y : U) → (d >>= f) ≡ Ok y → (x : T) × (d ≡ Ok x) × (f x ≡ Ok y)
bind_ok (Ok x) f y e = (x, refl, e)
bind_ok (Err r) f y e = absurd (cc)

decoded_found : (o : Option (List ℕ)) (cs : List ℕ) → found_or o NoText ≡ Ok cs → o ≡ Some cs
decoded_found None cs e = absurd (cc)
decoded_found (Some x) cs e = cc

module _ (m : Memory) (n : ℕ) where
  stands_at : (p : Characters) (cs : List ℕ) → characters_at m n (Some p) ≡ Ok cs → StandsAt m n p cs
  stands_at p cs e =
      let b = bind_ok (record_at m p.at (n * width p.kind)) (λ bytes. found_or (decoded p.kind bytes) NoText) cs (sym (with_kind m n p) ∙ e) in
      record { units = b.0; there = b.1; coding = coding_of_decoded p.kind cs b.0 (decoded_found (decoded p.kind b.0) cs b.2) }

  at_stands : (p : Characters) (cs : List ℕ) → StandsAt m n p cs → characters_at m n (Some p) ≡ Ok cs
  at_stands p cs s = with_kind m n p ∙ rw (s.there, decoded_is p.kind cs s.units s.coding) refl

module _ (l : Layout) (m : Memory) (a : ℕ) (object : List ℕ) where
  by_kind : (n : ℕ) (o : Option Characters) (cs : List ℕ) → characters_at m n o ≡ Ok cs → (p : Characters) × (o ≡ Some p) × StandsAt m n p cs
  by_kind n None cs e = let h : Err NoText ≡ Ok cs = sym (no_kind m n) ∙ e in absurd (cc)
  by_kind n (Some p) cs e = (p, refl, stands_at m n p cs e)

  has_characters : (n : ℕ) (cs : List ℕ) → text_of_length l m a object n ≡ Ok cs → HasCharacters l m a object n cs
  has_characters zero cs e = let h : Found (List ℕ) = Ok [] in let same : h ≡ Ok cs = sym (length_zero l m a object zero refl) ∙ e in cc
  has_characters (suc n) cs e = elim (cases_lt (suc n) 4096) [
    | inl short ↦ let k = by_kind (suc n) (characters_of l a object) cs (sym (length_fine l m a object (suc n) (omega arith) short) ∙ e) in (short, k.0, k.1, k.2)
    | inr long ↦ absurd (let h : Err (TooLong (cast_signed w64 (suc n))) ≡ Ok cs = sym (length_long l m a object (suc n) long) ∙ e in cc)
  ]

  characters_had : (n : ℕ) (cs : List ℕ) → HasCharacters l m a object n cs → text_of_length l m a object n ≡ Ok cs
  characters_had zero cs h = length_zero l m a object zero refl ∙ ap Ok (sym h)
  characters_had (suc n) cs (short, p, is, stands) =
      length_fine l m a object (suc n) (omega arith) short ∙ ap (characters_at m (suc n)) is ∙ at_stands m (suc n) p cs stands

-- what is read are the characters that the object has, and the other way round
pub text_read : (l : Layout) (m : Memory) (a : ℕ) (cs : List ℕ) → text_at l m a ≡ Ok cs → IsText l m a cs
unfolding text_at
text_read l m a cs e =
    let b = bind_ok (record_at m a l.string.size) (λ object. text_of_length l m a object (u64_in object l.string.length)) cs e in
    record { object = b.0; there = b.1; characters = has_characters l m a b.0 (u64_in b.0 l.string.length) cs b.2 }

pub text_stands : (l : Layout) (m : Memory) (a : ℕ) (cs : List ℕ) → IsText l m a cs → text_at l m a ≡ Ok cs
unfolding text_at
text_stands l m a cs t = rw t.there (characters_had l m a t.object (u64_in t.object l.string.length) cs t.characters)

other : (f : Fault) (d : Found (List ℕ)) (cs : List ℕ) → d ≡ Err f → d ≡ Ok cs → ⊥
other f d cs p q = let both : Err f ≡ Ok cs = sym p ∙ q in cc

-- what an answer says of the object
pub text_answer : (l : Layout) (m : Memory) (a : ℕ) (r : Result (List ℕ) ObjectError) → Answers object_fault (text_at l m a) r → IfOk r (IsText l m a)
text_answer l m a (Ok cs) p = text_read l m a cs p.is
text_answer l m a (Err e) p = tt

pub found_answer : (l : Layout) (m : Memory) (a : ℕ) (r : Result (List ℕ) ObjectError) → Answers object_fault (text_at l m a) r → (cs : List ℕ) → IsText l m a cs → MatchResult r (λ text. text ≡ cs) (λ error. error ≡ OutOfMemory)
found_answer l m a (Ok text) p cs t = let same : Ok text ≡ Ok cs = sym p.is ∙ text_stands l m a cs t in cc
found_answer l m a (Err OutOfMemory) p cs t = refl
found_answer l m a (Err (Unreadable addr len)) p cs t = absurd (other (Missing addr len) (text_at l m a) cs p.is (text_stands l m a cs t))
found_answer l m a (Err HasNoText) p cs t = absurd (other NoText (text_at l m a) cs p.is (text_stands l m a cs t))
found_answer l m a (Err (IsTooLong len)) p cs t = absurd (other (TooLong len) (text_at l m a) cs p.is (text_stands l m a cs t))
found_answer l m a (Err BadDict) p cs t = absurd (other _ (text_at l m a) cs p.is (text_stands l m a cs t))
found_answer l m a (Err BadType) p cs t = absurd (other _ (text_at l m a) cs p.is (text_stands l m a cs t))
found_answer l m a (Err Visits) p cs t = absurd (other _ (text_at l m a) cs p.is (text_stands l m a cs t))
found_answer l m a (Err Depth) p cs t = absurd (other _ (text_at l m a) cs p.is (text_stands l m a cs t))
found_answer l m a (Err (BadCount count)) p cs t = absurd (other _ (text_at l m a) cs p.is (text_stands l m a cs t))
found_answer l m a (Err (BadBool byte)) p cs t = absurd (other _ (text_at l m a) cs p.is (text_stands l m a cs t))

pub empty_text : (text spelled : List ℕ) → text ≡ chars spelled → spelled ≡ [] → text ≡ []
empty_text text spelled is none = is ∙ ap chars none ∙ chars-nil
