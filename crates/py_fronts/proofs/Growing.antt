-- What is found stays so: interpreters are added behind those that were found, each at its index.
use Rattle.std.proofs.Common.{◌≡◌, ℕ, zero, suc, ◌+◌, Bool, true, false, ltb, List, [], ◌∷◌, ◌++◌, length, refl}
use Rattle.std.proofs.Common.{sym, ◌∙◌, ap, append-nil, append_assoc}
use Rattle.std.specs.Prelude.{Option, Some, None, slice_get, nat_eq}
use Rattle.std.specs.List.{list_any}
use Rattle.std.proofs.lemmas.List.{map-append}
use Rattle.std.proofs.lemmas.List.Folds.{list_any-append}
use Rattle.process_memory.specs.Memory.{Memory}
use Rattle.py_fields.specs.declared.layout.Layout.{Layout}
use Rattle.py_fronts.specs.declared.interpreters.FoundInterpreter.{FoundInterpreter}
use Rattle.py_fronts.specs.Candidates.{others_led_to}
use Rattle.py_fronts.specs.Interpreters.{Finds, address_at, after_candidate, after_candidates, after_record_of}
use Rattle.py_fronts.specs.Interpreters.{after_records, interpreter_limit, is_found, shown_head, with_head, with_name}
use Rattle.py_fronts.specs.Interpreters.{with_one}
use Rattle.py_fronts.proofs.FoundMarks.{addresses, addresses_kept, at_by_address, found_by_address}

pub record Grows (r new : Finds) : Type 0 where
  pub added : List ℕ
  pub found : addresses new.found ≡ addresses r.found ++ added
  pub fewer : new.more ≡ false → r.more ≡ false

pub same_grows : (r : Finds) → Grows r r
same_grows r = record { added = []; found = sym (append-nil (addresses r.found)); fewer = λ e. e }

pub grows_on : (a b c : Finds) → Grows a b → Grows b c → Grows a c
grows_on a b c one two = record {
  added = one.added ++ two.added;
  found = two.found ∙ ap (λ xs. xs ++ two.added) one.found ∙ append_assoc (addresses a.found) one.added two.added;
  fewer = λ e. one.fewer (two.fewer e);
}

pub still : (a : ℕ) (r new : Finds) → Grows r new → is_found r.found a ≡ true → is_found new.found a ≡ true
still a r new grows e =
    let there : list_any (λ x. nat_eq x a) (addresses r.found) ≡ true = sym (found_by_address r.found a) ∙ e in
    found_by_address new.found a ∙ ap (list_any (λ x. nat_eq x a)) grows.found
    ∙ list_any-append (λ x. nat_eq x a) (addresses r.found) grows.added ∙ rw there refl

name_grows : (r : Finds) (searched : Bool) (a : ℕ) → Grows r (with_name r searched a)
name_grows r true a = same_grows r
name_grows r false a = record {
  added = [];
  found = addresses_kept a r.found ∙ sym (append-nil (addresses r.found));
  fewer = λ e. e;
}

one_grows : (r : Finds) (h : FoundInterpreter) (room : Bool) → ltb (length r.found) interpreter_limit ≡ room
    → Grows r (with_one r h)
one_grows r h true e = rw e (record {
  added = h.address ∷ [];
  found = map-append (λ (one : FoundInterpreter). one.address) r.found (h ∷ []);
  fewer = λ more. more;
})
one_grows r h false e =
    rw e (record { added = []; found = sym (append-nil (addresses r.found)); fewer = λ more. absurd (cc) })

head_grows : (r : Finds) (searched : Bool) (a : ℕ) (head : Option ℕ) → Grows r (with_head r searched a head)
head_grows r searched a None = same_grows r
head_grows r searched a (Some h) = one_grows r (record { address = a; head = h; searched = searched })
    (ltb (length r.found) interpreter_limit) refl

candidate_grows : (searched : Bool) (c : ℕ → Bool) (l : Layout) (m : Memory) (r : Finds) (a : ℕ) (known : Bool)
    → is_found r.found a ≡ known → Grows r (after_candidate searched c l m r a)
candidate_grows searched c l m r a true e = rw e (name_grows r searched a)
candidate_grows searched c l m r a false e = rw e (head_grows r searched a (shown_head searched c l m a))

pub candidates_grow : (searched : Bool) (c : ℕ → Bool) (l : Layout) (m : Memory) (r : Finds) (xs : List ℕ)
    → Grows r (after_candidates searched c l m r xs)
unfolding after_candidates
candidates_grow searched c l m r [] = same_grows r
candidates_grow searched c l m r (a ∷ rest) =
    grows_on r (after_candidate searched c l m r a) _ (candidate_grows searched c l m r a (is_found r.found a) refl)
    (candidates_grow searched c l m (after_candidate searched c l m r a) rest)

record_grows : (c : ℕ → Bool) (l : Layout) (m : Memory) (r : Finds) (address : Option ℕ)
    → Grows r (after_record_of c l m r address)
record_grows c l m r None = same_grows r
record_grows c l m r (Some a) = candidates_grow false c l m r (others_led_to l m a)

pub records_grow : (c : ℕ → Bool) (l : Layout) (m : Memory) (turns index : ℕ) (r : Finds)
    → Grows r (after_records c l m turns index r)
unfolding after_records
records_grow c l m zero index r = same_grows r
records_grow c l m (suc turns) index r =
    grows_on r (after_record_of c l m r (address_at r.found index)) _
    (record_grows c l m r (address_at r.found index))
    (records_grow c l m turns (index + 1) (after_record_of c l m r (address_at r.found index)))

get_front : (xs ys : List ℕ) (i x : ℕ) → slice_get xs i ≡ Some x → slice_get (xs ++ ys) i ≡ Some x
get_front [] ys i x e = absurd (cc)
get_front (y ∷ xs) ys zero x e = e
get_front (y ∷ xs) ys (suc i) x e = get_front xs ys i x e

-- an address stays at its index
pub at_still : (r new : Finds) (i a : ℕ) → Grows r new → address_at r.found i ≡ Some a → address_at new.found i ≡ Some a
at_still r new i a grows e =
    at_by_address new.found i ∙ ap (λ xs. slice_get xs i) grows.found
    ∙ get_front (addresses r.found) grows.added i a (sym (at_by_address r.found i) ∙ e)
