-- Writing a table, piece by piece.
use Rattle.std.proofs.Common.{◌≡◌, ◌∙◌, ℕ, zero, suc, ◌+◌, ◌-◌, ◌/◌, ◌%◌, ◌^◌, ◌<◌, ◌≤◌, List, [], ◌∷◌, ◌++◌, length}
use Rattle.std.proofs.Common.{refl, sym, ap, append_assoc, length-append, arith, rules, Bool, true, false, cond, ltb}
use Rattle.std.proofs.Common.{eqb, ◌&&◌}
use Rattle.std.specs.Prelude.{Option, Some, None, option_map, ℤ, pos, negsuc, ◌≤ℤ◌, IsTrue}
use Rattle.std.specs.Option.{is_some, unwrap_or}
use Rattle.std.proofs.lemmas.Bool.Decides.{nat_tests}
use Rattle.std.proofs.lemmas.Int.{ints}
use Rattle.py_lines.specs.declared.lines.LineFamily.TheVariants.{Pairs, Ranges, Locations}
use Rattle.std.proofs.lemmas.Bool.{lt-ltb, le-ltb}
use Rattle.std.proofs.lemmas.List.{append-nil}
use Rattle.py_lines.specs.declared.lines.LineFamily.{LineFamily}
use Rattle.py_lines.specs.declared.lines.LineRange.{LineRange}
use Rattle.py_lines.specs.declared.runs.Run.{Run}
use Rattle.py_lines.specs.declared.error.EncodeError.{EncodeError}
use Rattle.py_lines.specs.declared.error.EncodeError.TheVariants.{NotOrdered, TooLong, OutOfMemory}
use Rattle.py_lines.specs.Coding.{first_unordered, can_stand, has_form, wholes, rest_of, parts_of, no_run, runs_of}
use Rattle.py_lines.specs.Coding.{varint_bytes, repeated, run_bytes, runs_bytes, delta_from, covered_by, coded_behind}
use Rattle.py_lines.specs.Coding.{coded, IsNoRoom, IsRefusal, IsPart, IsRun, AreRuns, IsNearDelta, IsWritable}

-- ---- the first range that can't stand

add_counts : (index : ℕ) (found : Option ℕ) → option_map (λ k. index + k) (option_map (λ k. 1 + k) found) ≡ option_map (λ k. index + 1 + k) found
add_counts index None = refl
add_counts index (Some n) = ap Some (omega arith)

add_none : (found : Option ℕ) → option_map (λ k. 0 + k) found ≡ found
add_none None = refl
add_none (Some n) = ap Some (omega arith)

pub unordered_begins : (found : Option ℕ) → option_map (λ k. 0 + k) found ≡ found
unordered_begins found = add_none found

pub stands : (family : LineFamily) (at : ℕ) (r : LineRange) (later : List LineRange) → can_stand family at r ≡ true → first_unordered family at (r ∷ later) ≡ option_map (λ k. 1 + k) (first_unordered family r.end later)
unfolding first_unordered
stands family at r later is = rw is refl

pub falls : (family : LineFamily) (at : ℕ) (r : LineRange) (later : List LineRange) → can_stand family at r ≡ false → first_unordered family at (r ∷ later) ≡ Some 0
unfolding first_unordered
falls family at r later is = rw is refl

module _ (family : LineFamily) (at index : ℕ) (rest : List LineRange) (whole : Option ℕ) (same : option_map (λ k. index + k) (first_unordered family at rest) ≡ whole) where
  pub unordered_here : (r : LineRange) (later : List LineRange) → rest ≡ r ∷ later → can_stand family at r ≡ false → Some index ≡ whole
  unordered_here r later split is =
      let none : Some index ≡ option_map (λ k. index + k) (Some 0) = ap Some (omega arith) in
      none ∙ ap (option_map (λ k. index + k)) (sym (ap (first_unordered family at) split ∙ falls family at r later is)) ∙ same

  pub unordered_later : (r : LineRange) (later : List LineRange) → rest ≡ r ∷ later → can_stand family at r ≡ true → option_map (λ k. index + 1 + k) (first_unordered family r.end later) ≡ whole
  unordered_later r later split is =
      sym (add_counts index (first_unordered family r.end later))
      ∙ ap (option_map (λ k. index + k)) (sym (ap (first_unordered family at) split ∙ stands family at r later is)) ∙ same

  pub unordered_nowhere : rest ≡ [] → None ≡ whole
  unfolding first_unordered
  unordered_nowhere split = ap (option_map (λ k. index + k)) (sym (ap (first_unordered family at) split)) ∙ same

-- ---- numbers of several bytes

pub varint_last : (most value : ℕ) → value < 64 → varint_bytes most value ≡ value ∷ []
varint_last zero value small = refl
varint_last (suc most) value small = rw (lt-ltb value 64 small) refl

pub varint_next : (most value : ℕ) → value < 64 ^ (most + 1) → 64 ≤ value → varint_bytes most value ≡ (64 + value % 64) ∷ varint_bytes (most - 1) (value / 64)
varint_next zero value small large = absurd (omega (arith, small, large))
varint_next (suc most) value small large = let less : suc most - 1 ≡ most = omega arith in rw (less, le-ltb value 64 large) refl

-- ---- bytes behind others

pub added_then : (old b v whole new : List ℕ) → new ≡ old ++ b → whole ≡ b ++ v → new ++ v ≡ old ++ whole
added_then old b v whole new is all = rw (is, all) (append_assoc old b v)

pub lengths_then : (old b v whole new : List ℕ) → new ≡ old ++ b → whole ≡ b ++ v → length new + length v ≡ length old + length whole
lengths_then old b v whole new is all =
    sym (length-append new v) ∙ ap length (added_then old b v whole new is all) ∙ length-append old whole

pub no_room_more : (e : EncodeError) (m n : ℕ) → m ≤ n → IsNoRoom e m → IsNoRoom e n
no_room_more (NotOrdered index) m n le no_room = no_room
no_room_more TooLong m n le no_room = omega (arith, le, no_room)
no_room_more OutOfMemory m n le no_room = tt

-- a table and what is left to be added are the whole
module _ (table old b left whole : List ℕ) (is : table ++ (b ++ left) ≡ old ++ whole) where
  pub part_within : length table + length b ≤ length old + length whole
  part_within =
      let both : length table + length (b ++ left) ≡ length old + length whole = sym (length-append table (b ++ left)) ∙ ap length is ∙ length-append old whole in
      omega (arith, both, length-append b left)

  pub part_added : (new : List ℕ) → new ≡ table ++ b → new ++ left ≡ old ++ whole
  part_added new added = rw added (append_assoc table b left) ∙ is

pub all_added : (table old whole : List ℕ) → table ++ [] ≡ old ++ whole → table ≡ old ++ whole
all_added table old whole is = sym (append-nil table) ∙ is

-- ---- runs

pub repeated_next : (left : ℕ) (b : List ℕ) → 0 < left → repeated left b ≡ b ++ repeated (left - 1) b
unfolding repeated
repeated_next zero b some = absurd (omega (arith, some))
repeated_next (suc left) b some = let less : suc left - 1 ≡ left = omega arith in rw less refl

pub repeated_none : (left : ℕ) (b : List ℕ) → left ≤ 0 → repeated left b ≡ []
unfolding repeated
repeated_none zero b none = refl
repeated_none (suc left) b none = absurd (omega (arith, none))

pub runs_next : (family : LineFamily) (rest later : List Run) (r : Run) → rest ≡ r ∷ later → runs_bytes family rest ≡ run_bytes family r ++ runs_bytes family later
unfolding runs_bytes
runs_next family rest later r split = ap (runs_bytes family) split

pub runs_none : (family : LineFamily) (rest : List Run) → rest ≡ [] → runs_bytes family rest ≡ []
unfolding runs_bytes
runs_none family rest split = ap (runs_bytes family) split

-- ---- what ranges that can stand ask of their entries

none_there : {A : Type 0} (x : A) → Some x ≡ None → ⊥
none_there x e = let no : true ≡ false = ap is_some e in absurd (cc)

stands_of : (b : Bool) (found : Option ℕ) → cond b (option_map (λ k. 1 + k) found) (Some 0) ≡ None → (b ≡ true) × (found ≡ None)
stands_of true None e = (refl, refl)
stands_of true (Some n) e = absurd (none_there (1 + n) e)
stands_of false found e = absurd (none_there 0 e)

pub all_stand : (family : LineFamily) (at : ℕ) (rest : List LineRange) (r : LineRange) (later : List LineRange) → rest ≡ r ∷ later → first_unordered family at rest ≡ None
    → (can_stand family at r ≡ true) × (first_unordered family r.end later ≡ None)
unfolding first_unordered
all_stand family at rest r later split none = stands_of (can_stand family at r) (first_unordered family r.end later) (rw split at none)

pub record Stands (family : LineFamily) (at : ℕ) (r : LineRange) : Type 0 where
  pub begins : r.start ≡ at
  pub some : r.start < r.end
  pub ends : r.end < 2 ^ 31
  pub form : has_form family r ≡ true

four : (a b c d : Bool) → (a && b && c && d) ≡ true → (a ≡ true) × (b ≡ true) × (c ≡ true) × (d ≡ true)
four true true true true e = (refl, refl, refl, refl)
four true true true false e = absurd (cc)
four true true false d e = absurd (cc)
four true false c d e = absurd (cc)
four false b c d e = absurd (cc)

pub stands_so : (family : LineFamily) (at : ℕ) (r : LineRange) → can_stand family at r ≡ true → Stands family at r
stands_so family at r is =
    let all = four (eqb r.start at) (ltb r.start r.end) (ltb r.end (2 ^ 31)) (has_form family r) is in
    record {
      begins = let e : eqb r.start at ≡ true = all.0 in grind (arith, nat_tests);
      some = let e : ltb r.start r.end ≡ true = all.1 in grind (arith, nat_tests);
      ends = let e : ltb r.end (2 ^ 31) ≡ true = all.2 in grind (arith, nat_tests);
      form = all.3;
    }

delta_some : (line : ℤ) (next : Option ℤ) → is_some next ≡ true → IsTrue (is_some (delta_from line next))
delta_some line None e = absurd (cc)
delta_some line (Some next) e = search rules

pub writable : (family : LineFamily) (at last : ℕ) (line : ℤ) (r : LineRange) → Stands family at r → IsWritable family (covered_by family last r) (delta_from line r.line)
writable Pairs at last line r s = delta_some line r.line s.form
writable Ranges at last line r s = omega (arith, s.some)
writable Locations at last line r s = (omega (arith, s.some), (let e : eqb ((r.end - r.start) % 2) 0 ≡ true = s.form in grind (arith, nat_tests)))

-- ---- the runs of a family are of that family

pair_part : (d : ℤ) → (negsuc 127 ≤ℤ (parts_of 128 d).whole) × ((parts_of 128 d).whole ≤ℤ pos 127) × (negsuc 127 ≤ℤ (parts_of 128 d).last) × ((parts_of 128 d).last ≤ℤ pos 127)
pair_part (pos n) = (omega (arith, ints), omega (arith, ints), omega (arith, ints), omega (arith, ints))
pair_part (negsuc n) = (omega (arith, ints), omega (arith, ints), omega (arith, ints), omega (arith, ints))

range_part : (d : ℤ) → (negsuc 126 ≤ℤ (parts_of 127 d).whole) × ((parts_of 127 d).whole ≤ℤ pos 127) × (negsuc 126 ≤ℤ (parts_of 127 d).last) × ((parts_of 127 d).last ≤ℤ pos 127)
range_part (pos n) = (omega (arith, ints), omega (arith, ints), omega (arith, ints), omega (arith, ints))
range_part (negsuc n) = (omega (arith, ints), omega (arith, ints), omega (arith, ints), omega (arith, ints))

pair_rest : (b : Bool) (len : ℕ) → cond b (rest_of 255 len) 0 ≤ 255
pair_rest true len = omega arith
pair_rest false len = omega arith

either : (family : LineFamily) (covers : ℕ) (b : Bool) (x y : Option ℤ) → IsPart family covers x → IsPart family covers y → IsPart family covers (cond b x y)
either family covers true x y p q = p
either family covers false x y p q = q

no_run_is : (family : LineFamily) → IsRun family no_run
no_run_is family some = absurd (omega (arith, some))

even_rest : (len : ℕ) → 0 < len → len % 2 ≡ 0 → (rest_of 16 len ≤ 16) × (1 ≤ rest_of 16 len) × (rest_of 16 len % 2 ≡ 0)
even_rest len some even = (omega arith, omega (arith, some), omega (arith, even))

pub runs_are : (family : LineFamily) (len : ℕ) (delta : Option ℤ) → IsNearDelta delta → IsWritable family len delta → AreRuns family (runs_of family len delta)
runs_are Pairs len delta near w =
    let d = unwrap_or delta (pos 0) in
    let part = pair_part d in (
      (λ _. (omega arith, omega (arith, ints), omega (arith, ints))),
      (
        (λ _. (omega arith, part.0, part.1)),
        (
          (λ _. (omega arith, part.0, part.1)),
          (
            (λ _. (pair_rest (eqb (parts_of 128 d).wholes 0) len, part.2, part.3)),
            tt,
          ),
        ),
      ),
    )
runs_are Ranges len None near w =
    let rest : rest_of 255 len ≤ 255 = omega arith in
    (no_run_is Ranges, ((λ _. omega arith), ((λ _. omega arith), ((λ _. either Ranges (rest_of 255 len) (eqb (wholes 255 len) 0) None None rest rest), tt))))
runs_are Ranges len (Some d) near w =
    let part = range_part d in
    let rest : rest_of 255 len ≤ 255 = omega arith in (
      (λ _. (omega arith, part.0, part.1)),
      (
        (λ _. (omega arith, part.2, part.3)),
        (
          (λ _. (omega arith, omega (arith, ints), omega (arith, ints))),
          (
            (λ _. either Ranges (rest_of 255 len) (eqb (wholes 255 len) 0) (Some (parts_of 127 d).last) (Some (pos 0)) (rest, part.2, part.3) (rest, omega (arith, ints), omega (arith, ints))),
            tt,
          ),
        ),
      ),
    )
runs_are Locations len None near w =
    let rest = even_rest len w.0 w.1 in (
      no_run_is Locations,
      (
        (λ _. (omega arith, omega arith, refl)),
        (
          (λ _. (omega arith, omega arith, refl)),
          (
            (λ _. either Locations (rest_of 16 len) (eqb (wholes 16 len) 0) None None rest rest),
            tt,
          ),
        ),
      ),
    )
runs_are Locations len (Some d) near w =
    let rest = even_rest len w.0 w.1 in (
      no_run_is Locations,
      (
        (λ _. (omega arith, omega arith, refl, near.0, near.1)),
        (
          (λ _. (omega arith, omega arith, refl, omega (arith, ints), omega (arith, ints))),
          (
            (λ _. either Locations (rest_of 16 len) (eqb (wholes 16 len) 0) (Some d) (Some (pos 0)) (rest.0, rest.1, rest.2, near.0, near.1) (rest.0, rest.1, rest.2, omega (arith, ints), omega (arith, ints))),
            tt,
          ),
        ),
      ),
    )

-- ---- the table

pub coded_next : (family : LineFamily) (last : ℕ) (line : ℤ) (rest : List LineRange) (r : LineRange) (later : List LineRange) → rest ≡ r ∷ later
    → coded_behind family last line rest ≡ runs_bytes family (runs_of family (covered_by family last r) (delta_from line r.line)) ++ coded_behind family r.start (unwrap_or r.line line) later
unfolding coded_behind
coded_next family last line rest r later split = ap (coded_behind family last line) split

pub coded_none : (family : LineFamily) (last : ℕ) (line : ℤ) (rest : List LineRange) → rest ≡ [] → coded_behind family last line rest ≡ []
unfolding coded_behind
coded_none family last line rest split = ap (coded_behind family last line) split

pub refusal : (family : LineFamily) (first : ℤ) (rs : List LineRange) (e : EncodeError) (n : ℕ) → first_unordered family 0 rs ≡ None → n ≤ length (coded family first rs) → IsNoRoom e n → IsRefusal family first rs e
refusal family first rs (NotOrdered index) n ordered le no_room = absurd no_room
refusal family first rs TooLong n ordered le no_room = (ordered, omega (arith, le, no_room))
refusal family first rs OutOfMemory n ordered le no_room = ordered

pub runs_same : (family : LineFamily) (m n : ℕ) (d e : Option ℤ) → m ≡ n → d ≡ e → runs_of family m d ≡ runs_of family n e
runs_same family m n d e len delta = ap (λ (k : ℕ). runs_of family k d) len ∙ ap (λ (z : Option ℤ). runs_of family n z) delta
