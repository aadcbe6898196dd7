-- What the soundness of a layout says of a text's state.
use Rattle.std.proofs.Common.{◌≡◌, ℕ, ◌+◌, ◌≤◌, refl}
use Rattle.std.specs.Prelude.{Option, Some}
use Rattle.py_fields.specs.declared.layout.Layout.{Layout}
use Rattle.py_fields.specs.Sound.{IsSound}
use Rattle.py_fields.proofs.Fields.{string_fits}
use Rattle.py_builtins.specs.declared.strings.StateAt.{StateAt}
use Rattle.py_builtins.specs.Texts.{state_at, state_of_fields}

-- the fields of a state lie in the record, and its bits in 32
pub record StateFits (size : ℕ) (at : StateAt) : Type 0 where
  pub state : at.state + 4 ≤ size
  pub pointer : at.pointer + 8 ≤ size
  pub kind_shift : at.kind_shift ≤ 29
  pub compact_bit : at.compact_bit ≤ 31
  pub ascii_bit : at.ascii_bit ≤ 31

record AreFields (at : StateAt) (state pointer kind_shift compact_bit ascii_bit : Option ℕ) : Type 0 where
  has_state : state ≡ Some at.state
  has_pointer : pointer ≡ Some at.pointer
  has_kind_shift : kind_shift ≡ Some at.kind_shift
  has_compact_bit : compact_bit ≡ Some at.compact_bit
  has_ascii_bit : ascii_bit ≡ Some at.ascii_bit

are_fields : (state pointer long_at kind_shift compact_bit ascii_bit : Option ℕ) (at : StateAt) → state_of_fields state pointer long_at kind_shift compact_bit ascii_bit ≡ Some at → AreFields at state pointer kind_shift compact_bit ascii_bit
are_fields (Some a) (Some b) (Some c) (Some d) (Some e) (Some f) at is =
    let same : record { state = a; pointer = b; long_at = c; kind_shift = d; compact_bit = e; ascii_bit = f } ≡ at = cc in
    rw (← same) (record { has_state = refl; has_pointer = refl; has_kind_shift = refl; has_compact_bit = refl; has_ascii_bit = refl })
are_fields _ _ _ _ _ _ at is = absurd (cc)

pub state_fits : {l : Layout} → IsSound l → (at : StateAt) → state_at l.string ≡ Some at → StateFits l.string.size at
state_fits {l} sound at is =
    let s = l.string in
    let fits = string_fits sound in
    let fields = are_fields s.state s.pointer s.long_at s.kind_shift s.compact_bit s.ascii_bit at is in
    record {
      state = fits.state at.state fields.has_state;
      pointer = fits.pointer at.pointer fields.has_pointer;
      kind_shift = fits.kind_shift at.kind_shift fields.has_kind_shift;
      compact_bit = fits.compact_bit at.compact_bit fields.has_compact_bit;
      ascii_bit = fits.ascii_bit at.ascii_bit fields.has_ascii_bit;
    }
