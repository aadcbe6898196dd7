-- What the scan finds is what stands leftmost.
use Rattle.std.proofs.Common.{◌≡◌, ℕ, List, ap, ◌∙◌}
use Rattle.std.specs.Prelude.{None, drop}
use Rattle.py_fields.specs.declared.version.Version.{Version}
use Rattle.py_fields.specs.Spelling.{IsLeftmost, SpellsAt, SpellsNone}
use Rattle.py_fields.specs.Fronts.{IsFirstVersion, spelled}
use Rattle.py_fields.proofs.Spellings.{spelled_read, spelled_spells}

-- where the reader takes nothing no version stands
taken_none : (bytes text : List ℕ) (place : ℕ) (v : Version) → spelled (drop place bytes) ≡ None → SpellsAt bytes place text v → ⊥
taken_none bytes text place v none at = absurd (cc (none, ap spelled at.parts ∙ spelled_read text at.after v at.spells))

pub spells_none : (bytes : List ℕ) → ((place : ℕ) → spelled (drop place bytes) ≡ None) → SpellsNone bytes
spells_none bytes none place text v at = taken_none bytes text place v (none place) at

pub leftmost : (bytes : List ℕ) (v : Version) → IsFirstVersion bytes v → IsLeftmost bytes v
leftmost bytes v is =
    let begins = spelled_spells (drop is.place bytes) v is.here in
    record {
      place = is.place;
      text = begins.text;
      here = record { after = begins.after; parts = begins.parts; spells = begins.spells };
      first = λ k other w lt at. taken_none bytes other k w (is.before k lt) at;
    }

pub not_none : (bytes : List ℕ) (v : Version) → IsLeftmost bytes v → SpellsNone bytes → ⊥
not_none bytes v is none = none is.place is.text v is.here
