-- A table of records: those of some releases.
use Rattle.std.specs.Prelude.{◌≡◌, ◌≤◌, ◌==◌, ◌&&◌, nat_le, Bool, IsTrue, None, codes}
use Rattle.toml.specs.Data.{Members}
use Rattle.py_layout.specs.Values.{number_at}
use Rattle.py_records.specs.Records.{AreSoundRecords, records_from, share_group}
use Rattle.py_records.specs.declared.table.RecordTable.{RecordTable}
use Rattle.py_fields.specs.declared.version.Version.{Version}

-- what a table without flaw says
abbrev pub table_from : Members → RecordTable
table_from ms = record {
  major = number_at ms None (codes "major");
  minor = number_at ms None (codes "minor");
  first_patch = number_at ms None (codes "first_patch");
  last_patch = number_at ms None (codes "last_patch");
  records = records_from ms;
}

-- the numbers are those of versions, and the range of patches has one
pub record IsRange (t : RecordTable) : Type 0 where
  pub major : t.major ≤ 999
  pub minor : t.minor ≤ 999
  pub first_patch : t.first_patch ≤ 999
  pub last_patch : t.last_patch ≤ 999
  pub ordered : t.first_patch ≤ t.last_patch

-- a table's numbers are those of versions, and each of its groups is sound
pub record IsSoundTable (t : RecordTable) : Type 0 where
  pub range : IsRange t
  pub records : AreSoundRecords t.records

-- a table covers a version by its major, its minor and its patch alone
unfoldable pub covers : RecordTable → Version → Bool
covers t v = v.major == t.major && (v.minor == t.minor && (nat_le t.first_patch v.patch && nat_le v.patch t.last_patch))

-- two tables cover one version, and have the same group for it
pub record Clash (a b : RecordTable) : Type 0 where
  pub major : a.major ≡ b.major
  pub minor : a.minor ≡ b.minor
  pub first : a.first_patch ≤ b.last_patch
  pub last : b.first_patch ≤ a.last_patch
  pub group : IsTrue (share_group a.records b.records)
