-- Numbers, bytes, ranges, dates and times; when the groups of these are sound, and what a table says of them.
-- From the structs of CPython that the groups' docs name; the form of the file is this project's own.
use Rattle.std.specs.Prelude.{Bool, List, [], ◌∷◌, None, IfSome, is_some, option_map, codes}
use Rattle.std.specs.Option.{option_or}
use Rattle.toml.specs.Data.{Members}
use Rattle.py_layout.specs.Values.{group_at, number_at}
use Rattle.py_fields.specs.Places.{Place}
use Rattle.py_fields.specs.Sound.{IsRecord}
use Rattle.py_records.specs.Places.{any_both}
use Rattle.py_records.specs.declared.scalars.BytearrayRecord.{BytearrayRecord}
use Rattle.py_records.specs.declared.scalars.ComplexRecord.{ComplexRecord}
use Rattle.py_records.specs.declared.scalars.RangeRecord.{RangeRecord}
use Rattle.py_records.specs.declared.scalars.SliceRecord.{SliceRecord}
use Rattle.py_records.specs.declared.scalars.DecimalRecord.{DecimalRecord}
use Rattle.py_records.specs.declared.scalars.DateRecord.{DateRecord}
use Rattle.py_records.specs.declared.scalars.TimeRecord.{TimeRecord}
use Rattle.py_records.specs.declared.scalars.DatetimeRecord.{DatetimeRecord}
use Rattle.py_records.specs.declared.scalars.TimedeltaRecord.{TimedeltaRecord}
use Rattle.py_records.specs.declared.scalars.ScalarRecords.{ScalarRecords}

-- offsets and widths, in bytes, in a `PyByteArrayObject`: `ob_size`, `ob_alloc`, `ob_bytes`, `ob_start`
unfoldable pub bytearray_places : BytearrayRecord → List Place
bytearray_places r = (r.count, 8) ∷ (r.allocated, 8) ∷ (r.bytes, 8) ∷ (r.start, 8) ∷ []

-- a `PyByteArrayObject`: its fields stand inside its size, of 1 to 65535 bytes, and no two meet
abbrev pub IsSoundBytearray : BytearrayRecord → Type 0
IsSoundBytearray r = IsRecord r.size (bytearray_places r)

-- offsets and widths, in bytes, in a `PyComplexObject`: `cval.real`, `cval.imag`
unfoldable pub complex_places : ComplexRecord → List Place
complex_places r = (r.real, 8) ∷ (r.imag, 8) ∷ []

-- a `PyComplexObject`: its fields stand inside its size, of 1 to 65535 bytes, and no two meet
abbrev pub IsSoundComplex : ComplexRecord → Type 0
IsSoundComplex r = IsRecord r.size (complex_places r)

-- offsets and widths, in bytes, in a `rangeobject`: `start`, `stop`, `step`, `length`
unfoldable pub range_places : RangeRecord → List Place
range_places r = (r.start, 8) ∷ (r.stop, 8) ∷ (r.step, 8) ∷ (r.length, 8) ∷ []

-- a `rangeobject`: its fields stand inside its size, of 1 to 65535 bytes, and no two meet
abbrev pub IsSoundRange : RangeRecord → Type 0
IsSoundRange r = IsRecord r.size (range_places r)

-- offsets and widths, in bytes, in a `PySliceObject`: `start`, `stop`, `step`
unfoldable pub slice_places : SliceRecord → List Place
slice_places r = (r.start, 8) ∷ (r.stop, 8) ∷ (r.step, 8) ∷ []

-- a `PySliceObject`: its fields stand inside its size, of 1 to 65535 bytes, and no two meet
abbrev pub IsSoundSlice : SliceRecord → Type 0
IsSoundSlice r = IsRecord r.size (slice_places r)

-- offsets and widths, in bytes, in a `PyDecObject`: `dec.flags`, `exp`, `digits`, `len`, `data`
unfoldable pub decimal_places : DecimalRecord → List Place
decimal_places r = (r.flags, 1) ∷ (r.exponent, 8) ∷ (r.digits, 8) ∷ (r.words, 8) ∷ (r.coefficient, 8) ∷ []

-- a `PyDecObject`: its fields stand inside its size, of 1 to 65535 bytes, and no two meet
abbrev pub IsSoundDecimal : DecimalRecord → Type 0
IsSoundDecimal r = IsRecord r.size (decimal_places r)

-- offset and width, in bytes, of `data` in a `PyDateTime_Date`
unfoldable pub date_places : DateRecord → List Place
date_places r = (r.packed, 4) ∷ []

-- a `PyDateTime_Date`: its field stands inside its size, of 1 to 65535 bytes
abbrev pub IsSoundDate : DateRecord → Type 0
IsSoundDate r = IsRecord r.size (date_places r)

-- offsets and widths, in bytes, in a `PyDateTime_Time`: `hastzinfo`, `data`, `fold`, `tzinfo`
unfoldable pub time_places : TimeRecord → List Place
time_places r = (r.has_zone, 1) ∷ (r.packed, 6) ∷ (r.fold, 1) ∷ (r.zone, 8) ∷ []

-- a `PyDateTime_Time`: its fields stand inside its size, of 1 to 65535 bytes, and no two meet
abbrev pub IsSoundTime : TimeRecord → Type 0
IsSoundTime r = IsRecord r.size (time_places r)

-- offsets and widths, in bytes, in a `PyDateTime_DateTime`: `hastzinfo`, `data`, `fold`, `tzinfo`
unfoldable pub datetime_places : DatetimeRecord → List Place
datetime_places r = (r.has_zone, 1) ∷ (r.packed, 10) ∷ (r.fold, 1) ∷ (r.zone, 8) ∷ []

-- a `PyDateTime_DateTime`: its fields stand inside its size, of 1 to 65535 bytes, and no two meet
abbrev pub IsSoundDatetime : DatetimeRecord → Type 0
IsSoundDatetime r = IsRecord r.size (datetime_places r)

-- offsets and widths, in bytes, in a `PyDateTime_Delta`: `days`, `seconds`, `microseconds`
unfoldable pub timedelta_places : TimedeltaRecord → List Place
timedelta_places r = (r.days, 4) ∷ (r.seconds, 4) ∷ (r.microseconds, 4) ∷ []

-- a `PyDateTime_Delta`: its fields stand inside its size, of 1 to 65535 bytes, and no two meet
abbrev pub IsSoundTimedelta : TimedeltaRecord → Type 0
IsSoundTimedelta r = IsRecord r.size (timedelta_places r)

-- each group of numbers, bytes, ranges, dates and times that is there is sound
pub record AreSoundScalars (r : ScalarRecords) : Type 0 where
  pub bytearray : IfSome r.bytearray IsSoundBytearray
  pub complex : IfSome r.complex IsSoundComplex
  pub range : IfSome r.range IsSoundRange
  pub slice : IfSome r.slice IsSoundSlice
  pub decimal : IfSome r.decimal IsSoundDecimal
  pub date : IfSome r.date IsSoundDate
  pub time : IfSome r.time IsSoundTime
  pub datetime : IfSome r.datetime IsSoundDatetime
  pub timedelta : IfSome r.timedelta IsSoundTimedelta

-- the group `bytearray`: size and field offsets of a `PyByteArrayObject` (Include/bytearrayobject.h)
abbrev pub bytearray_in : Members → BytearrayRecord
bytearray_in ms = record {
  size = number_at ms None (codes "size");
  count = number_at ms None (codes "count");
  allocated = number_at ms None (codes "allocated");
  bytes = number_at ms None (codes "bytes");
  start = number_at ms None (codes "start");
}

-- the group `complex`: size and field offsets of a `PyComplexObject` (Include/complexobject.h)
abbrev pub complex_in : Members → ComplexRecord
complex_in ms = record {
  size = number_at ms None (codes "size");
  real = number_at ms None (codes "real");
  imag = number_at ms None (codes "imag");
}

-- the group `range`: size and field offsets of a `rangeobject` (Objects/rangeobject.c)
abbrev pub range_in : Members → RangeRecord
range_in ms = record {
  size = number_at ms None (codes "size");
  start = number_at ms None (codes "start");
  stop = number_at ms None (codes "stop");
  step = number_at ms None (codes "step");
  length = number_at ms None (codes "length");
}

-- the group `slice`: size and field offsets of a `PySliceObject` (Include/sliceobject.h)
abbrev pub slice_in : Members → SliceRecord
slice_in ms = record {
  size = number_at ms None (codes "size");
  start = number_at ms None (codes "start");
  stop = number_at ms None (codes "stop");
  step = number_at ms None (codes "step");
}

-- the group `decimal`: size and field offsets of a `PyDecObject` (Modules/_decimal/_decimal.c)
abbrev pub decimal_in : Members → DecimalRecord
decimal_in ms = record {
  size = number_at ms None (codes "size");
  flags = number_at ms None (codes "flags");
  exponent = number_at ms None (codes "exponent");
  digits = number_at ms None (codes "digits");
  words = number_at ms None (codes "words");
  coefficient = number_at ms None (codes "data");
}

-- the group `date`: size and the field's offset of a `PyDateTime_Date` (Include/datetime.h)
abbrev pub date_in : Members → DateRecord
date_in ms = record {
  size = number_at ms None (codes "size");
  packed = number_at ms None (codes "data");
}

-- the group `time`: size and field offsets of a `PyDateTime_Time` (Include/datetime.h)
abbrev pub time_in : Members → TimeRecord
time_in ms = record {
  size = number_at ms None (codes "size");
  has_zone = number_at ms None (codes "has_zone");
  packed = number_at ms None (codes "data");
  fold = number_at ms None (codes "fold");
  zone = number_at ms None (codes "zone");
}

-- the group `datetime`: size and field offsets of a `PyDateTime_DateTime` (Include/datetime.h)
abbrev pub datetime_in : Members → DatetimeRecord
datetime_in ms = record {
  size = number_at ms None (codes "size");
  has_zone = number_at ms None (codes "has_zone");
  packed = number_at ms None (codes "data");
  fold = number_at ms None (codes "fold");
  zone = number_at ms None (codes "zone");
}

-- the group `timedelta`: size and field offsets of a `PyDateTime_Delta` (Include/datetime.h)
abbrev pub timedelta_in : Members → TimedeltaRecord
timedelta_in ms = record {
  size = number_at ms None (codes "size");
  days = number_at ms None (codes "days");
  seconds = number_at ms None (codes "seconds");
  microseconds = number_at ms None (codes "microseconds");
}

-- the groups of numbers, bytes, ranges, dates and times that a table has
unfoldable pub scalars_from : Members → ScalarRecords
scalars_from ms = record {
  bytearray = option_map bytearray_in (group_at ms (codes "bytearray"));
  complex = option_map complex_in (group_at ms (codes "complex"));
  range = option_map range_in (group_at ms (codes "range"));
  slice = option_map slice_in (group_at ms (codes "slice"));
  decimal = option_map decimal_in (group_at ms (codes "decimal"));
  date = option_map date_in (group_at ms (codes "date"));
  time = option_map time_in (group_at ms (codes "time"));
  datetime = option_map datetime_in (group_at ms (codes "datetime"));
  timedelta = option_map timedelta_in (group_at ms (codes "timedelta"));
}

-- no group is there
abbrev pub no_scalars : ScalarRecords
no_scalars = record {
  bytearray = None;
  complex = None;
  range = None;
  slice = None;
  decimal = None;
  date = None;
  time = None;
  datetime = None;
  timedelta = None;
}

-- each group of the first that is there, and else of the second
unfoldable pub joined_scalars : ScalarRecords → ScalarRecords → ScalarRecords
joined_scalars a b = record {
  bytearray = option_or a.bytearray b.bytearray;
  complex = option_or a.complex b.complex;
  range = option_or a.range b.range;
  slice = option_or a.slice b.slice;
  decimal = option_or a.decimal b.decimal;
  date = option_or a.date b.date;
  time = option_or a.time b.time;
  datetime = option_or a.datetime b.datetime;
  timedelta = option_or a.timedelta b.timedelta;
}

-- whether a group is there in both
unfoldable pub share_scalars : ScalarRecords → ScalarRecords → Bool
share_scalars a b = any_both (is_some a.bytearray ∷ is_some a.complex ∷ is_some a.range ∷ is_some a.slice
    ∷ is_some a.decimal ∷ is_some a.date ∷ is_some a.time ∷ is_some a.datetime ∷ is_some a.timedelta ∷ [])
    (is_some b.bytearray ∷ is_some b.complex ∷ is_some b.range ∷ is_some b.slice ∷ is_some b.decimal ∷ is_some b.date
    ∷ is_some b.time ∷ is_some b.datetime ∷ is_some b.timedelta ∷ [])
