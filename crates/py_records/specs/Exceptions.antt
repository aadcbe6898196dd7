-- Exceptions, and where they are raised and handled; when the groups of these are sound, and what a table says
-- of them. From the structs of CPython that the groups' docs name; the form of the file is this project's own.
use Rattle.std.specs.Prelude.{Bool, List, [], ◌∷◌, None, IfSome, is_some, option_map, codes}
use Rattle.std.specs.Option.{option_or}
use Rattle.toml.specs.Data.{Members}
use Rattle.py_layout.specs.Values.{group_at, number_at}
use Rattle.py_fields.specs.Places.{Place}
use Rattle.py_fields.specs.Sound.{IsRecord}
use Rattle.py_records.specs.Places.{ArePlain, any_both}
use Rattle.py_records.specs.declared.exceptions.ExceptionRecord.{ExceptionRecord}
use Rattle.py_records.specs.declared.exceptions.OsErrorRecord.{OsErrorRecord}
use Rattle.py_records.specs.declared.exceptions.SyntaxErrorRecord.{SyntaxErrorRecord}
use Rattle.py_records.specs.declared.exceptions.UnicodeErrorRecord.{UnicodeErrorRecord}
use Rattle.py_records.specs.declared.exceptions.ImportErrorRecord.{ImportErrorRecord}
use Rattle.py_records.specs.declared.exceptions.ExceptionGroupRecord.{ExceptionGroupRecord}
use Rattle.py_records.specs.declared.exceptions.ItemRecord.{ItemRecord}
use Rattle.py_records.specs.declared.exceptions.ItemPartsRecord.{ItemPartsRecord}
use Rattle.py_records.specs.declared.exceptions.RaisedPartsRecord.{RaisedPartsRecord}
use Rattle.py_records.specs.declared.exceptions.RaisedRecord.{RaisedRecord}
use Rattle.py_records.specs.declared.exceptions.HandledRecord.{HandledRecord}
use Rattle.py_records.specs.declared.exceptions.ExceptionRecords.{ExceptionRecords}

-- offsets and widths, in bytes, in a `PyBaseExceptionObject`: `dict`, `args`, `traceback`, `cause` and the like
unfoldable pub exception_places : ExceptionRecord → List Place
exception_places r = (r.dict, 8) ∷ (r.args, 8) ∷ (r.traceback, 8) ∷ (r.context, 8) ∷ (r.cause, 8)
    ∷ (r.suppress_context, 1) ∷ []

-- a `PyBaseExceptionObject`: its fields stand inside its size, of 1 to 65535 bytes, and no two meet
abbrev pub IsSoundException : ExceptionRecord → Type 0
IsSoundException r = IsRecord r.size (exception_places r)

-- offsets and widths, in bytes, in a `PyOSErrorObject`: `myerrno`, `strerror`, `filename`, `filename2`
unfoldable pub os_error_places : OsErrorRecord → List Place
os_error_places r = (r.errno, 8) ∷ (r.strerror, 8) ∷ (r.filename, 8) ∷ (r.filename2, 8) ∷ []

-- a `PyOSErrorObject`: its fields stand inside its size, of 1 to 65535 bytes, and no two meet
abbrev pub IsSoundOsError : OsErrorRecord → Type 0
IsSoundOsError r = IsRecord r.size (os_error_places r)

-- offsets and widths, in bytes, in a `PySyntaxErrorObject`: `msg`, `filename`, `lineno`
unfoldable pub syntax_error_places : SyntaxErrorRecord → List Place
syntax_error_places r = (r.msg, 8) ∷ (r.filename, 8) ∷ (r.line, 8) ∷ []

-- a `PySyntaxErrorObject`: its fields stand inside its size, of 1 to 65535 bytes, and no two meet
abbrev pub IsSoundSyntaxError : SyntaxErrorRecord → Type 0
IsSoundSyntaxError r = IsRecord r.size (syntax_error_places r)

-- offsets and widths, in bytes, in a `PyUnicodeErrorObject`: `encoding`, `object`, `start`, `end`, `reason`
unfoldable pub unicode_error_places : UnicodeErrorRecord → List Place
unicode_error_places r = (r.encoding, 8) ∷ (r.object, 8) ∷ (r.start, 8) ∷ (r.end, 8) ∷ (r.reason, 8) ∷ []

-- a `PyUnicodeErrorObject`: its fields stand inside its size, of 1 to 65535 bytes, and no two meet
abbrev pub IsSoundUnicodeError : UnicodeErrorRecord → Type 0
IsSoundUnicodeError r = IsRecord r.size (unicode_error_places r)

-- offsets and widths, in bytes, in a `PyImportErrorObject`: `msg`, `name`
unfoldable pub import_error_places : ImportErrorRecord → List Place
import_error_places r = (r.msg, 8) ∷ (r.name, 8) ∷ []

-- a `PyImportErrorObject`: its fields stand inside its size, of 1 to 65535 bytes, and no two meet
abbrev pub IsSoundImportError : ImportErrorRecord → Type 0
IsSoundImportError r = IsRecord r.size (import_error_places r)

-- offsets and widths, in bytes, in a `PyBaseExceptionGroupObject`: `msg`, `excs`
unfoldable pub exception_group_places : ExceptionGroupRecord → List Place
exception_group_places r = (r.msg, 8) ∷ (r.excs, 8) ∷ []

-- a `PyBaseExceptionGroupObject`: its fields stand inside its size, of 1 to 65535 bytes, and no two meet
abbrev pub IsSoundExceptionGroup : ExceptionGroupRecord → Type 0
IsSoundExceptionGroup r = IsRecord r.size (exception_group_places r)

-- offsets and widths, in bytes, in a `_PyErr_StackItem`: `exc_value`, `previous_item`
unfoldable pub item_places : ItemRecord → List Place
item_places r = (r.value, 8) ∷ (r.previous, 8) ∷ []

-- a `_PyErr_StackItem`: its fields stand inside its size, of 1 to 65535 bytes, and no two meet
abbrev pub IsSoundItem : ItemRecord → Type 0
IsSoundItem r = IsRecord r.size (item_places r)

-- each offset of the group `item_parts` (`exc_type`, `exc_traceback`) is below 2^20
abbrev pub IsSoundItemParts : ItemPartsRecord → Type 0
IsSoundItemParts r = ArePlain (r.klass ∷ r.traceback ∷ [])

-- each offset of the group `raised_parts` (`curexc_type`, `curexc_value`, `curexc_traceback`) is below 2^20
abbrev pub IsSoundRaisedParts : RaisedPartsRecord → Type 0
IsSoundRaisedParts r = ArePlain (r.klass ∷ r.value ∷ r.traceback ∷ [])

-- the offset of the group `raised` (`current_exception`) is below 2^20
abbrev pub IsSoundRaised : RaisedRecord → Type 0
IsSoundRaised r = ArePlain (r.exception ∷ [])

-- each offset of the group `handled` (`exc_info`, `exc_state`) is below 2^20
abbrev pub IsSoundHandled : HandledRecord → Type 0
IsSoundHandled r = ArePlain (r.newest ∷ r.oldest ∷ [])

-- each group of exceptions, and of where a thread has those raised and handled, that is there is sound
pub record AreSoundExceptions (r : ExceptionRecords) : Type 0 where
  pub exception : IfSome r.exception IsSoundException
  pub os_error : IfSome r.os_error IsSoundOsError
  pub syntax_error : IfSome r.syntax_error IsSoundSyntaxError
  pub unicode_error : IfSome r.unicode_error IsSoundUnicodeError
  pub import_error : IfSome r.import_error IsSoundImportError
  pub exception_group : IfSome r.exception_group IsSoundExceptionGroup
  pub item : IfSome r.item IsSoundItem
  pub item_parts : IfSome r.item_parts IsSoundItemParts
  pub raised_parts : IfSome r.raised_parts IsSoundRaisedParts
  pub raised : IfSome r.raised IsSoundRaised
  pub handled : IfSome r.handled IsSoundHandled

-- the group `exception`: size and field offsets of a `PyBaseExceptionObject` (Include/pyerrors.h)
abbrev pub exception_in : Members → ExceptionRecord
exception_in ms = record {
  size = number_at ms None (codes "size");
  dict = number_at ms None (codes "dict");
  args = number_at ms None (codes "args");
  traceback = number_at ms None (codes "traceback");
  context = number_at ms None (codes "context");
  cause = number_at ms None (codes "cause");
  suppress_context = number_at ms None (codes "suppress_context");
}

-- the group `os_error`: size and field offsets of a `PyOSErrorObject` (Include/pyerrors.h)
abbrev pub os_error_in : Members → OsErrorRecord
os_error_in ms = record {
  size = number_at ms None (codes "size");
  errno = number_at ms None (codes "errno");
  strerror = number_at ms None (codes "strerror");
  filename = number_at ms None (codes "filename");
  filename2 = number_at ms None (codes "filename2");
}

-- the group `syntax_error`: size and field offsets of a `PySyntaxErrorObject` (Include/pyerrors.h)
abbrev pub syntax_error_in : Members → SyntaxErrorRecord
syntax_error_in ms = record {
  size = number_at ms None (codes "size");
  msg = number_at ms None (codes "msg");
  filename = number_at ms None (codes "filename");
  line = number_at ms None (codes "line");
}

-- the group `unicode_error`: size and field offsets of a `PyUnicodeErrorObject` (Include/pyerrors.h)
abbrev pub unicode_error_in : Members → UnicodeErrorRecord
unicode_error_in ms = record {
  size = number_at ms None (codes "size");
  encoding = number_at ms None (codes "encoding");
  object = number_at ms None (codes "object");
  start = number_at ms None (codes "start");
  end = number_at ms None (codes "end");
  reason = number_at ms None (codes "reason");
}

-- the group `import_error`: size and field offsets of a `PyImportErrorObject` (Include/pyerrors.h)
abbrev pub import_error_in : Members → ImportErrorRecord
import_error_in ms = record {
  size = number_at ms None (codes "size");
  msg = number_at ms None (codes "msg");
  name = number_at ms None (codes "name");
}

-- the group `exception_group`: size and field offsets of a `PyBaseExceptionGroupObject` (Include/cpython/pyerrors.h)
abbrev pub exception_group_in : Members → ExceptionGroupRecord
exception_group_in ms = record {
  size = number_at ms None (codes "size");
  msg = number_at ms None (codes "msg");
  excs = number_at ms None (codes "excs");
}

-- the group `item`: size and field offsets of a `_PyErr_StackItem` (Include/cpython/pystate.h)
abbrev pub item_in : Members → ItemRecord
item_in ms = record {
  size = number_at ms None (codes "size");
  value = number_at ms None (codes "value");
  previous = number_at ms None (codes "previous");
}

-- the group `item_parts`: the offsets of `exc_type`, `exc_traceback` in a `_PyErr_StackItem` from 3.7 to 3.10
abbrev pub item_parts_in : Members → ItemPartsRecord
item_parts_in ms = record {
  klass = number_at ms None (codes "type");
  traceback = number_at ms None (codes "traceback");
}

-- the group `raised_parts`: offsets of `curexc_type`, `curexc_value` and `curexc_traceback` in a thread up to 3.11
abbrev pub raised_parts_in : Members → RaisedPartsRecord
raised_parts_in ms = record {
  klass = number_at ms None (codes "type");
  value = number_at ms None (codes "value");
  traceback = number_at ms None (codes "traceback");
}

-- the group `raised`: the offset of `current_exception` in a `PyThreadState` from 3.12 on
abbrev pub raised_in : Members → RaisedRecord
raised_in ms = record {
  exception = number_at ms None (codes "exception");
}

-- the group `handled`: the offsets of `exc_info`, `exc_state` in a `PyThreadState` from 3.7 on
abbrev pub handled_in : Members → HandledRecord
handled_in ms = record {
  newest = number_at ms None (codes "newest");
  oldest = number_at ms None (codes "oldest");
}

-- the groups of exceptions, and of where a thread has those raised and handled, that a table has
unfoldable pub exceptions_from : Members → ExceptionRecords
exceptions_from ms = record {
  exception = option_map exception_in (group_at ms (codes "exception"));
  os_error = option_map os_error_in (group_at ms (codes "os_error"));
  syntax_error = option_map syntax_error_in (group_at ms (codes "syntax_error"));
  unicode_error = option_map unicode_error_in (group_at ms (codes "unicode_error"));
  import_error = option_map import_error_in (group_at ms (codes "import_error"));
  exception_group = option_map exception_group_in (group_at ms (codes "exception_group"));
  item = option_map item_in (group_at ms (codes "item"));
  item_parts = option_map item_parts_in (group_at ms (codes "item_parts"));
  raised_parts = option_map raised_parts_in (group_at ms (codes "raised_parts"));
  raised = option_map raised_in (group_at ms (codes "raised"));
  handled = option_map handled_in (group_at ms (codes "handled"));
}

-- no group is there
abbrev pub no_exceptions : ExceptionRecords
no_exceptions = record {
  exception = None;
  os_error = None;
  syntax_error = None;
  unicode_error = None;
  import_error = None;
  exception_group = None;
  item = None;
  item_parts = None;
  raised_parts = None;
  raised = None;
  handled = None;
}

-- each group of the first that is there, and else of the second
unfoldable pub joined_exceptions : ExceptionRecords → ExceptionRecords → ExceptionRecords
joined_exceptions a b = record {
  exception = option_or a.exception b.exception;
  os_error = option_or a.os_error b.os_error;
  syntax_error = option_or a.syntax_error b.syntax_error;
  unicode_error = option_or a.unicode_error b.unicode_error;
  import_error = option_or a.import_error b.import_error;
  exception_group = option_or a.exception_group b.exception_group;
  item = option_or a.item b.item;
  item_parts = option_or a.item_parts b.item_parts;
  raised_parts = option_or a.raised_parts b.raised_parts;
  raised = option_or a.raised b.raised;
  handled = option_or a.handled b.handled;
}

-- whether a group is there in both
unfoldable pub share_exceptions : ExceptionRecords → ExceptionRecords → Bool
share_exceptions a b = any_both (is_some a.exception ∷ is_some a.os_error ∷ is_some a.syntax_error
    ∷ is_some a.unicode_error ∷ is_some a.import_error ∷ is_some a.exception_group ∷ is_some a.item
    ∷ is_some a.item_parts ∷ is_some a.raised_parts ∷ is_some a.raised ∷ is_some a.handled ∷ [])
    (is_some b.exception ∷ is_some b.os_error ∷ is_some b.syntax_error ∷ is_some b.unicode_error
    ∷ is_some b.import_error ∷ is_some b.exception_group ∷ is_some b.item ∷ is_some b.item_parts
    ∷ is_some b.raised_parts ∷ is_some b.raised ∷ is_some b.handled ∷ [])
