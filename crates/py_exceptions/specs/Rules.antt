-- By which rule an exception is told as a text: the functions `BaseException_str`, `KeyError_str`, `OSError_str`,
-- `ImportError_str`, `SyntaxError_str`, `BaseExceptionGroup_str`, `UnicodeEncodeError_str`, `UnicodeDecodeError_str`
-- and `UnicodeTranslateError_str` of Objects/exceptions.c, told by the name of the class of C's that owns the function.
-- Any other one is a class's own.
use Rattle.std.specs.Prelude.{ℕ, Option, Some, None, List, if◌then◌else◌, bytes_eq, codes, encode_utf8_all}
use Rattle.process_memory.specs.Memory.{Memory}
use Rattle.py_fields.specs.declared.layout.Layout.{Layout}
use Rattle.py_records.specs.declared.exceptions.ExceptionGroupRecord.{ExceptionGroupRecord}
use Rattle.py_records.specs.declared.exceptions.ImportErrorRecord.{ImportErrorRecord}
use Rattle.py_records.specs.declared.exceptions.OsErrorRecord.{OsErrorRecord}
use Rattle.py_records.specs.declared.exceptions.SyntaxErrorRecord.{SyntaxErrorRecord}
use Rattle.py_records.specs.declared.exceptions.UnicodeErrorRecord.{UnicodeErrorRecord}
use Rattle.py_exceptions.specs.declared.name.ClassName.{ClassName}
use Rattle.py_exceptions.specs.declared.name.ClassName.TheVariants.{Whole, Parts}
use Rattle.py_exceptions.specs.declared.name.ClassPlaces.{ClassPlaces}
use Rattle.py_exceptions.specs.declared.rule.FieldPlaces.{FieldPlaces}
use Rattle.py_exceptions.specs.declared.rule.Kind.{Kind}
use Rattle.py_exceptions.specs.declared.rule.Kind.TheVariants as kind
use Rattle.py_exceptions.specs.declared.rule.Rule.{Rule}
use Rattle.py_exceptions.specs.declared.rule.Rule.TheVariants as rule
use Rattle.py_exceptions.specs.declared.unit.Units.TheVariants.{Bytes, Characters}
use Rattle.py_exceptions.specs.ClassNames.{class_at}
use Rattle.py_exceptions.specs.Owners.{owner_at}
use Rattle.py_exceptions.specs.Unicode.{invalid_at}
use Rattle.py_exceptions.specs.Values.{field_at}

-- the rule that a class of C's of a name owns
unfoldable pub kind_named : List ℕ → Kind
kind_named name =
    if bytes_eq (encode_utf8_all name) (codes "BaseException") then kind.Plain
    else if bytes_eq (encode_utf8_all name) (codes "KeyError") then kind.Key
    else if bytes_eq (encode_utf8_all name) (codes "OSError") then kind.System
    else if bytes_eq (encode_utf8_all name) (codes "ImportError") then kind.Import
    else if bytes_eq (encode_utf8_all name) (codes "SyntaxError") then kind.Syntax
    else if bytes_eq (encode_utf8_all name) (codes "BaseExceptionGroup") then kind.Group
    else if bytes_eq (encode_utf8_all name) (codes "UnicodeEncodeError") then kind.Encode
    else if bytes_eq (encode_utf8_all name) (codes "UnicodeDecodeError") then kind.Decode
    else if bytes_eq (encode_utf8_all name) (codes "UnicodeTranslateError") then kind.Translate
    else kind.Own

-- the rule that a class owns, by its name; that of a class of the heap is its own
abbrev pub kind_of : ClassName → Kind
kind_of (Whole name) = kind_named name
kind_of (Parts module_name name) = kind.Own

-- what the exception at an address tells as an `OSError`: number, text and both file names
unfoldable pub system_at : Layout → OsErrorRecord → Memory → ℕ → Rule
system_at l p m at =
    rule.System (field_at l m at p.errno) (field_at l m at p.strerror) (field_at l m at p.filename)
    (field_at l m at p.filename2)

-- what the exception at an address tells as an `ImportError`: its message
unfoldable pub import_at : Layout → ImportErrorRecord → Memory → ℕ → Rule
import_at l p m at = rule.Import (field_at l m at p.msg)

-- what the exception at an address tells as a `SyntaxError`: its message, the file's name and the line
unfoldable pub syntax_at : Layout → SyntaxErrorRecord → Memory → ℕ → Rule
syntax_at l p m at = rule.Syntax (field_at l m at p.msg) (field_at l m at p.filename) (field_at l m at p.line)

-- what the exception at an address tells as a group: its message, where groups are described
unfoldable pub group_at : Layout → Option ExceptionGroupRecord → Memory → ClassName → ℕ → Rule
group_at l None m class at = rule.Own class
group_at l (Some p) m class at = rule.Group (field_at l m at p.msg)

-- of a class of these what can't be encoded, where it is described
unfoldable pub encode_at : Layout → Option UnicodeErrorRecord → Memory → ClassName → ℕ → Rule
encode_at l None m class at = rule.Own class
encode_at l (Some p) m class at = rule.Encode (field_at l m at p.encoding) (invalid_at l p m Characters at)

-- the same of what can't be decoded
unfoldable pub decode_at : Layout → Option UnicodeErrorRecord → Memory → ClassName → ℕ → Rule
decode_at l None m class at = rule.Own class
decode_at l (Some p) m class at = rule.Decode (field_at l m at p.encoding) (invalid_at l p m Bytes at)

-- the same of what can't be translated
unfoldable pub translate_at : Layout → Option UnicodeErrorRecord → Memory → ClassName → ℕ → Rule
translate_at l None m class at = rule.Own class
translate_at l (Some p) m class at = rule.Translate (invalid_at l p m Characters at)

-- what the exception at an address tells by a rule, of which the class of this name is the owner
abbrev pub rule_by_kind : Layout → FieldPlaces → Memory → ClassName → ℕ → Kind → Rule
rule_by_kind l p m class at kind.Plain = rule.Plain
rule_by_kind l p m class at kind.Key = rule.Key
rule_by_kind l p m class at kind.System = system_at l p.system m at
rule_by_kind l p m class at kind.Import = import_at l p.«import» m at
rule_by_kind l p m class at kind.Syntax = syntax_at l p.«syntax» m at
rule_by_kind l p m class at kind.Group = group_at l p.group m class at
rule_by_kind l p m class at kind.Encode = encode_at l p.unicode m class at
rule_by_kind l p m class at kind.Decode = decode_at l p.unicode m class at
rule_by_kind l p m class at kind.Translate = translate_at l p.unicode m class at
rule_by_kind l p m class at kind.Own = rule.Own class

-- what an exception tells by the rule of the class of this name; unreadable without a name
abbrev pub rule_by_class : Layout → FieldPlaces → Memory → ℕ → Option ClassName → Rule
rule_by_class l p m at None = rule.Unreadable
rule_by_class l p m at (Some class) = rule_by_kind l p m class at (kind_of class)

-- what an exception tells by the rule of the class that owns it; unreadable where that isn't known
abbrev pub rule_by_owner : Layout → ClassPlaces → FieldPlaces → Memory → ℕ → Option ℕ → Rule
rule_by_owner l classes p m at None = rule.Unreadable
rule_by_owner l classes p m at (Some owner) = rule_by_class l p m at (class_at l classes m owner)

-- by which rule the exception of a class at an address is told as a text, and what that tells
unfoldable pub rule_at : Layout → ClassPlaces → FieldPlaces → Memory → ℕ → ℕ → Rule
rule_at l classes p m class at = rule_by_owner l classes p m at (owner_at classes m class)
