-- Which objects have children. The flags are CPython's `Py_TPFLAGS_*_SUBCLASS`, and bit 23 Python 2's of its small
-- integers; that the first of them in this order decides is py-spy's rule of shown values.
use Rattle.std.specs.Prelude.{ℕ, Bool, if◌then◌else◌, ◌&&◌}
use Rattle.py_builtins.specs.declared.items.Sequence.TheVariants.{List as ListItems, Tuple as TupleItems}
use Rattle.py_builtins.specs.Texts.{bit_is_set}
use Rattle.object_reach.specs.declared.contents.Contents.{Contents}
use Rattle.object_reach.specs.declared.contents.Contents.TheVariants.{Nothing, Slots, Items}

-- what the objects of a type hold, by its flags: small integers, integers, texts, dicts, lists, tuples, and the rest.
-- Bytes are a text where the layout says so
unfoldable pub contents_of : Bool → ℕ → Contents
contents_of bytes_text flags =
    if bit_is_set flags 23 then Nothing else
    if bit_is_set flags 24 then Nothing else
    if bit_is_set flags 28 then Nothing else
    if bytes_text && bit_is_set flags 27 then Nothing else
    if bit_is_set flags 29 then Slots else
    if bit_is_set flags 25 then Items ListItems else
    if bit_is_set flags 26 then Items TupleItems else Nothing
