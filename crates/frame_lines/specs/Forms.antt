-- How the line tables of a version are coded. That the steps of pairs are signed from 3.6 on, and unsigned before, is
-- CPython's (`Objects/lnotab_notes.txt`).
use Rattle.std.specs.Prelude.{◌==◌, ◌&&◌, ◌||◌, nat_lt, Bool, true, false}
use Rattle.py_fields.specs.declared.layout.Layout.{Layout}
use Rattle.py_fields.specs.declared.layout.Lines.{Lines}
use Rattle.py_fields.specs.declared.layout.Lines.TheVariants.{Pairs, Ranges, Locations}
use Rattle.frame_lines.specs.declared.form.TableForm.{TableForm}
use Rattle.frame_lines.specs.declared.form.TableForm.TheVariants as form

-- whether a layout is one of a version before 3.6, whose steps of lines have no sign
abbrev pub is_before_3_6 : Layout → Bool
is_before_3_6 l = nat_lt l.major 3 || (l.major == 3 && nat_lt l.last_minor 6)

-- the form of a line table, by the layout's family and whether it is before 3.6
abbrev pub form_by : Bool → Lines → TableForm
form_by true Pairs = form.UnsignedPairs
form_by false Pairs = form.Pairs
form_by old Ranges = form.Ranges
form_by old Locations = form.Locations

-- the form of a layout's tables
unfoldable pub form_of : Layout → TableForm
form_of l = form_by (is_before_3_6 l) l.lines
