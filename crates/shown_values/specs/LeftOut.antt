-- How many values of locals are left out, which all are told of where values are asked for.
use Rattle.std.specs.Prelude.{ℕ, ◌++◌, ◌==◌, if◌then◌else◌, List, [], Option, Some, None, codes, decimal}
use Rattle.serde_json.specs.Data.{Members, member, number, put, unsigned}
use Rattle.local_values.specs.declared.values.LocalValues.{LocalValues}

-- how many values are left out, where any are asked for
abbrev pub values_left_out : Option LocalValues → Option ℕ
values_left_out None = None
values_left_out (Some values) = Some values.left_out

-- the line that says how many, where any are
abbrev pub left_out_text : Option ℕ → List ℕ
left_out_text None = []
left_out_text (Some count) =
    if count == 0 then [] else codes "... " ++ (decimal count ++ codes " more values are not shown\n")

-- the key that says how many, where values are asked for
abbrev pub with_left_out : Option ℕ → Members → Members
with_left_out None rest = rest
with_left_out (Some count) rest = member (codes "values_left_out") (number (unsigned count)) rest

-- the same, put into members that are there
abbrev pub put_left_out : Option ℕ → Members → Members
put_left_out None members = members
put_left_out (Some count) members = put (codes "values_left_out") (number (unsigned count)) members
