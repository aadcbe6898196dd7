-- Of a list of which no two layouts clash one at most covers a version.
use Rattle.std.proofs.Common.{List}
use Rattle.std.specs.Prelude.{AllPairs}
use Rattle.py_fields.specs.declared.layout.Layout.{Layout}
use Rattle.py_layout.specs.Lists.{Clash}
use Rattle.py_layout.proofs.Choosing.{covers_same}
use Rattle.py_process.proofs.FindingLaws.{ChoosesOnce}

abbrev pub NoneClash : List Layout → Type 0
NoneClash layouts = AllPairs (λ a b. ¬ Clash a b) layouts

pub chooses_once : (layouts : List Layout) → NoneClash layouts → ChoosesOnce layouts
chooses_once layouts apart version a b one other =
    covers_same layouts version a b apart one.listed one.covers other.listed other.covers
