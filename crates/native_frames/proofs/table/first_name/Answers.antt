use Rattle.std.proofs.Common.{◌+◌, ◌∙◌, drop, sym, refl, arith, length-drop}
use Rattle.std.proofs.lemmas.List.{take_all}
use Rattle.native_frames.proofs.table.first_name.Goals as goal

pub returns-in-Some : goal.returns-in-Some
returns-in-Some c =
    let bytes = c.args.bytes.now in
    let size = c.in-Some.size in
    record {
      size = size;
      ends = sym c.first_nul.ensures.value ∙ c.in-Some.is;
      name_is = refl;
      rest_is = take_all _ (drop (size + 1) bytes) (omega (arith, length-drop (size + 1) bytes));
    }
