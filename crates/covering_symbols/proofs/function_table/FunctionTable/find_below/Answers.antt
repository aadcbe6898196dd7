use Rattle.std.proofs.Common.{refl, ap, ◌∙◌}
use Rattle.std.specs.Prelude.{option_map}
use Rattle.std.specs.List.{find}
use Rattle.covering_symbols.specs.FunctionKeys.{key_covers, range_of_key}
use Rattle.covering_symbols.specs.FunctionTables.{key_number}
use Rattle.covering_symbols.proofs.Finding.{found_none, found_some}
use Rattle.covering_symbols.proofs.Keys.{covers_spans}
use Rattle.covering_symbols.proofs.function_table.FunctionTable.find_below.Goals as goal

pub returns-in_err-piece : goal.returns-in_err-piece
returns-in_err-piece c = c.from_residual.ensures
    ∙ found_none range_of_key (key_covers c.args.addr) c.args.addr (covers_spans c.args.addr c.requires)
    c.self.inside.table c.self.inside.keys.items c.self.invariant (c.in_err-piece.ensures.none refl)
    ∙ ap (λ keys. option_map key_number (find (key_covers c.args.addr) keys)) c.self.view_is

pub returns : goal.returns
returns c = found_some range_of_key (key_covers c.args.addr) c.args.addr (covers_spans c.args.addr c.requires)
    c.self.inside.table c.self.inside.keys.items c.self.invariant c.in_ok-piece.piece c.in_ok-piece.ensures.piece
    c.in_ok-piece.ensures.holds
    ∙ ap (λ keys. option_map key_number (find (key_covers c.args.addr) keys)) c.self.view_is
