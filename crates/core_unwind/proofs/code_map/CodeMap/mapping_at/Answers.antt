use Rattle.std.proofs.Common.{◌≡◌, ◌∙◌, refl, ap, sym, true, false}
use Rattle.std.specs.Prelude.{Some, option_copied, slice_get}
use Rattle.std.specs.List.{find}
use Rattle.core_unwind.specs.Places.{holds}
use Rattle.core_unwind.proofs.Looking.{found_holds, found_none, found_some}
use Rattle.core_unwind.proofs.code_map.CodeMap.mapping_at.Goals as goal

pub returns-in_err-piece-clause-is : goal.returns-in_err-piece-clause-is
returns-in_err-piece-clause-is c =
    ap option_copied c.from_residual.ensures
    ∙ found_none c.self.inside.table c.self.inside.mappings.items c.self.invariant c.args.address
    (c.in_err-piece.ensures.none refl) ∙ ap (find (holds c.args.address)) c.self.view_is

pub returns-in_err-mapping-clause-is : goal.returns-in_err-mapping-clause-is
returns-in_err-mapping-clause-is c =
    let found = found_some c.self.inside.table c.self.inside.mappings.items c.self.invariant c.args.address
    c.in_ok-piece.piece c.in_ok-piece.ensures.piece c.in_ok-piece.ensures.holds in
    ap option_copied c.from_residual-in_err-mapping.ensures
    ∙ c.in_err-mapping.ensures
    ∙ sym (ap (λ ms. slice_get ms c.in_ok-piece.piece.file) c.self.view_is)
    ∙ found ∙ ap (find (holds c.args.address)) c.self.view_is

pub returns-then-holds-clause-is : goal.returns-then-holds-clause-is
returns-then-holds-clause-is c =
    let found = found_some c.self.inside.table c.self.inside.mappings.items c.self.invariant c.args.address
    c.in_ok-piece.piece c.in_ok-piece.ensures.piece c.in_ok-piece.ensures.holds in
    c.in_ok-mapping.ensures
    ∙ sym (ap (λ ms. slice_get ms c.in_ok-piece.piece.file) c.self.view_is)
    ∙ found ∙ ap (find (holds c.args.address)) c.self.view_is

pub returns-else-holds-clause-is : goal.returns-else-holds-clause-is
returns-else-holds-clause-is c =
    let found = found_some c.self.inside.table c.self.inside.mappings.items c.self.invariant c.args.address
    c.in_ok-piece.piece c.in_ok-piece.ensures.piece c.in_ok-piece.ensures.holds in
    let is : find (holds c.args.address) c.self.inside.mappings.items ≡ Some c.in_ok-mapping.mapping.now =
    sym (c.in_ok-mapping.ensures
    ∙ sym (ap (λ ms. slice_get ms c.in_ok-piece.piece.file) c.self.view_is) ∙ found) in
    let held = found_holds c.self.inside.mappings.items c.args.address c.in_ok-mapping.mapping.now is in
    let other : holds c.args.address c.in_ok-mapping.mapping.now ≡ false = sym c.holds.ensures.is ∙ c.if-holds.false in
    let no : ◌≡◌ true false = sym held ∙ other in
    absurd cc
