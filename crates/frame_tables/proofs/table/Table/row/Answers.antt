use Rattle.std.proofs.Common.{◌≡◌, sym, subst, ℕ, List, length, rules}
use Rattle.frame_rows.specs.Answer.{IsRow}
use Rattle.frame_tables.specs.Records.{bytes_of}
use Rattle.frame_tables.proofs.table.Table.row.Goals as goal

pub returns-clause-only : goal.returns-clause-only
returns-clause-only c = λ other is.
    let e = c.args.entry.now in
    let long : length c.args.room.now.rows ≡ 64 = search rules in
    let file = c.self.inside.file.now in
    let here = subst (λ (f : List ℕ). IsRow e.convention (bytes_of f e.initial) (bytes_of f e.own) e.begin
    c.args.address 64 other) (sym c.self.view_is) is in
    c.row_at.ensures.only other
    (subst (λ (n : ℕ). IsRow e.convention (bytes_of file e.initial) (bytes_of file e.own) e.begin c.args.address n
    other) (sym long) here)
