use Rattle.std.proofs.Common.{◌≡◌, ◌<◌, ◌-◌, cond, ltb, sym, ap, ◌∙◌, arith}
use Rattle.std.specs.List.{list_any}
use Rattle.std.proofs.lemmas.Bool.{lt-ltb}
use Rattle.image_memory.specs.MapTables.{last_addr, tests}
use Rattle.piece_table.specs.Overlays.{spans}
use Rattle.piece_table.specs.Places.{addresses_of}
use Rattle.piece_table.proofs.Places.{found_any}
use Rattle.image_memory.proofs.map_table.MapTableContainsAddr.contains_addr.Goals as goal

pub returns-else-addr-eq18446744073709551615 : goal.returns-else-addr-eq18446744073709551615
returns-else-addr-eq18446744073709551615 c =
    let inside = c.self.inside in
    let addr = c.args.addr in
    let below : addr < last_addr = omega arith in
    let at : tests (record { table = inside.table; past = inside.past }) addr ≡ list_any (spans addr) (addresses_of inside.table) =
    ap (λ b. cond b (list_any (spans addr) (addresses_of inside.table)) (ltb (addr - last_addr) inside.past)) (lt-ltb addr last_addr below) in
    c.is_some.ensures ∙ found_any inside.table addr c.at.result c.at.ensures.none c.at.ensures.piece c.at.ensures.holds ∙ sym at
    ∙ ap (λ m. tests m addr) c.self.view_is
