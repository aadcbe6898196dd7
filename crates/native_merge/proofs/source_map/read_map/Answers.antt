use Rattle.std.specs.Prelude.{option_map}
use Rattle.native_merge.proofs.FileMaps.{map_read}
use Rattle.native_merge.proofs.source_map.read_map.Goals as goal

pub returns-in_ok-map-in-Ok-clause-map : goal.returns-in_ok-map-in-Ok-clause-map
returns-in_ok-map-in-Ok-clause-map g c =
    map_read (g.F.Sources.seen c.args.sources.now) (g.F.Sources.seen c.contents.new.self).exists c.args.filename.now c.as_bytes.result.now
    (option_map (λ name. name.now) c.args.«module») c.in-Ok.bytes.items c.deref.result.now c.in_ok-map-in-Ok.map
    c.as_bytes.ensures.value c.deref.ensures.value (λ gone. cc (c.in-Ok.ensures.missing.1 gone)) c.in-Ok.ensures.bytes c.contents.ensures.stay.exists
    c.in_ok-map-in-Ok.ensures.map
