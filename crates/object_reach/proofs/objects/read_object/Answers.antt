use Rattle.object_reach.specs.Reading.{parts_told}
use Rattle.object_reach.proofs.PartSteps.{object_next, object_lost}
use Rattle.object_reach.proofs.objects.read_object.Goals as goal

pub returns-in-Ok : goal.returns-in-Ok
returns-in-Ok g c = object_next c.args.layout.now c.args.addr c.args.room (parts_told c.in-Ok.parts) c.read_words.result c.in-Ok.ensures c.read_words.ensures

pub returns-in-Err : goal.returns-in-Err
returns-in-Err g c = object_lost c.args.layout.now c.args.addr c.args.room c.in-Err.error c.broken.result c.in-Err.ensures c.broken.ensures
