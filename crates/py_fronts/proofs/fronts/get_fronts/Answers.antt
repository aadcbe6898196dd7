use Rattle.std.proofs.Common.{arith}
use Rattle.std.proofs.Math.Nat.{le_refl}
use Rattle.process_memory.specs.Memory.{byte_at}
use Rattle.process_memory.proofs.Reading.{reading_gives}
use Rattle.py_process.specs.Facts.{known_of}
use Rattle.py_fronts.proofs.ReadLimits.{all_within}
use Rattle.py_fronts.proofs.ReportLaws.{fronts_agree}
use Rattle.py_fronts.proofs.fronts.get_fronts.Goals as goal

pub returns-clause-report : goal.returns-clause-report
returns-clause-report g c =
    reading_gives _ _ c.all_fronts.ensures (le_refl _)
    (λ m a. fronts_agree (g.M.ContainsAddr.contains c.args.info.now.maps) (known_of c.args.info.now)
    c.args.version.now c.args.layout.now m c.args.asked c.args.limit c.all_fronts.result a)

pub returns-clause-most : goal.returns-clause-most
returns-clause-most g c =
    omega (
      arith,
      c.all_fronts.ensures.cost,
      all_within (g.M.ContainsAddr.contains c.args.info.now.maps)
          (known_of c.args.info.now) c.args.version.now c.args.layout.now
          (byte_at (g.P.ProcessMemory.seen c.args.process.now).pieces) c.args.asked c.args.limit,
    )
