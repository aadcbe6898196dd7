use Rattle.std.proofs.Common.{refl, subst}
use Rattle.image_memory.specs.Backed.{IsBackedMemory, regions_of}
use Rattle.py_process.proofs.Dumped.{alone}
use Rattle.core_stacks.proofs.python_core.PythonCoreDump.with_addresses.Goals as goal

pub returns : goal.returns
returns c =
    let pieces = regions_of c.in_ok-dump.dump in
    record {
      right = record {
        core_is = c.in_ok-dump.ensures.kept.core_is;
        pieces_are = alone c.args.core pieces
            (subst (λ images. IsBackedMemory c.args.core images pieces) c.new.ensures c.in_ok-dump.ensures.memory);
        version_is = refl;
        addresses_are = refl;
        chosen = record { listed = c.in-Some.ensures.member; covers = c.in-Some.ensures.covers };
      };
    }
