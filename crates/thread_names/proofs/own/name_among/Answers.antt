use Rattle.std.proofs.Common.{◌≡◌, arith, length, min}
use Rattle.process_memory.proofs.Reading.{reads_within}
use Rattle.thread_names.proofs.Attributes.{few_taken, take_few}
use Rattle.thread_names.proofs.own.name_among.Goals as goal

pub returns : goal.returns
returns g c =
    let few : c.min-few.result ≡ min (length c.args.attributes.now) 256 =
    omega (arith, c.min-few.ensures) in
    rw (← few_taken c.args.attributes.now c.min-few.result few)
    (reads_within 512 c.first_named.ensures (take_few c.args.attributes.now c.min-few.result few))
