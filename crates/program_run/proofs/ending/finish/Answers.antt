use Rattle.std.proofs.Common.{refl, subst, sym}
use Rattle.outside.specs.Streams.{AppendsFront}
use Rattle.core_texts.specs.Says.{Says}
use Rattle.fault_lines.specs.Lines.{line_of}
use Rattle.program_run.specs.Ends.{BringsTo, cut}
use Rattle.program_run.proofs.ending.finish.Goals as goal

pub returns-in-Err-write : goal.returns-in-Err-write
returns-in-Err-write g c =
    let out = g.S.Sink.seen c.args.out.now in
    let new = g.S.Sink.seen c.write.new.self in
    let err = g.E.Sink.seen c.args.err.now in
    let said = g.E.Sink.seen c.say_line.new.err in
    record {
      end = cut;
      is = refl;
      brought = subst (λ outcome. BringsTo outcome cut out new) (sym c.in-Ok.is) (record {
        rose = c.in-Err-write.ensures.cause;
        later = c.in-Err-write.ensures.later;
        front = subst (λ bytes. AppendsFront out.written new.written bytes) c.deref.ensures.value
            c.in-Err-write.ensures.front;
      });
      said = subst (λ t. Says err said (line_of c.args.start.now t)) c.text_part.ensures c.say_line.ensures;
    }
