use Rattle.std.proofs.Common.{inr, refl}
use Rattle.native_frames.proofs.MapLaws.{run_none}
use Rattle.native_frames.proofs.vdso.vdso_at.Goals as goal

pub returns-in-Some : goal.returns-in-Some
returns-in-Some c =
    let run = c.in-Some.ensures.run in
    (refl, run.0, run.1, run.2, λ none. run_none c.in-Some.bytes (c.in-Some.ensures.none.1 (inr none)))
