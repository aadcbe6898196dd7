-- What a stream gains by one write.
use Rattle.std.proofs.Common.{◌≤◌, List, ℕ, Result, Ok, Err, inl, inr}
use Rattle.std.specs.Prelude.{OnErr, OnOk}
use Rattle.std.specs.Io.KnownBytes.{Appends}
use Rattle.outside.specs.Counts.{Rose}
use Rattle.outside.specs.Streams.{AppendsFront, SinkSeen}
use Rattle.core_texts.specs.Says.{Says}

pub says_by : {T E : Type 0} (old new : SinkSeen) (bytes : List ℕ) (r : Result T E) → old.faults ≤ new.faults
    → OnOk r (Appends old.written new.written bytes) → OnErr r (AppendsFront old.written new.written bytes)
    → OnErr r (Rose old.faults new.faults) → Says old new bytes
says_by old new bytes (Ok x) later added front cause = inl (record { later = later; added = added })
says_by old new bytes (Err e) later added front cause = inr (record { rose = cause; later = later; front = front })
