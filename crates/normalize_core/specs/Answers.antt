-- An answer, as plain lists.
use Rattle.std.specs.Prelude.{Result, Ok, Err}
use Rattle.normalize_core.specs.declared.error.NormalizeError.{NormalizeError}
use Rattle.normalize_core.specs.declared.meta.UserMeta.{UserMeta}
use Rattle.normalize_core.specs.declared.options.Output.{Output}
use Rattle.normalize_core.specs.Normal.{Normal}

-- the outputs and the metas of an answer
abbrev pub normal_of : Output UserMeta → Normal
normal_of output = record { outputs = output.outputs.items; metas = output.meta.items }

-- a result with the outputs and the metas of its answer
abbrev pub answer_of : Result (Output UserMeta) NormalizeError → Result Normal NormalizeError
answer_of (Ok output) = Ok (normal_of output)
answer_of (Err error) = Err error
