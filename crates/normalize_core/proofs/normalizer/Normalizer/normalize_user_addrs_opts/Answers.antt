use Rattle.std.proofs.Common.{◌≡◌, ◌⊎◌, ◌<◌, Bool, List, ℕ, length, All, Result, Ok, Err, IfOk, inl, inr, IsErrOf}
use Rattle.normalize_core.specs.Answers.{answer_of, normal_of}
use Rattle.normalize_core.specs.Normal.{Asked, Normal, IsNormalOrFault, normalizing_by}
use Rattle.normalize_core.specs.declared.error.NormalizeError.{NormalizeError}
use Rattle.normalize_core.specs.declared.error.NormalizeError.TheVariants.{OutOfMemory}
use Rattle.normalize_core.specs.declared.meta.UserMeta.{UserMeta}
use Rattle.normalize_core.specs.declared.options.Output.{Output}
use Rattle.normalize_core.proofs.Meeting.{numbered}
use Rattle.normalize_core.proofs.Sole.{right-once}
use Rattle.normalize_core.proofs.normalizer.Normalizer.normalize_user_addrs_opts.Goals as goal

only : (asked : Asked) (sorted : Bool) (addrs : List ℕ) (result : Result (Output UserMeta) NormalizeError)
    → IsErrOf result OutOfMemory ⊎ IsNormalOrFault asked sorted addrs (answer_of result)
    → (answer : Result Normal NormalizeError) → IsNormalOrFault asked sorted addrs answer
    → IsErrOf result OutOfMemory ⊎ (answer ≡ answer_of result)
only asked sorted addrs result (inl e) answer h = inl e
only asked sorted addrs result (inr right) answer h = inr (right-once asked sorted addrs answer (answer_of result) h right)

in_range : (asked : Asked) (sorted : Bool) (addrs : List ℕ) (result : Result (Output UserMeta) NormalizeError)
    → IsErrOf result OutOfMemory ⊎ IsNormalOrFault asked sorted addrs (answer_of result)
    → IfOk result (λ output. All (λ o. o.1 < length output.meta.items) output.outputs.items)
in_range asked sorted addrs (Ok output) (inl e) = let bad : ⊥ = cc in absurd bad
in_range asked sorted addrs (Ok output) (inr right) = numbered asked addrs (normal_of output) right.1
in_range asked sorted addrs (Err error) h = tt

pub returns-clause-numbers : goal.returns-clause-numbers
returns-clause-numbers c =
    in_range (normalizing_by c.args.self.now.build_ids c.args.entries.now c.args.images.now c.args.opts.now.map_files)
    c.args.opts.now.sorted_addrs c.args.addrs.now c.normalized.result c.normalized.ensures

pub returns-clause-only : goal.returns-clause-only
returns-clause-only c =
    only (normalizing_by c.args.self.now.build_ids c.args.entries.now c.args.images.now c.args.opts.now.map_files)
    c.args.opts.now.sorted_addrs c.args.addrs.now c.normalized.result c.normalized.ensures
