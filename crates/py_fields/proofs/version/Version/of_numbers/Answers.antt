use Rattle.std.proofs.Common.{◌≡◌, ◌∙◌, [], None, refl}
use Rattle.std.proofs.lemmas.Str.{chars-encodes}
use Rattle.py_fields.proofs.version.Version.of_numbers.Goals as goal

pub returns : goal.returns
returns c =
    let none : c.in_ok-release_flags.release_flags ≡ [] = c.in_ok-release_flags.ensures ∙ chars-encodes [] refl in
    λ i. record {
      major = c.args.major;
      minor = c.args.minor;
      patch = c.args.patch;
      release_flags = none i;
      build_metadata = None;
    }
