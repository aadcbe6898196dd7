-- The command is one of plain arguments.
use Rattle.std.proofs.Common.{◌≡◌, true, refl}
use Rattle.clap.specs.Words.{is_simple_and_free}
use Rattle.clap.proofs.OnLiterals.{clap_on_literals}
use Rattle.salvage_words.specs.Salvage.{salvage_app}

pub salvage_is_simple : is_simple_and_free salvage_app ≡ true
unfolding clap_on_literals
salvage_is_simple = refl
