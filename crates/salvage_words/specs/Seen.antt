-- What the program's own words stand for.
use Rattle.salvage_words.specs.Salvage.{Salvage, Wanted}
use Rattle.salvage_words.specs.Salvage.Wanted.{help, version, salvage}
use Rattle.salvage_words.specs.declared.asked.Asked.{Asked}
use Rattle.salvage_words.specs.declared.asked.Asked.TheVariants as asked
use Rattle.salvage_words.specs.declared.asked.SalvageWords.{SalvageWords}

-- what the arguments ask for, as contracts see it
abbrev pub asked_salvage : SalvageWords → Salvage
asked_salvage w = record {
  core = w.core;
  layouts = w.layouts;
  records = w.records;
  limit = w.limit;
  locals = w.locals;
  json = w.json;
  sections = w.sections;
  images = w.images.items;
}

-- the same of all that may be asked for
abbrev pub asked_by : Asked → Wanted
asked_by asked.Help = help
asked_by asked.Version = version
asked_by (asked.Salvage words) = salvage (asked_salvage words)
