-- What the program's own words stand for.
use Rattle.py_fields.specs.Version.{release}
use Rattle.py_fields.specs.declared.version.Version.{Version}
use Rattle.core_words.specs.Dump.{Dump}
use Rattle.core_words.specs.Words as words
use Rattle.core_words.specs.declared.numbers.Release.{Release}
use Rattle.core_words.specs.declared.walk.WalkWords.{WalkWords}
use Rattle.core_words.specs.declared.walk.LayoutSource.{LayoutSource}
use Rattle.core_words.specs.declared.walk.LayoutSource.TheVariants.{Sample, File}
use Rattle.core_words.specs.declared.command.Command.{Command}
use Rattle.core_words.specs.declared.command.Command.TheVariants.{Walk, Dump as Dumped, Triage as Grouped}
use Rattle.core_words.specs.declared.command.Command.TheVariants.{Reach as Reached, Merge as Merged, Locate as Located}
use Rattle.core_words.specs.declared.command.Command.TheVariants.{Slim as Slimmed, Sample as Sampled}
use Rattle.core_words.specs.declared.dump.DumpWords.{DumpWords}
use Rattle.core_words.specs.declared.triage.TriageWords.{TriageWords}
use Rattle.core_words.specs.declared.locate.LocateWords.{LocateWords}
use Rattle.core_words.specs.declared.merge.MergeWords.{MergeWords}
use Rattle.core_words.specs.declared.reach.ReachWords.{ReachWords}
use Rattle.core_words.specs.declared.sample.SampleWords.{SampleWords}
use Rattle.core_words.specs.declared.slim.SlimWords.{SlimWords}

-- the version of three numbers
abbrev pub asked_version : Release → Version
asked_version r = release r.major r.minor r.patch

-- the layout file that is asked for, or the sample
abbrev pub asked_source : LayoutSource → words.LayoutSource
asked_source Sample = words.sample
asked_source (File name) = words.file name.now

-- what the arguments of `walk` ask for
abbrev pub asked_walk : WalkWords → words.Walk
asked_walk w = record {
  core = w.core.now;
  layouts = asked_source w.layouts;
  version = asked_version w.version;
  addresses = w.addresses;
}

-- what the arguments of `dump` ask for
abbrev pub asked_dump : DumpWords → Dump
asked_dump d = record { config = d.config; core = d.core; layouts = d.layouts; images = d.images.items }

-- what the arguments of `triage` ask for
abbrev pub asked_triage : TriageWords → words.Triage
asked_triage t = record { layouts = t.layouts.now; cores = words.texts t.cores.now; images = t.images.items }

-- what the arguments of `reach` ask for
abbrev pub asked_reach : ReachWords → words.Reach
asked_reach r = record { core = r.core.now; layouts = r.layouts.now; index = r.index; images = r.images.items }

-- what the arguments of `merge` ask for
abbrev pub asked_merge : MergeWords → words.Merge
asked_merge m = record {
  core = m.core.now;
  layouts = m.layouts.now;
  index = m.index;
  addresses = m.addresses.now;
  images = m.images.items;
}

-- what the arguments of `locate` ask for
abbrev pub asked_locate : LocateWords → words.Locate
asked_locate l = record { core = l.core.now; layouts = l.layouts.now; images = l.images.items }

-- what the arguments of `slim` ask for
abbrev pub asked_slim : SlimWords → words.Slim
asked_slim s = record { core = s.core.now; layouts = s.layouts.now; level = s.level; images = s.images.items }

-- what the arguments of `sample` ask for
abbrev pub asked_sample : SampleWords → words.Sample
asked_sample s = record { seed = s.seed; core = s.core }

-- what the arguments ask for
abbrev pub asked_command : Command → words.Command
asked_command (Walk w) = words.walk (asked_walk w)
asked_command (Dumped d) = words.dump (asked_dump d)
asked_command (Grouped t) = words.triage (asked_triage t)
asked_command (Reached r) = words.reach (asked_reach r)
asked_command (Merged m) = words.merge (asked_merge m)
asked_command (Located l) = words.locate (asked_locate l)
asked_command (Slimmed s) = words.slim (asked_slim s)
asked_command (Sampled s) = words.seeded (asked_sample s)
