use Rattle.std.proofs.Math.Nat.{le_refl}
use Rattle.process_memory.proofs.Reading.{reading_gives}
use Rattle.py_process.specs.Facts.{known_of}
use Rattle.py_fronts.proofs.AllFound.{named_found_all, searched_found_all}
use Rattle.py_fronts.proofs.ReportLaws.{reported_found}
use Rattle.py_fronts.proofs.CandidateSteps.{candidates_few}
use Rattle.py_fronts.proofs.FindLaws.{shown_right}
use Rattle.py_fronts.proofs.NameLaws.{marked_right}
use Rattle.py_fronts.proofs.SearchLaws.{walked_few}
use Rattle.py_fronts.proofs.interpreters.find_interpreters.Goals as goal

pub returns-clause-right : goal.returns-clause-right
returns-clause-right g c =
    reading_gives _ _ c.find_all.ensures (le_refl _)
    (λ m a. shown_right (g.M.ContainsAddr.contains c.args.info.now.maps) (known_of c.args.info.now)
    c.args.version.now c.args.layout.now m c.find_all.result a)

pub returns-clause-marked : goal.returns-clause-marked
returns-clause-marked g c =
    reading_gives _ _ c.find_all.ensures (le_refl _)
    (λ m a. marked_right (g.M.ContainsAddr.contains c.args.info.now.maps) (known_of c.args.info.now)
    c.args.version.now c.args.layout.now m c.find_all.result a)

pub returns-clause-named : goal.returns-clause-named
returns-clause-named g c =
    reading_gives _ _ c.find_all.ensures (le_refl _)
    (λ m a. named_found_all (g.M.ContainsAddr.contains c.args.info.now.maps) (known_of c.args.info.now)
    c.args.version.now c.args.layout.now m c.find_all.result a)

pub returns-clause-all : goal.returns-clause-all
returns-clause-all g c =
    reading_gives _ _ c.find_all.ensures (le_refl _)
    (λ m a. searched_found_all (g.M.ContainsAddr.contains c.args.info.now.maps) (known_of c.args.info.now)
    c.args.version.now c.args.layout.now m c.find_all.result a)

pub returns-clause-report : goal.returns-clause-report
returns-clause-report g c =
    reading_gives _ _ c.find_all.ensures (le_refl _)
    (λ m a. reported_found (g.M.ContainsAddr.contains c.args.info.now.maps) (known_of c.args.info.now)
    c.args.version.now c.args.layout.now m c.find_all.result a)

pub returns-clause-walked : goal.returns-clause-walked
returns-clause-walked g c =
    reading_gives _ _ c.find_all.ensures (le_refl _)
    (λ m a. walked_few (g.M.ContainsAddr.contains c.args.info.now.maps) (known_of c.args.info.now)
    c.args.version.now c.args.layout.now m c.find_all.result a)

pub returns-clause-few : goal.returns-clause-few
returns-clause-few g c = λ a. candidates_few c.args.layout.now _ a
