use Rattle.std.proofs.Common.{◌∙◌, ap}
use Rattle.std.proofs.lemmas.Result.{err_from_is_err_and}
use Rattle.image_memory.specs.Backed.{regions_of}
use Rattle.process_memory.specs.Seen.{Seen}
use Rattle.core_stacks.proofs.Stacks.{over_this}
use Rattle.salvage_words.specs.Seen.{asked_salvage}
use Rattle.salvage_report.proofs.Remains.{salvages_by}
use Rattle.salvage_report.proofs.left.salvaged_of.Goals as goal

pub returns-in_err-pointers : goal.returns-in_err-pointers
returns-in_err-pointers c =
    let p = err_from_is_err_and c.from_residual.result c.from_residual.ensures.1 in
    rw p.1 p.2

pub returns : goal.returns
returns c =
    let here = over_this (regions_of c.args.process.now.dump)
    (ap (λ (s : Seen). s.pieces) (c.new-view.ensures ∙ c.view.ensures)) c.salvage_or_search.ensures.answer in
    salvages_by (asked_salvage c.args.words.now) c.args.process.now c.args.crash c.maps.result.now.items
    c.in_ok-pointers.pointers.items c.salvage_or_search.result
    (record {
      are = rw c.core-core.ensures.same at c.maps.ensures.are;
      told = rw c.core-core.ensures.same at c.in_ok-pointers.ensures;
    })
    (rw (c.machine.ensures, c.core-core.ensures.same, c.deref.ensures.value, c.deref-2.ensures.value) at here)
