use Rattle.std.proofs.Common.{Some, ◌≡◌, ◌≢◌, ◌∙◌, ap, arith, length, refl, rules, subst, sym}
use Rattle.std.proofs.lemmas.Result.{err_from_is_err_and}
use Rattle.process_memory.specs.Memory.{byte_at}
use Rattle.process_memory.proofs.Reading.{reading_gives, reading_here, reading_then}
use Rattle.py_process.specs.Facts.{known_of}
use Rattle.py_process.proofs.Sections.{searching}
use Rattle.py_fronts.specs.Answers.{IsOrNoMemory}
use Rattle.py_fronts.specs.Candidates.{named_candidates}
use Rattle.py_fronts.specs.Salvaged.{salvaged_result}
use Rattle.py_fronts.proofs.Steps.{lost_then, reading_both}
use Rattle.heap_search.specs.Salvaged.{code_class, shown_by, shown_reads}
use Rattle.heap_search.specs.Search.{search_of, search_reads}
use Rattle.heap_search.proofs.SalvageSteps.{first_is, named_is, searched_cost, searched_first, searched_is}
use Rattle.heap_search.proofs.SalvageSteps.{unknown_is}
use Rattle.heap_search.proofs.salvaged.salvage_or_search.Goals as goal

pub returns-then-not-is_empty : goal.returns-then-not-is_empty
returns-then-not-is_empty g c =
    let some : length c.in_ok-first.first.interpreters.items ≢ 0 = search rules in
    record {
      answer = reading_gives _ _ c.in_ok-first.ensures.answer (omega arith)
          (λ m a. first_is (g.M.ContainsAddr.contains c.args.info.now.maps) c.args.machine (known_of c.args.info.now)
          c.args.version.now c.args.layout.now m c.args.asked c.args.limit c.args.crash c.args.segments.now
          c.args.pointers.now c.in_ok-first.first.interpreters.items _ a refl some);
    }

pub returns-in_default : goal.returns-in_default
returns-in_default g c =
    let none : length c.in_ok-first.first.interpreters.items ≡ 0 = search rules in
    record {
      answer = reading_gives _ _ c.in_ok-first.ensures.answer (omega arith)
          (λ m a. unknown_is (g.M.ContainsAddr.contains c.args.info.now.maps) c.args.machine (known_of c.args.info.now)
          c.args.version.now c.args.layout.now m c.args.asked c.args.limit c.args.crash c.args.segments.now
          c.args.pointers.now c.in_ok-first.first.interpreters.items _ a refl none
          (sym c.code_class.ensures ∙ c.in_default.is));
    }

pub returns-in_err-named : goal.returns-in_err-named
returns-in_err-named g c =
    let p = err_from_is_err_and c.from_residual-in_err-named.result c.from_residual-in_err-named.ensures.1 in
    let k = known_of c.args.info.now in
    let same = ap (λ ps. length (named_candidates k c.args.version.now c.args.layout.now (byte_at ps)))
    c.in_ok-first.ensures.answer.pieces in
    record {
      answer = rw p.1 (lost_then _ c.in_ok-first.ensures.answer (searching k c.in_err-named.ensures) p.2
          (omega (arith, same)));
    }

pub returns-then-not-is_empty-2 : goal.returns-then-not-is_empty-2
returns-then-not-is_empty-2 g c =
    let k = known_of c.args.info.now in
    let none : length c.in_ok-first.first.interpreters.items ≡ 0 = search rules in
    let some : length c.in_ok-named.named.items ≢ 0 = search rules in
    let both = reading_both c.in_ok-first.ensures.answer (searching k c.in_ok-named.ensures) in
    let same = ap (λ ps. length (named_candidates k c.args.version.now c.args.layout.now (byte_at ps)))
    c.in_ok-first.ensures.answer.pieces in
    record {
      answer = reading_gives _ _ both (omega (arith, same))
          (λ m a. named_is (g.M.ContainsAddr.contains c.args.info.now.maps) c.args.machine k c.args.version.now
          c.args.layout.now m c.args.asked c.args.limit c.args.crash c.args.segments.now c.args.pointers.now
          c.in_ok-first.first.interpreters.items _ c.in_ok-named.named.items a.0 refl none a.1 some);
    }

pub returns-in_err-search : goal.returns-in_err-search
returns-in_err-search g c =
    let p = err_from_is_err_and c.from_residual-in_err-search.result c.from_residual-in_err-search.ensures.1 in
    let contains = g.M.ContainsAddr.contains c.args.info.now.maps in
    let k = known_of c.args.info.now in
    let l = c.args.layout.now in
    let here = byte_at (g.P.ProcessMemory.seen c.args.process.now).pieces in
    let class = c.in-Some.class in
    let known : code_class k ≡ Some class = sym c.code_class.ensures ∙ c.in-Some.is in
    let both = reading_both c.in_ok-first.ensures.answer (searching k c.in_ok-named.ensures) in
    let names = ap (λ ps. length (named_candidates k c.args.version.now l (byte_at ps)))
    c.in_ok-first.ensures.answer.pieces in
    let same = ap (λ ps. search_reads contains l (byte_at ps) c.args.pointers.now class c.args.segments.now)
    both.pieces in
    let cost = searched_first contains l here c.args.asked c.args.limit c.args.segments.now c.args.pointers.now
    (code_class k) class known in
    record {
      answer = rw p.1 (lost_then _ both (searching k c.in_err-search.ensures.answer) p.2
          (omega (arith, names, same, cost)));
    }

pub returns : goal.returns
returns g c =
    let contains = g.M.ContainsAddr.contains c.args.info.now.maps in
    let machine = c.args.machine in
    let k = known_of c.args.info.now in
    let v = c.args.version.now in
    let l = c.args.layout.now in
    let here = byte_at (g.P.ProcessMemory.seen c.args.process.now).pieces in
    let class = c.in-Some.class in
    let s = search_of c.in_ok-search.search in
    let known : code_class k ≡ Some class = sym c.code_class.ensures ∙ c.in-Some.is in
    let none : length c.in_ok-first.first.interpreters.items ≡ 0 = search rules in
    let unnamed : length c.in_ok-named.named.items ≡ 0 = search rules in
    let both = reading_both c.in_ok-first.ensures.answer (searching k c.in_ok-named.ensures) in
    let three = reading_both both (searching k c.in_ok-search.ensures.answer) in
    let names = ap (λ ps. length (named_candidates k v l (byte_at ps))) c.in_ok-first.ensures.answer.pieces in
    let same = ap (λ ps. search_reads contains l (byte_at ps) c.args.pointers.now class c.args.segments.now)
    both.pieces in
    let shown = ap (λ ps. shown_reads l (byte_at ps) c.args.asked c.args.limit s) three.pieces in
    let cost = searched_cost contains l here c.args.asked c.args.limit c.args.segments.now c.args.pointers.now
    (code_class k) class s known (reading_here three).1 in
    record {
      answer = reading_gives _ _
          (reading_then _ three (searching k c.show_found.ensures)
          (λ m a h. subst (λ x. IsOrNoMemory x (salvaged_result c.show_found.result))
          (searched_is contains machine k v l m c.args.asked c.args.limit c.args.crash c.args.segments.now
          c.args.pointers.now c.in_ok-first.first.interpreters.items _
          (shown_by machine k v l m c.args.asked c.args.limit c.args.crash c.args.segments.now
          c.in_ok-first.first.looked s) c.in_ok-named.named.items class s a.0.0 refl none a.0.1 unnamed known a.1 refl) h))
          (omega (arith, names, same, shown, cost)) (λ m h. h);
    }
