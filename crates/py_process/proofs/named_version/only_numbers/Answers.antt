use Rattle.std.proofs.Common.{◌≡◌, ◌∷◌, [], List, ℕ, ◌<◌, ◌+◌, ◌++◌, ◌∙◌, ap, arith, drop, get_or, length, subst, sym, take}
use Rattle.std.proofs.Common.{take-append-drop}
use Rattle.std.proofs.lemmas.List.{take_all, take_more}
use Rattle.std.specs.Prelude.{Option}
use Rattle.image_memory.specs.declared.maps.CoreMapRange.{CoreMapRange}
use Rattle.py_process.specs.NamedVersions.{numbers_told, the_only}
use Rattle.py_process.proofs.NamedVersions.{ToldSoFar, told_differs, told_init, told_is, told_more, told_skip}
use Rattle.py_process.proofs.named_version.only_numbers.Goals as goal
use Rattle.py_process.proofs.named_version.only_numbers.Goals.{in-Some+else-differs, in_default}

pub loop-map-init : goal.loop-map-init
loop-map-init c = told_init

one_more : (maps : List CoreMapRange) (i : ℕ) (x : CoreMapRange) → i < length maps → x ≡ get_or maps i x
    → take (i + 1) maps ≡ take i maps ++ x ∷ []
one_more maps i x lt is = take_more maps i x lt ∙ ap (λ y. take i maps ++ y ∷ []) (sym is)

pub returns-then-differs : goal.returns-then-differs
returns-then-differs c =
    let maps = c.args.maps.now in
    let i = c.loop-map.map-index in
    let parts = sym (take-append-drop (i + 1) maps)
    ∙ ap (λ xs. xs ++ drop (i + 1) maps) (one_more maps i c.map-item.result c.loop-map-test.true c.map-item.is) in
    told_differs (take i maps) (drop (i + 1) maps) maps c.map-item.result c.loop-map.told c.in-Some.numbers
    (sym c.map_numbers.ensures ∙ c.in-Some.is) (sym c.differs.ensures ∙ c.if-differs.true) c.loop-map.invariant parts

pub loop-map-preserved : goal.loop-map-preserved
loop-map-preserved c =
    let maps = c.args.maps.now in
    let i = c.loop-map.map-index in
    let more = one_more maps i c.map-item.result c.loop-map-test.true c.map-item.is in
    subst (λ xs. ToldSoFar xs c.match-map_numbers.told) (sym more) (elim c.match-map_numbers.branch [
      | in-Some+else-differs w ↦ subst (ToldSoFar (take i maps ++ c.map-item.result ∷ [])) (sym w.told-is)
          (told_more (take i maps) c.map-item.result c.loop-map.told w.in-Some.numbers
          (sym c.map_numbers.ensures ∙ w.in-Some.is) (sym w.differs.ensures ∙ w.if-differs.false) c.loop-map.invariant)
      | in_default w ↦ subst (ToldSoFar (take i maps ++ c.map-item.result ∷ [])) (sym w.told-is)
          (told_skip (take i maps) c.map-item.result c.loop-map.told (sym c.map_numbers.ensures ∙ w.in_default.is)
          c.loop-map.invariant)
    ])

pub returns : goal.returns
returns c =
    let all = take_all c.loop-map.map-index c.args.maps.now (omega arith) in
    told_is (take c.loop-map.map-index c.args.maps.now) c.loop-map.told c.loop-map.invariant
    ∙ ap (λ xs. the_only (numbers_told xs)) all
