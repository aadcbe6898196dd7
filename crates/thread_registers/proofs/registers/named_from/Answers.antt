use Rattle.std.proofs.Common.{ℕ, ◌+◌, List, [], ◌∷◌, drop, get_or, refl, ◌∙◌, ◌++◌, ap, map, append-nil, arith, sym}
use Rattle.std.proofs.lemmas.List.{at_drop_all}
use Rattle.thread_registers.specs.Names.{name_of}
use Rattle.elf64_core.specs.Fields.{u64_in}
use Rattle.thread_registers.specs.Threads.{Named, named_from, named_of}
use Rattle.thread_registers.proofs.Rest.{next, no_name, pushed_one, value_more}
use Rattle.thread_registers.proofs.registers.named_from.Goals as goal

abbrev named : List ℕ → ℕ → Named
named name value = record { name = name; value = value }

pub loop-name-preserved : goal.loop-name-preserved
unfolding named_from
loop-name-preserved c =
    let names = c.args.names.now in
    let status = c.args.status.now in
    let i = c.loop-name.name-index in
    let at = c.loop-name.at in
    let x = get_or names i no_name in (
      omega (arith, c.loop-name.invariant.0),
      value_more named_of c.loop-name.registers.items _ (named x.now (u64_in status at) ∷ [])
          (named_from (map name_of (drop (i + 1) names)) status (at + 8)) _ _
          (ap (λ ns. named_from (map name_of ns) status at) (next names i x no_name c.loop-name-test.true refl))
          c.loop-name.invariant.1
          (pushed_one named_of c.loop-name.registers.items _ _ _ c.in_ok-push.ensures.items
          (ap (λ v. named x.now v) c.u64_in-value.ensures)),
    )

pub returns : goal.returns
unfolding named_from
returns c =
    let end = at_drop_all (λ xs. named_from (map name_of xs) c.args.status.now c.loop-name.at) c.args.names.now
    c.loop-name.name-index c.loop-name-test.false in
    sym (append-nil (map named_of c.loop-name.registers.items))
    ∙ ap (λ t. map named_of c.loop-name.registers.items ++ t) (sym end) ∙ c.loop-name.invariant.1
