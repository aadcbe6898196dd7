use Rattle.std.proofs.Common.{inl, inr, sym, ◌∙◌, arith}
use Rattle.std.proofs.lemmas.Map.Entries.{length-keys_of}
use Rattle.object_reach.proofs.Fronts.{adds_known, adds_new, overfills_new}
use Rattle.object_reach.proofs.Members.{has_set, has_map, set_added}
use Rattle.object_reach.proofs.search.add.Goals as goal
use Rattle.object_reach.proofs.search.add.Goals.{then-contains_key-via-then-contains_key}
use Rattle.object_reach.proofs.search.add.Goals.{then-contains_key-via-else-contains_key+then-contains}

pub returns-then-contains_key-clause-added : goal.returns-then-contains_key-clause-added
returns-then-contains_key-clause-added c =
    adds_known _ _ _
    (elim c.then-contains_key.branch [
      | then-contains_key-via-then-contains_key w ↦ inl ((has_map c.args.done.now c.args.addr).0 (sym c.contains_key.ensures ∙ w.if-contains_key.true))
      | then-contains_key-via-else-contains_key+then-contains w ↦ inr ((has_set c.args.pending.now c.args.addr).0 (sym w.contains.ensures ∙ w.if-contains.true))
    ])
    c.requires.apart c.requires.fits

pub returns-then-len-ge-OBJECT_LIMIT-clause-limit :
    goal.returns-then-len-ge-OBJECT_LIMIT-clause-limit
returns-then-len-ge-OBJECT_LIMIT-clause-limit c = λ _.
    overfills_new _ _ _ c.len.ensures.ordered c.len-2.ensures.ordered c.requires.apart
    (λ h. elim h [
      | inl k ↦ let e = (has_map c.args.done.now c.args.addr).1 k in grind (arith, e, c.contains_key.ensures, c.if-contains_key.false)
      | inr k ↦ let e = (has_set c.args.pending.now c.args.addr).1 k in grind (arith, e, c.contains.ensures, c.if-contains.false)
    ])
    (omega (arith, c.len.ensures.len, c.len-2.ensures.len, c.if-len-ge-OBJECT_LIMIT.true, length-keys_of c.args.done.now.entries))

pub returns-in-Ok-clause-added : goal.returns-in-Ok-clause-added
returns-in-Ok-clause-added c =
    adds_new _ _ _ _
    (λ k. let e = (has_map c.args.done.now c.args.addr).1 k in grind (arith, e, c.contains_key.ensures, c.if-contains_key.false))
    c.requires.apart (set_added c.args.pending.now c.insert.new.self c.args.addr c.in-Ok.ensures.updates)
    (grind (arith, length-keys_of c.args.done.now.entries, c.in-Ok.ensures.len, c.len.ensures.len, c.len-2.ensures.len, c.if-len-ge-OBJECT_LIMIT.false))
