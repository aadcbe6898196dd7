use Rattle.std.proofs.Common.{◌≡◌, ◌∷◌, [], ◌+◌, ◌%◌, ◌/◌, ◌-◌, List, ℕ, subst}
use Rattle.std.specs.Prelude.{IfOk, IfErr}
use Rattle.py_lines.specs.Coding.{varint_bytes, IsNoRoom}
use Rattle.py_lines.proofs.Coding.{varint_last, varint_next, added_then, lengths_then}
use Rattle.py_lines.proofs.encoding.+add_varint.Goals as goal

pub returns-then-value-lt64-clause-added : goal.returns-then-value-lt64-clause-added
returns-then-value-lt64-clause-added t c = rw (varint_last c.args.most c.args.value c.if-value-lt64.true) c.add.ensures.added

pub returns-then-value-lt64-clause-refused : goal.returns-then-value-lt64-clause-refused
returns-then-value-lt64-clause-refused t c = rw (varint_last c.args.most c.args.value c.if-value-lt64.true) c.add.ensures.refused

pub returns-clause-added : goal.returns-clause-added
returns-clause-added t c =
    let next = varint_next c.args.most c.args.value c.requires.value c.if-value-lt64.false in
    subst (λ (all : List ℕ). IfOk c.add_varint.result (λ _. c.add_varint.new.table.items ≡ all))
    (added_then c.args.table.now.items ((64 + c.args.value % 64) ∷ []) (varint_bytes (c.args.most - 1) (c.args.value / 64)) (varint_bytes c.args.most c.args.value) c.add-2.new.table.items c.in_ok-add.ensures.added next)
    c.add_varint.ensures.added

pub returns-clause-refused : goal.returns-clause-refused
returns-clause-refused t c =
    let next = varint_next c.args.most c.args.value c.requires.value c.if-value-lt64.false in
    subst (λ (len : ℕ). IfErr c.add_varint.result (λ e. IsNoRoom e len))
    (lengths_then c.args.table.now.items ((64 + c.args.value % 64) ∷ []) (varint_bytes (c.args.most - 1) (c.args.value / 64)) (varint_bytes c.args.most c.args.value) c.add-2.new.table.items c.in_ok-add.ensures.added next)
    c.add_varint.ensures.refused
