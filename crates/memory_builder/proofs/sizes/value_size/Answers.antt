use Rattle.std.proofs.Common.{◌≡◌, ◌∙◌, ◌+◌, ◌*◌, List, ap, length, map, subst, sym, arith}
use Rattle.std.specs.List.{sum_by}
use Rattle.memory_builder.specs.declared.parts.ProgramItem.{ProgramItem}
use Rattle.memory_builder.specs.Mirror.{item_in, program_value}
use Rattle.memory_builder.specs.Sizes.{capped, held_size, item_size, list_len, number_len, rounded, text_len}
use Rattle.memory_builder.proofs.Lists.{length_map}
use Rattle.memory_builder.proofs.Sums.{fits_capped}
use Rattle.memory_builder.proofs.sizes.value_size.Goals as goal

pub returns-in-Number : goal.returns-in-Number
unfolding held_size item_size
returns-in-Number c =
    let l = c.args.layout.now in
    let is = c.rounded.ensures.value ∙ ap rounded c.number_len.ensures.value in
    let fits = fits_capped (rounded (number_len l)) (omega (
      arith,
      c.rounded.ensures.bound,
      c.number_len.ensures.bound,
      is,
    )) in
    subst (λ v. c.rounded.result ≡ capped (held_size l (program_value v))) (sym c.in-Number.is) (is ∙ fits)

pub returns-in-Words : goal.returns-in-Words
unfolding held_size item_size
returns-in-Words c =
    let l = c.args.layout.now in
    let is = c.rounded-in-Words.ensures.value ∙ ap rounded c.text_len.ensures.value in
    let fits = fits_capped (rounded (text_len l c.in-Words.text)) (omega (
      arith,
      c.rounded-in-Words.ensures.bound,
      c.text_len.ensures.bound,
      is,
    )) in
    subst (λ v. c.rounded-in-Words.result ≡ capped (held_size l (program_value v))) (sym c.in-Words.is) (is ∙ fits)

pub returns-in-List : goal.returns-in-List
unfolding held_size
returns-in-List c =
    let l = c.args.layout.now in
    let items = c.in-List.items.items in
    let here : c.list_size.result ≡ capped (rounded (list_len l) + rounded (8 * length items) + sum_by (item_size l)
    (map item_in items)) =
    subst (λ (xs : List ProgramItem). c.list_size.result ≡ capped
    (rounded (list_len l) + rounded (8 * length xs) + sum_by (item_size l) (map item_in xs))) c.deref.ensures.value
    c.list_size.ensures in
    subst (λ v. c.list_size.result ≡ capped (held_size l (program_value v))) (sym c.in-List.is)
    (here ∙ ap (λ n. capped (rounded (list_len l) + rounded (8 * n) + sum_by (item_size l) (map item_in items)))
    (sym (length_map item_in items)))
