use Rattle.std.proofs.Common.{◌≡◌, ◌∙◌, ◌+◌, ◌*◌, length, map, ap, ap₂, sym, arith}
use Rattle.py_fields.specs.Places.{list_places, object_places}
use Rattle.memory_builder.specs.Chains.{addresses_from}
use Rattle.memory_builder.specs.Mirror.{item_in}
use Rattle.memory_builder.specs.Sizes.{held_size, item_size, list_len, rounded}
use Rattle.memory_builder.specs.Values.{address_array, first_item, items_place}
use Rattle.memory_builder.proofs.LaidValues.{addresses_len, list_added, list_writes_are}
use Rattle.memory_builder.proofs.Lists.{length_map}
use Rattle.memory_builder.proofs.values.add_list.Goals as goal

pub add_object-requires-clause-inside : goal.add_object-requires-clause-inside
unfolding list_places object_places
add_object-requires-clause-inside c =
    let objects = c.requires.sound.objects in
    let len = c.list_len-2.ensures.value in (
      omega (arith, len, objects.list.group.inside.0),
      (
        omega (arith, len, objects.list.group.inside.1.0),
        (omega (arith, len, objects.object.group.inside.0), tt),
      ),
    )

pub item_addresses-requires-clause-fits : goal.item_addresses-requires-clause-fits
unfolding held_size
item_addresses-requires-clause-fits c =
    let record_is : c.rounded.result ≡ rounded (list_len c.args.layout.now) = c.rounded.ensures.value
    ∙ ap rounded c.list_len.ensures.value in
    let count_is : c.rounded-2.result ≡ rounded (8 * length (map item_in c.args.items.now)) = c.rounded-2.ensures.value
    ∙ ap (λ n. rounded (8 * n)) (sym (length_map item_in c.args.items.now)) in
    omega (arith, record_is, count_is, c.requires.fits)

pub add_aligned-requires : goal.add_aligned-requires
add_aligned-requires c =
    let bytes = ap length (c.deref.ensures.value ∙ c.in_ok-addresses.ensures) in
    omega (
      arith,
      bytes,
      addresses_len (item_size c.args.layout.now) (c.args.at + c.rounded.result + c.rounded-2.result)
          (map item_in c.args.items.now),
      length_map item_in c.args.items.now,
      c.requires.few,
    )

pub returns : goal.returns
returns c =
    let l = c.args.layout.now in
    let xs = map item_in c.args.items.now in
    let record_is : c.rounded.result ≡ rounded (list_len l) = c.rounded.ensures.value
    ∙ ap rounded c.list_len.ensures.value in
    let count_is : c.rounded-2.result ≡ rounded (8 * length xs) = c.rounded-2.ensures.value
    ∙ ap (λ n. rounded (8 * n)) (sym (length_map item_in c.args.items.now)) in
    let place_is : c.args.at + c.rounded.result ≡ items_place l c.args.at = ap (λ n. c.args.at + n) record_is in
    let first_is : c.args.at + c.rounded.result + c.rounded-2.result ≡ first_item l c.args.at xs =
    ap₂ (λ n k. n + k) place_is count_is in
    list_added c.add_items.result c.add_items.new.out.items c.args.out.now.items c.add_object.new.out.items
    c.add_aligned.new.out.items l c.args.types c.args.at xs _ _ c.deref.result.now
    c.in_ok-add_object.ensures c.list_len-2.ensures.value
    (list_writes_are l c.args.types.list (length c.args.items.now) (c.args.at + c.rounded.result) (length xs) c.args.at
    (sym (length_map item_in c.args.items.now)) place_is)
    c.in_ok-add_aligned.ensures
    (c.deref.ensures.value ∙ c.in_ok-addresses.ensures ∙ ap
    (λ n. address_array (addresses_from (item_size l) n xs)) first_is)
    c.add_items.ensures
