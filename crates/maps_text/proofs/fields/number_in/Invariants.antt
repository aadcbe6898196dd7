use Rattle.std.proofs.Common.{◌≡◌, ◌<◌, ◌^◌, drop}
use Rattle.std.specs.List.{list_all}
use Rattle.std.specs.Str.Parse.{digits_value, digits_value_after}
use Rattle.maps_text.specs.Fields.{is_hex}
use Rattle.maps_text.proofs.fields.number_in.Given as goal

abbrev pub invariant-loop-digit : goal.invariant-loop-digit
invariant-loop-digit l = record {
  small : l.number < 16 ^ l.digit-index;
  value : digits_value_after 16 l.number (drop l.digit-index l.digits) ≡ digits_value 16 l.digits;
  digits : list_all is_hex (drop l.digit-index l.digits) ≡ list_all is_hex l.digits;
}
