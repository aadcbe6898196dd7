use Rattle.maps_text.proofs.path.write_maps_file.Goals as goal

pub returns : goal.returns
returns c = rw (c.in_radix.ensures, c.in_radix-2.ensures, c.clear.ensures.bytes) at c.write.ensures.bytes
