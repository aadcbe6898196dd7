-- The links of the members of a list: `PyGC_Head` of Include/objimpl.h, the link on at 0 and the link back at 8.
use Rattle.std.specs.Prelude.{ℕ, List, Option, Some, None, Ok, Err, bit_and}
use Rattle.elf64_core.specs.Fields.{u64_in}
use Rattle.process_memory.specs.Memory.{Found, Memory, record_at}
use Rattle.gc_lists.specs.declared.links.Links.{Links}

-- those of a record, without the bits that hold marks
abbrev pub links_in : (mask : ℕ) → List ℕ → Links
links_in mask bytes = record { next = bit_and (u64_in bytes 0) mask; back = bit_and (u64_in bytes 8) mask }

-- the links of a member, where they can be read
abbrev pub links_by : (mask : ℕ) → Found (List ℕ) → Option Links
links_by mask (Ok bytes) = Some (links_in mask bytes)
links_by mask (Err f) = None

-- those at an address, where all 16 bytes of them are in memory
abbrev pub links_at : (mask : ℕ) → Memory → ℕ → Option Links
links_at mask m a = links_by mask (record_at m a 16)
