-- Where the objects of a frame stand.
use Rattle.std.proofs.Common.{◌≡◌, ◌+◌, ◌<◌, ◌^◌, ℕ, refl, arith}
use Rattle.std.specs.List.{sum_by}
use Rattle.py_fields.specs.declared.layout.Layout.{Layout}
use Rattle.memory_builder.specs.Program.{Frame}
use Rattle.memory_builder.specs.Frames.{code_place, names_place, spots_for, values_place}
use Rattle.memory_builder.specs.Sizes.{frame_len, frame_size, local_size, name_size, records_size, rounded, table_len}
use Rattle.memory_builder.specs.Sizes.{text_len, tuple_len}

pub spots_are : (l : Layout) (at : ℕ) (f : Frame) (frame code table tuple file name names : ℕ)
    → frame ≡ rounded (frame_len l f) → code ≡ rounded l.code.size → table ≡ rounded (table_len l f)
    → tuple ≡ rounded (tuple_len l f) → file ≡ rounded (text_len l f.filename) → name ≡ rounded (text_len l f.name)
    → names ≡ sum_by (name_size l) f.locals
    → record {
      code = at + frame;
      table = at + frame + code;
      tuple = at + frame + code + table;
      file = at + frame + code + table + tuple;
      name = at + frame + code + table + tuple + file;
      names = at + frame + code + table + tuple + file + name;
      values = at + frame + code + table + tuple + file + name + names;
    } ≡ spots_for l at f
spots_are l at f frame code table tuple file name names a b c d e g h = rw (a, b, c, d, e, g, h) refl

-- the parts of a frame are no more than the frame
pub record PartsFit (l : Layout) (at : ℕ) (f : Frame) : Type 0 where
  pub names : at + records_size l f + sum_by (name_size l) f.locals < 2 ^ 63
  pub values : at + records_size l f + sum_by (name_size l) f.locals + sum_by (local_size l) f.locals < 2 ^ 63

pub parts_fit : (l : Layout) (at : ℕ) (f : Frame) → at + frame_size l f < 2 ^ 63 → PartsFit l at f
unfolding frame_size
parts_fit l at f h = record { names = omega arith; values = omega arith }

-- where the parts of a frame end
pub record PlacesFit (l : Layout) (at : ℕ) (f : Frame) : Type 0 where
  pub code : code_place l at f < 2 ^ 63
  pub names : names_place l at f + sum_by (name_size l) f.locals < 2 ^ 63
  pub values : values_place l at f + sum_by (local_size l) f.locals < 2 ^ 63

pub places_fit : (l : Layout) (at : ℕ) (f : Frame) → at + frame_size l f < 2 ^ 63 → PlacesFit l at f
unfolding frame_size records_size
places_fit l at f h = record { code = omega arith; names = omega arith; values = omega arith }
