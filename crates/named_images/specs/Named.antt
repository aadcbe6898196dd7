-- Images by the words that name them.
use Rattle.std.specs.Prelude.{ℕ, List, [], ◌∷◌, map, Vec}
use Rattle.std.specs.Global.{Global}
use Rattle.image_memory.specs.Images.{Pushed}
use Rattle.image_memory.specs.Mmap.{whole_view}

-- the bytes of some files
abbrev pub contents : List (Vec ℕ Global) → List (List ℕ)
contents files = map (λ file. file.items) files

-- the images of some words, each with the contents of its file under its path
abbrev pub images_by : List (List ℕ) → List (List ℕ × List ℕ) → Pushed
images_by [] images = []
images_by (bytes ∷ rest) [] = []
images_by (bytes ∷ rest) (image ∷ images) = (image.0, whole_view bytes) ∷ images_by rest images

-- the images that the arguments name, with what their files hold
abbrev pub images_read : List (List ℕ × List ℕ) → List (List ℕ) → Pushed
images_read images contents = images_by contents images
