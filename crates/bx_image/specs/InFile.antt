-- What callers see of an image in a file.
use Rattle.std.specs.Prelude.{◌≡◌, ℕ, Option, List}
use Rattle.bx_image.specs.declared.device.access.RandomAccess.{Ghosts}
use Rattle.bx_image.specs.declared.device.file.FileImage.{FileImage}

-- the file that has the image
abbrev pub image_file : {F : Type 0} {G : Ghosts F} → FileImage F G → F
image_file i = i.file

-- the bytes of the image
abbrev pub image_in : {F : Type 0} {G : Ghosts F} → FileImage F G → List ℕ
image_in {G = G} i = G.content i.file

-- whether the file is faithful
abbrev pub faithful_in : {F : Type 0} {G : Ghosts F} → FileImage F G → Type 0
faithful_in {G = G} i = G.faithful i.file

-- what may be found of the image after a loss of power
abbrev pub found_in : {F : Type 0} {G : Ghosts F} → FileImage F G → List ℕ → Type 0
found_in {G = G} i = G.survives i.file

-- the length up to which the image can grow
abbrev pub limit_of : {F : Type 0} {G : Ghosts F} → FileImage F G → ℕ
limit_of i = i.most

-- the length that was refused last
abbrev pub last_refused : {F : Type 0} {G : Ghosts F} → FileImage F G → Option ℕ
last_refused i = i.refused

-- how many calls have failed
abbrev pub failures_of : {F : Type 0} {G : Ghosts F} → FileImage F G → ℕ
failures_of i = i.failures

-- the image can grow as far as before, and the same length was refused last
pub record KeepsLimit {F : Type 0} {G : Ghosts F} (old new : FileImage F G) : Type 0 where
  pub limit : limit_of new ≡ limit_of old
  pub refused : last_refused new ≡ last_refused old
