-- Calls that fail on purpose.
use Rattle.std.specs.Prelude.{ℕ, ◌/◌, ◌-◌, ◌+◌, nat_lt, if◌then◌else◌}
use Rattle.bx_image.specs.declared.device.fuse.Part.{Part}
use Rattle.bx_image.specs.declared.device.fuse.Part.TheVariants.{Nothing, Half, All}

-- how many of n things a part of them has
abbrev pub part_of : Part → ℕ → ℕ
part_of Nothing n = 0
part_of Half n = n / 2
part_of All n = n

-- the length that a part of the change from one to another leads to
abbrev pub reached : Part → ℕ → ℕ → ℕ
reached part from to = if nat_lt from to then from + part_of part (to - from) else from - part_of part (from - to)
