-- Calls that fail on purpose.
use Rattle.std.specs.Prelude.{ℕ, zero, suc, Bool, false, ◌==◌, ◌-◌}
use Rattle.bx_image.specs.declared.device.fuse.Fuse.{Fuse}
use Rattle.bx_image.specs.declared.device.fuse.Fuse.TheVariants.{Never, After, Once}
use Rattle.bx_image.specs.declared.device.fuse.Part.{Part}

-- What callers see of a device or a text with a fuse: the one within, which calls to come fail, how much of such a call takes
-- effect, and how many have failed.
pub record Fused (D : Type 0) : Type 0 where
  pub within : D
  pub reads : Fuse
  pub writes : Fuse
  pub part : Part
  pub failures : ℕ

-- whether the next call fails
abbrev pub is_blown : Fuse → Bool
is_blown Never = false
is_blown (After n) = n == 0
is_blown (Once n) = n == 0

-- the fuse after one call
abbrev pub after_call : Fuse → Fuse
after_call Never = Never
after_call (After n) = After (n - 1)
after_call (Once zero) = Never
after_call (Once (suc n)) = Once n
