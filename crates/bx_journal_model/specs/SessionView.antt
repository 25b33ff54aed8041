-- What callers see of a session.
use Rattle.std.specs.Prelude.{ℕ, Bool}
use Rattle.bx_journal_model.specs.declared.devices.Devices.{Devices}

-- its image's device, its journal's store, the store of its redo text, how many changes stand and how many are undone, and whether it is broken
pub record SessionView (D T : Type 0) : Type 0 where
  pub image : D
  pub journal : T
  pub redo : T
  pub count : ℕ
  pub undone : ℕ
  pub is_broken : Bool

-- its three devices
abbrev pub devices_of : {D T : Type 0} → SessionView D T → Devices D T
devices_of s = record { image = s.image; journal = s.journal; redo = s.redo }
