-- A place of xxd that counts from the end of its input.
use Rattle.std.specs.Prelude.{◌≡◌, ℕ, ◌-◌, ◌^◌, ◌<◌, ◌⊎◌, None}
use Rattle.bx_cli_commands.specs.declared.jobs.dumps.XxdJob.{XxdJob}

-- no place of the input is so far from its end; or it is further from the start than a place may be
abbrev pub CountsTooFar : ℕ → ℕ → Type 0
CountsTooFar back length = (length < back) ⊎ (2 ^ 62 < length - back)

-- A job of xxd that asks for what another one does, and begins at this place.
pub record IsXxdAt (place : ℕ) (old new : XxdJob) : Type 0 where
  pub seek : new.options.seek ≡ place
  pub counted : new.from_end ≡ None
  pub shown : (new.options.cols ≡ old.options.cols) × (new.options.group ≡ old.options.group) × (new.options.upper ≡ old.options.upper)
      × (new.options.autoskip ≡ old.options.autoskip)
  pub part : (new.options.limit ≡ old.options.limit) × (new.options.shift ≡ old.options.shift)
  pub named : (new.look ≡ old.look) × (new.array ≡ old.array) × (new.file ≡ old.file)
