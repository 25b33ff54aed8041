-- What stands before a command and behind it.
use Rattle.std.specs.Prelude.{ℕ, List, Option}
use Rattle.bx_world.specs.World.{SystemState}

-- What a person can see, how many calls the system refused, what the note has, and what the output holds that dumps and reports are written to
pub record RunState : Type 0 where
  pub state : SystemState
  pub refusals : ℕ
  pub note : List ℕ
  pub written : Option (List ℕ)

-- the same of a world and an output
abbrev pub run_state : {W O : Type 0} → (W → SystemState) → (W → ℕ) → (W → List ℕ) → (O → Option (List ℕ)) → W → O → RunState
run_state state refusals note contents world out = record { state = state world; refusals = refusals world; note = note world; written = contents out }

-- the same of a world beside an output that holds this
abbrev pub run_state_beside : {W : Type 0} → (W → SystemState) → (W → ℕ) → (W → List ℕ) → Option (List ℕ) → W → RunState
run_state_beside state refusals note written world = record { state = state world; refusals = refusals world; note = note world; written = written }
