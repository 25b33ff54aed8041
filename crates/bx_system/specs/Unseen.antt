-- A view of the system, which no proof knows anything about.
use Rattle.std.specs.Prelude.{false, [], None}
use Rattle.bx_world.specs.World.{no_stat}
use Rattle.bx_world.specs.World.{SystemState}

-- nothing is seen: what the system has is known to no proof
abbrev pub unseen : SystemState
unseen = record {
  named = λ _. None;
  is_link = λ _. false;
  bytes = λ _. [];
  stat = λ _. no_stat;
  caller = 0;
  there = 0;
  before = 0;
  lent = None;
  output = [];
  errors = [];
  stuck = 0;
}
