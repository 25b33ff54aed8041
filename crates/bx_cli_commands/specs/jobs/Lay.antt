-- What running a job does that writes what a dump makes of nothing.
use Rattle.std.specs.Prelude.{◌≡◌, ℕ, Bool, true, false, Option, List}
use Rattle.bx_read_stream.specs.declared.fault.StreamFault.{StreamFault}
use Rattle.bx_read_stream.specs.Laid.{LaysAll, LaysFrontOf}
use Rattle.bx_read_stream.specs.Plain.{LaysPlain, StopsPlain}
use Rattle.bx_cli_commands.specs.declared.fault.Fault.{Fault}
use Rattle.bx_cli_commands.specs.Fault.{stream_fault}

-- some of the input was read, and what plain hexadecimal makes of nothing was written, or what a dump makes
abbrev pub LaysForm : Bool → ℕ → Option (List ℕ) → Option (List ℕ) → Option (List ℕ) → ℕ → Type 0
LaysForm true at r0 w0 w1 n = (r1 : Option (List ℕ)) × LaysPlain at r0 r1 w0 w1 n
LaysForm false at r0 w0 w1 n = (r1 : Option (List ℕ)) × LaysAll at r0 r1 w0 w1 n

-- what a fault leaves: some of the input was read, and of what that makes a front was written
abbrev pub StopsForm : Bool → ℕ → Option (List ℕ) → Option (List ℕ) → Option (List ℕ) → StreamFault → Type 0
StopsForm true at r0 w0 w1 fault = (r1 : Option (List ℕ)) × StopsPlain at r0 r1 w0 w1 fault
StopsForm false at r0 w0 w1 fault = (r1 : Option (List ℕ)) × LaysFrontOf at r0 r1 w0 w1 fault

-- why the program stopped, and what that leaves
abbrev pub StopsLay : Bool → ℕ → Option (List ℕ) → Option (List ℕ) → Option (List ℕ) → Fault → Type 0
StopsLay plain at r0 w0 w1 e = (f : StreamFault) × (e ≡ stream_fault f) × StopsForm plain at r0 w0 w1 f
