-- The exit status of the program, as xxd, od and dd have it; wrong words have one of their own.
use Rattle.std.specs.Prelude.{ℕ, Result, Ok, Err}
use Rattle.bx_cli_commands.specs.declared.fault.Fault.{Fault}
use Rattle.bx_cli_commands.specs.declared.fault.Fault.TheVariants.{Usage}

-- 0 where all is done, 2 where the words are wrong, and 1 at any other fault
abbrev pub status_by : Result (Unit {0}) Fault → ℕ
status_by (Ok done) = 0
status_by (Err Usage) = 2
status_by (Err fault) = 1
