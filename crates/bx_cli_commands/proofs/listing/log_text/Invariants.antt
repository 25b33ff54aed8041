use Rattle.std.proofs.Common.{◌≡◌, take, string_bytes}
use Rattle.std.specs.List.{flat_map}
use Rattle.bx_cli_commands.specs.Listing.{log_line}
use Rattle.bx_cli_commands.proofs.listing.log_text.Given as goal

abbrev pub invariant-loop-row : goal.invariant-loop-row
invariant-loop-row g l = string_bytes l.text ≡ flat_map log_line (take l.row-index l.fn.rows)
