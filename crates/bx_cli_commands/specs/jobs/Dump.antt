-- The style of a dump that a job asks for.
use Rattle.std.specs.Prelude.{◌≡◌, ◌<◌, ◌^◌, ℕ, Option, None, Some, List, length}
use Rattle.bx_dump.specs.declared.xxd.options.XxdStyle.{XxdStyle}
use Rattle.bx_dump.specs.declared.xxd.options.XxdStyle.TheVariants as style
use Rattle.bx_cli_commands.specs.declared.jobs.dumps.XxdLook.{XxdLook}
use Rattle.bx_cli_commands.specs.declared.jobs.dumps.XxdLook.TheVariants as look

-- the name of an array: its own, or else the file's
abbrev pub array_name : Option (List ℕ) → Option (List ℕ) → Option (List ℕ)
array_name None file = file
array_name (Some own) file = Some own

-- The style of a look. An array has this name, unless no count could say how long it is.
abbrev pub IsStyleOf : XxdLook → Option (List ℕ) → XxdStyle → Type 0
IsStyleOf look.Normal file s = s ≡ style.Normal
IsStyleOf look.Plain file s = s ≡ style.Plain
IsStyleOf look.Bits file s = s ≡ style.Bits
IsStyleOf look.Unbroken file s = s ≡ style.Unbroken
IsStyleOf (look.Decimal bits) file s = s ≡ style.Decimal bits
IsStyleOf (look.Words decimal) file s = s ≡ style.Words decimal
IsStyleOf look.Include None s = s ≡ style.Include None
IsStyleOf look.Include (Some name) (style.Include (Some given)) = given.now ≡ name
IsStyleOf look.Include (Some name) s = 2 ^ 62 < length name
