-- The end of hexdump -C.
use Rattle.std.specs.Prelude.{ℕ, false, List, ◌++◌, codes}
use Rattle.bx_text.specs.Field.{hex_text}

-- the address behind the last byte, on a line of its own
abbrev pub canon_end : ℕ → List ℕ
canon_end at = hex_text false 8 at ++ codes "\n"
