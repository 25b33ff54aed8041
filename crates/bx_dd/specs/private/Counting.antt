-- What is left after whole pieces.
use Rattle.std.specs.Prelude.{ℕ, ◌%◌, ◌==◌, min, if◌then◌else◌, List, [], ◌++◌, codes}
use Rattle.std.specs.Fmt.{decimal}

-- 1 where a rest is left after whole pieces, else 0
abbrev pub parts_in : ℕ → ℕ → ℕ
parts_in size n = min (n % size) 1

-- how many records were cut, if any were
abbrev pub cut_text : ℕ → List ℕ
cut_text n = if n == 0 then [] else if n == 1 then codes "1 truncated record\n" else decimal n ++ codes " truncated records\n"
