use Rattle.std.proofs.Common.{◌≡◌, take}
use Rattle.std.specs.Str.Parse.{AllDigits, digits_value}
use Rattle.bx_patch.proofs.read.lengths.decimal.Given as goal

abbrev pub invariant-loop-c : goal.invariant-loop-c
invariant-loop-c l = record { digits : AllDigits 10 (take l.c-index l.text); value : l.value ≡ digits_value 10 (take l.c-index l.text) }
