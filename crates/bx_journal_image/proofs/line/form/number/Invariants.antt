use Rattle.std.proofs.Common.{◌≡◌, ◌<◌, ◌^◌, drop}
use Rattle.bx_journal_format.specs.Hex.{number_after}
use Rattle.bx_journal_image.proofs.line.form.number.Given as goal

-- the number so far and the digits that are left give that of all
abbrev pub invariant-loop-c : goal.invariant-loop-c
invariant-loop-c l = (number_after l.n (drop l.c-index l.text) ≡ number_after 0 l.text) × (l.n < 16 ^ l.c-index)
