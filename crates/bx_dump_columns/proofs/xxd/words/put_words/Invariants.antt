use Rattle.std.proofs.Common.{◌≡◌, ◌*◌, take}
use Rattle.bx_dump_columns.specs.Words.{words_text}
use Rattle.bx_dump_columns.proofs.xxd.words.put_words.Given as goal

-- the numbers so far
abbrev pub invariant-loop-k : goal.invariant-loop-k
invariant-loop-k l = take (l.size * l.k) l.field ≡ words_text l.upper l.group l.k l.bytes
