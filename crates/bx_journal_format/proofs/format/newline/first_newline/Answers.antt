use Rattle.std.proofs.Common.{◌≡◌, ℕ, ◌+◌, ◌<◌, List, ◌∷◌, ◌++◌, length, take, drop, Option, Some, None, arith}
use Rattle.std.specs.Prelude.{IfSome, IfNone}
use Rattle.memchr.specs.Find.{is_byte, IsFirstByte}
use Rattle.bx_journal_format.specs.read.Plain.{HasNoNewline}
use Rattle.bx_journal_format.proofs.ReadLoop.{plain_to, plain_all, parts_at}
use Rattle.bx_journal_format.proofs.format.newline.first_newline.Goals as goal

found : (text : List ℕ) (r : Option ℕ) → IsFirstByte (is_byte 10) text r → IfSome r (λ i. (i < length text) × HasNoNewline (take i text) × (text ≡ take i text ++ 10 ∷ drop (i + 1) text))
found text None f = tt
found text (Some k) f = (f.0.high, plain_to text k (λ i below within is. f.0.before i (omega arith) below is), parts_at text k f.0.high f.1)

none : (text : List ℕ) (r : Option ℕ) → IsFirstByte (is_byte 10) text r → IfNone r (HasNoNewline text)
none text None f = plain_all text (λ i within is. f i (omega arith) within is)
none text (Some k) f = tt

pub returns-clause-found : goal.returns-clause-found
returns-clause-found c = found c.args.text.now c.memchr.result c.memchr.ensures

pub returns-clause-none : goal.returns-clause-none
returns-clause-none c = none c.args.text.now c.memchr.result c.memchr.ensures
