use Rattle.std.proofs.Common.{◌≡◌, ◌^◌, ◌<◌, ◌≤◌, ℕ, length, take, arith, Option, Some, None}
use Rattle.std.specs.Prelude.{All, IfSome, IsTrue}
use Rattle.std.specs.Str.Parse.{digits_value}
use Rattle.bx_read.specs.Digits.{is_hex}
use Rattle.bx_journal_format.specs.Form.{IsFullAt}
use Rattle.bx_journal_format.proofs.FormLemmas.{full_at}
use Rattle.bx_journal_format.proofs.format.lanes.full_address.Goals as goal

weaker : (o : Option ℕ) (P Q : ℕ → Type 0) → ((n : ℕ) → P n → Q n) → IfSome o P → IfSome o Q
weaker None P Q f h = tt
weaker (Some n) P Q f h = f n h

pub returns : goal.returns
returns c =
    let text = c.args.text.now in
    let long : 68 ≤ length text = omega arith in
    weaker c.parse_address.result (λ n. (n ≡ digits_value 16 (take 8 text)) × (n < 2 ^ 32) × All (λ c. IsTrue (is_hex c)) (take 8 text)) (λ at. IsFullAt at text)
    (λ at is. full_at text long (c.has_columns.ensures c.if-not-has_columns.false) at c.if-text-ne10.false (c.has_newline.ensures c.if-has_newline.false) is.0 is.1 is.2)
    c.parse_address.ensures
