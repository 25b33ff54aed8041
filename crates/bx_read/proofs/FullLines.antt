-- A line of xxd's default form, in front of others.
use Rattle.std.proofs.Common.{◌≡◌, ◌≢◌, ℕ, suc, ◌+◌, Some, Ok, List, [], ◌∷◌, ◌++◌, length, drop, refl, arith, sym, ap, ◌∙◌, append_assoc}
use Rattle.std.specs.List.{All}
use Rattle.std.proofs.lemmas.Bool.{ne_eqb}
use Rattle.std.proofs.lemmas.List.{drop_at, length-append}
use Rattle.bx_read.specs.Digits.{pairs_of}
use Rattle.bx_read.specs.private.Full.{IsFull}
use Rattle.bx_read.specs.Text.{lines_of, answer_then, answers}
use Rattle.bx_read.proofs.GrammarLemmas.{read_line-only}
use Rattle.bx_read.proofs.LinesLemmas.{answers_read}
use Rattle.bx_read.proofs.DumpLemmas.{first_is, not_skipped}

-- the first line, by what it is
pub first_line : (line rest : List ℕ) → All (λ c. c ≢ 10) line → lines_of (line ++ 10 ∷ rest) ≡ line ∷ lines_of rest
first_line [] rest whole = refl
first_line (c ∷ line) rest whole =
    rw (ne_eqb c 10 (whole 0 0 (omega arith)), first_line line rest (λ k d inside. whole (suc k) d (omega arith))) refl

pub full_coming : (p at : ℕ) (text after bytes : List ℕ) → IsFull text at bytes → after ≡ drop 68 text →
    (hex : List ℕ) × (pairs_of hex ≡ Some bytes) × (answers p (lines_of text) ≡ Ok (at, hex, p) ∷ answers (p + 1) (lines_of after))
full_coming p at text after bytes f cut =
    let some = not_skipped f.line (first_is f.line at f.hex bytes f.is) in
    let turned : f.line ++ 10 ∷ f.rest ≡ (f.line ++ 10 ∷ []) ++ f.rest = sym (append_assoc f.line (10 ∷ []) f.rest) in
    let len : length (f.line ++ 10 ∷ []) ≡ 68 = omega (arith, length-append f.line (10 ∷ []), f.long) in
    let rest : after ≡ f.rest = cut ∙ ap (drop 68) (f.spelled ∙ turned) ∙ drop_at (f.line ++ 10 ∷ []) f.rest 68 len in (
      f.hex,
      f.is.pairs,
      ap (λ t. answers p (lines_of t)) f.spelled ∙ ap (answers p) (first_line f.line f.rest f.whole)
          ∙ answers_read p f.line (lines_of f.rest) some ∙ ap (λ r. answer_then p r (answers (p + 1) (lines_of f.rest))) (read_line-only p f.line at f.hex bytes f.is)
          ∙ ap (λ t. Ok (at, f.hex, p) ∷ answers (p + 1) (lines_of t)) (sym rest),
    )
