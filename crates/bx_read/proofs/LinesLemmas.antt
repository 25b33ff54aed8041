-- The lines of a text.
use Rattle.std.proofs.Common.{◌≡◌, ℕ, zero, suc, ◌+◌, ◌<◌, Bool, true, false, eqb, Result, Ok, Err, List, [], ◌∷◌, length, get_or, take, drop, refl, arith}
use Rattle.std.specs.Result.{MatchResult}
use Rattle.bx_read.specs.Line.{read_line}
use Rattle.bx_read.specs.Text.{lines_of, is_skipped, answer_then, answers}
use Rattle.bx_read.specs.Lines.{coming, line_view}
use Rattle.bx_read.specs.declared.fault.ReadFault.{ReadFault}
use Rattle.bx_read.specs.declared.line.Line.{Line}
use Rattle.bx_read.specs.declared.lines.DumpLines.{DumpLines}

-- the first line, where the newline behind it is the first one
pub line_at : (text : List ℕ) (k : ℕ) → k < length text → eqb (get_or text k 0) 10 ≡ true → ((j : ℕ) → j < k → eqb (get_or text j 0) 10 ≡ true → ⊥) →
    lines_of text ≡ take k text ∷ lines_of (drop (suc k) text)
line_at [] k inside is before = absurd (omega arith)
line_at (c ∷ text) zero inside is before = rw is refl
line_at (c ∷ text) (suc k) inside is before =
    let other : eqb c 10 ≡ false = not_true (eqb c 10) (before 0 (omega arith)) in
    rw (other, line_at text k (omega arith) is (λ j lt. before (suc j) (omega arith))) refl
  where
    not_true : (b : Bool) → (b ≡ true → ⊥) → b ≡ false
    not_true true h = absurd (h refl)
    not_true false h = refl

-- the last line, where it has no newline
pub line_last : (text : List ℕ) → 0 < length text → ((j : ℕ) → j < length text → eqb (get_or text j 0) 10 ≡ true → ⊥) → lines_of text ≡ text ∷ []
line_last [] some none = absurd (omega arith)
line_last (c ∷ []) some none = rw (not_true (eqb c 10) (none 0 (omega arith))) refl
  where
    not_true : (b : Bool) → (b ≡ true → ⊥) → b ≡ false
    not_true true h = absurd (h refl)
    not_true false h = refl
line_last (c ∷ d ∷ text) some none =
    let other : eqb c 10 ≡ false = not_true (eqb c 10) (none 0 (omega arith)) in
    rw (other, line_last (d ∷ text) (omega arith) (λ j lt. none (suc j) (omega arith))) refl
  where
    not_true : (b : Bool) → (b ≡ true → ⊥) → b ≡ false
    not_true true h = absurd (h refl)
    not_true false h = refl

-- the next line that is read
pub read_step : (r : Result Line ReadFault) (p : ℕ) (line : List ℕ) (before after : DumpLines) →
    MatchResult r (λ l. read_line p line ≡ Ok (l.at, l.hex.now)) (λ e. read_line p line ≡ Err e) →
    MatchResult r (λ l. l.number ≡ p) (λ _. after.text.now ≡ []) → MatchResult r (λ _. after ≡ before) (λ _. after.passed ≡ before.passed) →
    answer_then p (read_line p line) (coming before) ≡ line_view r ∷ coming after
read_step (Ok l) p line before after exact number kept = rw (exact, number, kept) refl
read_step (Err e) p line before after exact number kept = rw (exact, number) refl

pub answers_read : (p : ℕ) (line : List ℕ) (lines : List (List ℕ)) → is_skipped line ≡ false → answers p (line ∷ lines) ≡ answer_then p (read_line p line) (answers (p + 1) lines)
answers_read p line lines e = rw e refl

pub answers_skip : (p : ℕ) (line : List ℕ) (lines : List (List ℕ)) → is_skipped line ≡ true → answers p (line ∷ lines) ≡ answers (p + 1) lines
answers_skip p line lines e = rw e refl

pub none_coming : (s : DumpLines) → length s.text.now ≡ 0 → coming s ≡ []
none_coming s e = go s.text.now e
  where
    go : (text : List ℕ) → length text ≡ 0 → answers (s.passed + 1) (lines_of text) ≡ []
    go [] e = refl
    go (c ∷ text) e = absurd (omega arith)
