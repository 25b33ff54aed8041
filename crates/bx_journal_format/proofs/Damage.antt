-- At which line a text is damaged.
use Rattle.std.proofs.Common.{◌≡◌, ℕ, zero, suc, ◌+◌, ◌<◌, ◌≤◌, List, [], ◌∷◌, ◌++◌, length, take, drop, refl, ap, sym, ◌∙◌, subst, arith, Option, Some, None, append-nil, append_assoc, length-append, length-drop}
use Rattle.std.specs.Prelude.{option_and_then}
use Rattle.std.proofs.lemmas.Grind.{common_steps}
use Rattle.std.proofs.lemmas.List.{take-append-drop}
use Rattle.std.proofs.Math.Seq.{take-add}
use Rattle.bx_journal_format.specs.read.Plain.{HasNoNewline}
use Rattle.bx_journal_format.specs.Text.{Reading, Split, split, text_of_lines, start, after_lines, IsRest, Reads, IsAccepted, first_lines, IsDamagedAt, next}
use Rattle.bx_journal_format.specs.count.Mark.{IsMark}
use Rattle.bx_journal_format.proofs.Splits.{AllPlain, split-ended, split-append, split-plain}
use Rattle.bx_journal_format.proofs.Runs.{after_lines-append, empty_rest}
use Rattle.bx_journal_format.proofs.Inverse.{bind_some}
use Rattle.bx_journal_format.proofs.Foreign.{lines_plain}
use Rattle.bx_journal_format.proofs.LineLoop.{IsLine}

pub split_joined : (ls : List (List ℕ)) → AllPlain ls → split (text_of_lines ls) ≡ record { lines = ls; rest = [] }
unfolding split
split_joined [] plain = refl
split_joined (l ∷ ls) plain =
    ap split (append_assoc l (10 ∷ []) (text_of_lines ls)) ∙ split-ended l (text_of_lines ls) plain.0
    ∙ ap (λ (s : Split). record { lines = l ∷ s.lines; rest = s.rest }) (split_joined ls plain.1)

pub take_plain : (k : ℕ) (ls : List (List ℕ)) → AllPlain ls → AllPlain (take k ls)
take_plain zero ls plain = tt
take_plain (suc k) [] plain = tt
take_plain (suc k) (l ∷ ls) plain = (plain.0, take_plain k ls plain.1)

-- a front of lines that are read is read
pub front_read : (k : ℕ) (ls : List (List ℕ)) (r q : Reading) → after_lines r ls ≡ Some q → (p : Reading) × (after_lines r (take k ls) ≡ Some p)
unfolding after_lines
front_read zero ls r q e = (r, refl)
front_read (suc k) [] r q e = (r, refl)
front_read (suc k) (l ∷ ls) r q e =
    let b = bind_some (λ p. after_lines p ls) (next r l) q e in
    let f = front_read k ls b.0 q b.2 in
    (f.0, on_step (next r l) b.0 (take k ls) f.0 b.1 f.1)
  where
    on_step : (o : Option Reading) (s : Reading) (ls : List (List ℕ)) (p : Reading) → o ≡ Some s → after_lines s ls ≡ Some p → option_and_then (λ q. after_lines q ls) o ≡ Some p
    on_step o s ls p is e = rw is e

pub first_few : (k : ℕ) (text : List ℕ) → k ≤ length (split text).lines → first_lines k text ≡ text_of_lines (take k (split text).lines)
first_few k text h = grind (arith, common_steps)

pub first_all : (k : ℕ) (text : List ℕ) → length (split text).lines < k → first_lines k text ≡ text
first_all k text h = grind (arith, common_steps)

pub accepts : (k : ℕ) (text : List ℕ) (r : Reading) → k ≤ length (split text).lines → after_lines start (take k (split text).lines) ≡ Some r → IsAccepted (first_lines k text)
accepts k text r h e =
    let ls : List (List ℕ) = take k (split text).lines in
    let parts : split (text_of_lines ls) ≡ record { lines = ls; rest = [] } = split_joined ls (take_plain k (split text).lines (lines_plain text)) in
    let reads : Reads (text_of_lines ls) r = record {
      lines = ap (λ (s : Split). after_lines start s.lines) parts ∙ e;
      rest = subst (λ (s : Split). IsRest r.entries r.stage s.rest) (sym parts) (empty_rest r.entries r.stage);
    } in
    subst IsAccepted (sym (first_few k text h)) (r, reads)

-- a line that is out of place
pub damaged_line : (text : List ℕ) (a b : List (List ℕ)) (l : List ℕ) (r : Reading) → (split text).lines ≡ a ++ l ∷ b → after_lines start a ≡ Some r → next r l ≡ None → IsDamagedAt text (suc (length a))
unfolding after_lines
damaged_line text a b l r is e none =
    let total : length (split text).lines ≡ length a + suc (length b) = ap length is ∙ length-append a (l ∷ b) in
    let upto : take (suc (length a)) (split text).lines ≡ a ++ l ∷ [] = ap (take (suc (length a))) is ∙ take_one a b l in
    let stops : after_lines start (take (suc (length a)) (split text).lines) ≡ None = ap (after_lines start) upto ∙ after_lines-append start r a (l ∷ []) e ∙ rw none refl in
    record {
      damaged = λ acc.
          let parts : split (text_of_lines (take (suc (length a)) (split text).lines)) ≡ record { lines = take (suc (length a)) (split text).lines; rest = [] } = split_joined (take (suc (length a)) (split text).lines) (take_plain (suc (length a)) (split text).lines (lines_plain text)) in
          let moved : IsAccepted (text_of_lines (take (suc (length a)) (split text).lines)) = subst IsAccepted (first_few (suc (length a)) text (omega (arith, total))) acc in
          let read : after_lines start (take (suc (length a)) (split text).lines) ≡ Some moved.0 = ap (λ (s : Split). after_lines start s.lines) (sym parts) ∙ moved.1.lines in
          let clash : None ≡ Some moved.0 = sym stops ∙ read in
          cc;
      least = λ k below.
          let f = front_read k a start r e in
          let same : take k (split text).lines ≡ take k a = ap (take k) is ∙ take_in k a (l ∷ b) (omega (arith, below)) in
          accepts k text f.0 (omega (arith, total, below)) (ap (after_lines start) same ∙ f.1);
    }
  where
    take_one : (a b : List (List ℕ)) (l : List ℕ) → take (suc (length a)) (a ++ l ∷ b) ≡ a ++ l ∷ []
    take_one [] b l = refl
    take_one (x ∷ a) b l = ap (λ s. x ∷ s) (take_one a b l)

    take_in : (k : ℕ) (a b : List (List ℕ)) → k ≤ length a → take k (a ++ b) ≡ take k a
    take_in zero a b h = refl
    take_in (suc k) [] b h = absurd (omega (arith, h))
    take_in (suc k) (x ∷ a) b h = ap (λ s. x ∷ s) (take_in k a b (omega (arith, h)))

-- what follows the last newline is out of place
pub damaged_rest : (text : List ℕ) (r : Reading) → after_lines start (split text).lines ≡ Some r → (IsRest r.entries r.stage (split text).rest → ⊥) → IsDamagedAt text (suc (length (split text).lines))
damaged_rest text r e apart =
    record {
      damaged = λ acc.
          let moved : IsAccepted text = subst IsAccepted (first_all (suc (length (split text).lines)) text (omega arith)) acc in
          let same : r ≡ moved.0 = one_reading (sym e ∙ moved.1.lines) in
          apart (subst (λ (q : Reading). IsRest q.entries q.stage (split text).rest) (sym same) moved.1.rest);
      least = λ k below. let f = front_read k (split text).lines start r e in accepts k text f.0 (omega (arith, below)) f.1;
    }
  where
    one_reading : {p q : Reading} → Some p ≡ Some q → p ≡ q
    one_reading e = cc

-- the text at a mark, with one more line
pub lines_at : (text line behind : List ℕ) (at : ℕ) (r : Reading) → IsMark text at r → IsLine (drop at text) line behind
    → split (take (at + length line + 1) text) ≡ record { lines = (split (take at text)).lines ++ line ∷ []; rest = [] }
unfolding split
lines_at text line behind at r mark l =
    let count : at + length line + 1 ≡ at + suc (length line) = omega arith in
    let front : take (suc (length line)) (line ++ 10 ∷ behind) ≡ line ++ 10 ∷ [] = take_line line behind in
    let is : take (at + length line + 1) text ≡ take at text ++ (line ++ 10 ∷ []) = ap (λ k. take k text) count ∙ take-add at (suc (length line)) text ∙ ap (λ s. take at text ++ take (suc (length line)) s) l.is ∙ ap (λ s. take at text ++ s) front in
    let parts : split (line ++ 10 ∷ []) ≡ record { lines = line ∷ []; rest = [] } = one_line line l.plain in
    ap split is ∙ split-append (take at text) (line ++ 10 ∷ []) mark.whole ∙ ap (λ (s : Split). record { lines = (split (take at text)).lines ++ s.lines; rest = s.rest }) parts
  where
    take_line : (line behind : List ℕ) → take (suc (length line)) (line ++ 10 ∷ behind) ≡ line ++ 10 ∷ []
    take_line [] behind = refl
    take_line (x ∷ line) behind = ap (λ s. x ∷ s) (take_line line behind)

    one_line : (line : List ℕ) → HasNoNewline line → split (line ++ 10 ∷ []) ≡ record { lines = line ∷ []; rest = [] }
    one_line line plain = split-ended line [] plain

-- one more line is read
pub mark_on : (text line behind : List ℕ) (at : ℕ) (r q : Reading) → IsMark text at r → IsLine (drop at text) line behind → next r line ≡ Some q → IsMark text (at + length line + 1) q
unfolding after_lines
mark_on text line behind at r q mark l e =
    let parts = lines_at text line behind at r mark l in
    let long : length text ≡ at + length (line ++ 10 ∷ behind) = omega (arith, mark.within, ap length l.is, length-drop at text) in
    record {
      within = omega (arith, long, length-append line (10 ∷ behind));
      lines = ap (λ (s : Split). after_lines start s.lines) parts ∙ after_lines-append start r (split (take at text)).lines (line ∷ []) mark.lines ∙ rw e refl;
      whole = ap (λ (s : Split). s.rest) parts;
    }

pub counted_on : (text line behind : List ℕ) (at : ℕ) (r : Reading) → IsMark text at r → IsLine (drop at text) line behind
    → length (split (take (at + length line + 1) text)).lines ≡ suc (length (split (take at text)).lines)
counted_on text line behind at r mark l =
    ap (λ (s : Split). length s.lines) (lines_at text line behind at r mark l) ∙ length-append (split (take at text)).lines (line ∷ []) ∙ omega arith

-- how the whole text splits at a mark
pub split_at_mark : (text : List ℕ) (at : ℕ) (r : Reading) → IsMark text at r → split text ≡ record { lines = (split (take at text)).lines ++ (split (drop at text)).lines; rest = (split (drop at text)).rest }
split_at_mark text at r mark = ap split (sym (take-append-drop at text)) ∙ split-append (take at text) (drop at text) mark.whole

pub stops_at : (text line behind : List ℕ) (at : ℕ) (r : Reading) → IsMark text at r → IsLine (drop at text) line behind → next r line ≡ None → IsDamagedAt text (suc (length (split (take at text)).lines))
stops_at text line behind at r mark l none =
    let parts : split (drop at text) ≡ record { lines = line ∷ (split behind).lines; rest = (split behind).rest } = ap split l.is ∙ split-ended line behind l.plain in
    let all : (split text).lines ≡ (split (take at text)).lines ++ line ∷ (split behind).lines =
    ap (λ (s : Split). s.lines) (split_at_mark text at r mark) ∙ ap (λ (s : Split). (split (take at text)).lines ++ s.lines) parts in
    damaged_line text (split (take at text)).lines (split behind).lines line r all mark.lines none

-- at the last newline
pub lines_done : (text : List ℕ) (at : ℕ) (r : Reading) → IsMark text at r → HasNoNewline (drop at text) → split text ≡ record { lines = (split (take at text)).lines; rest = drop at text }
lines_done text at r mark plain =
    split_at_mark text at r mark ∙ ap (λ (s : Split). record { lines = (split (take at text)).lines ++ s.lines; rest = s.rest }) (split-plain (drop at text) plain)
    ∙ ap (λ ls. record { lines = ls; rest = drop at text }) (append-nil (split (take at text)).lines)

pub reads_at : (text : List ℕ) (at : ℕ) (r : Reading) → IsMark text at r → HasNoNewline (drop at text) → IsRest r.entries r.stage (drop at text) → Reads text r
reads_at text at r mark plain rest =
    let parts = lines_done text at r mark plain in
    record { lines = ap (λ (s : Split). after_lines start s.lines) parts ∙ mark.lines; rest = subst (λ (s : Split). IsRest r.entries r.stage s.rest) (sym parts) rest }

pub rest_stops : (text : List ℕ) (at : ℕ) (r : Reading) → IsMark text at r → HasNoNewline (drop at text) → (IsRest r.entries r.stage (drop at text) → ⊥) → IsDamagedAt text (suc (length (split (take at text)).lines))
rest_stops text at r mark plain apart =
    let parts = lines_done text at r mark plain in
    let d = damaged_rest text r (ap (λ (s : Split). after_lines start s.lines) parts ∙ mark.lines) (λ h. apart (subst (λ (s : Split). IsRest r.entries r.stage s.rest) parts h)) in
    subst (IsDamagedAt text) (ap (λ (s : Split). suc (length s.lines)) parts) d
