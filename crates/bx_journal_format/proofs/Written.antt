-- What is written as a saved line reads so.
use Rattle.bx_read.proofs.WrittenLemmas.{written}
use Rattle.std.proofs.Common.{◌≡◌, ◌≢◌, ℕ, zero, suc, ◌+◌, ◌<◌, ◌≤◌, Bool, true, false, List, [], ◌∷◌, ◌++◌, length, refl, arith, Some}
use Rattle.std.specs.Prelude.{slice_index, ◌==◌, ◌&&◌, nat_le}
use Rattle.std.specs.List.{All, list_all}
use Rattle.std.proofs.lemmas.Grind.{common_steps}
use Rattle.bx_image.specs.declared.change.TheConstants.{MAX_LEN}
use Rattle.bx_image.specs.Change.{AreBytes}
use Rattle.bx_read.specs.Laws.{dump_line_text, IsWritten}
use Rattle.bx_journal_format.specs.Kept.{Run}
use Rattle.bx_journal_format.specs.read.Plain.{HasNoNewline}
use Rattle.bx_journal_format.specs.DumpLine.{saved_run_line, run_of_line}
use Rattle.bx_text.specs.Ascii.{is_printable}
use Rattle.bx_journal_format.specs.Text.{IsPrefix, is_short, begins_with_s}

pub record IsSavedLine (line : List ℕ) (piece : Run) : Type 0 where
  pub reads : run_of_line line ≡ Some piece
  pub plain : HasNoNewline line
  pub short : is_short line ≡ true
  pub front : (t : List ℕ) → IsPrefix t line → begins_with_s t ≡ false

bytes_all : (bytes : List ℕ) → AreBytes bytes → All (λ b. b < 256) bytes
bytes_all [] are k d inside = absurd (omega arith)
bytes_all (b ∷ bytes) are zero d inside = are.0
bytes_all (b ∷ bytes) are (suc k) d inside = bytes_all bytes are.1 k d (omega (arith, inside))

apart : (c n : ℕ) → (c ≡ n → ⊥) → (c == n) ≡ false
apart c n ne = grind (arith, common_steps)

plain_of : (line : List ℕ) → All (λ c. c ≢ 10) line → HasNoNewline line
plain_of [] all = tt
plain_of (c ∷ line) all = (apart c 10 (all 0 0 (omega arith)), plain_of line (λ k d inside. all (suc k) d (omega (arith, inside))))

prints : (c : ℕ) → 32 ≤ c → c ≤ 126 → is_printable c ≡ true
prints c low high = grind (arith, common_steps)

print_of : (line : List ℕ) → All (λ c. (32 ≤ c) × (c ≤ 126)) line → list_all is_printable line ≡ true
print_of [] all = refl
print_of (c ∷ line) all =
    let first = all 0 0 (omega arith) in
    rw (prints c first.0 first.1) (print_of line (λ k d inside. all (suc k) d (omega (arith, inside))))

short_of : (line : List ℕ) → length line ≤ 75 → list_all is_printable line ≡ true → is_short line ≡ true
short_of line few printing = by (length line) (list_all is_printable line) few printing
  where
    by : (n : ℕ) (b : Bool) → n ≤ 75 → b ≡ true → (nat_le n 75 && b) ≡ true
    by n b few is = grind (arith, common_steps)

front_of : (line t : List ℕ) → ((front rest : List ℕ) → line ≡ front ++ rest → slice_index front 0 ≢ 115) → IsPrefix t line → begins_with_s t ≡ false
front_of line [] h front = refl
front_of line (b ∷ t) h front = apart b 115 (h (b ∷ t) front.0 front.1)

-- a line that is written gives back what it was made of
pub saved_line : (p : Run) → AreBytes p.bytes → 0 < length p.bytes → length p.bytes ≤ 16 → p.at + length p.bytes ≤ MAX_LEN → IsSavedLine (saved_run_line p.at p.bytes) p
unfolding saved_run_line run_of_line
saved_line p are some few within =
    let w : IsWritten (dump_line_text p.at p.bytes) p.at p.bytes = (written p.at p.bytes some few (bytes_all p.bytes are) within).1 in
    record {
      reads = rw w.reads refl;
      plain = plain_of (dump_line_text p.at p.bytes) w.no_newline;
      short = short_of (dump_line_text p.at p.bytes) w.short (print_of (dump_line_text p.at p.bytes) w.printing);
      front = λ t front. front_of (dump_line_text p.at p.bytes) t w.front front;
    }
