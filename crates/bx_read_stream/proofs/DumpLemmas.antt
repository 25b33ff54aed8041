-- Dumps whose text comes in windows.
use Rattle.std.proofs.Common.{◌≡◌, ◌≢◌, ◌⊎◌, inl, inr, ℕ, suc, ◌+◌, ◌<◌, ◌≤◌, Bool, true, false, eqb, List, [], ◌∷◌, ◌++◌, length, get_or, Option, Some, None, Ok, Err, Result, refl, sym, ap, ◌∙◌, append_assoc, append-nil, arith}
use Rattle.std.specs.List.{All}
use Rattle.std.specs.Io.KnownBytes.{Appends, Consumes}
use Rattle.std.proofs.lemmas.Bool.{eqb-true}
use Rattle.bx_text.specs.Stream.{fault_of}
use Rattle.bx_text.specs.declared.stream.State.{State}
use Rattle.bx_text.specs.declared.stream.State.TheVariants.{Open, Ended, Failed, TooLong}
use Rattle.bx_text.specs.declared.fault.IoFault.{IoFault}
use Rattle.bx_text.specs.declared.fault.IoFault.TheVariants.{NoMemory, ReadFailed, WriteFailed, InputTooLong, SkipPastEnd}
use Rattle.bx_read.specs.Text.{ReadLine, lines_of, answers}
use Rattle.bx_read.specs.declared.fault.ReadFault.{ReadFault}
use Rattle.bx_read.proofs.LinesLemmas.{line_last}
use Rattle.bx_read_stream.specs.declared.fault.StreamFault.TheVariants.{Io}
use Rattle.bx_read_stream.specs.Laid.{image_made, reads_then, IsStop, StopsLaying}
use Rattle.bx_image.specs.Change.{placed}
use Rattle.bx_text.proofs.KnownLemmas.{Appends-nil}
use Rattle.bx_read_stream.specs.private.Dump.{HasLaid}
use Rattle.bx_read_stream.specs.declared.laying.Laying.{Laying}
use Rattle.bx_read_stream.proofs.LayingLemmas.{reads_more}

-- the lines of a text and of a window behind it
pub window_on : (q r : ℕ) (text held window full rest : List ℕ) (lines other : List ReadLine) → full ≡ held ++ window
    → ((more : List ℕ) → answers 1 (lines_of (text ++ more)) ≡ reads_then lines (answers q (lines_of (held ++ more))))
    → ((more : List ℕ) → answers q (lines_of (full ++ more)) ≡ reads_then other (answers r (lines_of (rest ++ more))))
    → (more : List ℕ) → answers 1 (lines_of ((text ++ window) ++ more)) ≡ reads_then (lines ++ other) (answers r (lines_of (rest ++ more)))
window_on q r text held window full rest lines other is first step more =
    ap (λ t. answers 1 (lines_of t)) (append_assoc text window more) ∙ first (window ++ more)
    ∙ ap (λ t. reads_then lines (answers q (lines_of t))) (sym (append_assoc held window more) ∙ ap (λ t. t ++ more) (sym is))
    ∙ ap (reads_then lines) (step more) ∙ reads_more lines other (answers r (lines_of (rest ++ more)))

-- the same where it stops
pub window_whole : (q : ℕ) (text held window full : List ℕ) (lines : List ReadLine) → full ≡ held ++ window
    → ((more : List ℕ) → answers 1 (lines_of (text ++ more)) ≡ reads_then lines (answers q (lines_of (held ++ more))))
    → answers 1 (lines_of (text ++ window)) ≡ reads_then lines (answers q (lines_of full))
window_whole q text held window full lines is first = first window ∙ ap (λ t. reads_then lines (answers q (lines_of t))) (sym is)

-- and at the end, where nothing is behind it
pub text_whole : (q : ℕ) (text held : List ℕ) (lines : List ReadLine)
    → ((more : List ℕ) → answers 1 (lines_of (text ++ more)) ≡ reads_then lines (answers q (lines_of (held ++ more))))
    → answers 1 (lines_of text) ≡ reads_then lines (answers q (lines_of held))
text_whole q text held lines first =
    ap (λ t. answers 1 (lines_of t)) (sym (append-nil text)) ∙ first [] ∙ ap (λ t. reads_then lines (answers q (lines_of t))) (append-nil held)

-- the last line
pub last_line : (held : List ℕ) → 0 < length held → All (λ c. c ≢ 10) held → lines_of held ≡ held ∷ []
last_line held some apart = line_last held some (λ j lt is. apart j 0 lt (eqb-true (get_or held j 0) 10 is))

-- a reading that failed is a stop
pub read_stop : (shift : ℕ) (lines : List ReadLine) (rest : List (Result ReadLine ReadFault)) (state : State) (e : IoFault) → fault_of state ≡ Some e
    → IsStop shift lines rest (length (image_made shift lines)) (Io e)
read_stop shift lines rest Open e is = absurd (cc)
read_stop shift lines rest Ended e is = absurd (cc)
read_stop shift lines rest Failed NoMemory is = omega arith
read_stop shift lines rest Failed ReadFailed is = omega arith
read_stop shift lines rest Failed InputTooLong is = omega arith
read_stop shift lines rest Failed (WriteFailed n) is = absurd (cc)
read_stop shift lines rest Failed SkipPastEnd is = absurd (cc)
read_stop shift lines rest TooLong NoMemory is = omega arith
read_stop shift lines rest TooLong ReadFailed is = omega arith
read_stop shift lines rest TooLong InputTooLong is = omega arith
read_stop shift lines rest TooLong (WriteFailed n) is = absurd (cc)
read_stop shift lines rest TooLong SkipPastEnd is = absurd (cc)

-- a line with no bytes is none
pub no_lines : (held : List ℕ) → length held ≡ 0 → lines_of held ≡ []
no_lines [] none = refl
no_lines (c ∷ held) none = absurd (omega arith)

-- nothing was read
pub nothing_laid : {A : Type 0} (laying : Laying A) (held : List ℕ) (w : Option (List ℕ)) → laying.lines ≡ 0 → laying.blocks.sent ≡ 0 → laying.blocks.pending.items ≡ [] → held ≡ []
    → HasLaid laying held w w []
unfolding placed
nothing_laid laying held w lines sent pending none = record {
  lines = [];
  holds = record {
    out = [];
    appended = Appends-nil w;
    counted = sym sent;
    whole = pending;
  };
  read = λ more. rw (lines, none) refl;
}
