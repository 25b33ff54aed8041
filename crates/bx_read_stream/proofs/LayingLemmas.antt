-- Lines of a dump that are written one after another.
use Rattle.std.proofs.Common.{◌≡◌, ◌⊎◌, inl, inr, ℕ, zero, suc, ◌+◌, ◌-◌, ◌<◌, ◌≤◌, Bool, true, false, eqb, List, [], ◌∷◌, ◌++◌, length, map, take, drop, get_or, replicate, Option, Some, Result, Ok, Err, refl, sym, ap, subst, ◌∙◌, append_assoc, append-nil, add-one, arith}
use Rattle.std.proofs.lemmas.List.{length-append, take_all, take_rest, map-append}
use Rattle.std.specs.Io.KnownBytes.{Appends}
use Rattle.bx_text.specs.declared.fault.IoFault.{IoFault}
use Rattle.bx_text.specs.declared.fault.IoFault.TheVariants.{NoMemory, ReadFailed, WriteFailed, InputTooLong, SkipPastEnd}
use Rattle.bx_read.specs.Digits.{pairs_of}
use Rattle.bx_read.specs.Line.{read_line}
use Rattle.bx_read.specs.Text.{ReadLine, lines_of, is_skipped, answer_then, answers}
use Rattle.bx_read.specs.declared.fault.ReadFault.{ReadFault}
use Rattle.bx_read.proofs.LinesLemmas.{answers_read}
use Rattle.bx_read.proofs.PieceLemmas.{some_bytes}
use Rattle.bx_read_stream.specs.declared.fault.StreamFault.{StreamFault}
use Rattle.bx_read_stream.specs.declared.fault.StreamFault.TheVariants.{Read, Behind, Io}
use Rattle.bx_read_stream.specs.Laid.{image_made, reads_then, IsStop, StopsLaying}
use Rattle.bx_read_stream.specs.Writing.{FailsIn}
use Rattle.bx_read_stream.specs.private.Blocks.{IsPending}
use Rattle.bx_read_stream.specs.private.Laying.{ReadsAs, IsEnded}
use Rattle.bx_read_stream.proofs.ImageLemmas.{image_grows}

-- lines behind others
pub reads_more : (before next : List ReadLine) (rest : List (Result ReadLine ReadFault)) → reads_then before (reads_then next rest) ≡ reads_then (before ++ next) rest
reads_more before next rest =
    let f : ReadLine → Result ReadLine ReadFault = λ line. Ok line in
    sym (append_assoc (map f before) (map f next) rest) ∙ ap (λ all. all ++ rest) (sym (map-append f before next))

-- how much was put
pub held_len : (w0 w : Option (List ℕ)) (sent : ℕ) (pending x : List ℕ) → IsPending w0 w sent pending x → length x ≡ sent + length pending
held_len w0 w sent pending x h = omega (arith, h.counted, ap length h.whole, length-append h.out pending)

stop_of : (shift : ℕ) (lines : List ReadLine) (rest : List (Result ReadLine ReadFault)) (written : ℕ) (e : IoFault) → written ≤ length (image_made shift lines)
    → (e ≡ NoMemory) ⊎ (e ≡ WriteFailed written) → IsStop shift lines rest written (Io e)
stop_of shift lines rest written NoMemory within cause = within
stop_of shift lines rest written (WriteFailed n) within (inl p) = absurd (cc)
stop_of shift lines rest written (WriteFailed n) within (inr is) = (within, cc)
stop_of shift lines rest written ReadFailed within (inl p) = absurd (cc)
stop_of shift lines rest written ReadFailed within (inr p) = absurd (cc)
stop_of shift lines rest written InputTooLong within (inl p) = absurd (cc)
stop_of shift lines rest written InputTooLong within (inr p) = absurd (cc)
stop_of shift lines rest written SkipPastEnd within (inl p) = absurd (cc)
stop_of shift lines rest written SkipPastEnd within (inr p) = absurd (cc)

-- a write that failed stops the lines
pub fails_stops : (shift : ℕ) (w0 w : Option (List ℕ)) (lines : List ReadLine) (rest all : List (Result ReadLine ReadFault)) (e : IoFault) → all ≡ reads_then lines rest
    → FailsIn w0 w (image_made shift lines) e → StopsLaying shift w0 w all (Io e)
fails_stops shift w0 w lines rest all e is h = record {
  lines = lines;
  rest = rest;
  written = h.written;
  read = is;
  appended = h.appended;
  cause = stop_of shift lines rest h.written e h.within h.cause;
}

-- all that lines make was written, and this is why no more is
pub ended_stops : (shift : ℕ) (w0 w : Option (List ℕ)) (lines : List ReadLine) (rest all : List (Result ReadLine ReadFault)) (fault ended : StreamFault) → all ≡ reads_then lines rest
    → IsStop shift lines rest (length (image_made shift lines)) fault → IsEnded w0 w (image_made shift lines) fault ended → StopsLaying shift w0 w all ended
ended_stops shift w0 w lines rest all fault ended is cause (inl (same, wrote)) =
    let x = image_made shift lines in
    let whole : take (length x) x ≡ x = take_all (length x) x (omega arith) in
    rw same (record {
      lines = lines;
      rest = rest;
      written = length x;
      read = is;
      appended = rw whole wrote;
      cause = cause;
    })
ended_stops shift w0 w lines rest all fault ended is cause (inr (e, same, fails)) = rw same (fails_stops shift w0 w lines rest all e is fails)

-- a line with a fault
pub answers_fault : (number : ℕ) (line : List ℕ) (lines : List (List ℕ)) (fault : ReadFault) → is_skipped line ≡ false → read_line number line ≡ Err fault
    → answers number (line ∷ lines) ≡ Err fault ∷ []
answers_fault number line lines fault shown is = answers_read number line lines shown ∙ ap (λ r. answer_then number r (answers (number + 1) lines)) is

-- and one without
pub answers_line : (number : ℕ) (line : List ℕ) (lines : List (List ℕ)) (at : ℕ) (hex : List ℕ) → is_skipped line ≡ false → read_line number line ≡ Ok (at, hex)
    → answers number (line ∷ lines) ≡ Ok (at, hex, number) ∷ answers (number + 1) lines
answers_line number line lines at hex shown is = answers_read number line lines shown ∙ ap (λ r. answer_then number r (answers (number + 1) lines)) is

-- the first line of a text and of what follows it
pub line_front : (text : List ℕ) (k : ℕ) (more : List ℕ) → k < length text → eqb (get_or text k 0) 10 ≡ true → ((j : ℕ) → j < k → eqb (get_or text j 0) 10 ≡ true → ⊥) →
    lines_of (text ++ more) ≡ take k text ∷ lines_of (drop (suc k) text ++ more)
line_front [] k more inside is before = absurd (omega arith)
line_front (c ∷ text) zero more inside is before = rw is refl
line_front (c ∷ text) (suc k) more inside is before =
    let other : eqb c 10 ≡ false = not_true (eqb c 10) (before 0 (omega arith)) in
    rw (other, line_front text k more (omega arith) is (λ j lt. before (suc j) (omega arith))) refl
  where
    not_true : (b : Bool) → (b ≡ true → ⊥) → b ≡ false
    not_true true h = absurd (h refl)
    not_true false h = refl

-- nothing is pending
pub appended_all : (w0 w : Option (List ℕ)) (sent : ℕ) (pending x : List ℕ) → IsPending w0 w sent pending x → pending ≡ [] → Appends w0 w x
appended_all w0 w sent pending x h none =
    let same : h.out ≡ x = sym (append-nil h.out) ∙ ap (λ p. h.out ++ p) (sym none) ∙ h.whole in
    rw same at h.appended

-- a faulty line stops the lines
pub line_fault : (shift : ℕ) (w0 w : Option (List ℕ)) (before : List ReadLine) (number : ℕ) (line : List ℕ) (lines : List (List ℕ)) (fault : ReadFault) (ended : StreamFault)
    → is_skipped line ≡ false → read_line number line ≡ Err fault → IsEnded w0 w (image_made shift before) (Read fault) ended
    → StopsLaying shift w0 w (reads_then before (answers number (line ∷ lines))) ended
line_fault shift w0 w before number line lines fault ended shown is =
    ended_stops shift w0 w before (Err fault ∷ []) _ (Read fault) ended (ap (reads_then before) (answers_fault number line lines fault shown is)) (refl, refl)

-- and one that goes back
pub line_behind : (shift : ℕ) (w0 w : Option (List ℕ)) (before : List ReadLine) (number : ℕ) (line : List ℕ) (lines : List (List ℕ)) (at : ℕ) (bytes : List ℕ) (ended : StreamFault)
    → is_skipped line ≡ false → ReadsAs number line at bytes → at + shift < length (image_made shift before) → IsEnded w0 w (image_made shift before) (Behind number) ended
    → StopsLaying shift w0 w (reads_then before (answers number (line ∷ lines))) ended
line_behind shift w0 w before number line lines at bytes ended shown (hex, read, pairs) back =
    let later = answers (number + 1) lines in
    ended_stops shift w0 w before (Ok (at, hex, number) ∷ later) _ (Behind number) ended (ap (reads_then before) (answers_line number line lines at hex shown read)) (at, hex, later, refl, back, refl)

-- and one whose bytes can't be written
pub line_fails : (shift : ℕ) (w0 w : Option (List ℕ)) (before : List ReadLine) (number : ℕ) (line : List ℕ) (lines : List (List ℕ)) (at gap : ℕ) (bytes : List ℕ) (e : IoFault)
    → is_skipped line ≡ false → ReadsAs number line at bytes → at + shift ≡ length (image_made shift before) + gap
    → FailsIn w0 w ((image_made shift before ++ replicate gap 0) ++ bytes) e
    → StopsLaying shift w0 w (reads_then before (answers number (line ∷ lines))) (Io e)
line_fails shift w0 w before number line lines at gap bytes e shown (hex, read, pairs) is fails =
    let r : ReadLine = (at, hex, number) in
    fails_stops shift w0 w (before ++ r ∷ []) (answers (number + 1) lines) _ e
    (ap (reads_then before) (answers_line number line lines at hex shown read) ∙ reads_more before (r ∷ []) (answers (number + 1) lines))
    (rw (image_grows shift before at hex number gap bytes pairs (some_bytes hex bytes pairs) is) fails)

-- a line that was put
pub line_laid : (shift : ℕ) (w0 w : Option (List ℕ)) (sent : ℕ) (pending : List ℕ) (before : List ReadLine) (number : ℕ) (line : List ℕ) (at gap : ℕ) (bytes : List ℕ)
    → is_skipped line ≡ false → ReadsAs number line at bytes → at + shift ≡ length (image_made shift before) + gap
    → IsPending w0 w sent pending ((image_made shift before ++ replicate gap 0) ++ bytes)
    → (next : List ReadLine) × IsPending w0 w sent pending (image_made shift (before ++ next))
    × ((lines : List (List ℕ)) → answers number (line ∷ lines) ≡ reads_then next (answers (number + 1) lines))
line_laid shift w0 w sent pending before number line at gap bytes shown (hex, read, pairs) is holds =
    let r : ReadLine = (at, hex, number) in
    (r ∷ [], rw (image_grows shift before at hex number gap bytes pairs (some_bytes hex bytes pairs) is) holds, λ lines. answers_line number line lines at hex shown read)

-- with the rest as it is cut
pub line_rest : (text : List ℕ) (k : ℕ) (more : List ℕ) → k < length text → eqb (get_or text k 0) 10 ≡ true → ((j : ℕ) → j < k → eqb (get_or text j 0) 10 ≡ true → ⊥) →
    lines_of (text ++ more) ≡ take k text ∷ lines_of (take (length text - (k + 1)) (drop (k + 1) text) ++ more)
line_rest text k more inside is before = rw (take_rest text (k + 1), add-one) (line_front text k more inside is before)

-- the lines of a text, and the next one
pub lines_on : (p q r : ℕ) (text rest line behind : List ℕ) (next other : List ReadLine)
    → ((more : List ℕ) → answers p (lines_of (text ++ more)) ≡ reads_then next (answers q (lines_of (rest ++ more))))
    → ((more : List ℕ) → lines_of (rest ++ more) ≡ line ∷ lines_of (behind ++ more))
    → ((lines : List (List ℕ)) → answers q (line ∷ lines) ≡ reads_then other (answers r lines))
    → (more : List ℕ) → answers p (lines_of (text ++ more)) ≡ reads_then (next ++ other) (answers r (lines_of (behind ++ more)))
lines_on p q r text rest line behind next other first cut step more =
    first more ∙ ap (λ ls. reads_then next (answers q ls)) (cut more) ∙ ap (reads_then next) (step (lines_of (behind ++ more)))
    ∙ reads_more next other (answers r (lines_of (behind ++ more)))

-- the next line stops the text
pub lines_stop : (shift : ℕ) (w0 w : Option (List ℕ)) (before next : List ReadLine) (p q : ℕ) (text rest line behind : List ℕ) (fault : StreamFault)
    → ((more : List ℕ) → answers p (lines_of (text ++ more)) ≡ reads_then next (answers q (lines_of (rest ++ more))))
    → ((more : List ℕ) → lines_of (rest ++ more) ≡ line ∷ lines_of (behind ++ more))
    → StopsLaying shift w0 w (reads_then (before ++ next) (answers q (line ∷ lines_of (behind ++ [])))) fault
    → StopsLaying shift w0 w (reads_then before (answers p (lines_of text))) fault
lines_stop shift w0 w before next p q text rest line behind fault first cut stops =
    let is : reads_then before (answers p (lines_of text)) ≡ reads_then (before ++ next) (answers q (line ∷ lines_of (behind ++ []))) =
    ap (λ t. reads_then before (answers p (lines_of t))) (sym (append-nil text)) ∙ ap (reads_then before) (first [])
    ∙ reads_more before next (answers q (lines_of (rest ++ []))) ∙ ap (λ ls. reads_then (before ++ next) (answers q ls)) (cut []) in
    rw is stops
