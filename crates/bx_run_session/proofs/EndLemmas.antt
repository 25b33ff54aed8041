-- A journal that ends with the line that ends an entry has nothing unfinished.
use Rattle.std.proofs.Common.{◌≡◌, ◌⊎◌, ◌∙◌, ℕ, zero, suc, ◌<◌, ◌==◌, ◌&&◌, Bool, true, false, cond, eqb, List, [], ◌∷◌, ◌++◌, length, drop, take, codes, Option, Some, None, refl, sym, ap, subst, inl, inr, append_assoc, arith}
use Rattle.std.specs.Prelude.{◌-◌, ◌≤◌, if◌then◌else◌, slice_index_or, Result, Ok, Err, IfOk}
use Rattle.std.proofs.lemmas.List.{length-drop, take_all, take-append-drop}
use Rattle.std.specs.List.{list_all}
use Rattle.std.specs.Str.{bytes_eq}
use Rattle.std.proofs.Math.Seq.{take-append_seam}
use Rattle.std.proofs.lemmas.List.Folds.{list_all-append}
use Rattle.std.proofs.lemmas.Bool.{and_parts, and_right, both_ways, eqb-true, or_right}
use Rattle.bx_text.specs.Ascii.{is_printable}
use Rattle.bx_read.specs.Line.{line_piece}
use Rattle.bx_journal_format.specs.Hex.{hex_digits}
use Rattle.bx_journal_format.specs.Line.{end_head, end_line, save_line, start_head, start_line}
use Rattle.bx_journal_format.specs.Shown.{before_zero, begins_with, ends_line, from_zero, has_end, is_begun, is_left, is_lost, is_text_byte, shown}
use Rattle.bx_journal_format.specs.Text.{Between, Ending, IsAccepted, Reading, Reads, Saving, Split, Stage, after_lines, next, next_at, split, start, with_first_byte}
use Rattle.bx_journal_format.specs.declared.format.version.Version.{Version}
use Rattle.bx_journal_format.specs.declared.format.version.Version.TheVariants.{First, Second}
use Rattle.bx_journal_format.proofs.CalmLemmas.{line_plain}
use Rattle.bx_journal_format.proofs.Damage.{front_read}
use Rattle.bx_journal_format.proofs.HexLemmas.{printable-hex_digits}
use Rattle.bx_journal_format.proofs.Inverse.{bind_some, next_between, next_ending}
use Rattle.bx_journal_format.proofs.LineLemmas.{plain_end}
use Rattle.bx_journal_format.proofs.Runs.{after_lines-append}
use Rattle.bx_journal_format.proofs.SavedLines.{saved_none}
use Rattle.bx_journal_format.proofs.ShownLemmas.{before_plain}
use Rattle.bx_journal_format.proofs.Splits.{split-append, split-ended}
use Rattle.bx_journal_format.proofs.StepLemmas.{stops}
use Rattle.bx_journal.specs.Redo.{IsClean}
use Rattle.bx_journal_image.specs.Ranges.{ending_line}
use Rattle.bx_journal.specs.SessionFault.{SessionFault}
use Rattle.bx_journal_image.specs.declared.judging.judge.Verdict.{Verdict}
use Rattle.bx_journal_image.specs.declared.line.form.ImageLine.{ImageLine}
use Rattle.bx_journal_image.specs.Unfinished.{IsUnfinishedJudged}
use Rattle.bx_run_session.specs.session.Guarded.{EndsLine, EndsWhole, IsJudgedBeside}

end_prints : (n after : ℕ) → list_all is_printable (end_line Second n after) ≡ true
unfolding end_line end_head
end_prints n after =
    rw (
      list_all-append is_printable (codes "done2 " ++ hex_digits 8 n ++ codes " ") (hex_digits 16 after),
      list_all-append is_printable (codes "done2 " ++ hex_digits 8 n) (codes " "),
      list_all-append is_printable (codes "done2 ") (hex_digits 8 n),
      printable-hex_digits 8 n,
      printable-hex_digits 16 after,
    ) refl

end_begins : (n after : ℕ) (more : List ℕ) → begins_with (codes "done") (end_line Second n after ++ more) ≡ true
unfolding end_line end_head begins_with
end_begins n after more = refl

-- a line without zeros ends
line_ends : (l more : List ℕ) → list_all is_text_byte l ≡ true → ends_line (l ++ 10 ∷ more) ≡ true
unfolding ends_line
line_ends [] more plain = refl
line_ends (b ∷ l) more plain = by (eqb b 10) refl (eqb b 0) refl (line_ends l more (and_parts (is_text_byte b) (list_all is_text_byte l) plain).1)
  where
    by : (newline : Bool) → eqb b 10 ≡ newline → (none : Bool) → eqb b 0 ≡ none → ends_line (l ++ 10 ∷ more) ≡ true
        → (if b == 10 then true else if b == 0 then false else ends_line (l ++ 10 ∷ more)) ≡ true
    by true e none f later = rw e refl
    by false e false f later = rw (e, f) later
    by false e true f later =
        absurd (both_ways (is_text_byte 0) refl (subst (λ x. is_text_byte x ≡ true) (eqb-true b 0 f) (and_parts (is_text_byte b) (list_all is_text_byte l) plain).0))

-- no zero comes before such an end, or it stands behind it
zero_or_end : (pre suffix : List ℕ) → list_all is_text_byte suffix ≡ true → has_end suffix ≡ true
    → (before_zero (pre ++ suffix) ≡ pre ++ suffix) ⊎ (has_end (from_zero (pre ++ suffix)) ≡ true)
unfolding before_zero has_end
zero_or_end [] suffix plain ends = inl (before_plain suffix plain)
zero_or_end (b ∷ pre) suffix plain ends = by (eqb b 0) refl (zero_or_end pre suffix plain ends)
  where
    before : (a : List ℕ) → has_end (a ++ suffix) ≡ true
    before [] = ends
    before (c ∷ a) = or_right (eqb c 10 && begins_with (codes "done") (a ++ suffix) && ends_line (a ++ suffix)) (has_end (a ++ suffix)) (before a)

    by : (none : Bool) → eqb b 0 ≡ none → (before_zero (pre ++ suffix) ≡ pre ++ suffix) ⊎ (has_end (from_zero (pre ++ suffix)) ≡ true)
        → (cond (eqb b 0) [] (b ∷ before_zero (pre ++ suffix)) ≡ b ∷ (pre ++ suffix))
        ⊎ (has_end (drop (length (cond (eqb b 0) [] (b ∷ before_zero (pre ++ suffix)))) (b ∷ (pre ++ suffix))) ≡ true)
    by true e later = inr (rw e (before (b ∷ pre)))
    by false e (inl whole) = inl (rw e (ap (λ t. b ∷ t) whole))
    by false e (inr behind) = inr (rw e behind)

shown_by : (t : List ℕ) → (before_zero t ≡ t) ⊎ (has_end (from_zero t) ≡ true) → shown t ≡ t
shown_by t (inl whole) = both (is_begun t && is_lost (from_zero t))
  where
    both : (b : Bool) → (if b then before_zero t else t) ≡ t
    both true = whole
    both false = refl
shown_by t (inr ends) = rw (ends, and_right (list_all is_left (from_zero t)) false refl, and_right (is_begun t) false refl) refl

done_suffix : (line : List ℕ) → list_all is_text_byte line ≡ true → begins_with (codes "done") (line ++ 10 ∷ []) ≡ true
    → (list_all is_text_byte (10 ∷ (line ++ 10 ∷ [])) ≡ true) × (has_end (10 ∷ (line ++ 10 ∷ [])) ≡ true)
unfolding has_end
done_suffix line plain begins = (list_all-append is_text_byte line (10 ∷ []) ∙ rw plain refl, rw (begins, line_ends line [] plain) refl)

-- the text is read whole
shown_done : (front : List ℕ) (n after : ℕ) → shown (front ++ 10 ∷ (end_line Second n after ++ 10 ∷ [])) ≡ front ++ 10 ∷ (end_line Second n after ++ 10 ∷ [])
shown_done front n after =
    let line = end_line Second n after in
    let plain : list_all is_text_byte line ≡ true = line_plain line (end_prints n after) in
    let suffix = done_suffix line plain (end_begins n after (10 ∷ [])) in
    shown_by (front ++ 10 ∷ (line ++ 10 ∷ [])) (zero_or_end front (10 ∷ (line ++ 10 ∷ [])) suffix.0 suffix.1)

-- a text that ends with a newline has no rest
has_lines : (b : ℕ) (lines : List (List ℕ)) (rest : List ℕ) → (rest ≡ []) × (lines ≡ [] → ⊥)
    → ((with_first_byte b (record { lines = lines; rest = rest })).rest ≡ []) × ((with_first_byte b (record { lines = lines; rest = rest })).lines ≡ [] → ⊥)
has_lines b [] rest is = absurd (is.1 refl)
has_lines b (line ∷ more) rest is = (is.0, λ wrong. cc)

ends_whole : (front : List ℕ) → ((split (front ++ 10 ∷ [])).rest ≡ []) × ((split (front ++ 10 ∷ [])).lines ≡ [] → ⊥)
unfolding split
ends_whole [] = (refl, λ wrong. cc)
ends_whole (b ∷ front) = by (eqb b 10) (ends_whole front)
  where
    by : (is : Bool) → ((split (front ++ 10 ∷ [])).rest ≡ []) × ((split (front ++ 10 ∷ [])).lines ≡ [] → ⊥)
        → ((cond is (record { lines = [] ∷ (split (front ++ 10 ∷ [])).lines; rest = (split (front ++ 10 ∷ [])).rest }) (with_first_byte b (split (front ++ 10 ∷ [])))).rest ≡ [])
        × ((cond is (record { lines = [] ∷ (split (front ++ 10 ∷ [])).lines; rest = (split (front ++ 10 ∷ [])).rest }) (with_first_byte b (split (front ++ 10 ∷ [])))).lines ≡ [] → ⊥)
    by true later = (later.0, λ wrong. cc)
    by false later = has_lines b (split (front ++ 10 ∷ [])).lines (split (front ++ 10 ∷ [])).rest later

-- the last line leads between two entries
other_begins : (v : Version) (n after m len : ℕ) → end_line Second n after ≡ start_line v m len → ⊥
unfolding end_line end_head start_line start_head
other_begins First n after m len is = let wrong : 100 ≡ 99 = ap (λ (s : List ℕ). slice_index_or s 0 0) is in omega (arith, wrong)
other_begins Second n after m len is = let wrong : 100 ≡ 99 = ap (λ (s : List ℕ). slice_index_or s 0 0) is in omega (arith, wrong)

no_save : (n after m : ℕ) → bytes_eq (end_line Second n after) (save_line m) ≡ false
unfolding end_line end_head save_line
no_save n after m = refl

no_piece : (n after : ℕ) → line_piece (end_line Second n after) ≡ None
unfolding end_line end_head
no_piece n after = refl

last_between : (q r : Reading) (n after : ℕ) → next q (end_line Second n after) ≡ Some r → r.stage ≡ Between
last_between q r n after is = by q.stage refl
  where
    at : (stage : Stage) → q.stage ≡ stage → next_at q.entries stage (end_line Second n after) ≡ Some r
    at stage e = subst (λ t. next_at q.entries t (end_line Second n after) ≡ Some r) e is

    by : (stage : Stage) → q.stage ≡ stage → r.stage ≡ Between
    by Between e =
        let b = next_between q.entries (end_line Second n after) r (at Between e) in
        absurd (other_begins b.1.0 n after (suc (length q.entries)) b.1.1 b.1.6)
    by (Saving v s) e =
        let none = stops q.entries (suc (length q.entries)) v s (end_line Second n after) refl (no_save n after (suc (length q.entries)))
        (saved_none s.len (end_line Second n after) (no_piece n after)) in
        absurd (let wrong : None ≡ Some r = sym none ∙ at (Saving v s) e in cc)
    by (Ending v s) e =
        let m = next_ending q.entries v s (end_line Second n after) r (at (Ending v s) e) in
        ap (λ (p : Reading). p.stage) m.1

behind_last : (ls : List (List ℕ)) (r : Reading) (n after : ℕ) → after_lines start (ls ++ end_line Second n after ∷ []) ≡ Some r → r.stage ≡ Between
unfolding after_lines
behind_last ls r n after reads =
    let line = end_line Second n after in
    let f = front_read (length ls) (ls ++ line ∷ []) start r reads in
    let front : after_lines start ls ≡ Some f.0 = ap (after_lines start) (sym (take-append_seam ls (line ∷ []))) ∙ f.1 in
    let b = bind_some (λ p. after_lines p []) (next f.0 line) r (sym (after_lines-append start f.0 ls (line ∷ []) front) ∙ reads) in
    let whole : b.0 ≡ r = cc in
    ap (λ (p : Reading). p.stage) (sym whole) ∙ last_between f.0 b.0 n after b.1

ending_is : (front : List ℕ) (n after : ℕ) → front ++ 10 ∷ ending_line n after ≡ (front ++ 10 ∷ []) ++ (end_line Second n after ++ 10 ∷ [])
unfolding ending_line end_line end_head
ending_is front n after =
    let head = codes "done2 " ++ hex_digits 8 n in
    let whole : ending_line n after ≡ end_line Second n after ++ 10 ∷ [] =
    ap (λ s. s ++ 10 ∷ []) (sym (append_assoc head (codes " ") (hex_digits 16 after))) in
    ap (λ s. front ++ 10 ∷ s) whole ∙ sym (append_assoc front (10 ∷ []) (end_line Second n after ++ 10 ∷ []))

lines_of : (front : List ℕ) (n after : ℕ) → split ((front ++ 10 ∷ []) ++ (end_line Second n after ++ 10 ∷ []))
    ≡ record { lines = (split (front ++ 10 ∷ [])).lines ++ end_line Second n after ∷ []; rest = [] }
unfolding split
lines_of front n after =
    split-append (front ++ 10 ∷ []) (end_line Second n after ++ 10 ∷ []) (ends_whole front).0
    ∙ ap (λ (s : Split). record { lines = (split (front ++ 10 ∷ [])).lines ++ s.lines; rest = s.rest }) (split-ended (end_line Second n after) [] (plain_end n after))

clean_empty : IsClean []
unfolding split after_lines
clean_empty = ([], record { reads = record { lines = refl; rest = inl refl }; whole = refl })

-- nothing is unfinished in a text that ends so, if it is accepted
pub ends_clean : (text : List ℕ) → EndsWhole text → IsAccepted (shown text) → IsClean text
ends_clean text (inl empty) accepted = rw empty clean_empty
ends_clean text (inr ends) accepted =
    let joined : text ≡ (ends.front ++ 10 ∷ []) ++ (end_line Second ends.number ends.after ++ 10 ∷ []) = ends.is ∙ ending_is ends.front ends.number ends.after in
    let apart : (ends.front ++ 10 ∷ []) ++ (end_line Second ends.number ends.after ++ 10 ∷ []) ≡ ends.front ++ 10 ∷ (end_line Second ends.number ends.after ++ 10 ∷ []) =
    append_assoc ends.front (10 ∷ []) (end_line Second ends.number ends.after ++ 10 ∷ []) in
    let same : shown text ≡ text = subst (λ t. shown t ≡ t) (sym (joined ∙ apart)) (shown_done ends.front ends.number ends.after) in
    let reads : Reads text accepted.0 = subst (λ t. Reads t accepted.0) same accepted.1 in
    let parts : split text ≡ record { lines = (split (ends.front ++ 10 ∷ [])).lines ++ end_line Second ends.number ends.after ∷ []; rest = [] } =
    ap split joined ∙ lines_of ends.front ends.number ends.after in
    let between = behind_last (split (ends.front ++ 10 ∷ [])).lines accepted.0 ends.number ends.after
    (subst (λ (s : Split). after_lines start s.lines ≡ Some accepted.0) parts reads.lines) in
    let is : accepted.0 ≡ record { entries = accepted.0.entries; stage = Between } = (λ i. record { entries = accepted.0.entries; stage = between i }) in
    (accepted.0.entries, record { reads = subst (Reads text) is reads; whole = ap (λ (s : Split). s.rest) parts })

-- what a text ends with it ends with behind more
pub ends_behind : (text buf : List ℕ) (n : ℕ) → n ≡ length text → buf ≡ take 33 (drop (n - 33) text) → 33 ≤ n → EndsLine buf → EndsLine text
ends_behind text buf n long is most ends =
    let few : length (drop (n - 33) text) ≤ 33 = omega (arith, length-drop (n - 33) text, long, most) in
    let all : buf ≡ drop (n - 33) text = is ∙ take_all 33 (drop (n - 33) text) few in
    record {
      front = take (n - 33) text ++ ends.front;
      number = ends.number;
      after = ends.after;
      is = sym (take-append-drop (n - 33) text) ∙ ap (λ t. take (n - 33) text ++ t) (sym all ∙ ends.is)
          ∙ sym (append_assoc (take (n - 33) text) ends.front (10 ∷ ending_line ends.number ends.after));
    }

-- what is judged beside a text
pub judged_beside : (r : Result (Option Verdict) SessionFault) (line : Option ImageLine) (text x : List ℕ) → IfOk r (IsUnfinishedJudged line text x)
    → IfOk r (IsJudgedBeside line text x)
judged_beside (Ok None) line text x judged = λ accepted. judged
judged_beside (Ok (Some verdict)) line text x judged = judged
judged_beside (Err e) line text x judged = tt
