-- A text of finished entries is read whole, whatever its text columns have.
use Rattle.std.proofs.Common.{◌≡◌, ◌⊎◌, ℕ, suc, ◌==◌, ◌&&◌, Bool, true, false, not, cond, eqb, inl, inr, List, [], ◌∷◌, ◌++◌, length, drop, codes, Some, refl, ap, sym, subst, ◌∙◌, append_assoc}
use Rattle.std.specs.Prelude.{if◌then◌else◌}
use Rattle.std.specs.List.{list_all}
use Rattle.std.proofs.lemmas.List.Folds.{list_all-append}
use Rattle.std.proofs.lemmas.Bool.{and_parts, or_right, both_ways, eqb-true, and_right}
use Rattle.bx_text.specs.Ascii.{is_printable}
use Rattle.bx_journal_format.specs.Hex.{hex_digits}
use Rattle.bx_journal_format.specs.Line.{end_line, end_head}
use Rattle.bx_journal_format.specs.Text.{Entry, Stage, Between, Saving, Ending, Reading, text_of_lines, split, start, after_lines, next}
use Rattle.bx_journal_format.specs.Finished.{IsFinished}
use Rattle.bx_journal_format.specs.Shown.{before_zero, from_zero, begins_with, ends_line, has_end, is_begun, is_lost, is_text_byte, is_left, shown}
use Rattle.bx_journal_format.specs.declared.format.version.Version.{Version}
use Rattle.bx_journal_format.specs.declared.format.version.Version.TheVariants.{First, Second}
use Rattle.bx_journal_format.proofs.HexLemmas.{printable-hex_digits}
use Rattle.bx_journal_format.proofs.Foreign.{joined_lines}
use Rattle.bx_journal_format.proofs.Inverse.{bind_some, next_between, next_saving, next_ending}
use Rattle.bx_journal_format.proofs.ShownLemmas.{plain_shown, before_plain}
use Rattle.bx_journal_format.proofs.CalmLemmas.{line_plain}

pub end_prints : (v : Version) (n after : ℕ) → list_all is_printable (end_line v n after) ≡ true
unfolding end_line end_head
end_prints First n after = rw (list_all-append is_printable (codes "done ") (hex_digits 8 n), printable-hex_digits 8 n) refl
end_prints Second n after =
    rw (list_all-append is_printable (codes "done2 " ++ hex_digits 8 n ++ codes " ") (hex_digits 16 after), list_all-append is_printable (codes "done2 " ++ hex_digits 8 n) (codes " "), list_all-append is_printable (codes "done2 ") (hex_digits 8 n), printable-hex_digits 8 n, printable-hex_digits 16 after) refl

end_begins : (v : Version) (n after : ℕ) (more : List ℕ) → begins_with (codes "done") (end_line v n after ++ more) ≡ true
unfolding end_line end_head begins_with
end_begins First n after more = refl
end_begins Second n after more = refl

-- a line without zeros ends
line_ends : (l more : List ℕ) → list_all is_text_byte l ≡ true → ends_line (l ++ 10 ∷ more) ≡ true
unfolding ends_line
line_ends [] more plain = refl
line_ends (b ∷ l) more plain = by (eqb b 10) refl (eqb b 0) refl (line_ends l more (and_parts (is_text_byte b) (list_all is_text_byte l) plain).1)
  where
    by : (newline : Bool) → eqb b 10 ≡ newline → (none : Bool) → eqb b 0 ≡ none → ends_line (l ++ 10 ∷ more) ≡ true
        → (if b == 10 then true else if b == 0 then false else ends_line (l ++ 10 ∷ more)) ≡ true
    by true e none f later = rw e refl
    by false e false f later = rw (e, f) later
    by false e true f later = absurd (both_ways (is_text_byte 0) refl (subst (λ x. is_text_byte x ≡ true) (eqb-true b 0 f) (and_parts (is_text_byte b) (list_all is_text_byte l) plain).0))

-- the last line ends an entry
record EndsDone (text : List ℕ) : Type 0 where
  pre : List ℕ
  line : List ℕ
  is : text ≡ pre ++ 10 ∷ (line ++ 10 ∷ [])
  plain : list_all is_text_byte line ≡ true
  begins : begins_with (codes "done") (line ++ 10 ∷ []) ≡ true

not_between : (v : Version) (s : _) (stage : Stage) → stage ≡ Saving v s → stage ≡ Between → ⊥
not_between v s stage is same = let e : Saving v s ≡ Between = sym is ∙ same in cc

last_line : (r : Reading) (l : List ℕ) (q : Reading) → next r l ≡ Some q → q.stage ≡ Between → (v : Version) × (n : ℕ) × (after : ℕ) × (l ≡ end_line v n after)
last_line r l q is same = by r.stage refl
  where
    by : (stage : Stage) → r.stage ≡ stage → (v : Version) × (n : ℕ) × (after : ℕ) × (l ≡ end_line v n after)
    by Between e =
        let b = next_between r.entries l q (subst (λ t. next (record { entries = r.entries; stage = t }) l ≡ Some q) e is) in
        absurd (let s : q.stage ≡ b.0 = ap (λ (p : Reading). p.stage) b.2 in let w = b.1.7 in let f : Saving b.1.0 _ ≡ Between = sym w ∙ sym s ∙ same in cc)
    by (Saving v s) e =
        let c = next_saving r.entries v s l q (subst (λ t. next (record { entries = r.entries; stage = t }) l ≡ Some q) e is) in
        absurd (elim c [
          | inl d ↦ (let f : Ending v s ≡ Between = sym (ap (λ (p : Reading). p.stage) d.1) ∙ same in cc)
          | inr d ↦ (let f : Saving v _ ≡ Between = sym (ap (λ (p : Reading). p.stage) d.2) ∙ same in cc)
        ])
    by (Ending v s) e =
        let n = next_ending r.entries v s l q (subst (λ t. next (record { entries = r.entries; stage = t }) l ≡ Some q) e is) in
        (v, suc (length r.entries), n.2.0, n.2.2)

ends_done : (l : List ℕ) (ls : List (List ℕ)) (r q : Reading) → after_lines r (l ∷ ls) ≡ Some q → q.stage ≡ Between → EndsDone (10 ∷ text_of_lines (l ∷ ls))
unfolding after_lines
ends_done l [] r q is same =
    let b = bind_some (λ p. after_lines p []) (next r l) q is in
    let whole : b.0 ≡ q = cc in
    let e = last_line r l b.0 b.1 (ap (λ (p : Reading). p.stage) whole ∙ same) in
    record {
      pre = [];
      line = l;
      is = ap (λ t. 10 ∷ t) (append_assoc l (10 ∷ []) []);
      plain = subst (λ t. list_all is_text_byte t ≡ true) (sym e.3) (line_plain (end_line e.0 e.1 e.2) (end_prints e.0 e.1 e.2));
      begins = subst (λ t. begins_with (codes "done") (t ++ 10 ∷ []) ≡ true) (sym e.3) (end_begins e.0 e.1 e.2 (10 ∷ []));
    }
ends_done l (m ∷ ls) r q is same =
    let b = bind_some (λ p. after_lines p (m ∷ ls)) (next r l) q is in
    let later = ends_done m ls b.0 q b.2 same in
    record {
      pre = 10 ∷ (l ++ later.pre);
      line = later.line;
      is = ap (λ t. 10 ∷ t) (append_assoc l (10 ∷ []) (text_of_lines (m ∷ ls)) ∙ ap (λ t. l ++ t) later.is ∙ sym (append_assoc l later.pre (10 ∷ (later.line ++ 10 ∷ []))));
      plain = later.plain;
      begins = later.begins;
    }

-- no zero comes before such an end, or that end line stands behind it
zero_or_end : (pre suffix : List ℕ) → list_all is_text_byte suffix ≡ true → has_end suffix ≡ true → (before_zero (pre ++ suffix) ≡ pre ++ suffix) ⊎ (has_end (from_zero (pre ++ suffix)) ≡ true)
unfolding before_zero has_end
zero_or_end [] suffix plain ends = inl (before_plain suffix plain)
zero_or_end (b ∷ pre) suffix plain ends = by (eqb b 0) refl (zero_or_end pre suffix plain ends)
  where
    before : (a : List ℕ) → has_end (a ++ suffix) ≡ true
    before [] = ends
    before (c ∷ a) = or_right (eqb c 10 && begins_with (codes "done") (a ++ suffix) && ends_line (a ++ suffix)) (has_end (a ++ suffix)) (before a)

    by : (none : Bool) → eqb b 0 ≡ none → (before_zero (pre ++ suffix) ≡ pre ++ suffix) ⊎ (has_end (from_zero (pre ++ suffix)) ≡ true)
        → (cond (eqb b 0) [] (b ∷ before_zero (pre ++ suffix)) ≡ b ∷ (pre ++ suffix)) ⊎ (has_end (drop (length (cond (eqb b 0) [] (b ∷ before_zero (pre ++ suffix)))) (b ∷ (pre ++ suffix))) ≡ true)
    by true e later = inr (rw e (before (b ∷ pre)))
    by false e (inl whole) = inl (rw e (ap (λ t. b ∷ t) whole))
    by false e (inr behind) = inr (rw e behind)

shown_by : (t : List ℕ) → (before_zero t ≡ t) ⊎ (has_end (from_zero t) ≡ true) → shown t ≡ t
shown_by t (inl whole) = both (is_begun t && is_lost (from_zero t))
  where
    both : (b : Bool) → (if b then before_zero t else t) ≡ t
    both true = whole
    both false = refl
shown_by t (inr ends) = rw (ends, and_right (list_all is_left (from_zero t)) false refl, and_right (is_begun t) false refl) refl

done_suffix : (line : List ℕ) → list_all is_text_byte line ≡ true → begins_with (codes "done") (line ++ 10 ∷ []) ≡ true → (list_all is_text_byte (10 ∷ (line ++ 10 ∷ [])) ≡ true) × (has_end (10 ∷ (line ++ 10 ∷ [])) ≡ true)
unfolding has_end
done_suffix line plain begins = (
  list_all-append is_text_byte line (10 ∷ []) ∙ rw plain refl,
  rw (begins, line_ends line [] plain) refl,
)

shown_at : (text line pre : List ℕ) → list_all is_text_byte line ≡ true → begins_with (codes "done") (line ++ 10 ∷ []) ≡ true → 10 ∷ text ≡ pre ++ 10 ∷ (line ++ 10 ∷ []) → shown text ≡ text
shown_at text line [] plain begins is =
    let e : text ≡ line ++ 10 ∷ [] = cc in
    let both : list_all is_text_byte (line ++ 10 ∷ []) ≡ true = list_all-append is_text_byte line (10 ∷ []) ∙ rw plain refl in
    plain_shown text (rw e both)
shown_at text line (c ∷ pre) plain begins is =
    let suffix = done_suffix line plain begins in
    let e : text ≡ pre ++ 10 ∷ (line ++ 10 ∷ []) = cc in
    subst (λ t. shown t ≡ t) (sym e) (shown_by (pre ++ 10 ∷ (line ++ 10 ∷ [])) (zero_or_end pre (10 ∷ (line ++ 10 ∷ [])) suffix.0 suffix.1))

shown_lines : (text : List ℕ) (ls : List (List ℕ)) (q : Reading) → text_of_lines ls ≡ text → after_lines start ls ≡ Some q → q.stage ≡ Between → shown text ≡ text
shown_lines text [] q whole reads same = subst (λ t. shown t ≡ t) whole (plain_shown [] refl)
shown_lines text (l ∷ ls) q whole reads same =
    let d = ends_done l ls start q reads same in
    subst (λ t. shown t ≡ t) whole (shown_at (text_of_lines (l ∷ ls)) d.line d.pre d.plain d.begins d.is)

pub clean_shown : (text : List ℕ) (es : List Entry) → IsFinished text es → shown text ≡ text
clean_shown text es fin = shown_lines text (split text).lines (record { entries = es; stage = Between }) (joined_lines text fin.whole) fin.reads.lines refl
