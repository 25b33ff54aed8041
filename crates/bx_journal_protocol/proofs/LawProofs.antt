-- The laws.
use Rattle.std.proofs.Common.{◌≡◌, ℕ, suc, List, [], ◌∷◌, ◌++◌, length, refl, ap, sym, ◌∙◌, subst, inl, inr, arith, append_assoc, Some}
use Rattle.std.proofs.lemmas.Bool.{cases_lt}
use Rattle.bx_journal_format.specs.declared.format.version.Version.TheVariants.{Second}
use Rattle.bx_journal_model.specs.Laws.{WrittenIsRead, StandsForOne, DamagedAtOne, EmptyIsSound}
use Rattle.bx_journal_format.specs.Line.{end_line}
use Rattle.bx_journal_format.specs.Entry.{head_lines, entry_text}
use Rattle.bx_journal_format.specs.Text.{Entry, Between, Reading, Reads, IsRest, split, text_of_lines, start, after_lines}
use Rattle.bx_journal_model.specs.Stack.{stack_of}
use Rattle.bx_journal_model.specs.Phase.{as_read}
use Rattle.bx_journal_format.proofs.Splits.{split-append}
use Rattle.bx_journal_format.proofs.Runs.{SafeRun, GoesAllBy, safe_all, after_lines-append}
use Rattle.bx_journal_format.proofs.Gathered.{as_read_byte}
use Rattle.bx_journal_format.proofs.RowLemmas.{all_rows_are}
use Rattle.bx_journal_format.proofs.EntryRun.{head_run, end_run, between}
use Rattle.bx_journal_model.proofs.Judged.{undamaged}

pub joined-append : (a b : List (List ℕ)) → text_of_lines (a ++ b) ≡ text_of_lines a ++ text_of_lines b
joined-append [] b = refl
joined-append (l ∷ a) b = ap (λ t. (l ++ 10 ∷ []) ++ t) (joined-append a b) ∙ sym (append_assoc (l ++ 10 ∷ []) (text_of_lines a) (text_of_lines b))

pub written_is_read : WrittenIsRead
written_is_read text es s after reads whole room most after_most within bytes may =
    let e : Entry = record { saved = as_read s; after = Some after } in
    let E : Reading → Type 0 = λ r. r ≡ between (e ∷ es) in
    let Any : Reading → Type 0 = λ r. Unit {0} in
    let n : ℕ = suc (length es) in
    let lines : List (List ℕ) = head_lines n s ++ end_line Second n after ∷ [] in
    let run : SafeRun Any E (between es) lines = head_run Any E es s room most may (all_rows_are s.len s.runs within bytes) tt (λ runs. tt) (end_line Second n after ∷ [])
    (end_run Any E es (as_read s) after after_most tt tt refl) in
    let g : GoesAllBy Any E (between es) (split (text_of_lines lines)) = safe_all Any E (between es) lines run in
    let is : text_of_lines lines ≡ entry_text n s after = joined-append (head_lines n s) (end_line Second n after ∷ []) in
    let all : Reads (text ++ text_of_lines lines) (between (e ∷ es)) = record {
      lines = rw (split-append text (text_of_lines lines) whole) (after_lines-append start (between es) (split text).lines (split (text_of_lines lines)).lines reads.lines ∙ g.lines ∙ ap Some g.ends);
      rest = rw (split-append text (text_of_lines lines) whole) (subst (IsRest (e ∷ es) Between) (sym g.whole) (inl refl));
    } in
    (e, record { len = refl; bytes = as_read_byte s.runs; told = refl }, subst (λ t. Reads (text ++ t) (between (e ∷ es))) is all)

some_same : {A : Type 0} (x y : A) → Some x ≡ Some y → x ≡ y
some_same x y e = cc

pub stands_for_one : StandsForOne
stands_for_one text x s t a b =
    let same : between a.entries ≡ between b.entries = some_same (between a.entries) (between b.entries) (sym a.reads.lines ∙ b.reads.lines) in
    a.stack_is ∙ ap (λ (r : Reading). stack_of r.entries x) same ∙ sym b.stack_is

pub damaged_at_one : DamagedAtOne
damaged_at_one text m a = (
  (λ read. undamaged text m read a),
  λ n b. elim (cases_lt m n) [
    | inl less ↦ absurd (a.damaged (b.least m less))
    | inr most ↦ elim (cases_lt n m) [ inl less ↦ absurd (b.damaged (a.least n less)) | inr least ↦ omega arith ]
  ],
)

pub empty_is_sound : EmptyIsSound
unfolding split after_lines stack_of
empty_is_sound x = record {
  stands = record { entries = []; reads = record { lines = refl; rest = inl refl }; whole = refl; lengths = tt; stack_is = refl };
  sound = record { short = refl; unfinished = tt; finished = tt };
}
