-- Full saved lines that go on with a run.
use Rattle.std.proofs.Common.{◌≡◌, ℕ, suc, ◌+◌, ◌*◌, Bool, true, false, List, [], ◌∷◌, ◌++◌, length, take, drop, refl, ap, sym, ◌∙◌, subst, arith, Some, length-append, length-take, length-drop, map}
use Rattle.std.specs.Prelude.{◌==◌}
use Rattle.std.specs.Str.{bytes_eq}
use Rattle.std.proofs.lemmas.Grind.{common_steps}
use Rattle.bx_text.specs.declared.owned.pieces.Piece.{Piece}
use Rattle.bx_journal_format.specs.declared.format.version.Version.{Version}
use Rattle.bx_journal_format.specs.Kept.{Run, Kept, run_of, with_run}
use Rattle.bx_journal_format.specs.Line.{save_line}
use Rattle.bx_journal_format.specs.count.Mark.{IsMark}
use Rattle.bx_journal_format.specs.Text.{Entry, Saving, Reading, split, next_at, next}
use Rattle.bx_journal_format.specs.read.Followed.{IsFullSaved, IsSavingTo, GoesOnBy, with_last}
use Rattle.bx_journal_format.proofs.Damage.{mark_on, counted_on}
use Rattle.bx_journal_format.proofs.Gathered.{with_run-last, goes_on}
use Rattle.bx_journal_format.proofs.Inverse.{same_bytes}
use Rattle.bx_journal_format.proofs.KeptLemmas.{runs_push}
use Rattle.bx_journal_format.proofs.LineLoop.{IsLine}
use Rattle.bx_journal_format.proofs.ReadLoop.{drop_twice}
use Rattle.bx_journal_format.proofs.StepLemmas.{adds}
use Rattle.bx_journal_format.proofs.WriterLemmas.{save_long}

pub none_goes_on : (len : ℕ) (rest : List ℕ) (old new : List Run) → new ≡ old → GoesOnBy len rest old new 0
none_goes_on len rest old new same = record {
  within = omega arith;
  leads = λ text entries v at line left s.
      let place : at ≡ at + 68 * 0 = omega arith in
      let number : line ≡ line + 0 = omega arith in
      subst (λ n. IsSavingTo text entries v len new n (line + 0)) place (subst (λ n. IsSavingTo text entries v len new at n) number (subst (λ rs. IsSavingTo text entries v len rs at line) (sym same) s));
}

-- a full line isn't the one that ends what is saved
pub not_save : (n : ℕ) (line : List ℕ) → length line ≡ 67 → bytes_eq line (save_line n) ≡ false
not_save n line long = by (bytes_eq line (save_line n)) refl
  where
    by : (b : Bool) → bytes_eq line (save_line n) ≡ b → b ≡ false
    by false is = refl
    by true is = absurd (omega (arith, long, ap length (same_bytes line (save_line n) is), save_long n, length-append (save_line n) (10 ∷ [])))

same_number : (n : ℕ) → n == n ≡ true
same_number n = grind (arith, common_steps)

longer_last : (front : List Run) (at : ℕ) (bytes more : List ℕ) → with_run (with_last front at bytes) (record { at = at + length bytes; bytes = more }) ≡ with_last front at (bytes ++ more)
longer_last front at bytes more =
    let last : Run = record { at = at; bytes = bytes } in
    let p : Run = record { at = at + length bytes; bytes = more } in
    with_run-last front last p ∙ ap (λ rs. front ++ rs) (goes_on last p (same_number (at + length bytes)))

-- one more full line among the saved lines of an entry
saving_on : (text rest bytes : List ℕ) (entries : List Entry) (v : Version) (len at line : ℕ) (runs new : List Run) (p : Run) → with_run runs p ≡ new → rest ≡ drop at text
    → IsFullSaved len p.at rest p.bytes → IsSavingTo text entries v len runs at line → IsSavingTo text entries v len new (at + 68) (line + 1)
saving_on text rest bytes entries v len at line runs new p is left full s =
    let l : IsLine (drop at text) (take 67 rest) (drop 68 rest) = record { plain = full.plain; is = sym left ∙ full.ended } in
    let long : length (take 67 rest) ≡ 67 = omega (arith, length-take 67 rest, full.long) in
    let old : Kept = record { len = len; runs = runs } in
    let step : next_at entries (Saving v old) (take 67 rest) ≡ Some (record { entries = entries; stage = Saving v (record { len = len; runs = with_run runs p }) })
    = adds entries (suc (length entries)) v old (take 67 rest) refl p (not_save (suc (length entries)) (take 67 rest) long) full.saved in
    let here : Reading = record { entries = entries; stage = Saving v old } in
    let there : Reading = record { entries = entries; stage = Saving v (record { len = len; runs = new }) } in
    let leads : next here (take 67 rest) ≡ Some there = step ∙ ap (λ (rs : List Run). Some (record { entries = entries; stage = Saving v (record { len = len; runs = rs }) })) is in
    let place : at + length (take 67 rest) + 1 ≡ at + 68 = omega (arith, long) in
    let more : length (split (take (at + 68) text)).lines ≡ suc (length (split (take at text)).lines) =
    subst (λ n. length (split (take n text)).lines ≡ suc (length (split (take at text)).lines)) place (counted_on text (take 67 rest) (drop 68 rest) at here s.mark l) in
    record {
      mark = subst (λ n. IsMark text n there) place (mark_on text (take 67 rest) (drop 68 rest) at here there s.mark l leads);
      counted = omega (arith, s.counted, more);
    }

-- one more full line that goes on with the last run
pub one_goes_on : (len : ℕ) (rest left : List ℕ) (old front : List Run) (at : ℕ) (bytes more : List ℕ) (count : ℕ) → left ≡ drop (68 * count) rest → IsFullSaved len (at + length bytes) left more
    → GoesOnBy len rest old (with_last front at bytes) count → GoesOnBy len rest old (with_last front at (bytes ++ more)) (count + 1)
one_goes_on len rest left old front at bytes more count is full so = record {
  within = omega (arith, full.long, ap length is, length-drop (68 * count) rest);
  leads = λ text entries v place line start s.
      let here : left ≡ drop (place + 68 * count) text = is ∙ ap (drop (68 * count)) start ∙ drop_twice place (68 * count) text in
      let next = saving_on text left more entries v len (place + 68 * count) (line + count) (with_last front at bytes) (with_last front at (bytes ++ more))
      (record { at = at + length bytes; bytes = more }) (longer_last front at bytes more) here full (so.leads text entries v place line start s) in
      let there : place + 68 * count + 68 ≡ place + 68 * (count + 1) = omega arith in
      let number : line + count + 1 ≡ line + (count + 1) = omega arith in
      subst (λ n. IsSavingTo text entries v len (with_last front at (bytes ++ more)) n (line + (count + 1))) there
      (subst (λ n. IsSavingTo text entries v len (with_last front at (bytes ++ more)) (place + 68 * count + 68) n) number next);
}

-- the lines go on with the last of the runs that were read
pub last_goes_on : {A : Type 0} → (len : ℕ) (text : List ℕ) (old rest new : List (Piece A)) (last : Piece A) (before after : List ℕ) (count : ℕ) → old ≡ rest ++ last ∷ [] → before ≡ last.bytes
    → map run_of new ≡ with_last (map run_of rest) last.at after → ((front : List Run) → GoesOnBy len text (with_last front last.at before) (with_last front last.at after) count)
    → GoesOnBy len text (map run_of old) (map run_of new) count
last_goes_on {A = A} len text old rest new last before after count is same end so =
    let front : List Run = map run_of rest in
    let first : with_last front last.at before ≡ map run_of old = ap (with_last front last.at) same ∙ sym (ap (λ (o : List (Piece A)). map run_of o) is ∙ runs_push rest last) in
    subst (λ rs. GoesOnBy len text rs (map run_of new) count) first (subst (λ rs. GoesOnBy len text (with_last front last.at before) rs count) (sym end) (so front))
