-- The unfinished end of a text that was read.
use Rattle.std.proofs.Common.{◌≡◌, ℕ, suc, List, [], ◌∷◌, ◌++◌, length, length-append, take, drop, refl, ap, sym, ◌∙◌, subst, arith}
use Rattle.bx_journal_format.specs.declared.read.whole.JournalRead.{JournalRead}
use Rattle.bx_journal_format.specs.declared.read.types.EntryRead.{EntryRead}
use Rattle.bx_journal_format.specs.declared.read.types.StageRead.{StageRead}
use Rattle.bx_journal_format.specs.declared.read.types.StageRead.TheVariants.{Between as BetweenRead, Saving as SavingRead, Ending as EndingRead}
use Rattle.bx_journal_format.specs.Text.{Entry, Between, Split, split, start, after_lines}
use Rattle.bx_journal_format.proofs.Damage.{split_at_mark}
use Rattle.bx_journal_model.specs.Redo.{BeginsAt}
use Rattle.bx_journal_format.specs.count.Mark.{IsMark}
use Rattle.bx_journal_format.specs.Parsed.{entries_of, reading_of, stage_of, told_by, IsStageMarked}
use Rattle.bx_journal_format.specs.read.Journal.{HasRead}
use Rattle.bx_journal_format.proofs.ReadLemmas.{length-entries_of}
use Rattle.bx_journal_format.proofs.ReadLoop.{marked_few}
use Rattle.bx_journal_read.specs.declared.scan.torn.Torn.{Torn}
use Rattle.bx_journal_read.specs.scan.Recovery.{HasMark, IsTorn}

-- where what is unfinished begins
abbrev pub begins_at : {A : Type 0} → (StageRead A) → ℕ → ℕ
begins_at BetweenRead at = at
begins_at (SavingRead v len runs begins) at = begins
begins_at (EndingRead v kept begins saved) at = begins

pub begin_mark : {A : Type 0} → (text : List ℕ) (es : List (EntryRead A)) (stage : StageRead A) (at : ℕ) → IsMark text at (reading_of es stage) → IsStageMarked text [] es stage at → IsMark text (begins_at stage at) (record { entries = entries_of es; stage = Between })
begin_mark text es BetweenRead at mark m = mark
begin_mark text es (SavingRead v len runs begins) at mark m = m.1
begin_mark text es (EndingRead v kept begins saved) at mark m = m.1

-- what is unfinished in a text that was read
pub torn_read : {A : Type 0} → (text : List ℕ) (j : JournalRead A) (t : Torn) → HasRead text j → t.begins ≡ begins_at j.stage j.whole → t.count ≡ length j.entries.items → t.told ≡ told_by (entries_of j.entries.items)
    → HasMark text (stage_of j.stage) t.mark → IsTorn text (reading_of j.entries.items j.stage) t
torn_read text j t read begins count told mark = record {
  reads = read.reads;
  begins = subst (λ n. IsMark text n (record { entries = entries_of j.entries.items; stage = Between })) (sym begins) (begin_mark text j.entries.items j.stage j.whole read.places.mark read.places.marked);
  count = count ∙ sym (length-entries_of j.entries.items);
  told = told;
  few = omega (arith, count, marked_few text [] j.entries.items j.stage j.whole read.places.marked);
  mark = mark;
}

take_front : (a b : List (List ℕ)) → take (length a) (a ++ b) ≡ a
take_front [] b = refl
take_front (l ∷ a) b = ap (λ s. l ∷ s) (take_front a b)

-- at a mark between two entries a line begins
pub begins_of : (text : List ℕ) (at : ℕ) (es : List Entry) → IsMark text at (record { entries = es; stage = Between }) → BeginsAt text es (suc (length (split (take at text)).lines))
begins_of text at es mark =
    let a : List (List ℕ) = (split (take at text)).lines in
    let b : List (List ℕ) = (split (drop at text)).lines in
    let parts : (split text).lines ≡ a ++ b = ap (λ (s : Split). s.lines) (split_at_mark text at (record { entries = es; stage = Between }) mark) in
    record {
      before = length a;
      within = omega (arith, ap length parts, length-append a b);
      reads = ap (λ ls. after_lines start (take (length a) ls)) parts ∙ ap (after_lines start) (take_front a b) ∙ mark.lines;
      line_is = refl;
    }
