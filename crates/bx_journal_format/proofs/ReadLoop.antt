-- The loop over a journal's lines.
use Rattle.std.proofs.Common.{◌≡◌, ℕ, zero, suc, ◌+◌, ◌<◌, ◌≤◌, ◌^◌, Bool, true, false, List, [], ◌∷◌, ◌++◌, length, take, drop, get_or, refl, ap, sym, ◌∙◌, subst, arith, Option, Some, None, Result, Ok, Err, length-take}
use Rattle.std.specs.Prelude.{slice_index, ◌==◌, IfOk}
use Rattle.std.proofs.lemmas.Grind.{common_steps}
use Rattle.std.proofs.lemmas.List.{take-append-drop}
use Rattle.std.proofs.Math.Seq.{drop-cons}
use Rattle.bx_journal_format.specs.declared.read.types.EntryRead.{EntryRead}
use Rattle.bx_journal_format.specs.declared.read.types.Front.{Front}
use Rattle.bx_journal_format.specs.declared.read.types.StageRead.{StageRead}
use Rattle.bx_journal_format.specs.declared.read.whole.JournalRead.{JournalRead}
use Rattle.bx_journal_format.specs.declared.read.types.StageRead.TheVariants.{Between as BetweenRead, Saving as SavingRead, Ending as EndingRead}
use Rattle.bx_journal_format.specs.read.Plain.{HasNoNewline}
use Rattle.bx_journal_format.specs.Text.{Entry, Split, split, after_lines, IsRest, Reads, IsDamagedAt}
use Rattle.bx_journal_format.specs.read.Journal.{HasRead, HasReadBehind, IsBehind}
use Rattle.bx_journal_format.specs.count.Mark.{IsMark}
use Rattle.bx_journal_format.specs.Parsed.{entries_onto, stage_of, reading_of, reading_onto, IsStageMarked, Leads, KeepsMarks, IsReadTo}
use Rattle.bx_journal_format.proofs.LineLoop.{IsLine}
use Rattle.bx_journal_format.proofs.Damage.{mark_on, counted_on, stops_at, reads_at, rest_stops, lines_done}

pub start_read : {A : Type 0} → (text bytes : List ℕ) (older : List Entry) (front : Front) (es : List (EntryRead A)) → IsBehind text older front bytes → es ≡ [] → IsReadTo text older es BetweenRead front.at (front.lines + 1)
start_read {A = A} text bytes older front es b none =
    let empty : IsReadTo {A = A} text older [] BetweenRead front.at (front.lines + 1) = record {
      mark = b.mark;
      marked = (omega arith, omega (arith, b.few, b.count));
      counted = omega (arith, b.many);
    } in
    subst (λ fs. IsReadTo text older fs BetweenRead front.at (front.lines + 1)) (sym none) empty

-- nothing stands before a text
pub behind_none : (text : List ℕ) → length text + 1 < 2 ^ 64 → IsBehind text [] (record { count = 0; told = None; at = 0; lines = 0 }) text
unfolding split after_lines
behind_none text small = record {
  mark = record { within = omega arith; lines = refl; whole = refl };
  rest = refl;
  count = refl;
  told = refl;
  many = refl;
  lines = omega arith;
  few = omega arith;
  countable = small;
}

-- what was read behind nothing is all
pub read_all : {A E : Type 0} → (text : List ℕ) (r : Result (JournalRead A) E) → IfOk r (HasReadBehind text []) → IfOk r (λ j. HasRead text j)
read_all text (Ok j) h = record { reads = h.reads; places = h.places }
read_all text (Err e) h = tt

pub reads_all : {A E : Type 0} → (text : List ℕ) (r : Result (JournalRead A) E) → IfOk r (HasReadBehind text []) → IfOk r (λ j. Reads text (reading_of j.entries.items j.stage))
reads_all text (Ok j) h = h.reads
reads_all text (Err e) h = tt

pub marked_few : {A : Type 0} → (text : List ℕ) (older : List Entry) (es : List (EntryRead A)) (stage : StageRead A) (at : ℕ) → IsStageMarked text older es stage at → length older + length es ≤ 65535
marked_few text older es BetweenRead at m = m.1
marked_few text older es (SavingRead v len runs begins) at m = omega (arith, m.3)
marked_few text older es (EndingRead v kept begins saved) at m = omega (arith, m.5)

-- the first newline of what is left
pub record IsFound (rest : List ℕ) (i : ℕ) : Type 0 where
  pub below : i < length rest
  pub plain : HasNoNewline (take i rest)
  pub is : rest ≡ take i rest ++ 10 ∷ drop (i + 1) rest

line_of : (text rest : List ℕ) (at i : ℕ) → rest ≡ drop at text → IsFound rest i → IsLine (drop at text) (take i rest) (drop (i + 1) rest)
line_of text rest at i left f = record { plain = f.plain; is = sym left ∙ f.is }

long_of : (rest : List ℕ) (i : ℕ) → IsFound rest i → length (take i rest) ≡ i
long_of rest i f = omega (arith, length-take i rest, f.below)

pub read_on : {A : Type 0} → (text rest : List ℕ) (older : List Entry) (es new : List (EntryRead A)) (stage s : StageRead A) (at line i : ℕ) → IsReadTo text older es stage at line → rest ≡ drop at text → IsFound rest i
    → Leads (reading_onto older es stage) (take i rest) (entries_onto older new) (Some s) → KeepsMarks text older new (at + i + 1) (Some s) → IsReadTo text older new s (at + i + 1) (line + 1)
read_on text rest older es new stage s at line i read left f leads keeps =
    let l : IsLine (drop at text) (take i rest) (drop (i + 1) rest) = line_of text rest at i left f in
    let place : at + length (take i rest) + 1 ≡ at + i + 1 = omega (arith, long_of rest i f) in
    let mark : IsMark text (at + i + 1) (record { entries = entries_onto older new; stage = stage_of s }) =
    subst (λ n. IsMark text n (record { entries = entries_onto older new; stage = stage_of s })) place (mark_on text (take i rest) (drop (i + 1) rest) at (reading_onto older es stage) (reading_onto older new s) read.mark l leads) in
    let more : length (split (take (at + i + 1) text)).lines ≡ suc (length (split (take at text)).lines) =
    subst (λ n. length (split (take n text)).lines ≡ suc (length (split (take at text)).lines)) place (counted_on text (take i rest) (drop (i + 1) rest) at (reading_onto older es stage) read.mark l) in
    record { mark = mark; marked = keeps mark; counted = omega (arith, read.counted, more) }

pub read_stops : {A : Type 0} → (text rest : List ℕ) (older : List Entry) (es : List (EntryRead A)) (new : List (EntryRead A)) (stage : StageRead A) (at line i : ℕ) → IsReadTo text older es stage at line → rest ≡ drop at text → IsFound rest i
    → Leads (reading_onto older es stage) (take i rest) (entries_onto older new) (let none : Option (StageRead A) = None in none) → IsDamagedAt text line
read_stops {A = A} text rest older es new stage at line i read left f leads =
    subst (IsDamagedAt text) (sym read.counted) (stops_at text (take i rest) (drop (i + 1) rest) at (reading_onto older es stage) read.mark (line_of text rest at i left f) leads)

pub read_ends : {A : Type 0} → (text rest : List ℕ) (older : List Entry) (es : List (EntryRead A)) (stage : StageRead A) (at line : ℕ) → IsReadTo text older es stage at line → rest ≡ drop at text → HasNoNewline rest
    → IsRest (entries_onto older es) (stage_of stage) rest → Reads text (reading_onto older es stage)
read_ends text rest older es stage at line read left plain fits =
    reads_at text at (reading_onto older es stage) read.mark (subst HasNoNewline left plain) (subst (IsRest (entries_onto older es) (stage_of stage)) left fits)

pub rest_at_end : {A : Type 0} → (text rest : List ℕ) (older : List Entry) (es : List (EntryRead A)) (stage : StageRead A) (at line : ℕ) → IsReadTo text older es stage at line → rest ≡ drop at text → HasNoNewline rest → drop at text ≡ (split text).rest
rest_at_end text rest older es stage at line read left plain = sym (ap (λ (s : Split). s.rest) (lines_done text at (reading_onto older es stage) read.mark (subst HasNoNewline left plain)))

pub read_fails : {A : Type 0} → (text rest : List ℕ) (older : List Entry) (es : List (EntryRead A)) (stage : StageRead A) (at line : ℕ) → IsReadTo text older es stage at line → rest ≡ drop at text → HasNoNewline rest
    → (IsRest (entries_onto older es) (stage_of stage) rest → ⊥) → IsDamagedAt text line
read_fails text rest older es stage at line read left plain apart =
    subst (IsDamagedAt text) (sym read.counted)
    (rest_stops text at (reading_onto older es stage) read.mark (subst HasNoNewline left plain) (λ h. apart (subst (IsRest (entries_onto older es) (stage_of stage)) (sym left) h)))

-- no newline among the first bytes
pub plain_to : (text : List ℕ) (k : ℕ) → ((i : ℕ) → i < k → i < length text → slice_index text i == 10 ≡ true → ⊥) → HasNoNewline (take k text)
plain_to text zero apart = tt
plain_to [] (suc k) apart = tt
plain_to (b ∷ text) (suc k) apart = (not_ten (b == 10) refl (apart 0 (omega arith) (omega arith)), plain_to text k (λ i below within is. apart (suc i) (omega (arith, below)) (omega (arith, within)) is))
  where
    not_ten : (t : Bool) → b == 10 ≡ t → (b == 10 ≡ true → ⊥) → b == 10 ≡ false
    not_ten true is h = absurd (h is)
    not_ten false is h = is

pub plain_all : (text : List ℕ) → ((i : ℕ) → i < length text → slice_index text i == 10 ≡ true → ⊥) → HasNoNewline text
plain_all [] apart = tt
plain_all (b ∷ text) apart = (not_ten (b == 10) refl (apart 0 (omega arith)), plain_all text (λ i within is. apart (suc i) (omega (arith, within)) is))
  where
    not_ten : (t : Bool) → b == 10 ≡ t → (b == 10 ≡ true → ⊥) → b == 10 ≡ false
    not_ten true is h = absurd (h is)
    not_ten false is h = is

pub parts_at : (text : List ℕ) (k : ℕ) → k < length text → slice_index text k == 10 ≡ true → text ≡ take k text ++ 10 ∷ drop (k + 1) text
parts_at text k h is =
    let ten : get_or text k 0 ≡ 10 = grind (arith, common_steps) in
    let next : suc k ≡ k + 1 = omega arith in
    sym (take-append-drop k text) ∙ ap (λ s. take k text ++ s) (drop-cons text k 0 h ∙ ap (λ b. b ∷ drop (suc k) text) ten ∙ ap (λ n. 10 ∷ drop n text) next)

pub drop_twice : (n m : ℕ) (xs : List ℕ) → drop m (drop n xs) ≡ drop (n + m) xs
drop_twice zero m xs = ap (λ k. drop k xs) (omega arith)
drop_twice (suc n) m [] = drop_none m ∙ sym (drop_none (suc n + m))
  where
    drop_none : (k : ℕ) → drop {A = ℕ} k [] ≡ []
    drop_none zero = refl
    drop_none (suc k) = refl
drop_twice (suc n) m (x ∷ xs) =
    let count : suc n + m ≡ suc (n + m) = omega arith in
    drop_twice n m xs ∙ ap (λ k. drop k (x ∷ xs)) (sym count)
