-- Without its headings, what is shown of undos is their saved lines.
use Rattle.std.proofs.Common.{◌≡◌, ℕ, true, false, Bool, Option, None, Some, List, [], ◌∷◌, ◌++◌, refl, sym, ap, ◌∙◌, append_assoc, append-nil, get_or}
use Rattle.std.specs.Prelude.{codes, decimal, flat_map, if◌then◌else◌, ◌==◌}
use Rattle.std.proofs.lemmas.Bool.{ne_eqb}
use Rattle.bx_read.specs.Digits.{is_hex}
use Rattle.bx_read.specs.Laws.{dump_line_text}
use Rattle.bx_read.proofs.DumpLemmas.{first_is}
use Rattle.bx_read.proofs.FullLines.{first_line}
use Rattle.bx_journal.specs.Steps.{Steps}
use Rattle.bx_journal.specs.Differences.{line_made, made_text, signed_line}
use Rattle.bx_journal.specs.Kept.{Run}
use Rattle.bx_journal.specs.Line.{saved_in}
use Rattle.bx_journal.specs.Spelled.{EntryLines}
use Rattle.bx_journal.specs.ShownSteps.{lines_text, next_number, next_word, patch_length, step_text, steps_text}
use Rattle.bx_journal.specs.Text.{Between, Ending, Saving, Stage}
use Rattle.bx_journal.proofs.GrammarLemmas.{saved_found}
use Rattle.bx_journal.proofs.HeadingLines.{IsOneLine, change_in, head, head_in, joined, looked}
use Rattle.bx_cli_commands.specs.ShowDump.{ShownUnheaded, UnfinishedUnheaded, unheaded, unless_heading}
use Rattle.bx_cli_commands.proofs.ShownDump.{line_gives, lines_are, signed}

-- a heading goes
goes : (line rest : List ℕ) → IsOneLine line → unless_heading line ≡ [] → unheaded ((line ++ codes "\n") ++ rest) ≡ unheaded rest
goes line rest one none =
    ap unheaded (append_assoc line (codes "\n") rest) ∙ ap (flat_map unless_heading) (first_line line rest one) ∙ ap (λ l. l ++ unheaded rest) none

-- a line that begins with a digit stays
stays : (line : List ℕ) → is_hex (get_or line 0 0) ≡ true → unless_heading line ≡ line ++ 10 ∷ []
stays [] first = refl
stays (c ∷ line) first = rw (ne_eqb c 35 (λ same. let k : is_hex 35 ≡ true = rw same at first in cc)) refl

saved_stay : (len : ℕ) (lines : List (List ℕ)) (rest : List ℕ) → unheaded (made_text len lines ++ rest) ≡ made_text len lines ++ unheaded rest
saved_stay len [] rest = refl
saved_stay len (line ∷ lines) rest = by (saved_in len line) refl (saved_stay len lines rest)
  where
    by : (o : Option Run) → saved_in len line ≡ o → unheaded (made_text len lines ++ rest) ≡ made_text len lines ++ unheaded rest
        → unheaded ((line_made o ++ made_text len lines) ++ rest) ≡ (line_made o ++ made_text len lines) ++ unheaded rest
    by None read later = later
    by (Some run) read later =
        let found = saved_found len line run read in
        let sizes = line_gives line found.0.0 run.bytes run.at found.0.1 in
        let made = made_text len lines in
        let own = lines_are run.at run.bytes made rest sizes.0 found.1 sizes.2 sizes.3 in
        let text = dump_line_text run.at run.bytes in
        ap (flat_map unless_heading) own.0
        ∙ ap (λ l. l ++ unheaded (made ++ rest)) (stays text (first_is text run.at own.1.0 run.bytes own.1.1) ∙ sym (signed run.at run.bytes sizes.0))
        ∙ ap (λ t. signed_line [] run.at run.bytes ++ t) later ∙ sym (append_assoc (signed_line [] run.at run.bytes) made (unheaded rest))

-- of a step what isn't its heading
step_stays : (s : Steps) (image : List ℕ) (n : ℕ) (c : EntryLines) (rest : List ℕ) → s.compares ≡ false
    → unheaded (step_text s image n c ++ rest) ≡ (made_text c.entry.saved.len c.saved ++ codes "\n") ++ unheaded rest
step_stays s image n c rest is =
    let line = head s.way n c.entry in
    let made = made_text c.entry.saved.len c.saved in
    let told = patch_length c.entry.after c.entry.saved.len in
    let count : Bool = s.count == 1 in
    let plain : step_text s image n c ≡ ((line ++ codes "\n") ++ made) ++ codes "\n" =
    ap (λ (b : Bool). (((line ++ codes "\n") ++ (if (if b then count else false) then told else [])) ++ lines_text b image c.entry.saved.len c.saved) ++ codes "\n") is
    ∙ ap (λ t. (t ++ made) ++ codes "\n") (append-nil (line ++ codes "\n")) in
    let parts : (((line ++ codes "\n") ++ made) ++ codes "\n") ++ rest ≡ (line ++ codes "\n") ++ (made ++ 10 ∷ rest) =
    append_assoc ((line ++ codes "\n") ++ made) (codes "\n") rest ∙ append_assoc (line ++ codes "\n") made (10 ∷ rest) in
    ap (λ t. unheaded (t ++ rest)) plain ∙ ap unheaded parts ∙ goes line (made ++ 10 ∷ rest) (head_in s.way n c.entry) refl
    ∙ saved_stay c.entry.saved.len c.saved (10 ∷ rest) ∙ sym (append_assoc made (codes "\n") (unheaded rest))

pub shown_unheaded : ShownUnheaded
unfolding steps_text
shown_unheaded s image n [] is = refl
shown_unheaded s image n (c ∷ older) is =
    step_stays s image n c (steps_text s image (next_number s.way n) older) is
    ∙ ap (λ t. (made_text c.entry.saved.len c.saved ++ codes "\n") ++ t) (shown_unheaded s image (next_number s.way n) older is)

next_in : (stage : Stage) → IsOneLine (next_word stage)
next_in Between = looked (codes "drops it") refl
next_in (Saving v s) = looked (codes "drops it") refl
next_in (Ending v s) = looked (codes "takes it back") refl

pub unfinished_unheaded : UnfinishedUnheaded
unfinished_unheaded n stage text =
    let why = codes ": unfinished, the next command " in
    let first = codes "# change " ++ decimal n in
    goes (first ++ why ++ next_word stage) text
    (joined (first ++ why) (next_word stage) (joined first why (change_in n) (looked why refl)) (next_in stage)) refl
