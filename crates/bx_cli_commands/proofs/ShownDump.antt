-- What is shown of undos is a dump.
use Rattle.std.proofs.Common.{◌≡◌, ◌<◌, ◌≤◌, ◌+◌, ◌-◌, ◌^◌, inl, inr, ℕ, false, Option, None, Some, List, [], ◌∷◌, ◌++◌, length, map, take, refl, sym, subst, ap, ◌∙◌, arith, All, append_assoc, append-nil}
use Rattle.std.specs.Prelude.{codes, replicate}
use Rattle.std.proofs.lemmas.List.{take_all}
use Rattle.bx_text.specs.declared.owned.pieces.Piece.{Piece}
use Rattle.bx_image.specs.Change.{effect, placed}
use Rattle.bx_image.specs.declared.change.Change.{Change}
use Rattle.bx_image.specs.Image.{cut, place}
use Rattle.bx_image.proofs.Edits.{resized_cut}
use Rattle.bx_image.proofs.Records.{length-restore, placed-cut}
use Rattle.bx_read.specs.Grammar.{GivesPieces, IsLine}
use Rattle.bx_read.specs.Laws.{dump_line_text}
use Rattle.bx_read.specs.Text.{contents, lines_of}
use Rattle.bx_read.proofs.DumpLemmas.{only, small}
use Rattle.bx_read.proofs.FullLines.{first_line}
use Rattle.bx_read.proofs.GrammarLemmas.{ok_same}
use Rattle.bx_read.proofs.WrittenLemmas.{reads_back}
use Rattle.bx_journal.specs.DumpLine.{saved_run_line}
use Rattle.bx_journal.specs.Kept.{Kept, Run}
use Rattle.bx_journal.specs.Line.{saved_in}
use Rattle.bx_journal.specs.Spelled.{EntryLines}
use Rattle.bx_journal.proofs.GrammarLemmas.{saved_found}
use Rattle.bx_journal.specs.Differences.{line_made, made_text, signed_line}
use Rattle.bx_journal.specs.ShowLaws.{run_then, shown_runs, step_onto, steps_onto}
use Rattle.bx_journal.proofs.ShownWritten.{shown_within}
use Rattle.bx_cli_commands.specs.Command.{dump_change}
use Rattle.bx_cli_commands.specs.ShowDump.{KeepLength, ShownIsADump, ShownIsUndone, ShownReverts, shown_dump, shown_pieces}
use Rattle.bx_cli_commands.proofs.Joined.{dump_joined}
use Rattle.bx_cli_commands.proofs.Unfailed.{all_tail}

-- a line of a dump gives bytes, and some
pub line_gives : (line hex bytes : List ℕ) (at : ℕ) → IsLine line at hex bytes → (0 < length bytes) × (length bytes ≤ 256) × (at < 2 ^ 62) × All (λ b. b < 256) bytes
line_gives line hex bytes at is = small (line ∷ []) ((at, bytes) ∷ []) (inr (at, hex, bytes, [], is, refl, refl)) 0 (at, bytes) (omega arith)

pub signed : (at : ℕ) (bytes : List ℕ) → 0 < length bytes → signed_line [] at bytes ≡ dump_line_text at bytes ++ 10 ∷ []
unfolding saved_run_line
signed at [] some = absurd (omega (arith, some))
signed at (b ∷ bytes) some = refl

-- the lines of a text that begins with xxd's default line for such bytes
pub lines_are : (at : ℕ) (bytes made rest : List ℕ) → 0 < length bytes → length bytes ≤ 16 → at < 2 ^ 62 → All (λ b. b < 256) bytes
    → (lines_of ((signed_line [] at bytes ++ made) ++ rest) ≡ dump_line_text at bytes ∷ lines_of (made ++ rest)) × ((hex : List ℕ) × IsLine (dump_line_text at bytes) at hex bytes)
lines_are at bytes made rest some few near are =
    let back = reads_back false 16 2 at bytes (omega arith) some few (omega arith) are near in
    let whole : (signed_line [] at bytes ++ made) ++ rest ≡ dump_line_text at bytes ++ 10 ∷ (made ++ rest) =
    ap (λ l. (l ++ made) ++ rest) (signed at bytes some) ∙ append_assoc (dump_line_text at bytes ++ 10 ∷ []) made rest ∙ append_assoc (dump_line_text at bytes) (10 ∷ []) (made ++ rest) in
    (ap lines_of whole ∙ first_line (dump_line_text at bytes) (made ++ rest) back.3, back.1)

-- what is shown of saved lines gives their runs, in front of what follows
gives : (len : ℕ) (lines : List (List ℕ)) (rest : List ℕ) (ps : List (ℕ × List ℕ)) → GivesPieces (lines_of rest) ps
    → GivesPieces (lines_of (made_text len lines ++ rest)) (contents (shown_runs len lines) ++ ps)
gives len [] rest ps is = is
gives len (line ∷ lines) rest ps is = by (saved_in len line) refl (gives len lines rest ps is)
  where
    by : (o : Option Run) → saved_in len line ≡ o → GivesPieces (lines_of (made_text len lines ++ rest)) (contents (shown_runs len lines) ++ ps)
        → GivesPieces (lines_of ((line_made o ++ made_text len lines) ++ rest)) (contents (run_then o (shown_runs len lines)) ++ ps)
    by None read later = later
    by (Some run) read later =
        let found = saved_found len line run read in
        let sizes = line_gives line found.0.0 run.bytes run.at found.0.1 in
        let own = lines_are run.at run.bytes (made_text len lines) rest sizes.0 found.1 sizes.2 sizes.3 in
        let ps_all = contents (shown_runs len lines) ++ ps in
        subst (λ ls. GivesPieces ls ((run.at, run.bytes) ∷ ps_all)) (sym own.0) (inr (run.at, own.1.0, run.bytes, ps_all, own.1.1, refl, later))

all_give : (entries : List EntryLines) → GivesPieces (lines_of (shown_dump entries)) (shown_pieces entries)
all_give [] = refl
all_give (c ∷ older) =
    let made = made_text c.entry.saved.len c.saved in
    let parts : (made ++ codes "\n") ++ shown_dump older ≡ made ++ 10 ∷ shown_dump older = append_assoc made (codes "\n") (shown_dump older) in
    subst (λ text. GivesPieces (lines_of text) (shown_pieces (c ∷ older))) (sym parts)
    (gives c.entry.saved.len c.saved (10 ∷ shown_dump older) (shown_pieces older) (inl (inl refl, all_give older)))

-- an image cut at its length
cut_whole : (x : List ℕ) (n : ℕ) → n ≡ length x → cut x n ≡ x
cut_whole x n is =
    let none : n - length x ≡ 0 = omega (arith, is) in
    sym (resized_cut x n) ∙ ap (λ k. take n x ++ replicate k 0) none ∙ append-nil (take n x) ∙ take_all n x (omega (arith, is))

module _ (A : Type 0) where
  abbrev written : ℕ × List ℕ → Piece A
  written piece = record { at = piece.0 + 0; bytes = piece.1 }

  -- runs are placed, and what follows behind them
  placed_on : (runs : List Run) (ps : List (ℕ × List ℕ)) (x : List ℕ) → placed (map written (contents runs ++ ps)) x ≡ placed (map written ps) (placed runs x)
  unfolding placed
  placed_on [] ps x = refl
  placed_on (run ∷ runs) ps x =
      let same : run.at + 0 ≡ run.at = omega arith in
      ap (λ at. placed (map written (contents runs ++ ps)) (place x at run.bytes)) same ∙ placed_on runs ps (place x run.at run.bytes)

  all_placed : (entries : List EntryLines) (x : List ℕ) → KeepLength entries x → placed (map written (shown_pieces entries)) x ≡ steps_onto entries x
  unfolding placed
  all_placed [] x same = refl
  all_placed (c ∷ older) x same =
      let runs = shown_runs c.entry.saved.len c.saved in
      let own : c.entry.saved.len ≡ length x = same 0 c (omega arith) in
      let s : Kept = record { len = c.entry.saved.len; runs = runs } in
      let whole : placed runs x ≡ step_onto c x = ap (placed runs) (sym (cut_whole x c.entry.saved.len own)) in
      let long : length (step_onto c x) ≡ length x = ap length (placed-cut s x (shown_within c.entry.saved.len c.saved)) ∙ length-restore s x ∙ own in
      placed_on runs (shown_pieces older) x ∙ ap (placed (map written (shown_pieces older))) whole
      ∙ all_placed older (step_onto c x) (λ i d inside. all_tail (λ (c : EntryLines). c.entry.saved.len ≡ length x) c older same i d inside ∙ sym long)

pub shown_is_a_dump : ShownIsADump
shown_is_a_dump entries = only (lines_of (shown_dump entries)) 1 (shown_pieces entries) (all_give entries)

pub shown_reverts : (A : Type 0) → ShownReverts A
unfolding effect
shown_reverts A entries x same = all_placed A entries x same

pub shown_is_undone : (A : Type 0) → ShownIsUndone A
shown_is_undone A entries x change same (pieces, read, is) =
    let gives : pieces ≡ shown_pieces entries = ok_same pieces (shown_pieces entries) (sym read ∙ shown_is_a_dump entries) in
    ap (λ (c : Change A). effect c x) is ∙ (dump_joined A 0 pieces).same_effect x ∙ ap (λ ps. effect {A = A} (dump_change 0 ps) x) gives
    ∙ shown_reverts A entries x same
