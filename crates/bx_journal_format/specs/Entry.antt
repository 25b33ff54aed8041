-- An entry as it is written.
use Rattle.std.specs.Prelude.{ℕ, ◌+◌, ◌*◌, ◌/◌, List, [], ◌∷◌, ◌++◌, length, take, drop, map, flat_map}
use Rattle.std.specs.List.{range_with_len}
use Rattle.bx_journal_format.specs.Kept.{Run, Kept}
use Rattle.bx_journal_format.specs.declared.format.version.Version.TheVariants.{Second}
use Rattle.bx_journal_format.specs.DumpLine.{saved_run_line}
use Rattle.bx_journal_format.specs.Line.{start_line, save_line, end_line}
use Rattle.bx_journal_format.specs.Text.{text_of_lines}

-- a run, cut into rows of 16 from its start
unfoldable pub rows : Run → List Run
rows run = map (λ j. record { at = run.at + 16 * j; bytes = take 16 (drop (16 * j) run.bytes) }) (range_with_len 0 ((length run.bytes + 15) / 16))

-- the lines of entry n up to its save line
unfoldable pub head_lines : ℕ → Kept → List (List ℕ)
head_lines n s = start_line Second n s.len ∷ (map (λ p. saved_run_line p.at p.bytes) (flat_map rows s.runs) ++ save_line n ∷ [])

-- the lines of an entry up to `save`
abbrev pub head_text : ℕ → Kept → List ℕ
head_text n s = text_of_lines (head_lines n s)

-- the line that ends an entry of the second form, with the length behind the change
abbrev pub end_text : ℕ → ℕ → List ℕ
end_text n after = text_of_lines (end_line Second n after ∷ [])

-- entry n, of a change that saved s and left an image of length `after`
abbrev pub entry_text : ℕ → Kept → ℕ → List ℕ
entry_text n s after = head_text n s ++ end_text n after

-- bytes 16 * j to 16 * j + 15 of a run
abbrev pub row : Run → ℕ → Run
row run j = record { at = run.at + 16 * j; bytes = take 16 (drop (16 * j) run.bytes) }

-- the saved lines of these rows
abbrev pub rows_text : List Run → List ℕ
rows_text ps = text_of_lines (map (λ p. saved_run_line p.at p.bytes) ps)
