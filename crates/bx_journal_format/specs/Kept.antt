-- Records as a journal's text gives them: lengths and runs of bytes, whatever memory holds them.
use Rattle.std.specs.Prelude.{◌+◌, ◌==◌, List, [], ◌∷◌, ◌++◌, length, map, if◌then◌else◌}
use Rattle.bx_text.specs.declared.owned.pieces.Piece.{Piece}
use Rattle.bx_image.specs.declared.record.Saved.{Saved}

-- bytes with a place, of no allocator
abbrev pub Run : Type 0
Run = Piece (Unit {0})

-- a length and runs, of no allocator
abbrev pub Kept : Type 0
Kept = Saved (Unit {0})

-- a run of a record
abbrev pub run_of : {A : Type 0} → Piece A → Run
run_of piece = record { at = piece.at; bytes = piece.bytes }

-- what an entry keeps of a record: its length and runs
abbrev pub kept_of : {A : Type 0} → Saved A → Kept
kept_of saved = record { len = saved.len; runs = map run_of saved.runs }

-- runs with one more behind them, which goes on with the last where it begins at its end
unfoldable pub with_run : List Run → Run → List Run
with_run [] p = p ∷ []
with_run (run ∷ []) p = if p.at == run.at + length run.bytes then record { at = run.at; bytes = run.bytes ++ p.bytes } ∷ [] else run ∷ p ∷ []
with_run (run ∷ next ∷ runs) p = run ∷ with_run (next ∷ runs) p

-- runs with more behind them, one after another
unfoldable pub with_runs : List Run → List Run → List Run
with_runs runs [] = runs
with_runs runs (p ∷ ps) = with_runs (with_run runs p) ps
