-- A text with a label in front of each of its lines (`-f` of GNU strings).
use Rattle.std.specs.Prelude.{ℕ, Bool, ◌==◌, if◌then◌else◌, List, [], ◌∷◌, ◌++◌}

-- the text with the label in front of each line that begins in it; `begins` is whether one begins with its first byte
abbrev pub labelled : List ℕ → Bool → List ℕ → List ℕ
labelled label begins [] = []
labelled label begins (b ∷ bs) = (if begins then label else []) ++ b ∷ labelled label (b == 10) bs

-- whether a line begins behind the text: where its last byte is a newline
abbrev pub line_begins : Bool → List ℕ → Bool
line_begins begins [] = begins
line_begins begins (b ∷ bs) = line_begins (b == 10) bs
