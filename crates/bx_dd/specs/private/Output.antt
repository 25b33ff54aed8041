-- One block, the bytes that end a record, and those that fill it up.
use Rattle.std.specs.Prelude.{ℕ, ◌-◌, Bool, not, ◌==◌, if◌then◌else◌, List, [], ◌∷◌, ◌++◌, length, map, replicate, take}
use Rattle.std.specs.List.{suffix_len}
use Rattle.bx_dd.specs.declared.form.Form.{Form}
use Rattle.bx_dd.specs.Output.{cased, filler, swapped}

-- one block: filled up, then swapped, then in one case
unfoldable pub block_of : Form → List ℕ → List ℕ
block_of form block = let full = if form.sync then block ++ replicate (form.ibs - length block) (filler form.shape) else block in
    map (cased form.letters) (if form.swab then swapped full else full)

-- the byte that records are filled up with
abbrev pub is_fill : ℕ → Bool
is_fill b = b == 32

-- any byte but a newline
abbrev pub goes_on : ℕ → Bool
goes_on b = not (b == 10)

-- a record in n bytes
unfoldable pub fitted : ℕ → List ℕ → List ℕ
fitted n line = take n (line ++ replicate (n - length line) 32)

-- a line for a record: without the spaces at its end
unfoldable pub line_of : List ℕ → List ℕ
line_of piece = take (length piece - suffix_len (λ b. b == 32) piece) piece ++ 10 ∷ []
