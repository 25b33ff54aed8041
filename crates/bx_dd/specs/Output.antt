-- What dd makes of an input.
use Rattle.std.specs.Prelude.{ℕ, ◌-◌, ◌%◌, not, ◌==◌, nat_lt, if◌then◌else◌, List, [], ◌∷◌, ◌++◌, length, take, map, replicate, count_by}
use Rattle.std.specs.Char.{to_ascii_uppercase, to_ascii_lowercase}
use Rattle.std.specs.List.{flat_map, onto_first, suffix_len}
use Rattle.bx_text.specs.InPieces.{in_pieces}
use Rattle.bx_dd.specs.declared.form.Form.{Form}
use Rattle.bx_dd.specs.declared.form.Letters.{Letters}
use Rattle.bx_dd.specs.declared.form.Letters.TheVariants.{Keep, Upper, Lower}
use Rattle.bx_dd.specs.declared.form.Shape.{Shape}
use Rattle.bx_dd.specs.declared.form.Shape.TheVariants.{Flat, Block, Unblock}

-- the byte that fills up a short block
abbrev pub filler : Shape → ℕ
filler Flat = 0
filler shape = 32

-- the bytes of each pair change places; an odd last byte stays
unfoldable pub swapped : List ℕ → List ℕ
swapped [] = []
swapped (a ∷ []) = a ∷ []
swapped (a ∷ b ∷ rest) = b ∷ a ∷ swapped rest

-- ASCII letters in one case
abbrev pub cased : Letters → ℕ → ℕ
cased Keep b = b
cased Upper b = to_ascii_uppercase b
cased Lower b = to_ascii_lowercase b

-- the blocks, turned_blocks: each is filled up, then swapped, then in one case
unfoldable pub turned_blocks : Form → List ℕ → List ℕ
turned_blocks form input = in_pieces (λ block. let full = if form.sync then block ++ replicate (form.ibs - length block) (filler form.shape) else block in
    map (cased form.letters) (if form.swab then swapped full else full)) form.ibs input

-- the parts at newlines; after the last newline there is one only if bytes follow
unfoldable pub records : List ℕ → List (List ℕ)
records [] = []
records (b ∷ bytes) = if b == 10 then [] ∷ records bytes else onto_first b (records bytes)

-- records of one size for lines, which are filled up or cut; or lines for records of one size, without the spaces at their end
unfoldable pub shaped : Shape → ℕ → List ℕ → List ℕ
shaped Flat size bytes = bytes
shaped Block size bytes = flat_map (λ line. take size (line ++ replicate (size - length line) 32)) (records bytes)
shaped Unblock size bytes = in_pieces (λ piece. take (length piece - suffix_len (λ b. b == 32) piece) piece ++ 10 ∷ []) size bytes

-- how many records are too long
unfoldable pub cut_records : Shape → ℕ → List ℕ → ℕ
cut_records Block size bytes = count_by (λ line. nat_lt size (length line)) (records bytes)
cut_records shape size bytes = 0

-- what is written for the selected input
abbrev pub converted : Form → List ℕ → List ℕ
converted form input = shaped form.shape form.cbs (turned_blocks form input)

-- how many bytes at the end are a record that may go on
unfoldable pub unfinished : Shape → ℕ → List ℕ → ℕ
unfinished Flat size bytes = 0
unfinished Block size bytes = suffix_len (λ b. not (b == 10)) bytes
unfinished Unblock size bytes = length bytes % size
