-- What the lines of a dump make of nothing, and how far it was written.
use Rattle.std.specs.Prelude.{◌≡◌, ◌⊎◌, ℕ, ◌+◌, ◌<◌, ◌≤◌, List, [], ◌∷◌, ◌++◌, length, map, take, Option, Result, Ok, Err}
use Rattle.std.specs.Option.{unwrap_or}
use Rattle.std.specs.Io.KnownBytes.{Appends, Consumes, IsAtEnd}
use Rattle.bx_text.specs.declared.owned.pieces.Piece.{Piece}
use Rattle.bx_text.specs.declared.fault.IoFault.{IoFault}
use Rattle.bx_text.specs.declared.fault.IoFault.TheVariants.{NoMemory, ReadFailed, WriteFailed, InputTooLong, SkipPastEnd}
use Rattle.bx_image.specs.Change.{placed}
use Rattle.bx_read.specs.Digits.{pairs_of}
use Rattle.bx_read.specs.Text.{ReadLine, lines_of, answers}
use Rattle.bx_read.specs.declared.fault.ReadFault.{ReadFault}
use Rattle.bx_read_stream.specs.declared.fault.StreamFault.{StreamFault}
use Rattle.bx_read_stream.specs.declared.fault.StreamFault.TheVariants.{Read, Behind, Io}

-- a line that was read as a piece, `shift` bytes behind its address
abbrev pub line_piece_at : ℕ → ReadLine → Piece (Unit {0})
line_piece_at shift line = record { at = line.0 + shift; bytes = unwrap_or (pairs_of line.1) [] }

-- the image that lines make of nothing: their bytes placed in order, a gap is zeros
abbrev pub image_made : ℕ → List ReadLine → List ℕ
image_made shift lines = placed (map (line_piece_at shift) lines) []

-- lines that were read, and what is behind them
abbrev pub reads_then : List ReadLine → List (Result ReadLine ReadFault) → List (Result ReadLine ReadFault)
reads_then lines rest = map (λ line. Ok line) lines ++ rest

-- All of the input was read, which is lines without a fault, and the n bytes that they make of nothing were written.
pub record LaysAll (shift : ℕ) (r0 r1 w0 w1 : Option (List ℕ)) (n : ℕ) : Type 0 where
  pub text : List ℕ
  pub lines : List ReadLine
  pub consumed : Consumes r0 r1 text
  pub ends : IsAtEnd r1
  pub read : answers 1 (lines_of text) ≡ reads_then lines []
  pub count : length (image_made shift lines) ≡ n
  pub appended : Appends w0 w1 (image_made shift lines)

-- Why nothing is written behind the first `written` bytes of what these lines make, where these answers are behind them: the next line
-- is a faulty one, or one that begins before their end, and all that they make was written; or a stream or memory failed.
abbrev pub IsStop : ℕ → List ReadLine → List (Result ReadLine ReadFault) → ℕ → StreamFault → Type 0
IsStop shift lines rest written (Read fault) = (rest ≡ Err fault ∷ []) × (written ≡ length (image_made shift lines))
IsStop shift lines rest written (Behind number) =
    (at : ℕ) × (hex : List ℕ) × (later : List (Result ReadLine ReadFault)) × (rest ≡ Ok (at, hex, number) ∷ later)
    × (at + shift < length (image_made shift lines)) × (written ≡ length (image_made shift lines))
IsStop shift lines rest written (Io NoMemory) = written ≤ length (image_made shift lines)
IsStop shift lines rest written (Io ReadFailed) = written ≤ length (image_made shift lines)
IsStop shift lines rest written (Io InputTooLong) = written ≤ length (image_made shift lines)
IsStop shift lines rest written (Io (WriteFailed count)) = (written ≤ length (image_made shift lines)) × (written ≡ count)
IsStop shift lines rest written (Io SkipPastEnd) = ⊥

-- Of what these answers give, a front was written.
pub record StopsLaying (shift : ℕ) (w0 w1 : Option (List ℕ)) (all : List (Result ReadLine ReadFault)) (fault : StreamFault) : Type 0 where
  pub lines : List ReadLine
  pub rest : List (Result ReadLine ReadFault)
  pub written : ℕ
  pub read : all ≡ reads_then lines rest
  pub appended : Appends w0 w1 (take written (image_made shift lines))
  pub cause : IsStop shift lines rest written fault

-- Some of the input was read, and of what its lines make of nothing a front was written.
pub record LaysFrontOf (shift : ℕ) (r0 r1 w0 w1 : Option (List ℕ)) (fault : StreamFault) : Type 0 where
  pub text : List ℕ
  pub consumed : Consumes r0 r1 text
  pub stops : StopsLaying shift w0 w1 (answers 1 (lines_of text)) fault
