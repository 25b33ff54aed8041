-- What a dump of a whole input leaves where it stops.
use Rattle.std.specs.Prelude.{◌≡◌, ℕ, ◌+◌, ◌^◌, ◌<◌, ◌≤◌, List, [], ◌++◌, length, take, Option}
use Rattle.std.specs.Io.KnownBytes.{Appends, Consumes}
use Rattle.bx_text.specs.declared.fault.IoFault.{IoFault}
use Rattle.bx_text.specs.declared.fault.IoFault.TheVariants.{ReadFailed, WriteFailed, InputTooLong}

-- Why a dump stopped that had read `read` bytes and written `written`, of a text of `size` bytes.
abbrev pub StopsDump : IoFault → ℕ → ℕ → ℕ → Type 0
StopsDump ReadFailed read written size = read ≤ 2 ^ 40
StopsDump (WriteFailed n) read written size = (n ≡ written) × (written < size) × (read ≤ 2 ^ 40)
StopsDump InputTooLong read written size = read ≡ 2 ^ 40 + 1
StopsDump fault read written size = ⊥

-- Reading is no more than a block of 2^14 bytes ahead of a write that fails: what was read before the last of them had its text
-- written, but for at most `slack` bytes of its end and as many as stand for an empty input.
abbrev pub KeepsUp : ℕ → (List ℕ → List ℕ) → List ℕ → ℕ → IoFault → Type 0
KeepsUp slack text input written (WriteFailed n) =
    (front last : List ℕ) × (input ≡ front ++ last) × (length last ≤ 2 ^ 14) × (length (text front) ≤ written + length (text []) + slack)
KeepsUp slack text input written fault = Unit {0}

-- some input was read, and a front of its text was written, reading being a block ahead
abbrev pub DumpsFrontBut : ℕ → (List ℕ → List ℕ) → Option (List ℕ) → Option (List ℕ) → Option (List ℕ) → Option (List ℕ) → IoFault → Type 0
DumpsFrontBut slack text from_old from_new to_old to_new fault =
    (input : List ℕ) × (written : ℕ) × Consumes from_old from_new input × (written ≤ length (text input)) × Appends to_old to_new (take written (text input))
    × StopsDump fault (length input) written (length (text input)) × KeepsUp slack text input written fault
