-- What a dump of a part of an input reads and writes.
use Rattle.std.specs.Prelude.{◌≡◌, ℕ, ◌+◌, ◌^◌, ◌≤◌, ◌⊎◌, List, length, take, drop, Option, IfSome, MatchOption}
use Rattle.std.specs.Option.{option_map_or}
use Rattle.std.specs.Io.KnownBytes.{Appends, Consumes, IsAtEnd}
use Rattle.bx_text.specs.declared.fault.IoFault.{IoFault}
use Rattle.bx_dump.specs.Dumped.{IsDumpStop}

-- A dump: the text that it makes of bytes, the place from which it is asked for those of an input, and how many at most. No
-- more than `held` bytes at the end of its text wait for what comes next.
pub record Dump : Type 0 where
  pub text : List ℕ → List ℕ
  pub skip : ℕ
  pub limit : Option ℕ
  pub held : ℕ

-- the bytes from place `skip` on, at most `limit` of them
abbrev pub bytes_dumped : ℕ → Option ℕ → List ℕ → List ℕ
bytes_dumped skip limit bytes = option_map_or (λ most. take most (drop skip bytes)) limit (drop skip bytes)

-- The whole text of the part was written, which has n bytes, and the input was read up to its end, or as far as the part needs.
pub record WritesAll (d : Dump) (r0 r1 w0 w1 : Option (List ℕ)) (n : ℕ) : Type 0 where
  pub input : List ℕ
  pub consumed : Consumes r0 r1 input
  pub ends : MatchOption d.limit (IsAtEnd r1) (λ most. (length input ≤ d.skip + most) × (IsAtEnd r1 ⊎ (length input ≡ d.skip + most)))
  pub few : length input ≤ 2 ^ 40
  pub dumped : length (bytes_dumped d.skip d.limit input) ≡ n
  pub appended : Appends w0 w1 (d.text (bytes_dumped d.skip d.limit input))

-- Some input was read, no more of it than skip and limit ask for, and a front of the text of its part was written.
pub record WritesFrontOf (d : Dump) (r0 r1 w0 w1 : Option (List ℕ)) (fault : IoFault) : Type 0 where
  pub input : List ℕ
  pub written : ℕ
  pub consumed : Consumes r0 r1 input
  pub asked : IfSome d.limit (λ most. length input ≤ d.skip + most)
  pub within : written ≤ length (d.text (bytes_dumped d.skip d.limit input))
  pub appended : Appends w0 w1 (take written (d.text (bytes_dumped d.skip d.limit input)))
  pub cause : IsDumpStop d.held (λ input. d.text (bytes_dumped d.skip d.limit input)) input written fault
