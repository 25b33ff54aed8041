-- Laws of the text of xxd: what the grammar of dumps reads in it, and what a revert of it makes of an image.
use Rattle.std.specs.Prelude.{◌≡◌, ◌↔◌, ◌<◌, ◌+◌, ◌-◌, ◌*◌, ◌/◌, ◌^◌, ℕ, List, length, map, take, drop, All, Ok}
use Rattle.std.specs.List.{range_with_len}
use Rattle.bx_read.specs.Text.{dump_pieces, lines_of}
use Rattle.bx_read.specs.Grammar.{GivesPieces}
use Rattle.bx_dump.specs.Pages.{bytes_dumped}
use Rattle.bx_dump.specs.Laws.{xxd_text}
use Rattle.bx_dump.specs.declared.xxd.options.XxdOptions.{XxdOptions}
use Rattle.bx_dump.specs.declared.xxd.options.XxdStyle.TheVariants.{Normal}
use Rattle.bx_image.specs.Image.{place}
use Rattle.bx_image.specs.Change.{effect}
use Rattle.bx_cli_commands.specs.Command.{dump_change}

-- The bytes in chunks of `cols`, the last of them perhaps of fewer, each with its address; the first has address `at`.
abbrev pub chunks : ℕ → ℕ → List ℕ → List (ℕ × List ℕ)
chunks cols at bytes = map (λ k. (at + cols * k, take cols (drop (cols * k) bytes))) (range_with_len 0 ((length bytes + cols - 1) / cols))

-- the chunks that are dumped
abbrev pub dumped_chunks : XxdOptions → List ℕ → List (ℕ × List ℕ)
dumped_chunks o input = chunks o.cols (o.seek + o.shift) (bytes_dumped o.seek o.limit input)

-- The input has bytes, and each chunk's address is below 2 ^ 62.
pub record IsNormalDump (o : XxdOptions) (input : List ℕ) : Type 0 where
  pub are_bytes : All (λ b. b < 256) input
  pub near : All (λ chunk. chunk.0 < 2 ^ 62) (dumped_chunks o input)

-- The text is read, and it gives exactly the chunks at their addresses.
abbrev pub NormalTextReadsBack : Type 0
NormalTextReadsBack = (o : XxdOptions) (input : List ℕ) → IsNormalDump o input
    → (dump_pieces (xxd_text Normal o input) ≡ Ok (dumped_chunks o input))
    × ((pieces : List (ℕ × List ℕ)) → GivesPieces (lines_of (xxd_text Normal o input)) pieces ↔ (pieces ≡ dumped_chunks o input))

-- A revert of the text, with some offset, places the bytes that were dumped at their address, and nothing else.
abbrev pub NormalTextReverts : (A : Type 0) → Type 0
NormalTextReverts A = (o : XxdOptions) (input image : List ℕ) (offset : ℕ) (pieces : List (ℕ × List ℕ)) → IsNormalDump o input
    → dump_pieces (xxd_text Normal o input) ≡ Ok pieces
    → effect {A = A} (dump_change offset pieces) image ≡ place image (o.seek + o.shift + offset) (bytes_dumped o.seek o.limit input)
