-- What a revert of xxd's text makes of an image.
use Rattle.std.proofs.Common.{◌≡◌, ℕ, zero, suc, ◌+◌, ◌-◌, ◌*◌, ◌/◌, ◌<◌, ◌≤◌, Ok, Result, List, length, map, take, drop, sym, ap, ◌∙◌, arith}
use Rattle.std.specs.List.{range_with_len}
use Rattle.std.proofs.lemmas.List.{take_all}
use Rattle.bx_text.specs.declared.owned.pieces.Piece.{Piece}
use Rattle.bx_read.specs.declared.fault.ReadFault.{ReadFault}
use Rattle.bx_dump.specs.Pages.{bytes_dumped}
use Rattle.bx_dump.proofs.LinesLemmas.{line_begin, line_end}
use Rattle.bx_image.specs.Image.{place}
use Rattle.bx_image.specs.Change.{effect, placed}
use Rattle.bx_image.proofs.Edits.{place_none}
use Rattle.bx_image.proofs.Files.{place_on}
use Rattle.bx_cli_commands.specs.Command.{dump_change}
use Rattle.bx_cli_commands.specs.jobs.XxdLaws.{chunks, dumped_chunks, NormalTextReverts}
use Rattle.bx_cli_commands.proofs.XxdRows.{text_reads}

module _ (A : Type 0) (offset cols at : ℕ) (bytes image : List ℕ) where
  abbrev chunk : ℕ → ℕ × List ℕ
  chunk k = (at + cols * k, take cols (drop (cols * k) bytes))

  abbrev write : ℕ × List ℕ → Piece A
  write piece = record { at = piece.0 + offset; bytes = piece.1 }

  -- the chunks from one on, behind those before it
  placed_chunks : (from n : ℕ) → ((k : ℕ) → k < from + n → cols * k ≤ length bytes) →
      placed (map write (map chunk (range_with_len from n))) (place image (at + offset) (take (cols * from) bytes)) ≡ place image (at + offset) (take (cols * (from + n)) bytes)
  unfolding placed
  placed_chunks from zero begins = let same : from ≡ from + 0 = omega arith in ap (λ m. place image (at + offset) (take (cols * m) bytes)) same
  placed_chunks from (suc n) begins =
      let before = place image (at + offset) (take (cols * from) bytes) in
      let part = take cols (drop (cols * from) bytes) in
      let later = map write (map chunk (range_with_len (from + 1) n)) in
      let address : at + cols * from + offset ≡ at + offset + cols * from = omega arith in
      let length_now : cols * from + cols ≡ cols * (from + 1) = omega arith in
      let count : from + 1 + n ≡ from + suc n = omega arith in
      let next : place before (at + cols * from + offset) part ≡ place image (at + offset) (take (cols * (from + 1)) bytes) =
      ap (λ a. place before a part) address ∙ place_on image bytes (at + offset) (cols * from) cols (begins from (omega arith)) ∙ ap (λ m. place image (at + offset) (take m bytes)) length_now in
      ap (placed later) next ∙ placed_chunks (from + 1) n (λ k below. begins k (omega arith)) ∙ ap (λ m. place image (at + offset) (take (cols * m) bytes)) count

  pub all_chunks : 0 < cols → effect {A = A} (dump_change offset (chunks cols at bytes)) image ≡ place image (at + offset) bytes
  unfolding effect
  all_chunks some =
      let n = (length bytes + cols - 1) / cols in
      let none : cols * 0 ≡ 0 = omega arith in
      let first : image ≡ place image (at + offset) (take (cols * 0) bytes) = sym (ap (λ m. place image (at + offset) (take m bytes)) none ∙ place_none image (at + offset)) in
      let count : 0 + n ≡ n = omega arith in
      let writes = map write (map chunk (range_with_len 0 n)) in
      ap (placed writes) first
      ∙ placed_chunks 0 n (λ k below. let inside : k < n = omega arith in let begins = line_begin (length bytes) cols k some inside in omega (arith, begins))
      ∙ ap (λ m. place image (at + offset) (take (cols * m) bytes)) count
      ∙ ap (place image (at + offset)) (take_all (cols * n) bytes (line_end (length bytes) cols some))

ok_same : (x y : List (ℕ × List ℕ)) → ◌≡◌ {A = Result (List (ℕ × List ℕ)) ReadFault} (Ok x) (Ok y) → x ≡ y
ok_same x y h = cc

pub text_reverts : (A : Type 0) → NormalTextReverts A
text_reverts A o input image offset pieces is read =
    let part = bytes_dumped o.seek o.limit input in
    let same : pieces ≡ dumped_chunks o input = ok_same pieces (dumped_chunks o input) (sym read ∙ (text_reads o input is).0) in
    ap (λ ps. effect {A = A} (dump_change offset ps) image) same ∙ all_chunks A offset o.cols (o.seek + o.shift) part image o.some
