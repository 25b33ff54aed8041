-- xxd's text, as the grammar of dumps reads it.
use Rattle.std.proofs.Common.{◌≡◌, ℕ, zero, suc, ◌+◌, ◌-◌, ◌*◌, ◌/◌, ◌^◌, ◌<◌, ◌≤◌, Bool, true, false, cond, eqb, Some, None, Option, List, length, take, drop, get_or, sym, ap, subst, ◌∙◌, arith}
use Rattle.std.specs.List.{All, range_with_len}
use Rattle.std.proofs.lemmas.List.{length-map, length-take, length-drop, get_or-map}
use Rattle.std.proofs.lemmas.List.Elements.{All-take, All-drop}
use Rattle.std.proofs.lemmas.List.FromFn.{length-range_with_len, get_or-range_with_len}
use Rattle.bx_read.specs.Text.{lines_of}
use Rattle.bx_read.specs.Grammar.{GivesPieces}
use Rattle.bx_read.specs.Laws.{wide_line_text}
use Rattle.bx_read.proofs.DumpLemmas.{only, one_list}
use Rattle.bx_read.proofs.RowsLemmas.{IsRow, rows_give}
use Rattle.bx_read.proofs.WrittenLemmas.{reads_back}
use Rattle.bx_dump.specs.Lines.{in_lines}
use Rattle.bx_dump.specs.Pages.{bytes_dumped}
use Rattle.bx_dump.specs.Styles.{group_of}
use Rattle.bx_dump.specs.Laws.{xxd_text}
use Rattle.bx_text.specs.Dump.{dump_line}
use Rattle.bx_dump.specs.declared.xxd.options.XxdOptions.{XxdOptions}
use Rattle.bx_dump.specs.declared.xxd.options.XxdStyle.TheVariants.{Normal}
use Rattle.bx_dump.proofs.LinesLemmas.{line_begin}
use Rattle.bx_cli_commands.specs.jobs.XxdLaws.{chunks, dumped_chunks, IsNormalDump, NormalTextReadsBack}

-- a line is a row of the grammar
row_of : (upper : Bool) (cols group at : ℕ) (bytes : List ℕ) → 0 < group → 0 < length bytes → length bytes ≤ cols → cols ≤ 256 → All (λ b. b < 256) bytes → at < 2 ^ 62 →
    IsRow (dump_line upper cols group at bytes) at bytes
row_of upper cols group at bytes pos some fits few are small =
    let back = reads_back upper cols group at bytes pos some fits few are small in
    record { line = wide_line_text upper cols group at bytes; hex = back.1.0; spelled = back.0; is = back.1.1; whole = back.3 }

-- the address of a chunk
near_at : (cols at : ℕ) (bytes : List ℕ) → All (λ chunk. chunk.0 < 2 ^ 62) (chunks cols at bytes) → (k : ℕ) → k < (length bytes + cols - 1) / cols → at + cols * k < 2 ^ 62
near_at cols at bytes near k below =
    let n = (length bytes + cols - 1) / cols in
    let chunk : ℕ → ℕ × List ℕ = λ k. (at + cols * k, take cols (drop (cols * k) bytes)) in
    let long : length (range_with_len 0 n) ≡ n = length-range_with_len 0 n in
    let inside : k < length (chunks cols at bytes) = omega (arith, length-map (range_with_len 0 n) chunk, long) in
    let place : get_or (range_with_len 0 n) k k ≡ k = get_or-range_with_len 0 n k k below ∙ omega arith in
    let same : get_or (chunks cols at bytes) k (chunk k) ≡ chunk k = get_or-map chunk (range_with_len 0 n) k k (chunk k) (omega (arith, long)) ∙ ap chunk place in
    subst (λ (c : ℕ × List ℕ). c.0 < 2 ^ 62) same (near k (chunk k) inside)

-- the lines of bytes
pub lines_give : (upper : Bool) (cols group at : ℕ) (bytes : List ℕ) → 0 < group → 0 < cols → cols ≤ 256 → All (λ b. b < 256) bytes → All (λ chunk. chunk.0 < 2 ^ 62) (chunks cols at bytes) →
    GivesPieces (lines_of (in_lines (dump_line upper cols group) cols at bytes)) (chunks cols at bytes)
lines_give upper cols group at bytes pos some few are near =
    rows_give (λ k. dump_line upper cols group (at + cols * k) (take cols (drop (cols * k) bytes)))
    (λ k. (at + cols * k, take cols (drop (cols * k) bytes))) 0 ((length bytes + cols - 1) / cols)
    (λ k above below.
    let inside : k < (length bytes + cols - 1) / cols = omega arith in
    let begins = line_begin (length bytes) cols k some inside in
    let rest = drop (cols * k) bytes in
    row_of upper cols group (at + cols * k) (take cols rest) pos
    (omega (arith, begins, length-take cols rest, length-drop (cols * k) bytes)) (omega (arith, length-take cols rest)) few
    (All-take (λ b. b < 256) cols rest (All-drop (λ b. b < 256) (cols * k) bytes are)) (near_at cols at bytes near k inside))

some_group : (cols group : ℕ) → 0 < cols → 0 < group_of cols group
some_group cols zero some = some
some_group cols (suc g) some = either (eqb (suc g) 0)
  where
    either : (b : Bool) → 0 < cond b cols (suc g)
    either true = some
    either false = omega arith

part_are_bytes : (skip : ℕ) (limit : Option ℕ) (input : List ℕ) → All (λ b. b < 256) input → All (λ b. b < 256) (bytes_dumped skip limit input)
part_are_bytes skip None input are = All-drop (λ b. b < 256) skip input are
part_are_bytes skip (Some most) input are = All-take (λ b. b < 256) most (drop skip input) (All-drop (λ b. b < 256) skip input are)

pub text_gives : (o : XxdOptions) (input : List ℕ) → IsNormalDump o input → GivesPieces (lines_of (xxd_text Normal o input)) (dumped_chunks o input)
text_gives o input is =
    lines_give o.upper o.cols (group_of o.cols o.group) (o.seek + o.shift) (bytes_dumped o.seek o.limit input)
    (some_group o.cols o.group o.some) o.some o.few (part_are_bytes o.seek o.limit input is.are_bytes) is.near

pub text_reads : NormalTextReadsBack
text_reads o input is =
    let lines = lines_of (xxd_text Normal o input) in
    let all = dumped_chunks o input in
    let gives = text_gives o input is in
    (only lines 1 all gives, λ pieces. (λ others. one_list lines pieces all others gives, λ same. subst (GivesPieces lines) (sym same) gives))
