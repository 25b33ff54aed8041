use Rattle.std.proofs.Common.{◌≡◌, ℕ, ◌+◌, ◌*◌, ◌≤◌, length, take, drop, sym, ap, ◌∙◌}
use Rattle.std.specs.List.{flat_map, range_with_len}
use Rattle.std.proofs.lemmas.List.{length-take-le, take-append-drop}
use Rattle.bx_dump_columns.specs.Cells.{piece_at}
use Rattle.bx_dump_columns.proofs.HexLemmas.{fours_front}
use Rattle.bx_dump_columns.proofs.xxd.cells.put_whole.Goals as goal

enough_of : (piece count m : ℕ) → piece ≡ 4 → count ≡ 8 → piece * count ≤ m → 32 ≤ m
enough_of piece count m p n le = rw (p, n) at le

wide_of : (piece count m : ℕ) → piece ≡ 4 → count ≡ 8 → m ≡ (piece + 1) * count → m ≡ 40
wide_of piece count m p n e = rw (p, n) at e

pub slice_bounds-put_fours-end : goal.slice_bounds-put_fours-end
slice_bounds-put_fours-end c =
    sym (length-take-le 32 c.args.cells.now (enough_of c.args.piece c.args.count (length c.args.cells.now) c.in-4-eq8.is-0 c.in-4-eq8.is-1 c.requires.enough))

pub put_fours-requires-clause-field : goal.put_fours-requires-clause-field
put_fours-requires-clause-field c = wide_of c.args.piece c.args.count (length c.args.field.now) c.in-4-eq8.is-0 c.in-4-eq8.is-1 c.requires.room

pub put_fours-requires-clause-cells : goal.put_fours-requires-clause-cells
put_fours-requires-clause-cells c =
    length-take-le 32 c.args.cells.now (enough_of c.args.piece c.args.count (length c.args.cells.now) c.in-4-eq8.is-0 c.in-4-eq8.is-1 c.requires.enough)

pub returns-in-4-eq8 : goal.returns-in-4-eq8
returns-in-4-eq8 c =
    let cells = c.args.cells.now in
    let long : length (take 32 cells) ≡ 32 = length-take-le 32 cells (enough_of c.args.piece c.args.count (length cells) c.in-4-eq8.is-0 c.in-4-eq8.is-1 c.requires.enough) in
    c.put_fours.ensures ∙ fours_front (take 32 cells) (drop 32 cells) long ∙ ap (λ t. flat_map (piece_at 4 t) (range_with_len 0 8)) (take-append-drop 32 cells)
    ∙ (λ i. flat_map (piece_at (sym c.in-4-eq8.is-0 i) cells) (range_with_len 0 (sym c.in-4-eq8.is-1 i)))
