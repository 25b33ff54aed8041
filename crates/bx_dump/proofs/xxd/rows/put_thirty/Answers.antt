use Rattle.std.proofs.Common.{◌++◌, drop, sym, ap, ◌∙◌, arith}
use Rattle.std.specs.List.{flat_map}
use Rattle.std.specs.Prelude.{slice_set}
use Rattle.std.proofs.lemmas.List.{length-take-le, length-drop, take_all}
use borrow.Rule.Slice.PartMut.{put_mid}
use Rattle.bx_text.specs.Dump.{pair_of}
use Rattle.bx_dump.proofs.RowsLemmas.{thirty_are}
use Rattle.bx_dump.proofs.xxd.rows.put_thirty.Goals as goal

pub slice_bounds-put_sixteen-end-2 : goal.slice_bounds-put_sixteen-end-2
slice_bounds-put_sixteen-end-2 c = sym (length-take-le 32 c.args.line.now (omega (arith, c.requires.line)))

pub put_sixteen-requires-clause-cells : goal.put_sixteen-requires-clause-cells
put_sixteen-requires-clause-cells c = length-take-le 32 c.args.line.now (omega (arith, c.requires.line))

pub returns : goal.returns
returns c =
    let f = pair_of c.args.upper in
    let bytes = c.args.bytes.now in
    let rest = drop 32 c.args.line.now in
    let last = c.put_sixteen-2.ensures ∙ ap (flat_map f) (take_all _ (drop 14 bytes) (omega (arith, length-drop 14 bytes, c.requires.bytes))) in
    (λ i. slice_set (put_mid 28 32 (c.put_sixteen.ensures i ++ rest) (last i)) 60 10)
    ∙ thirty_are c.args.upper bytes rest c.requires.bytes (omega (arith, length-drop 32 c.args.line.now, c.requires.line))
