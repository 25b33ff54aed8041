use Rattle.std.proofs.Common.{◌*◌, ◌/◌, ◌++◌, length, take, drop, sym, ap, ◌∙◌}
use Rattle.std.specs.List.{flat_map}
use Rattle.std.proofs.lemmas.Grind.{flat_map-append}
use Rattle.std.proofs.lemmas.List.{take_rest, take-append-drop}
use Rattle.bx_text.specs.Dump.{pair_of}
use Rattle.bx_dump_columns.proofs.xxd.cells.put_pairs.Goals as goal

pub returns : goal.returns
returns c =
    let f = pair_of c.args.upper in
    let bytes = c.args.bytes.now in
    let n = 16 * (length bytes / 16) in
    (λ i. c.put_sixteens.ensures i ++ c.put_few_pairs.ensures i)
    ∙ ap (λ t. flat_map f (take n bytes) ++ flat_map f t) (take_rest bytes n)
    ∙ sym (flat_map-append f (take n bytes) (drop n bytes)) ∙ ap (flat_map f) (take-append-drop n bytes)
