use Rattle.std.proofs.Common.{◌*◌, ◌/◌, ◌++◌, length, take, drop, map, sym, ap, ◌∙◌}
use Rattle.std.proofs.lemmas.List.{take_rest, take-append-drop, map-append}
use Rattle.bx_text.specs.Dump.{shown_byte}
use Rattle.bx_dump_columns.proofs.hex_lanes.put_shown_bytes.Goals as goal

pub returns : goal.returns
returns c =
    let bytes = c.args.bytes.now in
    let n = 16 * (length bytes / 16) in
    (λ i. c.put_shown_sixteens.ensures i ++ c.put_text.ensures i)
    ∙ ap (λ t. map shown_byte (take n bytes) ++ map shown_byte t) (take_rest bytes n)
    ∙ sym (map-append shown_byte (take n bytes) (drop n bytes)) ∙ ap (map shown_byte) (take-append-drop n bytes)
