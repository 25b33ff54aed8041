use Rattle.std.proofs.Common.{◌≡◌, sym, ap, ◌∙◌, arith}
use Rattle.bx_dump_columns.specs.Words.{turned_groups}
use Rattle.bx_dump_columns.proofs.WordsLemmas.{twos_turned, fours_turned, eights_turned}
use Rattle.bx_dump_columns.proofs.hex_lanes.turn_groups.Goals.{in-2, in-4, in_default}
use Rattle.bx_dump_columns.proofs.hex_lanes.turn_groups.Goals as goal

pub returns : goal.returns
returns c =
    let v = c.args.bytes in
    let long = c.fits-bytes.0 in
    elim c.match-group.branch [
      | in-2 w ↦
          let two : c.args.group ≡ 2 = omega (arith, w.in-2) in
          w.result-is ∙ twos_turned v long ∙ ap (λ g. turned_groups g v) (sym two)
      | in-4 w ↦
          let four : c.args.group ≡ 4 = omega (arith, w.in-4) in
          w.result-is ∙ fours_turned v long ∙ ap (λ g. turned_groups g v) (sym four)
      | in_default w ↦
          let eight : c.args.group ≡ 8 = omega (arith, w.in_default, c.requires) in
          w.result-is ∙ eights_turned v long ∙ ap (λ g. turned_groups g v) (sym eight)
    ]
