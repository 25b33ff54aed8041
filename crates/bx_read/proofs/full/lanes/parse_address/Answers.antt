use Rattle.std.proofs.Common.{◌≡◌, ◌++◌, map, ap, ◌∙◌, arith}
use Rattle.std.proofs.lemmas.List.{get_or_default}
use Rattle.bx_read.specs.Digits.{is_hex}
use Rattle.bx_read.proofs.LaneLemmas.{value, eight_is, eight_are}
use Rattle.bx_read.proofs.full.lanes.parse_address.Goals as goal

pub returns : goal.returns
returns c =
    let digits = c.args.digits.now in
    let values : c.values_of-values.result ≡ map value (c.args.digits.now ++ c.args.digits.now) = c.values_of-values.ensures ∙ ap (map value) c.twice_of.ensures in
    let small = c.are_digits.ensures c.if-not-are_digits.false in (
      c.from.ensures ∙ eight_is digits c.values_of-values.result c.from_be_bytes.result c.requires values small c.from_be_bytes.ensures,
      omega arith,
      λ k d inside. ap is_hex (get_or_default digits k d 0 inside) ∙ eight_are digits c.values_of-values.result c.requires values small k inside,
    )
