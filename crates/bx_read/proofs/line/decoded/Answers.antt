use Rattle.std.proofs.Common.{◌≡◌, ◌+◌, ◌-◌, arith, ap, get_or, take, drop, Ok, [], ◌∷◌}
use Rattle.hex.specs.Hex.{decode_sized}
use Rattle.bx_read.specs.Digits.{pair_value}
use Rattle.bx_read.proofs.HexLemmas.{pair_decoded, two_at}
use Rattle.bx_read.proofs.line.decoded.Goals as goal

pub returns : goal.returns
returns c =
    let text = c.args.text.now in
    let at = c.args.at in
    let b = pair_value (get_or text at 0) (get_or text (at + 1) 0) in
    let two : at + 2 - at ≡ 2 = omega arith in
    let parsed : decode_sized (take (at + 2 - at) (drop at text)) 1 ≡ Ok (b ∷ []) =
    rw (two, two_at text at c.requires.within) (pair_decoded (get_or text at 0) (get_or text (at + 1) 0) c.requires.digits) in
    let value = rw parsed at c.decode_to_slice.ensures.value in
    ap (λ out. get_or out 0 0) value.1
