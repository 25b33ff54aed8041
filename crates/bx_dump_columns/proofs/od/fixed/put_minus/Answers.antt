use Rattle.std.proofs.Common.{◌≡◌, ◌+◌, length, arith}
use Rattle.bx_dump_columns.proofs.OdLemmas.{minus_front}
use Rattle.bx_dump_columns.proofs.od.fixed.put_minus.Goals as goal

pub returns : goal.returns
returns c =
    let n = length c.split_at_mut-space.result.1.now in
    let more : n + 1 ≡ length c.args.field.now = omega (arith, c.split_at_mut-space.ensures.back_len, c.requires.some) in
    rw (← more) (minus_front n c.put_spaced-first.result c.copy_from_slice.new.self c.put_spaced-first.new.field _ c.copy_from_slice.ensures.after c.put_spaced-first.ensures.text c.put_spaced-first.ensures.first)
