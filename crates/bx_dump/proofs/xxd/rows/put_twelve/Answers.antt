use Rattle.bx_dump.proofs.xxd.rows.put_twelve.Goals as goal

pub returns : goal.returns
returns c = c.put_digits.ensures c.args.bytes.now c.requires.bytes c.put_sixteen.ensures
