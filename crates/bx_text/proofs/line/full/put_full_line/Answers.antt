use Rattle.bx_text.proofs.PartsLemmas.{default_parts}
use Rattle.bx_text.proofs.line.full.put_full_line.Goals as goal

pub returns : goal.returns
returns c =
    default_parts c.args.at c.args.bytes.now _ _ _ _ _ _ _ c.split_at_mut-columns.ensures.front_len c.put_address.ensures c.copy_from_slice.ensures.after c.put_pairs.ensures
    c.copy_from_slice-2.ensures.after c.put_text.ensures c.copy_from_slice-3.ensures.after
