use Rattle.bx_dump_columns.proofs.hex_lanes.put_canon_sixteen.Goals as goal

pub returns : goal.returns
returns c = c.put_canon_cells.ensures c.args.bytes.now c.told-bytes c.put_sixteen.ensures
