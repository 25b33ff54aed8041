use Rattle.bx_world.specs.files.Reading.{numbers_read}
use Rattle.bx_run.proofs.Apart.{pair_apart}
use Rattle.bx_run.proofs.forget.forgotten.lend_files.Goals as goal

pub lend_beside-requires : goal.lend_beside-requires
lend_beside-requires g c = record {
  apart = λ old. pair_apart _ (numbers_read g.W.World.number c.args.looked) (c.requires.apart old);
  locked = λ old. ((c.requires.locked old).image, (c.requires.locked old).journal);
}
