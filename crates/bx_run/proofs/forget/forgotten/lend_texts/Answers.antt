use Rattle.std.proofs.Common.{◌∙◌}
use Rattle.bx_world.specs.files.Reading.{numbers_read}
use Rattle.bx_run.proofs.Alone.{below_placed, lends_placed}
use Rattle.bx_run.proofs.forget.forgotten.lend_texts.Goals as goal

pub lend_files-requires : goal.lend_files-requires
lend_files-requires g c = record {
  apart = λ behind.
      let mid = c.open_texts.ensures.faith.0 behind in
      rw (c.open_texts.ensures.seen mid).same (c.in-Ok-open_texts.ensures.opens mid).own;
  locked = λ behind. c.in-Ok-open_texts.ensures.locked (c.open_texts.ensures.faith.0 behind);
}

pub returns-in-Ok-lend_files-clause-below : goal.returns-in-Ok-lend_files-clause-below
returns-in-Ok-lend_files-clause-below g c =
    rw c.in_places.ensures (below_placed g.W.Image.Device g.W.Text.TextStore c.is_none-exchanged.result c.in-Ok-lend_files.devices _
    c.in-Ok-lend_files.ensures.below)

pub returns-in-Ok-lend_files-clause-lends : goal.returns-in-Ok-lend_files-clause-lends
returns-in-Ok-lend_files-clause-lends g c old =
    let asked = c.look.ensures.faith.1 old in
    let mid = c.open_texts.ensures.faith.1 asked in
    let first = c.look.ensures.same old in
    let second = c.open_texts.ensures.seen asked in
    rw c.in_places.ensures (lends_placed g.W.Image.Device g.W.Text.TextStore c.is_none-exchanged.result c.in-Ok-lend_files.devices c.args.names.now
    (numbers_read g.W.World.number c.in-Ok-open_texts.looked) (g.W.World.beside c.lend_files.new.world) (g.W.World.survives c.args.world.now)
    (g.W.World.survives c.open_texts.new.world) (g.W.World.state c.args.world.now) (c.in-Ok-lend_files.ensures.beside mid)
    (rw first at (c.in-Ok-open_texts.ensures.opens asked)) (rw (second.same ∙ first) at (c.in-Ok-lend_files.ensures.held mid))
    (λ n x is. c.look.ensures.survives old n x (second.nothing_new n x is)) (c.in-Ok-lend_files.ensures.found mid))
