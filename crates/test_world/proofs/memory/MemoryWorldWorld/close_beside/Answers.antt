use Rattle.std.proofs.Common.{◌≡◌, rules}
use Rattle.test_world.proofs.Beside.{closes, image_left, known, left, others_left}
use Rattle.test_world.proofs.memory.MemoryWorldWorld.close_beside.Goals as goal

pub returns-clause-closed : goal.returns-clause-closed
returns-clause-closed c _ f is =
    let lent = known _ _ f c.lent_beside-lent.ensures is in
    let apart = c.args.self.now.kept.beside_apart c.lent_beside-lent.result lent.0 in
    let of_journal : c.into_contents-2.result ≡ c.args.journal.within.within.contents = search rules in
    let of_redo : c.into_contents-3.result ≡ c.args.redo.within.within.contents = search rules in
    rw (lent.1, ← of_journal, ← of_redo) (closes c.lent_beside-lent.result c.into_contents-2.result c.into_contents-3.result c.args.self.now
    c.take_disk.new.self c.take_contents.new.self c.take_if.new.self apart c.take_disk.ensures.rest c.take_contents.ensures.rest
    c.take_if.ensures.some c.take_if.ensures.none c.take_disk.ensures.bytes c.take_contents.ensures.put)

pub returns-clause-texts_survive : goal.returns-clause-texts_survive
returns-clause-texts_survive c _ f is =
    let lent = known _ _ f c.lent_beside-lent.ensures is in
    let apart = c.args.self.now.kept.beside_apart c.lent_beside-lent.result lent.0 in
    let of_journal : c.into_contents-2.result ≡ c.args.journal.within.within.contents = search rules in
    let of_redo : c.into_contents-3.result ≡ c.args.redo.within.within.contents = search rules in
    rw (lent.1, ← of_journal, ← of_redo) (left c.lent_beside-lent.result c.into_contents-2.result c.into_contents-3.result c.args.self.now
    c.take_disk.new.self c.take_contents.new.self c.take_if.new.self apart c.take_disk.ensures.rest c.take_contents.ensures.rest
    c.take_if.ensures.some c.take_if.ensures.none c.take_contents.ensures.put c.take_contents.ensures.synced)

pub returns-clause-image_survives : goal.returns-clause-image_survives
returns-clause-image_survives c _ f is same =
    let lent = known _ _ f c.lent_beside-lent.ensures is in
    let apart = c.args.self.now.kept.beside_apart c.lent_beside-lent.result lent.0 in
    let of_image : c.into_contents.result ≡ c.args.image.within.contents = search rules in
    rw (lent.1, ← of_image) (image_left c.lent_beside-lent.result c.into_contents-2.result c.into_contents-3.result c.args.self.now
    c.take_disk.new.self c.take_contents.new.self c.take_if.new.self apart c.take_disk.ensures.rest c.take_contents.ensures.rest
    c.take_if.ensures.some c.take_if.ensures.none c.into_contents.result.bytes.items c.into_contents.result.synced.items c.take_disk.ensures.bytes
    c.take_disk.ensures.synced (rw (lent.1, ← of_image) at same))

pub returns-clause-others : goal.returns-clause-others
returns-clause-others c _ f is =
    let lent = known _ _ f c.lent_beside-lent.ensures is in
    let apart = c.args.self.now.kept.beside_apart c.lent_beside-lent.result lent.0 in
    rw lent.1 (others_left c.lent_beside-lent.result c.into_contents-2.result c.into_contents-3.result c.args.self.now
    c.take_disk.new.self c.take_contents.new.self c.take_if.new.self apart c.take_disk.ensures.rest c.take_contents.ensures.rest
    c.take_if.ensures.some c.take_if.ensures.none)
