use Rattle.std.proofs.Common.{◌≡◌, ◌<◌, ◌∙◌, Ok, Err, refl, sym, subst, arith}
use Rattle.bx_world.specs.World.{Spares}
use Rattle.bx_run.specs.forget.Forgetting.{Empties, SurvivesEmptying, texts_of}
use Rattle.bx_run_report.specs.report.Noted.{IsNoteLine}
use Rattle.bx_run.proofs.ByNames.{done, failed, forgotten_named, hidden_stops, hidden_survives, image_held, others_named, stopped_named, survived_all, survived_named}
use Rattle.bx_run.proofs.Emptied.{IsNeither}
use Rattle.bx_run.proofs.Failing.{failed_judging, note_least}
use Rattle.bx_run.proofs.Placed.{as_texts}
use Rattle.bx_run.proofs.forget.forgotten.forget_files.Goals as goal

pub empty_texts-requires-clause-image : goal.empty_texts-requires-clause-image
empty_texts-requires-clause-image g c mid =
    (done _ _ _ c.in-Ok-outcome.is (c.judge-devices.ensures.image _ _ _ (c.in-Ok.ensures.lends (c.lend_texts.ensures.faith.0 (c.read_note_line-known.ensures.faith.0 mid))).held)).0

pub returns-in-Ok-empty_texts-clause-may : goal.returns-in-Ok-empty_texts-clause-may
returns-in-Ok-empty_texts-clause-may g c old = done _ _ _ c.in-Ok-outcome.is (c.judge-devices.ensures.may _ _ _ _ (c.in-Ok.ensures.lends old).held (subst (λ note. IsNoteLine note c.read_note_line-known.result) (c.lend_texts.ensures.note old)
    (c.read_note_line-known.ensures.told (c.lend_texts.ensures.faith.1 old))))

pub returns-in-Ok-empty_texts-clause-done : goal.returns-in-Ok-empty_texts-clause-done
returns-in-Ok-empty_texts-clause-done g c old =
    let lent = c.in-Ok.ensures.lends old in
    let lent_then = c.lend_texts.ensures.faith.1 old in
    let mid = c.read_note_line-known.ensures.faith.1 lent_then in
    let beside = c.read_note_line-known.ensures.beside lent_then ∙ lent.lent in
    let same = (c.read_note_line-known.ensures.seen lent_then).same ∙ (c.lend_texts.ensures.seen old).same in
    let texts = texts_of c.in-Ok.lent.exchanged lent.files in
    let only = subst (λ w. Spares (IsNeither texts) w (g.W.World.state c.empty_texts.new.world)) same
    (as_texts c.in-Ok.lent.exchanged lent.files _ _ (c.empty_texts.ensures.only mid lent.files beside)) in
    let image : g.W.Image.Device.image c.judge-devices.result.devices.image ≡ (g.W.World.state c.read_note_line-known.new.world).bytes lent.files.image = rw same ((done _ _ _ c.in-Ok-outcome.is (c.judge-devices.ensures.image _ _ _ lent.held)).1
    ∙ image_held c.args.names.now texts (g.W.World.state c.args.world.now) lent.opened.named) in
    forgotten_named c.args.names.now texts (g.W.World.state c.args.world.now) (g.W.World.state c.empty_texts.new.world) lent.opened.named only
    (subst (λ w. Empties texts (Ok tt) w (g.W.World.state c.empty_texts.new.world)) same
    (c.in-Ok-empty_texts.ensures.empties mid lent.files beside lent.alone image))

pub returns-in-Ok-empty_texts-clause-survives : goal.returns-in-Ok-empty_texts-clause-survives
returns-in-Ok-empty_texts-clause-survives g c old =
    let lent = c.in-Ok.ensures.lends old in
    let lent_then = c.lend_texts.ensures.faith.1 old in
    let mid = c.read_note_line-known.ensures.faith.1 lent_then in
    let beside = c.read_note_line-known.ensures.beside lent_then ∙ lent.lent in
    let same = (c.read_note_line-known.ensures.seen lent_then).same ∙ (c.lend_texts.ensures.seen old).same in
    let texts = texts_of c.in-Ok.lent.exchanged lent.files in
    let only = subst (λ w. Spares (IsNeither texts) w (g.W.World.state c.empty_texts.new.world)) same
    (as_texts c.in-Ok.lent.exchanged lent.files _ _ (c.empty_texts.ensures.only mid lent.files beside)) in
    let image : g.W.Image.Device.image c.judge-devices.result.devices.image ≡ (g.W.World.state c.read_note_line-known.new.world).bytes lent.files.image = rw same ((done _ _ _ c.in-Ok-outcome.is (c.judge-devices.ensures.image _ _ _ lent.held)).1
    ∙ image_held c.args.names.now texts (g.W.World.state c.args.world.now) lent.opened.named) in
    let found = done _ _ _ c.in-Ok-outcome.is (c.judge-devices.ensures.found_before _ _ _ lent.held) in
    survived_all c.args.names.now texts (g.W.World.state c.args.world.now) (g.W.World.state c.empty_texts.new.world) lent.opened.named only
    (g.W.Image.Device.survives c.judge-devices.result.devices.image) (g.W.World.survives c.args.world.now)
    (g.W.World.survives c.read_note_line-known.new.world) (g.W.World.survives c.empty_texts.new.world)
    (λ x is. lent.found_before x (found x is)) (λ n x is. (c.lend_texts.ensures.seen old).nothing_new n x ((c.read_note_line-known.ensures.seen lent_then).nothing_new n x is))
    (subst (λ w. SurvivesEmptying texts (Ok tt) w (g.W.Image.Device.survives c.judge-devices.result.devices.image)
    (g.W.World.survives c.read_note_line-known.new.world) (g.W.World.survives c.empty_texts.new.world)) same
    (c.in-Ok-empty_texts.ensures.survives mid lent.files beside lent.alone image))

pub returns-in-Ok-empty_texts-clause-others : goal.returns-in-Ok-empty_texts-clause-others
returns-in-Ok-empty_texts-clause-others g c old =
    let lent = c.in-Ok.ensures.lends old in
    let lent_then = c.lend_texts.ensures.faith.1 old in
    let mid = c.read_note_line-known.ensures.faith.1 lent_then in
    let beside = c.read_note_line-known.ensures.beside lent_then ∙ lent.lent in
    let same = (c.read_note_line-known.ensures.seen lent_then).same ∙ (c.lend_texts.ensures.seen old).same in
    let texts = texts_of c.in-Ok.lent.exchanged lent.files in
    let only = subst (λ w. Spares (IsNeither texts) w (g.W.World.state c.empty_texts.new.world)) same
    (as_texts c.in-Ok.lent.exchanged lent.files _ _ (c.empty_texts.ensures.only mid lent.files beside)) in
    others_named c.args.names.now texts (g.W.World.state c.args.world.now) (g.W.World.state c.empty_texts.new.world) lent.opened.named only

pub returns-in-Err-empty_texts-clause-stopped : goal.returns-in-Err-empty_texts-clause-stopped
returns-in-Err-empty_texts-clause-stopped g c old =
    let lent = c.in-Ok.ensures.lends old in
    let lent_then = c.lend_texts.ensures.faith.1 old in
    let mid = c.read_note_line-known.ensures.faith.1 lent_then in
    let beside = c.read_note_line-known.ensures.beside lent_then ∙ lent.lent in
    let same = (c.read_note_line-known.ensures.seen lent_then).same ∙ (c.lend_texts.ensures.seen old).same in
    let texts = texts_of c.in-Ok.lent.exchanged lent.files in
    let only = subst (λ w. Spares (IsNeither texts) w (g.W.World.state c.empty_texts.new.world)) same
    (as_texts c.in-Ok.lent.exchanged lent.files _ _ (c.empty_texts.ensures.only mid lent.files beside)) in
    let image : g.W.Image.Device.image c.judge-devices.result.devices.image ≡ (g.W.World.state c.read_note_line-known.new.world).bytes lent.files.image = rw same ((done _ _ _ c.in-Ok-outcome.is (c.judge-devices.ensures.image _ _ _ lent.held)).1
    ∙ image_held c.args.names.now texts (g.W.World.state c.args.world.now) lent.opened.named) in
    stopped_named c.args.names.now texts (g.W.World.state c.args.world.now) (g.W.World.state c.empty_texts.new.world) lent.opened.named only
    c.args.guard (g.W.World.note c.args.world.now) (g.W.World.refusals c.args.world.now < g.W.World.refusals c.empty_texts.new.world)
    c.in-Err-empty_texts.fault (done _ _ _ c.in-Ok-outcome.is (c.judge-devices.ensures.may _ _ _ _ lent.held (subst (λ note. IsNoteLine note c.read_note_line-known.result) (c.lend_texts.ensures.note old)
    (c.read_note_line-known.ensures.told (c.lend_texts.ensures.faith.1 old)))))
    (subst (λ w. Empties texts (Err c.in-Err-empty_texts.fault) w (g.W.World.state c.empty_texts.new.world)) same
    (c.in-Err-empty_texts.ensures.empties mid lent.files beside lent.alone image))

pub returns-in-Err-empty_texts-clause-survives : goal.returns-in-Err-empty_texts-clause-survives
returns-in-Err-empty_texts-clause-survives g c old =
    let lent = c.in-Ok.ensures.lends old in
    let lent_then = c.lend_texts.ensures.faith.1 old in
    let mid = c.read_note_line-known.ensures.faith.1 lent_then in
    let beside = c.read_note_line-known.ensures.beside lent_then ∙ lent.lent in
    let same = (c.read_note_line-known.ensures.seen lent_then).same ∙ (c.lend_texts.ensures.seen old).same in
    let texts = texts_of c.in-Ok.lent.exchanged lent.files in
    let only = subst (λ w. Spares (IsNeither texts) w (g.W.World.state c.empty_texts.new.world)) same
    (as_texts c.in-Ok.lent.exchanged lent.files _ _ (c.empty_texts.ensures.only mid lent.files beside)) in
    let image : g.W.Image.Device.image c.judge-devices.result.devices.image ≡ (g.W.World.state c.read_note_line-known.new.world).bytes lent.files.image = rw same ((done _ _ _ c.in-Ok-outcome.is (c.judge-devices.ensures.image _ _ _ lent.held)).1
    ∙ image_held c.args.names.now texts (g.W.World.state c.args.world.now) lent.opened.named) in
    let found = done _ _ _ c.in-Ok-outcome.is (c.judge-devices.ensures.found_before _ _ _ lent.held) in
    survived_named c.args.names.now texts (g.W.World.state c.args.world.now) (g.W.World.state c.empty_texts.new.world) lent.opened.named only
    (g.W.Image.Device.survives c.judge-devices.result.devices.image) (g.W.World.survives c.args.world.now)
    (g.W.World.survives c.read_note_line-known.new.world) (g.W.World.survives c.empty_texts.new.world)
    (λ x is. lent.found_before x (found x is)) (λ n x is. (c.lend_texts.ensures.seen old).nothing_new n x ((c.read_note_line-known.ensures.seen lent_then).nothing_new n x is)) c.in-Err-empty_texts.fault
    (subst (λ w. SurvivesEmptying texts (Err c.in-Err-empty_texts.fault) w (g.W.Image.Device.survives c.judge-devices.result.devices.image)
    (g.W.World.survives c.read_note_line-known.new.world) (g.W.World.survives c.empty_texts.new.world)) same
    (c.in-Err-empty_texts.ensures.survives mid lent.files beside lent.alone image))

pub returns-in-Err-empty_texts-clause-others : goal.returns-in-Err-empty_texts-clause-others
returns-in-Err-empty_texts-clause-others g c old =
    let lent = c.in-Ok.ensures.lends old in
    let lent_then = c.lend_texts.ensures.faith.1 old in
    let mid = c.read_note_line-known.ensures.faith.1 lent_then in
    let beside = c.read_note_line-known.ensures.beside lent_then ∙ lent.lent in
    let same = (c.read_note_line-known.ensures.seen lent_then).same ∙ (c.lend_texts.ensures.seen old).same in
    let texts = texts_of c.in-Ok.lent.exchanged lent.files in
    let only = subst (λ w. Spares (IsNeither texts) w (g.W.World.state c.empty_texts.new.world)) same
    (as_texts c.in-Ok.lent.exchanged lent.files _ _ (c.empty_texts.ensures.only mid lent.files beside)) in
    others_named c.args.names.now texts (g.W.World.state c.args.world.now) (g.W.World.state c.empty_texts.new.world) lent.opened.named only

pub returns-in-Err-outcome-clause-stopped : goal.returns-in-Err-outcome-clause-stopped
returns-in-Err-outcome-clause-stopped g c old =
    let lent_then = c.lend_texts.ensures.faith.1 old in
    let mid = c.read_note_line-known.ensures.faith.1 lent_then in
    let hides = failed _ _ _ c.in-Err-outcome.is (c.judge-devices.ensures.hides _ _ _ _ (c.in-Ok.ensures.lends old).held (subst (λ note. IsNoteLine note c.read_note_line-known.result) (c.lend_texts.ensures.note old)
    (c.read_note_line-known.ensures.told (c.lend_texts.ensures.faith.1 old)))) in
    rw c.close.ensures.outcome (hidden_stops c.args.guard (g.W.World.note c.args.world.now) c.args.names.now _ (g.W.World.state c.args.world.now) (g.W.World.state c.close.new.world)
    c.in-Err-outcome.unseen (c.close.ensures.same mid ∙ (c.read_note_line-known.ensures.seen lent_then).same ∙ (c.lend_texts.ensures.seen old).same) hides)

pub returns-in-Err-outcome-clause-survives : goal.returns-in-Err-outcome-clause-survives
returns-in-Err-outcome-clause-survives g c old =
    let lent_then = c.lend_texts.ensures.faith.1 old in
    let mid = c.read_note_line-known.ensures.faith.1 lent_then in
    let hides = failed _ _ _ c.in-Err-outcome.is (c.judge-devices.ensures.hides _ _ _ _ (c.in-Ok.ensures.lends old).held (subst (λ note. IsNoteLine note c.read_note_line-known.result) (c.lend_texts.ensures.note old)
    (c.read_note_line-known.ensures.told (c.lend_texts.ensures.faith.1 old)))) in
    rw c.close.ensures.outcome (hidden_survives c.args.names.now (g.W.World.state c.args.world.now) (g.W.World.survives c.args.world.now)
    (g.W.World.survives c.close.new.world) c.in-Err-outcome.unseen c.args.guard _ _ _ _ hides
    (λ n x is. (c.lend_texts.ensures.seen old).nothing_new n x ((c.read_note_line-known.ensures.seen lent_then).nothing_new n x (c.close.ensures.survives mid n x is))))

pub returns-in-Ok-empty_texts-clause-note : goal.returns-in-Ok-empty_texts-clause-note
returns-in-Ok-empty_texts-clause-note g c old =
    let lent_then = c.lend_texts.ensures.faith.1 old in
    let mid = c.read_note_line-known.ensures.faith.1 lent_then in
    rw (c.read_note_line-known.ensures.note lent_then, c.lend_texts.ensures.note old) at (c.in-Ok-empty_texts.ensures.note mid)

pub returns-in-Err-empty_texts-clause-note : goal.returns-in-Err-empty_texts-clause-note
returns-in-Err-empty_texts-clause-note g c old =
    let lent_then = c.lend_texts.ensures.faith.1 old in
    let mid = c.read_note_line-known.ensures.faith.1 lent_then in
    c.in-Err-empty_texts.ensures.note mid ∙ c.read_note_line-known.ensures.note lent_then ∙ c.lend_texts.ensures.note old

pub returns-in-Err-outcome-clause-note : goal.returns-in-Err-outcome-clause-note
returns-in-Err-outcome-clause-note g c old =
    let lent_then = c.lend_texts.ensures.faith.1 old in
    let mid = c.read_note_line-known.ensures.faith.1 lent_then in
    rw c.close.ensures.outcome (c.close.ensures.note mid ∙ c.read_note_line-known.ensures.note lent_then ∙ c.lend_texts.ensures.note old)

pub returns-in-Ok-empty_texts-clause-counted : goal.returns-in-Ok-empty_texts-clause-counted
returns-in-Ok-empty_texts-clause-counted g c old =
    let lent_then = c.lend_texts.ensures.faith.1 old in
    let mid = c.read_note_line-known.ensures.faith.1 lent_then in
    let first = c.in-Ok.ensures.calm old in
    let second = note_least c.read_note_line-known.result.is_read _ _ (c.read_note_line-known.ensures.counted lent_then) in
    let last = (c.empty_texts.ensures.counted mid).least in
    omega (arith, first, second, last)

pub returns-in-Err-empty_texts-clause-failed : goal.returns-in-Err-empty_texts-clause-failed
returns-in-Err-empty_texts-clause-failed g c old is =
    let lent_then = c.lend_texts.ensures.faith.1 old in
    let mid = c.read_note_line-known.ensures.faith.1 lent_then in
    let first = c.in-Ok.ensures.calm old in
    let second = note_least c.read_note_line-known.result.is_read _ _ (c.read_note_line-known.ensures.counted lent_then) in
    let stopped = c.in-Err-empty_texts.is in
    let last = (c.empty_texts.ensures.counted mid).rise (rw stopped refl) in
    omega (arith, first, second, last)

pub returns-in-Err-outcome-clause-failed : goal.returns-in-Err-outcome-clause-failed
returns-in-Err-outcome-clause-failed g c old is =
    let lent_then = c.lend_texts.ensures.faith.1 old in
    let mid = c.read_note_line-known.ensures.faith.1 lent_then in
    let first = c.in-Ok.ensures.calm old in
    let unseen = c.in-Err-outcome.is in
    let closed = c.close.ensures.outcome in
    let last = failed_judging c.read_note_line-known.result.is_read _ _ _ _ (c.read_note_line-known.ensures.counted lent_then) (c.close.ensures.counted mid)
    (λ read. c.judge-devices.ensures.failed read (rw unseen (rw closed at is))) in
    omega (arith, first, last)
