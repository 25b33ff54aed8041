use Rattle.std.proofs.Common.{◌≡◌, ◌∙◌, Some, refl, sym, subst, arith}
use Rattle.bx_world.specs.files.Numbers.{numbers_of}
use Rattle.bx_world.specs.World.{ChangesOnly, SystemState, Trio}
use Rattle.bx_run_session.proofs.Begun.{unbegun_as}
use Rattle.bx_run_session.proofs.Files.{nothing_new}
use Rattle.bx_run_session.proofs.NoteLemmas.{clears_behind}
use Rattle.bx_run_session.proofs.Refused.{endures_less}
use Rattle.bx_run_session.proofs.session.lent.with_devices.Goals as goal

-- files that are lent still
still : (before behind : SystemState) (t : Trio) → behind ≡ before → before.lent ≡ Some t → behind.lent ≡ Some t
still before behind t same lent = subst (λ (w : SystemState). w.lent ≡ Some t) (sym same) lent

only_from : (t : Trio) (before behind new : SystemState) → behind ≡ before → ChangesOnly t behind new → ChangesOnly t before new
only_from t before behind new same only = subst (λ (w : SystemState). ChangesOnly t w new) same only

-- two steps that change three files alone
only_then : (t : Trio) (old mid new : SystemState) → ChangesOnly t old mid → ChangesOnly t mid new → ChangesOnly t old new
only_then t old mid new first second = record {
  named = λ m. second.named m ∙ first.named m;
  is_link = λ m. second.is_link m ∙ first.is_link m;
  bytes = λ i none. second.bytes i none ∙ first.bytes i none;
  stat = λ i. second.stat i ∙ first.stat i;
  caller = second.caller ∙ first.caller;
  there = second.there ∙ first.there;
  before = second.before ∙ first.before;
  stuck = second.stuck ∙ first.stuck;
  output = second.output ∙ first.output;
  errors = second.errors ∙ first.errors;
}

pub returns-clause-only : goal.returns-clause-only
returns-clause-only g c h =
    let lends = c.into_devices-image.ensures.lent h in
    let given = c.into_files-image.ensures.given (c.run_guarded-ended.ensures.faith.1 (c.into_devices-image.ensures.faith.1 h)) (numbers_of g.W.World.number c.args.files)
    (still _ _ _ (c.run_guarded-ended.ensures.same (c.into_devices-image.ensures.faith.1 h)) lends.lent) in
    only_then _ _ _ _ lends.only (only_from _ _ _ _ (c.run_guarded-ended.ensures.same (c.into_devices-image.ensures.faith.1 h)) given.only)

pub returns-clause-free : goal.returns-clause-free
returns-clause-free g c h =
    let lends = c.into_devices-image.ensures.lent h in
    (c.into_files-image.ensures.given (c.run_guarded-ended.ensures.faith.1 (c.into_devices-image.ensures.faith.1 h)) (numbers_of g.W.World.number c.args.files)
    (still _ _ _ (c.run_guarded-ended.ensures.same (c.into_devices-image.ensures.faith.1 h)) lends.lent)).lent

pub returns-clause-does : goal.returns-clause-does
returns-clause-does g c h opened s holds =
    let lends = c.into_devices-image.ensures.lent h in
    let given = c.into_files-image.ensures.given (c.run_guarded-ended.ensures.faith.1 (c.into_devices-image.ensures.faith.1 h)) (numbers_of g.W.World.number c.args.files)
    (still _ _ _ (c.run_guarded-ended.ensures.same (c.into_devices-image.ensures.faith.1 h)) lends.lent) in
    let image = c.into_devices-image.ensures.image h in
    let journal = c.into_devices-image.ensures.journal h in
    let redo = c.into_devices-image.ensures.redo h in
    rw (given.image_bytes, given.journal_bytes, given.redo_bytes)
    (c.run_guarded-ended.ensures.runs.does (image.0, journal.0, redo.0) opened s (rw (image.1, journal.1, redo.1) holds))

pub returns-clause-how : goal.returns-clause-how
returns-clause-how g c h =
    let image = c.into_devices-image.ensures.image h in
    let journal = c.into_devices-image.ensures.journal h in
    let redo = c.into_devices-image.ensures.redo h in
    rw (image.1, journal.1, redo.1) at (c.run_guarded-ended.ensures.runs.how_is (image.0, journal.0, redo.0))

pub returns-clause-whole : goal.returns-clause-whole
returns-clause-whole g c h whole =
    let lends = c.into_devices-image.ensures.lent h in
    let given = c.into_files-image.ensures.given (c.run_guarded-ended.ensures.faith.1 (c.into_devices-image.ensures.faith.1 h)) (numbers_of g.W.World.number c.args.files)
    (still _ _ _ (c.run_guarded-ended.ensures.same (c.into_devices-image.ensures.faith.1 h)) lends.lent) in
    let image = c.into_devices-image.ensures.image h in
    let journal = c.into_devices-image.ensures.journal h in
    let redo = c.into_devices-image.ensures.redo h in
    let spared = c.run_guarded-ended.ensures.runs.whole (image.0, journal.0, redo.0) whole in
    rw (given.image_bytes, given.journal_bytes, given.redo_bytes) (rw (image.1, journal.1, redo.1) at spared)

pub returns-clause-found : goal.returns-clause-found
returns-clause-found g c h opened s found =
    let lends = c.into_devices-image.ensures.lent h in
    let given = c.into_files-image.ensures.given (c.run_guarded-ended.ensures.faith.1 (c.into_devices-image.ensures.faith.1 h)) (numbers_of g.W.World.number c.args.files)
    (still _ _ _ (c.run_guarded-ended.ensures.same (c.into_devices-image.ensures.faith.1 h)) lends.lent) in
    let image = c.into_devices-image.ensures.image h in
    let journal = c.into_devices-image.ensures.journal h in
    let redo = c.into_devices-image.ensures.redo h in
    rw (given.image_bytes, given.journal_bytes, given.redo_bytes)
    (c.run_guarded-ended.ensures.runs.found (image.0, journal.0, redo.0) opened s (rw (image.1, journal.1, redo.1) found))

pub returns-clause-survives : goal.returns-clause-survives
returns-clause-survives g c h s holds stopped x text redo_text there text_there redo_there =
    let lends = c.into_devices-image.ensures.lent h in
    let survives = c.into_files-image.ensures.survives (c.run_guarded-ended.ensures.faith.1 (c.into_devices-image.ensures.faith.1 h)) (numbers_of g.W.World.number c.args.files)
    (still _ _ _ (c.run_guarded-ended.ensures.same (c.into_devices-image.ensures.faith.1 h)) lends.lent) in
    let image = c.into_devices-image.ensures.image h in
    let journal = c.into_devices-image.ensures.journal h in
    let redo = c.into_devices-image.ensures.redo h in
    c.run_guarded-ended.ensures.runs.survives (image.0, journal.0, redo.0) s (rw (image.1, journal.1, redo.1) holds) stopped x text redo_text
    (survives.image_found x there) (survives.journal_found text text_there) (survives.redo_found redo_text redo_there)

pub returns-clause-endures : goal.returns-clause-endures
returns-clause-endures g c h s found stopped =
    let lends = c.into_devices-image.ensures.lent h in
    let survives = c.into_files-image.ensures.survives (c.run_guarded-ended.ensures.faith.1 (c.into_devices-image.ensures.faith.1 h)) (numbers_of g.W.World.number c.args.files)
    (still _ _ _ (c.run_guarded-ended.ensures.same (c.into_devices-image.ensures.faith.1 h)) lends.lent) in
    let image = c.into_devices-image.ensures.image h in
    let journal = c.into_devices-image.ensures.journal h in
    let redo = c.into_devices-image.ensures.redo h in
    endures_less g.R.Read.remaining s c.args.task c.run_guarded-ended.result.how c.run_guarded-ended.result.reply _ _ _ _ _ _
    survives.image_found survives.journal_found survives.redo_found
    (c.run_guarded-ended.ensures.runs.endures (image.0, journal.0, redo.0) s (rw (image.1, journal.1, redo.1) found) stopped)

pub returns-clause-stands : goal.returns-clause-stands
returns-clause-stands g c h unfailed =
    let lends = c.into_devices-image.ensures.lent h in
    let given = c.into_files-image.ensures.given (c.run_guarded-ended.ensures.faith.1 (c.into_devices-image.ensures.faith.1 h)) (numbers_of g.W.World.number c.args.files)
    (still _ _ _ (c.run_guarded-ended.ensures.same (c.into_devices-image.ensures.faith.1 h)) lends.lent) in
    let image = c.into_devices-image.ensures.image h in
    let journal = c.into_devices-image.ensures.journal h in
    let redo = c.into_devices-image.ensures.redo h in
    let stands = c.run_guarded-ended.ensures.runs.stands (image.0, journal.0, redo.0) unfailed in
    rw (given.image_bytes, given.journal_bytes, given.redo_bytes) (rw (image.1, journal.1, redo.1) at stands)

pub returns-clause-spares : goal.returns-clause-spares
returns-clause-spares g c h whole =
    let lends = c.into_devices-image.ensures.lent h in
    let lent = c.into_devices-image.ensures.faith.1 h in
    let behind = c.run_guarded-ended.ensures.faith.1 lent in
    let is_lent = still _ _ _ (c.run_guarded-ended.ensures.same lent) lends.lent in
    let numbers = numbers_of g.W.World.number c.args.files in
    let given = c.into_files-image.ensures.given behind numbers is_lent in
    let left = c.into_files-image.ensures.survives behind numbers is_lent in
    let image = c.into_devices-image.ensures.image h in
    let journal = c.into_devices-image.ensures.journal h in
    let redo = c.into_devices-image.ensures.redo h in
    let sparing = c.run_guarded-ended.ensures.runs.spares (image.0, journal.0, redo.0) whole in
    let meanwhile = c.run_guarded-ended.ensures.survives lent in (
      λ is.
          let found = sparing.before is in
          nothing_new numbers _ _
          (λ n none x there. c.into_devices-image.ensures.survives h n none x (meanwhile n x (c.into_files-image.ensures.others behind numbers is_lent n none x there)))
          (λ x there. c.into_devices-image.ensures.image_survives h x (found.image_before image.0 x (left.image_found x there)))
          (λ x there. c.into_devices-image.ensures.journal_survives h x (found.journal_before journal.0 x (left.journal_found x there)))
          (λ x there. c.into_devices-image.ensures.redo_survives h x (found.redo_before redo.0 x (left.redo_found x there))),
      λ other.
          let settled = sparing.settled other in
          record {
            image = λ x there. settled.image x (left.image_found x there) ∙ sym given.image_bytes;
            journal = λ x there. settled.journal x (left.journal_found x there) ∙ sym given.journal_bytes;
            redo = λ x there. settled.redo x (left.redo_found x there) ∙ sym given.redo_bytes;
          },
    )

pub returns-clause-files : goal.returns-clause-files
returns-clause-files g c h =
    let lends = c.into_devices-image.ensures.lent h in
    let back = c.into_files-image.ensures.files (c.run_guarded-ended.ensures.faith.1 (c.into_devices-image.ensures.faith.1 h)) (numbers_of g.W.World.number c.args.files)
    (still _ _ _ (c.run_guarded-ended.ensures.same (c.into_devices-image.ensures.faith.1 h)) lends.lent) in
    rw (back.0, back.1, back.2) refl

pub returns-clause-judged : goal.returns-clause-judged
returns-clause-judged g c h =
    let lent = c.into_devices-image.ensures.faith.1 h in
    let image = c.into_devices-image.ensures.image h in
    let journal = c.into_devices-image.ensures.journal h in
    let redo = c.into_devices-image.ensures.redo h in
    rw (image.1, journal.1, redo.1, c.into_devices-image.ensures.note h) at (c.run_guarded-ended.ensures.judged lent (image.0, journal.0, redo.0))

pub returns-clause-unbegun : goal.returns-clause-unbegun
returns-clause-unbegun g c = unbegun_as g.W.Image.Device g.W.Text.TextStore _ c.run_guarded-ended.result c.run_guarded-ended.result.unopened c.run_guarded-ended.ensures.left

pub returns-clause-counted : goal.returns-clause-counted
returns-clause-counted g c h =
    let lent = c.into_devices-image.ensures.faith.1 h in
    let first = c.into_devices-image.ensures.counted h in
    let ran = c.run_guarded-ended.ensures.counted lent in
    let last = c.into_files-image.ensures.counted (c.run_guarded-ended.ensures.faith.1 lent) in
    let behind = c.run_guarded-ended.ensures.faith.1 lent in (
      record {
        least = omega (arith, first, ran, last);
        rise = λ is. let failed = c.run_guarded-ended.ensures.failed lent is in omega (arith, first, failed, last);
      },
      clears_behind _ _ _ _ _ _ _ _ _ _ _ _ _ refl (omega (arith, first)) (omega (arith, last)) (c.into_devices-image.ensures.note h)
          (c.into_files-image.ensures.note behind) (c.run_guarded-ended.ensures.note lent),
    )
