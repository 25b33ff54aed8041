use Rattle.std.proofs.Common.{◌≡◌, ◌<◌, Err, refl, arith}
use Rattle.std.proofs.lemmas.Grind.{common_steps}
use Rattle.std.proofs.lemmas.Result.{err_from_is_err_and}
use Rattle.bx_world.proofs.Making.{fresh_later}
use Rattle.bx_world.proofs.FileReasons.{beside_may, journal_may, redo_may}
use Rattle.bx_world.proofs.Taken.{left_then}
use Rattle.bx_world.proofs.Three.{may_be_text, text_fit, text_later, texts_opened}
use Rattle.bx_world.proofs.files.open.open_texts.Goals as goal

pub open_text-requires-clause-may : goal.open_text-requires-clause-may
open_text-requires-clause-may g c look =
    let old = c.look_beside_made.ensures.faith.0 look in
    rw (c.look_beside_made.ensures.same old, c.as_str.ensures) (may_be_text (g.W.World.number c.args.image.now.file) c.args.names.now.journal (g.W.World.state c.args.world.now)
    (c.in_ok-look_beside_made.ensures.fit old).journal)

pub open_text-requires-clause-there : goal.open_text-requires-clause-there
open_text-requires-clause-there g c look =
    let old = c.look_beside_made.ensures.faith.0 look in
    rw (c.look_beside_made.ensures.same old) (c.requires.there old)

pub open_redo-requires-clause-image_there : goal.open_redo-requires-clause-image_there
open_redo-requires-clause-image_there g c texts =
    let look = c.open_text.ensures.faith.0 texts in
    let old = c.look_beside_made.ensures.faith.0 look in
    let same = c.look_beside_made.ensures.same old in
    let there = c.requires.there old in
    let least = rw same at (c.in_ok-journal.ensures.ok look).file.files.there in
    omega (arith, there, least)

pub open_redo-requires-clause-journal_there : goal.open_redo-requires-clause-journal_there
open_redo-requires-clause-journal_there g c texts =
    let look = c.open_text.ensures.faith.0 texts in
    (c.in_ok-journal.ensures.ok look).file.there

pub open_redo-requires-clause-image_fit : goal.open_redo-requires-clause-image_fit
open_redo-requires-clause-image_fit g c texts =
    let look = c.open_text.ensures.faith.0 texts in
    let old = c.look_beside_made.ensures.faith.0 look in
    let same = c.look_beside_made.ensures.same old in
    let opened = rw same at (c.in_ok-journal.ensures.ok look) in
    rw (opened.file.files.stat _ (c.requires.there old)) (c.requires.image_fit old)

pub open_redo-requires-clause-journal_fit : goal.open_redo-requires-clause-journal_fit
open_redo-requires-clause-journal_fit g c texts =
    let look = c.open_text.ensures.faith.0 texts in
    text_fit _ _ _ _ _ _ _ (c.in_ok-journal.ensures.ok look)

pub open_redo-requires-clause-may : goal.open_redo-requires-clause-may
open_redo-requires-clause-may g c texts =
    let look = c.open_text.ensures.faith.0 texts in
    let old = c.look_beside_made.ensures.faith.0 look in
    let same = c.look_beside_made.ensures.same old in
    let opened = rw same at (c.in_ok-journal.ensures.ok look) in
    text_later _ c.args.names.now.redo _ _ _ _ _ _ (λ name n e. g.met.W.World.within _ name n old e) (c.requires.there old)
    (c.in_ok-look_beside_made.ensures.fit old).redo opened

pub unmake_journal-requires-clause-made : goal.unmake_journal-requires-clause-made
unmake_journal-requires-clause-made g c refused is =
    let texts = c.open_redo.ensures.faith.0 refused in
    let look = c.open_text.ensures.faith.0 texts in
    let left = c.in-Err.ensures.err texts in
    rw left.streams.before (fresh_later _ _ _ _ (c.in_ok-journal.ensures.ok look).file.files (is, refl) (g.met.W.World.begun _ look))

pub unmake_journal-requires-clause-named : goal.unmake_journal-requires-clause-named
unmake_journal-requires-clause-named g c refused =
    let texts = c.open_redo.ensures.faith.0 refused in
    let look = c.open_text.ensures.faith.0 texts in
    let opened = rw (c.as_str.ensures) at (c.in_ok-journal.ensures.ok look) in
    (c.in-Err.ensures.err texts).still _ _ opened.file.under.named

pub returns-in-Ok-clause-ok : goal.returns-in-Ok-clause-ok
returns-in-Ok-clause-ok g c old =
    let look = c.look_beside_made.ensures.faith.1 old in
    let texts = c.open_text.ensures.faith.1 look in
    let same = c.look_beside_made.ensures.same old in
    let opened = rw (same, c.as_str.ensures) at (c.in_ok-journal.ensures.ok look) in
    texts_opened c.args.names.now c.args.makes _ _ _ _ _ (c.requires.there old) opened (c.in-Ok.ensures.ok texts) (c.in-Ok.ensures.apart texts)

pub returns-in-Err-clause-err : goal.returns-in-Err-clause-err
returns-in-Err-clause-err g c old =
    let look = c.look_beside_made.ensures.faith.1 old in
    let texts = c.open_text.ensures.faith.1 look in
    let refused = c.open_redo.ensures.faith.1 texts in
    rw (← c.look_beside_made.ensures.same old) (c.unmake_journal.ensures.left refused _ (λ name n e. g.met.W.World.within _ name n look e)
    (left_then _ _ _ _ (c.in_ok-journal.ensures.ok look).file.files (c.in-Err.ensures.err texts)))

pub returns-in_err-look_beside_made-clause-why : goal.returns-in_err-look_beside_made-clause-why
returns-in_err-look_beside_made-clause-why g c old count below first within opened =
    let found = err_from_is_err_and c.from_residual.result c.from_residual.ensures.1 in
    let is : c.from_residual.result ≡ Err c.in_err-look_beside_made.field-0.0 = grind (arith, common_steps, found.1, found.2) in
    let Counted : Type 0 = count < g.W.World.refusals c.look_beside_made.new.world in
    rw is (beside_may c.args.names.now c.args.mounted c.args.makes Counted first _ _ _ within opened Counted c.in_err-look_beside_made.field-0.0
    (c.in_err-look_beside_made.ensures.made old) (λ more. more) (c.in_err-look_beside_made.ensures.why old count below))

pub returns-in_err-journal-clause-why : goal.returns-in_err-journal-clause-why
returns-in_err-journal-clause-why g c old count below first within opened =
    let look = c.look_beside_made.ensures.faith.1 old in
    let least = c.look_beside_made.ensures.counted old in
    let found = err_from_is_err_and c.from_residual-in_err-journal.result c.from_residual-in_err-journal.ensures.1 in
    let is : c.from_residual-in_err-journal.result ≡ Err c.in_err-journal.field-0.0 = grind (arith, common_steps, found.1, found.2) in
    let why = rw (c.look_beside_made.ensures.same old, c.as_str.ensures) at (c.in_err-journal.ensures.why look count (omega (arith, least, below))) in
    rw is (journal_may c.args.names.now c.args.mounted c.args.makes _ first _ _ _ within opened _ _ (λ more. more) why)

pub returns-in-Err-clause-why : goal.returns-in-Err-clause-why
returns-in-Err-clause-why g c old count below first within opened =
    let look = c.look_beside_made.ensures.faith.1 old in
    let texts = c.open_text.ensures.faith.1 look in
    let refused = c.open_redo.ensures.faith.1 texts in
    let first_least = c.look_beside_made.ensures.counted old in
    let second_least = c.open_text.ensures.counted look in
    let text = rw (c.look_beside_made.ensures.same old, c.as_str.ensures) at (c.in_ok-journal.ensures.ok look) in
    rw (c.unmake_journal.ensures.counted refused) (redo_may c.args.names.now c.args.mounted c.args.makes _ first _ _ _ within opened _ _ _ text
    (count < g.W.World.refusals c.open_redo.new.world) c.in-Err.unopened (λ more. more) (c.in-Err.ensures.why texts count (omega (arith, first_least, second_least, below))))
