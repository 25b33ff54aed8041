use Rattle.std.proofs.Common.{true, false, ◌≡◌, Err, refl, arith}
use Rattle.std.proofs.lemmas.Grind.{common_steps}
use Rattle.std.proofs.lemmas.Result.{err_from_is_err_and}
use Rattle.bx_world.specs.files.Reasons.{NoneUnfit}
use Rattle.bx_world.proofs.Making.{fresh_later}
use Rattle.bx_world.proofs.FileReasons.{reason_weaker, redo_refused}
use Rattle.bx_world.proofs.Taken.{made_left}
use Rattle.bx_world.proofs.Three.{files_fit, other_before}
use Rattle.bx_world.proofs.files.open.open_redo.Goals as goal

pub unmake-requires-clause-made : goal.unmake-requires-clause-made
unmake-requires-clause-made g c third is =
    let opened = c.are_ready.ensures.faith.0 third in
    let old = c.open_text.ensures.faith.0 opened in
    rw (c.are_ready.ensures.same opened) (fresh_later _ _ _ _ (c.in_ok-redo.ensures.ok old).file.files (is, refl) (g.met.W.World.begun _ old))

pub unmake-requires-clause-named : goal.unmake-requires-clause-named
unmake-requires-clause-named g c third =
    let opened = c.are_ready.ensures.faith.0 third in
    let old = c.open_text.ensures.faith.0 opened in
    let redo = rw (c.as_str.ensures) at (c.in_ok-redo.ensures.ok old) in
    rw (c.are_ready.ensures.same opened, c.as_str-in-Err.ensures) redo.file.under.named

pub returns-in-Ok-clause-apart : goal.returns-in-Ok-clause-apart
returns-in-Ok-clause-apart g c old =
    let opened = c.open_text.ensures.faith.1 old in
    let redo = c.in_ok-redo.ensures.ok old in
    let least = redo.file.files.there in
    let one = c.requires.image_there old in
    let two = c.requires.journal_there old in
    rw (c.are_ready.ensures.same opened) (record {
      image_there = omega (arith, least, one);
      journal_there = omega (arith, least, two);
      redo_there = redo.file.there;
      journal_apart = c.in-Ok.ensures.journal opened;
      redo_of_image = c.in-Ok.ensures.redo_of_image opened;
      redo_of_journal = c.in-Ok.ensures.redo_of_journal opened;
    })

pub returns-in-Err-clause-err : goal.returns-in-Err-clause-err
returns-in-Err-clause-err g c old =
    let opened = c.open_text.ensures.faith.1 old in
    let third = c.are_ready.ensures.faith.1 opened in
    c.unmake.ensures.left third _ (λ name n e. g.met.W.World.within _ name n old e)
    (rw (c.are_ready.ensures.same opened) (made_left _ _ _ (c.in_ok-redo.ensures.ok old).file.files))

pub returns-in-Err-clause-why : goal.returns-in-Err-clause-why
returns-in-Err-clause-why g c old count below =
    let opened = c.open_text.ensures.faith.1 old in
    let third = c.are_ready.ensures.faith.1 opened in
    let redo = rw (c.as_str.ensures) at (c.in_ok-redo.ensures.ok old) in
    let least = c.open_text.ensures.counted old in
    let one = c.requires.image_there old in
    let two = c.requires.journal_there old in
    let fit = files_fit _ c.args.mounted _ _ _ _ _ one two (c.requires.image_fit old) (c.requires.journal_fit old) redo in
    rw (c.unmake.ensures.counted third) (reason_weaker ⊥ ⊥ _ _ _ _ NoneUnfit NoneUnfit c.in-Err.unopened.why (λ wrong. wrong) (λ unfit wrong. wrong)
    (other_before c.args.names.now _ _ _ _ _ one two redo c.in-Err.unopened.which) (λ more. more)
    (c.in-Err.ensures.why opened count (omega (arith, least, below)) fit))

pub returns-in_err-redo-clause-why : goal.returns-in_err-redo-clause-why
returns-in_err-redo-clause-why g c old count below =
    let found = err_from_is_err_and c.from_residual.result c.from_residual.ensures.1 in
    let is : c.from_residual.result ≡ Err c.in_err-redo.field-0.0 = grind (arith, common_steps, found.1, found.2) in
    rw is (redo_refused _ _ _ c.in_err-redo.field-0.0 (c.in_err-redo.ensures.why old count below)
    (λ unmade. let wrong : true ≡ false = unmade.0 in cc))
