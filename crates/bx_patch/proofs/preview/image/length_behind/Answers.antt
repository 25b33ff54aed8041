use Rattle.std.proofs.Common.{ℕ, length, refl, sym, ap, subst, ◌∙◌}
use Rattle.std.proofs.lemmas.Bool.{false≢true}
use Rattle.bx_image.specs.Change.{Fits, effect}
use Rattle.bx_image.specs.declared.change.TheConstants.{MAX_LEN}
use Rattle.bx_patch.proofs.ChangesLemmas.{effects_all, effects_more, fits_all, fits_more}
use Rattle.bx_patch.proofs.preview.image.length_behind.Goals as goal

pub loop-change-init : goal.loop-change-init
loop-change-init g c = record { leads = λ x long. (x, long, refl, (λ f. f, λ f. f)) }

pub loop-change-preserved : goal.loop-change-preserved
loop-change-preserved g c = record {
  leads = λ x long.
      let (z, z_long, leads, fit) = c.loop-change.invariant.leads x long in
      let item = c.change-item.result in
      let more = fits_more c.args.changes.now c.loop-change.change-index item z MAX_LEN c.loop-change-test.true c.change-item.is in
      let P : ℕ → Type 0 = λ n. Fits item n MAX_LEN in
      let fits = subst P (sym z_long) (c.in-Ok.ensures.exact.0 refl) in (
        effect item z,
        sym (c.in-Ok.ensures.len z z_long),
        sym (effects_more _ _ _ _ c.loop-change-test.true c.change-item.is) ∙ leads,
        (λ f. (more.0 (fit.0 f)).1, λ f. fit.1 (more.1 (fits, f))),
      );
}

pub returns-in-Err-clause-exact : goal.returns-in-Err-clause-exact
returns-in-Err-clause-exact g c x long =
    let (z, z_long, leads, fit) = c.loop-change.invariant.leads x long in
    let more = fits_more c.args.changes.now c.loop-change.change-index c.change-item.result z MAX_LEN c.loop-change-test.true c.change-item.is in
    let P : ℕ → Type 0 = λ n. Fits c.change-item.result n MAX_LEN in
    (λ e. absurd (false≢true e), λ f. c.in-Err.ensures.exact.1 (subst P z_long (more.0 (fit.0 f)).0))

pub returns-clause-len : goal.returns-clause-len
returns-clause-len g c x long =
    let (z, z_long, leads, fit) = c.loop-change.invariant.leads x long in
    sym z_long ∙ ap length (sym (effects_all _ _ _ c.loop-change-test.false) ∙ leads)

pub returns-clause-exact : goal.returns-clause-exact
returns-clause-exact g c x long =
    let (z, z_long, leads, fit) = c.loop-change.invariant.leads x long in
    (λ _. fit.1 (fits_all _ _ _ _ c.loop-change-test.false), λ _. refl)
