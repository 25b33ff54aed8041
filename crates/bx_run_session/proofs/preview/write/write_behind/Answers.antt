use Rattle.std.proofs.Common.{◌≡◌, false, inl, refl}
use Rattle.bx_patch.specs.Diff.{fails, of_new}
use Rattle.bx_patch.specs.preview.Changed.{AreBeforeAndBehind, effects, faithful_behind, image_behind}
use Rattle.bx_patch.proofs.UntouchedLemmas.{still_behind}
use Rattle.bx_run_model.proofs.Compared.{failed_behind, failed_first}
use Rattle.bx_run_session.proofs.PreviewFailed.{failed_unchanged}
use Rattle.bx_run_session.proofs.Previewing.{compared, unchanged}
use Rattle.bx_run_session.proofs.preview.write.write_behind.Goals as goal

pub returns-in-Err : goal.returns-in-Err
returns-in-Err g c = record {
  compared = λ change alone faithful twin same.
      rw c.unchanged_for.ensures (unchanged change (g.D.Device.image c.args.image.now) (g.O.Write.contents c.args.out.now)
      (g.D.Device.image c.args.again) c.args.changes.now same alone c.in-Err.fault (c.in-Err.ensures.fault twin));
  failed = λ twin is. failed_unchanged c.in-Err.fault _ _ _ c.in-Err.ensures.device.goes_on.counted (rw c.unchanged_for.ensures at is);
}

pub searched-changed-requires : goal.searched-changed-requires
searched-changed-requires g c = rw c.in-Ok.ensures.changes c.of-index.ensures

pub returns : goal.returns
returns g c = record {
  compared = λ change alone faithful twin same.
      let searched = c.searched-changed.result in
      let is = c.searched-changed.ensures in
      let image_is : image_behind g.D.Device searched ≡ effects c.args.changes.now (g.D.Device.image c.args.again) = rw is (c.in-Ok.ensures.image twin) in
      let new_is : faithful_behind g.D.Device searched = rw is (c.in-Ok.ensures.faithful twin) in
      let said = c.write_patch-outcome.ensures in
      let lent = c.untouched-untouched.ensures in
      let behind : AreBeforeAndBehind searched.changes searched.before (g.D.Device.image c.args.again) (image_behind g.D.Device searched) = rw is (c.in-Ok.ensures.behind twin) in
      let known = inl (still_behind _ _ _ _ (g.D.Device.image c.args.again) (g.D.Device.image c.args.image.now) _ lent.changes lent.before same behind) in
      compared change (g.D.Device.image c.args.image.now) _ _ (g.D.Device.image c.args.image.now) (g.D.Device.image c.args.again) _
      c.args.changes.now refl same alone image_is c.write_patch-outcome.result
      (said.text faithful new_is known) (said.part faithful new_is known) (said.fault faithful new_is);
  failed = λ twin failed.
      let searched = c.searched-changed.result in
      let is = c.searched-changed.ensures in
      let new_is : faithful_behind g.D.Device searched = rw is (c.in-Ok.ensures.faithful twin) in
      let none : searched.refused ≡ false = rw is c.in-Ok.ensures.refused in
      let said = c.write_patch-outcome.ensures in
      let r = c.write_patch-outcome.result in
      failed_behind g.D.Device (fails of_new r) _ _ _ _ _ said.new new_is none c.into_device.ensures.failures (failed_first r _ _ said.old.goes_on.counted) failed;
}
