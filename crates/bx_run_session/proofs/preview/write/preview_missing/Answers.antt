use Rattle.bx_run_session.proofs.PreviewFailed.{never_failed}
use Rattle.bx_run_session.specs.preview.Previews.{is_preview_failed}
use Rattle.bx_run_session.proofs.preview.write.preview_missing.Goals as goal

pub returns-clause-calm : goal.returns-clause-calm
returns-clause-calm g c = never_failed (is_preview_failed c.preview_pair.result.1) (c.preview_pair.ensures.failed tt tt)
