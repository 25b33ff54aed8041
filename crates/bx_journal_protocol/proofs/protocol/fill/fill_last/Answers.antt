use Rattle.std.proofs.Common.{◌≡◌, ◌++◌, ◌∙◌, length, take, drop, ap, sym, subst}
use Rattle.std.specs.Prelude.{OnOk}
use Rattle.bx_image.proofs.FillLemmas.{lent_is}
use Rattle.bx_journal_protocol.specs.protocol.Takens.{AreFilled}
use Rattle.bx_journal_protocol.proofs.protocol.fill.fill_last.Goals as goal

pub returns-clause-filled : goal.returns-clause-filled
returns-clause-filled g c faithful =
    let x = g.D.Device.image c.args.image.now in
    let ts = c.args.takens.now in
    let news = c.fill_end.new.takens in
    let value = c.as_mut_slice.ensures.value in
    let long : length news ≡ length ts.items = c.fill_end.ensures.count ∙ ap length value in
    let rest = drop (length news) ts.items in
    let is : take ts.len (news ++ rest) ≡ news = ap (λ n. take n (news ++ rest)) ts.ok.0 ∙ lent_is ts.items news rest long in
    subst (λ us. OnOk c.fill_end.result (AreFilled x ts.items us)) (sym is) (subst (λ us. OnOk c.fill_end.result (AreFilled x us news)) value (c.fill_end.ensures.filled faithful))
