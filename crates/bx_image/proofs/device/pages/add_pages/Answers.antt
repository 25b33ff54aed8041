use Rattle.std.proofs.Common.{◌≤◌, ◌∙◌, length, arith, rules}
use Rattle.bx_image.proofs.Paging.{front_kept, bytes_kept}
use Rattle.bx_image.proofs.device.pages.add_pages.Goals as goal

pub loop-preserved : goal.loop-preserved
loop-preserved g c =
    let before = c.loop.invariant in
    let push = c.in_ok-push.ensures in
    let within : c.len-held.result ≤ length c.loop.pages.items = search rules in
    record {
      held = before.held;
      front = front_kept c.loop.pages.items _ _ c.in_ok-page.page c.len-held.result push.items within before.front;
      len = search rules;
      most = omega arith;
      bytes = λ i. bytes_kept c.loop.pages.items _ (λ p. p.value) c.in_ok-page.page 4096 push.items c.in_ok-page.ensures i ∙ before.bytes i;
    }
