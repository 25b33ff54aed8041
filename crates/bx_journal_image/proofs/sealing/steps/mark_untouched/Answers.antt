use Rattle.std.proofs.Common.{◌≡◌, ◌++◌, ℕ, arith, length, length-append, subst}
use Rattle.bx_journal_format.specs.Text.{split}
use Rattle.bx_journal_read.specs.scan.Windows.{rest_to}
use Rattle.bx_journal_image.specs.Blocks.{AreStruck, HasLongLine, ranges_in}
use Rattle.bx_journal_image.proofs.SealLemmas.{steps_struck, steps_unknown}
use Rattle.bx_journal_image.proofs.sealing.steps.mark_untouched.Goals as goal

pub returns-then-not-all-clause-marks : goal.returns-then-not-all-clause-marks
returns-then-not-all-clause-marks g c = λ hi ht.
    let read = c.in_ok-to.ensures in
    let wide : length (c.mark_image.new.room ++ c.split_at_mut-block.result.1.now) ≡ 65536 =
    omega (arith, length-append c.mark_image.new.room c.split_at_mut-block.result.1.now, c.in_ok-blocks.ensures.room, c.split_at_mut-block.ensures.back_len, c.requires.room) in
    let long : HasLongLine 65536 0 c.in_ok-to.to (g.T.TextStore.text c.len.new.self) =
    subst (λ (n : ℕ). HasLongLine n 0 c.in_ok-to.to (g.T.TextStore.text c.len.new.self)) wide (c.in_ok-all.ensures.long (read.goes_on.faith.1 ht) c.if-not-all.true) in
    steps_unknown (g.D.Device.image c.args.image.now) (g.T.TextStore.text c.args.text.now) c.in_ok-to.to (read.len ht)
    (subst (λ t. HasLongLine 65536 0 c.in_ok-to.to t) (read.text ht) long)

pub returns-else-not-all-clause-marks : goal.returns-else-not-all-clause-marks
returns-else-not-all-clause-marks g c = λ hi ht.
    let read = c.in_ok-to.ensures in
    let blocks = c.in_ok-blocks.blocks in
    let struck : AreStruck blocks.total (ranges_in (split (rest_to c.in_ok-to.to 0 (g.T.TextStore.text c.args.text.now))).lines) blocks.marks c.strike_text.new.marks =
    subst (λ t. AreStruck blocks.total (ranges_in (split (rest_to c.in_ok-to.to 0 t)).lines) blocks.marks c.strike_text.new.marks) (read.text ht)
    (c.in_ok-all.ensures.struck (read.goes_on.faith.1 ht) c.if-not-all.false) in
    steps_struck (g.D.Device.image c.args.image.now) (g.T.TextStore.text c.args.text.now) blocks.total c.in_ok-to.to blocks.marks c.strike_text.new.marks
    (c.in_ok-blocks.ensures.total hi) (read.len ht) (c.in_ok-blocks.ensures.marks hi) struck
