use Rattle.std.proofs.Common.{◌≡◌, ◌+◌, ◌-◌, ◌<◌, ◌≤◌, ◌++◌, length, take, sym, ap, ◌∙◌, arith, append_assoc}
use Rattle.bx_dump_columns.specs.Places.{place_text}
use Rattle.bx_dump.proofs.ScanLemmas.{scan_long, scan_short, scan_crossing}
use Rattle.bx_dump.proofs.strings.dump.Runs.grow.Goals as goal

pub returns-then-self-clause-text : goal.returns-then-self-clause-text
returns-then-self-clause-text c run kept =
    let self = c.args.self.now in
    let zero_more : 0 + length c.args.more.now ≡ length c.args.more.now = omega arith in
    let is : take (length c.args.more.now) c.put_at.new.page ≡ c.args.more.now = rw zero_more at c.put_at.ensures in
    is ∙ sym (scan_long self.least self.offsets c.args.at run c.args.more.now c.requires.printing (kept.long (omega (arith, c.if-self.true))))

pub returns-then-self-more-clause-text : goal.returns-then-self-more-clause-text
returns-then-self-more-clause-text c run kept =
    let self = c.args.self.now in
    let short : self.count < self.least = omega (arith, c.if-self-more.true) in
    sym (scan_short self.least self.offsets c.args.at run c.args.more.now c.requires.printing (omega (arith, (kept.short short).0, c.if-self-more.true)))

pub returns-clause-text : goal.returns-clause-text
returns-clause-text c run kept =
    let self = c.args.self.now in
    let short : self.count < self.least = omega (arith, c.requires.within, c.if-self.false) in
    let k = kept.short short in
    let front : take c.put_front-used.result c.put_front-used.new.page ≡ place_text self.offsets (c.args.at - length run) ++ run =
    rw k.1 at c.put_front-used.ensures.text in
    let long : self.least ≤ length run + length c.args.more.now = omega (arith, k.0, c.if-self-more.false) in
    c.put_at-2.ensures ∙ ap (λ t. t ++ c.args.more.now) front ∙ append_assoc (place_text self.offsets (c.args.at - length run)) run c.args.more.now
    ∙ sym (scan_crossing self.least self.offsets c.args.at run c.args.more.now c.requires.printing (omega (arith, k.0, short)) long)
