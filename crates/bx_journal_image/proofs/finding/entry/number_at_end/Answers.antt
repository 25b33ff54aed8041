use Rattle.std.proofs.Common.{◌≡◌, ◌-◌, ◌+◌, ap, drop, length, arith, take, ◌∙◌}
use Rattle.bx_journal_image.proofs.EntryLemmas.{ends_none, ends_some, no_end, none_weaker, some_weaker}
use Rattle.bx_journal_image.proofs.finding.entry.number_at_end.Goals as goal

pub returns-then-len-clause-none : goal.returns-then-len-clause-none
returns-then-len-clause-none g c = λ h n ends. no_end (g.T.TextStore.text c.args.store.now) n (omega (arith, c.if-len.true, c.requires.long h)) ends

pub returns-clause-some : goal.returns-clause-some
returns-clause-some g c = λ h.
    let text = g.T.TextStore.text c.args.store.now in
    let is : length c.split_at_mut-last.result.0.now ≡ 32 = omega (arith, c.split_at_mut-last.ensures.front_len) in
    let bytes : c.read_at.new.buf ≡ take 32 (drop (c.args.len - 32) text) = c.in_ok-read_at.ensures.bytes h ∙ ap (λ k. take k (drop (c.args.len - 32) text)) is in
    let long : (c.args.len - 32) + 32 ≡ length text = omega (arith, c.if-len.false, c.requires.long h) in
    some_weaker c.end_of.result _ _ (λ n ends. ends_some text c.read_at.new.buf (c.args.len - 32) n bytes long ends) c.end_of.ensures.some

pub returns-clause-none : goal.returns-clause-none
returns-clause-none g c = λ h.
    let text = g.T.TextStore.text c.args.store.now in
    let is : length c.split_at_mut-last.result.0.now ≡ 32 = omega (arith, c.split_at_mut-last.ensures.front_len) in
    let bytes : c.read_at.new.buf ≡ take 32 (drop (c.args.len - 32) text) = c.in_ok-read_at.ensures.bytes h ∙ ap (λ k. take k (drop (c.args.len - 32) text)) is in
    let long : (c.args.len - 32) + 32 ≡ length text = omega (arith, c.if-len.false, c.requires.long h) in
    none_weaker c.end_of.result _ _ (λ none n ends. none n (ends_none text c.read_at.new.buf (c.args.len - 32) n bytes long ends)) c.end_of.ensures.none
