use Rattle.std.proofs.Common.{false, ◌≤◌, length, ap, sym, ◌∙◌, subst, rules}
use Rattle.std.specs.Prelude.{IfSome}
use Rattle.bx_image.proofs.Survivors.{NoMore_then}
use Rattle.bx_journal_format.specs.declared.read.types.Front.{Front}
use Rattle.bx_journal_read.specs.scan.Windows.{IsFrontCounted}
use Rattle.bx_journal_read.proofs.LastLemmas.{found_last_before}
use Rattle.bx_journal_read.proofs.WindowLemmas.{front_after}
use Rattle.bx_journal_read.proofs.scan.entries.find_last.Goals as goal

pub read_from-requires-clause-within : goal.read_from-requires-clause-within
read_from-requires-clause-within g c = subst (λ o. IfSome o (λ (f : Front). f.at ≤ c.in_ok-len.len)) c.in-Some.is c.in_ok-found.ensures.within

pub read_from-requires-clause-long : goal.read_from-requires-clause-long
read_from-requires-clause-long g c h =
    let before = c.count_front.ensures.reads.looks.faith.0 h in
    let first = c.len.ensures.goes_on.faith.0 before in
    c.in_ok-len.ensures.len first ∙ sym (ap length (c.count_front.ensures.reads.looks.same before ∙ c.len.ensures.text first))

pub read_from-requires-clause-front : goal.read_from-requires-clause-front
read_from-requires-clause-front g c =
    front_after (g.T.TextStore.faithful c.len.new.self) (g.T.TextStore.faithful c.count_front.new.store) (g.T.TextStore.text c.len.new.self) (g.T.TextStore.text c.count_front.new.store) false c.in-Some.front
    c.count_front.ensures.reads.looks.faith.0 c.count_front.ensures.reads.looks.same
    (subst (λ o. IfSome o (IsFrontCounted (g.T.TextStore.faithful c.len.new.self) (g.T.TextStore.text c.len.new.self) false)) c.in-Some.is c.in_ok-found.ensures.counted)

pub returns : goal.returns
returns g c = record {
  read = found_last_before (g.T.TextStore.faithful c.args.store.now) (g.T.TextStore.faithful c.count_front.new.store) (g.T.TextStore.text c.args.store.now) (g.T.TextStore.text c.count_front.new.store)
      (λ h. c.count_front.ensures.reads.looks.faith.1 (c.len.ensures.goes_on.faith.1 h)) (λ h. c.count_front.ensures.reads.looks.same (c.len.ensures.goes_on.faith.1 h) ∙ c.len.ensures.text h) c.args.count c.read_from.result c.read_from.ensures.read;
  few = c.read_from.ensures.few;
  fault = c.read_from.ensures.fault;
  looks = search rules;
  found_before = λ h.
      let first = c.len.ensures.goes_on.faith.1 h in
      NoMore_then _ _ _ (c.len.ensures.survives h) (NoMore_then _ _ _ (c.count_front.ensures.reads.survives first) (c.read_from.ensures.found_before (c.count_front.ensures.reads.looks.faith.1 first)));
}
