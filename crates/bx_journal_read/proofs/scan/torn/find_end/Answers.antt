use Rattle.std.proofs.Common.{◌≡◌, ◌∙◌, ◌≤◌, ℕ, List, false, length, length-take, take, ap, sym, subst, arith}
use Rattle.std.specs.Prelude.{IfSome}
use Rattle.bx_journal_format.specs.Text.{Between, IsRest}
use Rattle.bx_journal_format.specs.count.Mark.{IsMark}
use Rattle.bx_journal_format.specs.read.Plain.{HasNoNewline}
use Rattle.bx_journal_read.specs.scan.Recovery.{HasMark}
use Rattle.bx_journal_read.specs.scan.Windows.{IsFrontCounted}
use Rattle.bx_journal_read.proofs.WalkLemmas.{front_surely, torn_found, walked_surely}
use Rattle.bx_journal_read.proofs.ZeroLemmas.{counted_front, ends_within, front_mark, has_front, rest_front, walked_front}
use Rattle.bx_journal_read.proofs.scan.torn.find_end.Goals as goal

pub count_windows-requires-clause-within : goal.count_windows-requires-clause-within
count_windows-requires-clause-within g c h =
    let h0 = c.in_ok-follows.ensures.reads.goes_on.faith.0 h in
    omega (arith, c.requires.within h0, ap length (c.in_ok-follows.ensures.reads.text h0))

pub returns-clause-found : goal.returns-clause-found
returns-clause-found g c =
    let T = g.T.TextStore in
    let text : List ℕ = T.text c.args.store.now in
    let len : ℕ = c.args.len in
    let w = c.args.walk in
    let f = c.in-Some.front in
    let mark = c.in-Some-found.mark in
    let counted = subst (λ o. IfSome o (IsFrontCounted (T.faithful c.may_follow.new.store) (T.text c.may_follow.new.store) false)) c.in-Some.is c.in_ok-counted.ensures.counted in
    let before : f.at ≤ w.at = omega (arith, c.if-front-walk-2.false) in
    let ends = ends_within mark w.at len c.requires.walked.below (subst (λ o. IfSome o (λ mark. IfSome mark (λ m. m.saved ≡ w.at))) c.in-Some-found.is c.in_ok-found.ensures.ends) in
    record {
      torn = λ h.
          let h1 = c.in_ok-follows.ensures.reads.goes_on.faith.1 h in
          let t1 = c.in_ok-follows.ensures.reads.text h in
          let h2 = c.in_ok-counted.ensures.reads.goes_on.faith.1 h1 in
          let t2 = c.in_ok-counted.ensures.reads.text h1 ∙ t1 in
          torn_found (take len text) len w f mark (walked_front text len w (walked_surely (T.faithful c.args.store.now) text false len w h c.requires.walked))
          (counted_front text len f (omega (arith, before, c.requires.walked.below)) (front_surely (T.faithful c.may_follow.new.store) (T.text c.may_follow.new.store) text false f h1 t1 counted))
          (omega (arith, length-take len text, c.requires.within h))
          (omega (arith, c.if-front-walk.false)) before
          (λ r is. subst (λ u. IsRest r.entries r.stage u × HasNoNewline u) (rest_front text w.at len c.requires.walked.below) (c.in_ok-follows.ensures.rest h r is c.if-not-follows.false))
          (λ r first last is.
          has_front text len r.stage mark ends
          (subst (λ t. HasMark t r.stage mark) t2
          (subst (λ o. IfSome o (HasMark (T.text c.count_windows.new.store) r.stage)) c.in-Some-found.is
          (c.in_ok-found.ensures.mark h2 r (subst (λ t. IsMark t f.at (record { entries = r.entries; stage = Between })) (sym t2) (front_mark text len f.at _ first)) (subst (λ t. IsMark t w.at r) (sym t2) (front_mark text len w.at r last)) is))));
      few = counted.few;
      order = subst (λ o. IfSome o (λ mark. IfSome mark (λ m. m.lines ≤ m.saved))) c.in-Some-found.is c.in_ok-found.ensures.order;
      within = omega (arith, before, c.requires.walked.below);
    }
