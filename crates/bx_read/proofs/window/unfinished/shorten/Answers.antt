use Rattle.std.proofs.Common.{◌≡◌, ◌≤◌, inr, ap, subst, take, length, Err, arith}
use Rattle.std.proofs.lemmas.List.{take_rest}
use Rattle.bx_read.specs.Digits.{data_of}
use Rattle.bx_read.specs.Line.{read_line}
use Rattle.bx_read.proofs.UnfinishedLemmas.{wide_stands, gap_fault, gap_stands}
use Rattle.bx_read.proofs.window.unfinished.shorten.Goals as goal

pub returns-then-text-end-lt2-clause-stands : goal.returns-then-text-end-lt2-clause-stands
returns-then-text-end-lt2-clause-stands g c = λ apart.
    let text = c.as_slice-text.result.now in
    wide_stands c.args.front.now.items c.in-Ok-wide_front.short.items text _ c.in-Ok.cut c.in-Ok.ensures.wide c.as_slice-text.ensures.value (take_rest text c.in-Ok.cut)
    c.in-Ok-wide_front.ensures.text (omega (arith, c.requires.long)) apart

pub returns-then-end-gt-MOST-clause-fault : goal.returns-then-end-gt-MOST-clause-fault
returns-then-end-gt-MOST-clause-fault g c = inr (λ apart.
    let front = c.args.front.now.items in
    let end = c.data_len-end.result in
    let is = c.as_slice-text.ensures.value in
    let ends = subst (λ t. take end t ≡ data_of t) is c.data_len-end.ensures.front in
    let within = subst (λ t. end ≤ length t) is c.data_len-end.ensures.within in
    let read = subst (λ t. read_line c.args.number t ≡ Err c.long_fault.result) is c.long_fault.ensures in
    gap_fault front end ends within (omega (arith, c.if-text-end-lt2.false, ap length is)) apart c.args.number c.long_fault.result read)

pub returns-clause-stands : goal.returns-clause-stands
returns-clause-stands g c = λ apart.
    let front = c.args.front.now.items in
    let end = c.data_len-end.result in
    let is = c.as_slice-text.ensures.value in
    let ends = subst (λ t. take end t ≡ data_of t) is c.data_len-end.ensures.front in
    let within = subst (λ t. end ≤ length t) is c.data_len-end.ensures.within in
    gap_stands front end ends within (omega (arith, c.if-text-end-lt2.false, ap length is)) apart c.truncate.new.self.items c.truncate.ensures.items
