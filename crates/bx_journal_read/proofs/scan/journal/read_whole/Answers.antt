use Rattle.std.proofs.Common.{◌≡◌, ◌≤◌, ◌∙◌, length, take_all, sym, subst, arith, rules}
use Rattle.bx_journal_format.specs.Shown.{shown}
use Rattle.bx_journal_format.specs.read.Journal.{HasRead}
use Rattle.bx_journal_format.specs.count.Tally.{IsCounted}
use Rattle.bx_journal_format.specs.Parsed.{reading_of}
use Rattle.bx_journal_format.proofs.ShownLemmas.{shown_is_front, shown_short}
use Rattle.bx_journal_read.specs.scan.Recovery.{IsTornIn}
use Rattle.bx_journal_read.proofs.RecoverLemmas.{unfinished_shown}
use Rattle.bx_journal_read.proofs.scan.journal.read_whole.Goals as goal

pub returns-in-Some : goal.returns-in-Some
returns-in-Some g c =
    let bytes = c.in-Ok.bytes in
    let long : c.len-len.result ≡ length bytes.items = omega (arith, c.len-len.ensures, bytes.ok.0, bytes.ok.1) in
    let read : HasRead (shown bytes.items) c.in-Ok-read_journal.journal = subst (λ t. HasRead t c.in-Ok-read_journal.journal) c.as_shown.ensures c.in-Ok-read_journal.ensures.read in
    let most : length (shown bytes.items) ≤ c.len-len.result = omega (arith, long, shown_short bytes.items) in
    let all : length bytes.items ≤ length (shown bytes.items) = omega (arith, long, c.in-Some.ensures.whole (shown bytes.items) read most) in
    record {
      found = record {
        text = bytes.items;
        is = λ th. sym (c.in-Ok.ensures.bytes th);
        counted = subst (λ t. IsCounted t c.in-Some.counted.count c.in-Some.counted.told) (shown_is_front bytes.items ∙ take_all (length (shown bytes.items)) bytes.items all) (c.in-Some.ensures.some (shown bytes.items) read most);
        few = c.in-Some.ensures.few;
      };
      fault = tt;
      looks = record { same = search rules; faith = search rules; no_failure = c.in-Ok.ensures.goes_on.counted; counts = tt };
      found_before = c.in-Ok.ensures.survives;
    }

pub returns : goal.returns
returns g c =
    let bytes = c.in-Ok.bytes in
    let j = c.in-Ok-read_journal.journal in
    let long : c.len-len.result ≡ length bytes.items = omega (arith, c.len-len.ensures, bytes.ok.0, bytes.ok.1) in
    let read : HasRead (shown bytes.items) j = subst (λ t. HasRead t j) c.as_shown.ensures c.in-Ok-read_journal.ensures.read in
    record {
      found = record {
        torn = λ th. subst (λ t. IsTornIn t c.as_torn.result) (c.in-Ok.ensures.bytes th)
            (record { reading = reading_of j.entries.items j.stage; torn = c.as_torn.ensures.torn (shown bytes.items) read; unfinished = unfinished_shown bytes.items j read (λ is all. c.in-None.ensures.none is (all ∙ sym long)) });
        few = c.as_torn.ensures.few;
        order = c.as_torn.ensures.order;
      };
      fault = tt;
      looks = record { same = search rules; faith = search rules; no_failure = c.in-Ok.ensures.goes_on.counted; counts = tt };
      found_before = c.in-Ok.ensures.survives;
    }
