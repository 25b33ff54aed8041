use Rattle.std.proofs.Common.{◌≡◌, ◌∙◌, length, sym, arith}
use Rattle.bx_journal_read.proofs.AgainLemmas.{apart_of}
use Rattle.bx_journal_read.proofs.scan.entries.read_again.Goals as goal

pub returns-in-None-clause-fault : goal.returns-in-None-clause-fault
returns-in-None-clause-fault g c th =
    let bytes = c.in-Ok.bytes in
    let long : c.len-len.result ≡ length bytes.items = omega (arith, c.len-len.ensures, bytes.ok.0, bytes.ok.1) in
    apart_of (g.T.TextStore.text c.args.store.now) bytes.items c.in-Ok-read_journal.journal c.args.count c.in-Ok-read_journal.ensures.read
    (sym (c.in-Ok.ensures.bytes th)) (c.in-None.ensures.none bytes.items c.in-Ok-read_journal.ensures.read long)

pub returns-in-Some-clause-read : goal.returns-in-Some-clause-read
returns-in-Some-clause-read g c =
    let bytes = c.in-Ok.bytes in
    let long : c.len-len.result ≡ length bytes.items = omega (arith, c.len-len.ensures, bytes.ok.0, bytes.ok.1) in record {
      text = bytes.items;
      is = λ th. sym (c.in-Ok.ensures.bytes th);
      long = c.in-Some.ensures.len ∙ long;
      countable = omega (arith, bytes.ok.0, bytes.ok.1, bytes.small);
      read = c.in-Some.ensures.some bytes.items c.in-Ok-read_journal.ensures.read long;
    }
