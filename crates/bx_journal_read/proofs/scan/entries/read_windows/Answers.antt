use Rattle.std.proofs.Common.{refl}
use Rattle.bx_journal_read.proofs.LastLemmas.{front_is}
use Rattle.bx_journal_read.proofs.scan.entries.read_windows.Goals as goal

pub scan_windows-requires-clause-led : goal.scan_windows-requires-clause-led
scan_windows-requires-clause-led g c =
    let f = c.requires.front in
    record {
      text = f.front;
      is = f.is;
      long = f.long;
      leads = (f.counted.counted.entries, c.in_ok-read.ensures.read f.front f.counted.counted.entries (front_is (g.T.TextStore.faithful c.args.store.now) (g.T.TextStore.text c.args.store.now) c.args.front f), refl);
    }
