use Rattle.std.proofs.Common.{◌≡◌, ◌+◌, ◌-◌, ◌*◌, ◌<◌, ◌≤◌, ◌++◌, ◌∷◌, [], length, take, drop, get_or, arith, refl, sym, ◌∙◌}
use Rattle.std.proofs.lemmas.List.{length-take-le, take_more}
use Rattle.bx_text.proofs.KnownLemmas.{take-put_mid_more}
use Rattle.bx_dump.specs.private.Scan.{pending}
use Rattle.bx_dump.specs.private.Chars.{chars_left}
use Rattle.bx_dump.proofs.ScanLemmas.{pending_most}
use Rattle.bx_dump.proofs.CharsLemmas.{chars_left-none, chars_step, chars_text-none, left_step}
use Rattle.bx_dump.proofs.strings.dump.chars.state.Chars.put.Goals as goal

pub loop-done-init : goal.loop-done-init
loop-done-init c =
    let self = c.args.self.now in
    record {
      inside = omega arith;
      encoding = refl;
      least = refl;
      offsets = refl;
      cost = omega (arith, pending_most self.runs.least self.runs.count, self.within, self.few);
      text = λ now was. chars_text-none self.encoding self.runs.least self.runs.offsets c.args.at now;
      kept = λ now was. rw (← chars_left-none self.encoding now) was;
    }

pub loop-done-preserved : goal.loop-done-preserved
loop-done-preserved c =
    let before = c.loop-done.invariant in
    let next = c.put_byte-used.ensures in
    let self = c.args.self.now in
    let bytes = c.args.bytes.now in
    let done = c.loop-done.done in
    let used = c.loop-done.used in
    let page = c.loop-done.page in
    let b = get_or bytes done 0 in
    let size : length (take done bytes) ≡ done = length-take-le done bytes before.inside in
    let join : take (done + 1) bytes ≡ take done bytes ++ b ∷ [] = take_more bytes done 0 (omega (arith, c.loop-done-test.true)) in
    let cost : used + c.put_byte-used.result + pending c.put_byte-used.new.self.runs.least c.put_byte-used.new.self.runs.count ≤ 4096 + 25 * (done + 1) = omega (arith, before.cost, next.cost) in
    let room : used + c.put_byte-used.result ≤ length page = omega (arith, cost, c.loop-done-test.true, c.requires.room, c.loop-done.auto.page) in
    let more = take-put_mid_more page c.put_byte-used.new.page used (length page - used) c.put_byte-used.result (omega (arith, room)) (omega (arith, room, c.put_byte-used.auto.page)) in
    record {
      inside = omega (arith, c.loop-done-test.true);
      encoding = next.encoding ∙ before.encoding;
      least = next.least ∙ before.least;
      offsets = next.offsets ∙ before.offsets;
      cost = cost;
      text = λ now was.
          let is = before.kept now was in
          let put = rw (before.encoding, before.least, before.offsets) at (next.text (chars_left self.encoding now (take done bytes)) is) in
          more ∙ chars_step self.encoding self.runs.least self.runs.offsets c.args.at done now bytes b size join (take used page) (take c.put_byte-used.result c.put_byte-used.new.page) (before.text now was) put;
      kept = λ now was.
          let is = before.kept now was in
          let left = left_step self.encoding self.runs.least self.runs.offsets c.args.at done now bytes b size join in
          rw left (rw before.encoding at (next.kept (chars_left self.encoding now (take done bytes)) is));
    }
