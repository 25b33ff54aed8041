use Rattle.std.proofs.Common.{◌+◌, ◌≤◌, max, ◌^◌, length, take, arith}
use Rattle.std.proofs.lemmas.List.{length-take}
use Rattle.bx_dd.specs.Output.{converted}
use Rattle.bx_dd.proofs.CopyLemmas.{ahead_of, stage_near, write_stops}
use Rattle.bx_dd.proofs.stream.copy.copy_rest.Goals as goal

pub returns-in-Ok-finish-clause-ok : goal.returns-in-Ok-finish-clause-ok
returns-in-Ok-finish-clause-ok g c =
    let p = c.in-Ok.ensures.ok in
    let end = c.in-Ok-finish.ensures.ok p.input (g.W.Write.contents c.args.w.now) p.stage in
    record {
      input = p.input;
      consumed = p.consumed;
      within = p.within;
      ends = p.ends;
      few = omega (arith, p.read, c.in-Ok.ensures.taken, c.in-Ok.ensures.limit, c.copy_units.new.meter.within);
      appended = end.0;
      counted = c.counts.ensures.counts p.input p.read end.1 end.2;
    }

pub returns-in-Err-finish-clause-err : goal.returns-in-Err-finish-clause-err
returns-in-Err-finish-clause-err g c =
    let p = c.in-Ok.ensures.ok in
    let few : c.args.meter.now.taken + length p.input ≤ 2 ^ 40 = omega (arith, p.read, c.in-Ok.ensures.taken, c.in-Ok.ensures.limit, c.copy_units.new.meter.within) in
    let have = c.in-Ok.turn.have in
    let pending = take have c.copy_units.new.buf in
    let page = c.copy_units.new.waiting.page in
    let within = c.in-Ok.ensures.within in
    let last : length pending ≤ max (2 ^ 24) c.args.task.form.ibs = omega (arith, length-take have c.copy_units.new.buf, within.2, c.requires.fresh.inside, c.requires.fresh.few) in
    let ahead = ahead_of c.args.task.form.ibs (converted c.args.task.form) p.input p.stage.done pending page.written c.in-Err-finish.fault p.stage.parts last
    (stage_near p.stage c.requires.fresh.sizes page.near within.0) c.in-Err-finish.ensures.grows in
    write_stops c.args.task.form _ _ _ _ p.input c.args.task.most c.args.meter.now.taken c.in-Err-finish.fault p.consumed p.within few ahead
    (c.in-Err-finish.ensures.err p.input (g.W.Write.contents c.args.w.now) p.stage)
