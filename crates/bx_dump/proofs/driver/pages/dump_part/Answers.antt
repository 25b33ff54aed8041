use Rattle.std.proofs.Common.{◌≡◌, arith}
use Rattle.bx_dump.specs.Pages.{bytes_dumped}
use Rattle.bx_dump.proofs.PagesLemmas.{part_short, part_whole, front_skip, front_behind}
use Rattle.bx_dump.proofs.DumpLemmas.{ok_along, err_along}
use Rattle.bx_dump.proofs.driver.pages.dump_part.Goals as goal

pub returns-in-Ok-false-clause-ok : goal.returns-in-Ok-false-clause-ok
returns-in-Ok-false-clause-ok g c =
    let front = rw (c.in-Ok-false.field-0-test, c.new-meter.ensures.limit, c.new-meter.ensures.taken) at c.in-Ok-false.ensures.ok in
    part_short (g.P.Pages.text c.args.pages.now) c.args.from c.args.limit _ _ _ c.requires.empty front

pub returns-in-Err-clause-err : goal.returns-in-Err-clause-err
returns-in-Err-clause-err g c =
    let stop = rw (c.new-meter.ensures.limit, c.new-meter.ensures.taken) at (c.in-Err.ensures.stopped c.new-meter.ensures.state) in
    front_skip (g.P.Pages.kept c.args.pages.now) (λ xs. g.P.Pages.text c.args.pages.now (bytes_dumped c.args.from c.args.limit xs)) c.args.from c.args.limit c.args.before _ _ _ c.in-Err.fault stop

pub returns-clause-ok : goal.returns-clause-ok
returns-clause-ok g c =
    let front = rw (c.in-Ok-true.field-0-test, c.new-meter.ensures.limit, c.new-meter.ensures.taken) at c.in-Ok-true.ensures.ok in
    let taken : c.skip_front.new.meter.taken ≡ c.args.from = omega (arith, (c.in-Ok-true.ensures.open c.in-Ok-true.field-0-test).1, c.new-meter.ensures.taken) in
    let rest = rw taken at c.dump_pages.ensures.ok in
    ok_along c.dump_pages.result _ _ (λ d p. part_whole (g.P.Pages.text c.args.pages.now) c.args.from c.args.limit _ _ _ _ _ d.read d.written front p) rest

pub returns-clause-err : goal.returns-clause-err
returns-clause-err g c =
    let front = rw (c.in-Ok-true.field-0-test, c.new-meter.ensures.limit, c.new-meter.ensures.taken) at c.in-Ok-true.ensures.ok in
    let text = g.P.Pages.text c.args.pages.now in
    let taken : c.skip_front.new.meter.taken ≡ c.args.from = omega (arith, (c.in-Ok-true.ensures.open c.in-Ok-true.field-0-test).1, c.new-meter.ensures.taken) in
    let stop = rw taken at c.dump_pages.ensures.err in
    err_along c.dump_pages.result _ _ (λ e p. front_behind (g.P.Pages.kept c.args.pages.now) text c.args.from c.args.limit c.args.before _ _ _ _ _ e front p) stop
