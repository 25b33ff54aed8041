use Rattle.std.proofs.Common.{◌≡◌, ◌++◌, List, ℕ, ap, ◌∙◌, subst}
use Rattle.bx_text.specs.Writing.{WritesFront}
use Rattle.bx_dd.specs.Output.{converted, turned_blocks}
use Rattle.bx_dd.specs.private.Standing.{last_of}
use Rattle.bx_dd.proofs.RecordsLemmas.{Stands_last}
use Rattle.bx_dd.proofs.FlowLemmas.{cut_all}
use Rattle.bx_dd.proofs.CopyLemmas.{goes_all, stage_end, stage_end_stops}
use Rattle.bx_dd.proofs.stream.copy.finish.Goals as goal

pub returns-in-Err-clause-err : goal.returns-in-Err-clause-err
returns-in-Err-clause-err g c input start stage =
    stage_end_stops stage c.requires.sizes _ c.turn_last-n.ensures.bytes _ c.in-Err.fault (c.in-Err.ensures.err (turned_blocks c.args.form stage.done) start stage.flows)

pub returns-in-Err-push_rest-clause-err : goal.returns-in-Err-push_rest-clause-err
returns-in-Err-push_rest-clause-err g c input start stage =
    let form = c.args.form in
    let kept = c.push_shaped.new.held.items in
    let flows = stage_end stage c.requires.sizes _ c.turn_last-n.ensures.bytes (c.in-Ok.ensures.ok (turned_blocks form stage.done) start stage.flows) in
    let last = Stands_last form.shape form.cbs (turned_blocks form input) flows.text kept c.in-Ok.tail.over c.in-Ok.tail.cut c.requires.sizes.some_cbs flows.stands in
    let same : flows.text ++ last_of form.shape form.cbs c.as_slice.result.now ≡ converted form input = ap (λ l. flows.text ++ last_of form.shape form.cbs l) c.as_slice.ensures.value ∙ last.0 in
    subst (λ (l : List ℕ). WritesFront 0 start (g.W.Write.contents c.push_rest.new.w) l c.in-Err-push_rest.fault) same (c.in-Err-push_rest.ensures.err start flows.text flows.goes)

pub returns-in-Ok-flush-clause-ok : goal.returns-in-Ok-flush-clause-ok
returns-in-Ok-flush-clause-ok g c input start stage =
    let form = c.args.form in
    let kept = c.push_shaped.new.held.items in
    let flows = stage_end stage c.requires.sizes _ c.turn_last-n.ensures.bytes (c.in-Ok.ensures.ok (turned_blocks form stage.done) start stage.flows) in
    let last = Stands_last form.shape form.cbs (turned_blocks form input) flows.text kept c.in-Ok.tail.over c.in-Ok.tail.cut c.requires.sizes.some_cbs flows.stands in
    let text = flows.text ++ last_of form.shape form.cbs c.as_slice.result.now in
    let same : text ≡ converted form input = ap (λ l. flows.text ++ last_of form.shape form.cbs l) c.as_slice.ensures.value ∙ last.0 in
    let all = goes_all start (g.W.Write.contents c.flush.new.w) c.flush.new.self.bytes.items text (converted form input) c.flush.new.self.written c.in-Ok-flush.ensures.none same
    (c.in-Ok-flush.ensures.ok start text (c.in-Ok-push_rest.ensures.ok start flows.text flows.goes)) in
    (all.0, all.1, cut_all c.in-Ok.tail.over c.in-Ok.tail.cut ∙ last.1)

pub returns-in-Err-flush-clause-err : goal.returns-in-Err-flush-clause-err
returns-in-Err-flush-clause-err g c input start stage =
    let form = c.args.form in
    let kept = c.push_shaped.new.held.items in
    let flows = stage_end stage c.requires.sizes _ c.turn_last-n.ensures.bytes (c.in-Ok.ensures.ok (turned_blocks form stage.done) start stage.flows) in
    let last = Stands_last form.shape form.cbs (turned_blocks form input) flows.text kept c.in-Ok.tail.over c.in-Ok.tail.cut c.requires.sizes.some_cbs flows.stands in
    let text = flows.text ++ last_of form.shape form.cbs c.as_slice.result.now in
    let same : text ≡ converted form input = ap (λ l. flows.text ++ last_of form.shape form.cbs l) c.as_slice.ensures.value ∙ last.0 in
    subst (λ (l : List ℕ). WritesFront 0 start (g.W.Write.contents c.flush.new.w) l c.in-Err-flush.fault) same
    (c.in-Err-flush.ensures.err start text (c.in-Ok-push_rest.ensures.ok start flows.text flows.goes))
