use Rattle.std.proofs.Common.{◌≡◌, ℕ, List, ◌++◌, length, refl, ap, sym, subst, ◌∙◌, arith, append_assoc}
use Rattle.std.proofs.lemmas.Result.{on_ok_weaker, on_err_weaker}
use Rattle.bx_journal_format.specs.Line.{save_line}
use Rattle.bx_journal_format.specs.Text.{ended}
use Rattle.bx_journal_protocol.specs.write.First.{AllHaveFirst}
use Rattle.bx_journal_protocol.specs.write.Ranges.{head_from, rest_text}
use Rattle.bx_journal_protocol.proofs.PageLemmas.{paged_length, part_front, at_err}
use Rattle.bx_journal_protocol.proofs.FadeLemmas.{fades_behind, fades_front, fades_is}
use Rattle.bx_journal_protocol.proofs.FirstLemmas.{all_have_first, head_split, part_behind_first, put_behind, short_have_first}
use Rattle.bx_journal_protocol.proofs.StepSurvivors.{left_behind}
use Rattle.bx_journal_protocol.proofs.write.ranges.put_head_from.Goals as goal

pub returns-in_err-put_first-clause-fault : goal.returns-in_err-put_first-clause-fault
returns-in_err-put_first-clause-fault g c dh th =
    let rest : List ℕ = rest_text (g.D.Device.image c.args.image.now) c.args.ranges.now c.args.head.now.place in
    let page : List ℕ = c.args.head.now.page.items in
    at_err _ (part_front (page ++ rest) (ended (save_line c.args.head.now.number)) _ _ (part_front page rest _ _ (c.in_err-put_first.ensures.fault th)))

pub returns-in_err-put_first-clause-fades : goal.returns-in_err-put_first-clause-fades
returns-in_err-put_first-clause-fades g c dh th =
    let rest : List ℕ = rest_text (g.D.Device.image c.args.image.now) c.args.ranges.now c.args.head.now.place in
    let page : List ℕ = c.args.head.now.page.items in
    fades_front _ (page ++ rest) (ended (save_line c.args.head.now.number)) _ _ (fades_front _ page rest _ _ (c.in_err-put_first.ensures.fades th))

pub returns-in_err-put_first-clause-first : goal.returns-in_err-put_first-clause-first
returns-in_err-put_first-clause-first g c dh th only = short_have_first _ _ _ (c.in_err-put_first.ensures.short th only)

pub put_rest_of-requires-clause-head : goal.put_rest_of-requires-clause-head
put_rest_of-requires-clause-head g c = record {
  ordered = c.requires.head.ordered;
  place = c.requires.head.place;
  window = c.requires.head.window;
  room = omega (arith, c.requires.head.room, c.in_ok-put_first.ensures.room);
}

pub put_rest_of-requires-clause-fits : goal.put_rest_of-requires-clause-fits
put_rest_of-requires-clause-fits g c now =
    let put = c.in_ok-put_first.ensures in
    let th = put.goes_on.faith.0 now in
    omega (arith, paged_length c.args.head.now.page.items _ _ _ (put.ok th), c.requires.fits th, put.goes_on.no_less_room)

pub returns-clause-ok : goal.returns-clause-ok
returns-clause-ok g c dh th =
    let put = c.in_ok-put_first.ensures in
    let paged = put.ok th in
    let x : List ℕ = g.D.Device.image c.args.image.now in
    on_ok_weaker c.put_rest_of.result
    (put_behind _ _ paged.added _ _ _ paged.text_is (head_split x c.args.ranges.now c.args.head.now.place c.args.head.now.number paged.added _ _ paged.bytes_are))
    (c.put_rest_of.ensures.ok dh (put.goes_on.faith.1 th))

pub returns-clause-fault : goal.returns-clause-fault
returns-clause-fault g c dh th =
    let put = c.in_ok-put_first.ensures in
    let paged = put.ok th in
    let x : List ℕ = g.D.Device.image c.args.image.now in
    on_err_weaker c.put_rest_of.result
    (part_behind_first _ _ paged.added _ _ _ paged.text_is (head_split x c.args.ranges.now c.args.head.now.place c.args.head.now.number paged.added _ _ paged.bytes_are))
    (c.put_rest_of.ensures.fault dh (put.goes_on.faith.1 th))

pub returns-clause-fades : goal.returns-clause-fades
returns-clause-fades g c dh th =
    let put = c.in_ok-put_first.ensures in
    let rest : List ℕ = rest_text (g.D.Device.image c.args.image.now) c.args.ranges.now c.args.head.now.place in
    let end : List ℕ = ended (save_line c.args.head.now.number) in
    let page : List ℕ = c.args.head.now.page.items in
    let left : List ℕ = c.put_first.new.page.items in
    fades_is _ _ _ _ _ (sym (append_assoc page rest end))
    (fades_behind page (rest ++ end) _ _ _ _ _ _ (put.ok th) (put.fades th) (fades_is _ _ _ _ _ (append_assoc left rest end) (c.put_rest_of.ensures.fades dh (put.goes_on.faith.1 th))))

pub returns-clause-first : goal.returns-clause-first
returns-clause-first g c dh th only =
    let put = c.in_ok-put_first.ensures in
    let paged = put.ok th in
    let x : List ℕ = g.D.Device.image c.args.image.now in
    let whole = put_behind _ _ paged.added _ _ _ paged.text_is (head_split x c.args.ranges.now c.args.head.now.place c.args.head.now.number paged.added _ _ paged.bytes_are) refl in
    subst (λ t. AllHaveFirst t (g.T.TextStore.survives c.put_rest_of.new.journal)) whole
    (all_have_first _ _ _ (put.first th) (left_behind _ _ _ _ (put.settled th only) (c.put_rest_of.ensures.fades dh (put.goes_on.faith.1 th))))

pub returns-clause-long : goal.returns-clause-long
returns-clause-long g c th =
    let put = c.in_ok-put_first.ensures in
    on_ok_weaker c.put_rest_of.result (λ long. omega (arith, long, paged_length c.args.head.now.page.items _ _ _ (put.ok th))) (c.put_rest_of.ensures.long (put.goes_on.faith.1 th))

pub returns-clause-front : goal.returns-clause-front
returns-clause-front g c th =
    let put = c.in_ok-put_first.ensures in
    let paged = put.ok th in
    on_ok_weaker c.put_rest_of.result (λ front. (paged.added ++ front.0, put_behind _ _ paged.added _ _ _ paged.text_is refl front.1)) (c.put_rest_of.ensures.front (put.goes_on.faith.1 th))
