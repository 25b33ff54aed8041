use Rattle.std.proofs.Common.{ℕ, List, ◌++◌, length, ap, arith, length-append}
use Rattle.std.proofs.lemmas.Result.{on_ok_weaker, on_err_weaker}
use Rattle.bx_journal_format.specs.Line.{save_line}
use Rattle.bx_journal_format.specs.Text.{ended}
use Rattle.bx_journal_format.proofs.WriterLemmas.{save_long}
use Rattle.bx_journal_protocol.specs.write.Ranges.{rest_text}
use Rattle.bx_journal_protocol.proofs.PageLemmas.{paged_is, paged_more, paged_all, paged_length, part_is, part_front, part_behind, part_last, at_err}
use Rattle.bx_journal_protocol.proofs.PrefixLemmas.{prefix_by}
use Rattle.bx_journal_protocol.proofs.FadeLemmas.{fades_front, fades_is, fades_behind, fades_last}
use Rattle.bx_journal_protocol.proofs.write.ranges.put_rest_of.Goals as goal

pub returns-in_err-put_pages-clause-fault : goal.returns-in_err-put_pages-clause-fault
returns-in_err-put_pages-clause-fault g c dh th =
    let lines : List ℕ = c.args.head.now.page.items ++ rest_text (g.D.Device.image c.args.image.now) c.args.ranges.now c.args.head.now.place in
    at_err _ (part_front lines (ended (save_line c.args.head.now.number)) _ _ (c.in_err-put_pages.ensures.fault dh th))

pub put_words-requires-clause-fits : goal.put_words-requires-clause-fits
put_words-requires-clause-fits g c now =
    let th = c.in_ok-put_pages.ensures.goes_on.journal_faith.0 now in
    omega (arith, c.in_ok-put_pages.ensures.long th, c.requires.fits th, c.in_ok-put_pages.ensures.goes_on.journal_room)

pub returns-in_err-put_words-clause-fault : goal.returns-in_err-put_words-clause-fault
returns-in_err-put_words-clause-fault g c dh th =
    let lines : List ℕ = c.args.head.now.page.items ++ rest_text (g.D.Device.image c.args.image.now) c.args.ranges.now c.args.head.now.place in
    at_err _ (part_is _ _ _ _ (ap (λ l. lines ++ ended l) c.save_text.ensures.text)
    (part_behind lines (ended c.save_text.result) _ _ _ _ (c.in_ok-put_pages.ensures.ok dh th) (c.in_err-put_words.ensures.fault (c.in_ok-put_pages.ensures.goes_on.journal_faith.1 th))))

pub append_page-requires-clause-fits : goal.append_page-requires-clause-fits
append_page-requires-clause-fits g c now =
    let mid = c.in_ok-put_words.ensures.goes_on.faith.0 now in
    let th = c.in_ok-put_pages.ensures.goes_on.journal_faith.0 mid in
    let page : List ℕ = c.put_pages.new.page.items in
    omega (
      arith,
      c.in_ok-put_pages.ensures.long th,
      paged_length (page ++ ended c.save_text.result) _ _ _ (c.in_ok-put_words.ensures.ok mid),
      length-append page (ended c.save_text.result),
      ap (λ l. length (ended l)) c.save_text.ensures.text,
      save_long c.args.head.now.number,
      c.requires.fits th,
      c.in_ok-put_pages.ensures.goes_on.journal_room,
      c.in_ok-put_words.ensures.goes_on.no_less_room,
    )

pub returns-clause-ok : goal.returns-clause-ok
returns-clause-ok g c dh th =
    let mid = c.in_ok-put_pages.ensures.goes_on.journal_faith.1 th in
    let lines : List ℕ = c.args.head.now.page.items ++ rest_text (g.D.Device.image c.args.image.now) c.args.ranges.now c.args.head.now.place in
    let all = paged_is _ _ _ _ _ (ap (λ l. lines ++ ended l) c.save_text.ensures.text) (paged_more lines (ended c.save_text.result) _ _ _ _ _ (c.in_ok-put_pages.ensures.ok dh th) (c.in_ok-put_words.ensures.ok mid)) in
    on_ok_weaker c.append_page.result (paged_all (lines ++ ended (save_line c.args.head.now.number)) _ _ _ _ all) (c.append_page.ensures.ok (c.in_ok-put_words.ensures.goes_on.faith.1 mid))

pub returns-clause-fault : goal.returns-clause-fault
returns-clause-fault g c dh th =
    let mid = c.in_ok-put_pages.ensures.goes_on.journal_faith.1 th in
    let lines : List ℕ = c.args.head.now.page.items ++ rest_text (g.D.Device.image c.args.image.now) c.args.ranges.now c.args.head.now.place in
    let all = paged_is _ _ _ _ _ (ap (λ l. lines ++ ended l) c.save_text.ensures.text) (paged_more lines (ended c.save_text.result) _ _ _ _ _ (c.in_ok-put_pages.ensures.ok dh th) (c.in_ok-put_words.ensures.ok mid)) in
    on_err_weaker c.append_page.result (part_last (lines ++ ended (save_line c.args.head.now.number)) _ _ _ _ all) (c.append_page.ensures.fault (c.in_ok-put_words.ensures.goes_on.faith.1 mid))

pub returns-clause-long : goal.returns-clause-long
returns-clause-long g c th =
    let mid = c.in_ok-put_pages.ensures.goes_on.journal_faith.1 th in
    let page : List ℕ = c.put_pages.new.page.items in
    on_ok_weaker c.append_page.result
    (λ is. omega (
      arith,
      ap length is,
      length-append (g.T.TextStore.text c.put_words.new.store) c.put_words.new.page.items,
      c.in_ok-put_pages.ensures.long th,
      paged_length (page ++ ended c.save_text.result) _ _ _ (c.in_ok-put_words.ensures.ok mid),
      length-append page (ended c.save_text.result),
      ap (λ l. length (ended l)) c.save_text.ensures.text,
      save_long c.args.head.now.number,
    ))
    (c.append_page.ensures.ok (c.in_ok-put_words.ensures.goes_on.faith.1 mid))

pub returns-clause-front : goal.returns-clause-front
returns-clause-front g c th =
    let mid = c.in_ok-put_pages.ensures.goes_on.journal_faith.1 th in
    on_ok_weaker c.append_page.result (prefix_by _ _ (prefix_by _ _ (c.in_ok-put_pages.ensures.front th) (c.in_ok-put_words.ensures.ok mid).text_is)) (c.append_page.ensures.ok (c.in_ok-put_words.ensures.goes_on.faith.1 mid))

pub returns-in_err-put_pages-clause-fades : goal.returns-in_err-put_pages-clause-fades
returns-in_err-put_pages-clause-fades g c dh th =
    let lines : List ℕ = c.args.head.now.page.items ++ rest_text (g.D.Device.image c.args.image.now) c.args.ranges.now c.args.head.now.place in
    fades_front _ lines (ended (save_line c.args.head.now.number)) _ _ (c.in_err-put_pages.ensures.fades dh th)

pub returns-in_err-put_words-clause-fades : goal.returns-in_err-put_words-clause-fades
returns-in_err-put_words-clause-fades g c dh th =
    let lines : List ℕ = c.args.head.now.page.items ++ rest_text (g.D.Device.image c.args.image.now) c.args.ranges.now c.args.head.now.place in
    fades_is _ (lines ++ ended c.save_text.result) (lines ++ ended (save_line c.args.head.now.number)) _ _ (ap (λ l. lines ++ ended l) c.save_text.ensures.text)
    (fades_behind lines (ended c.save_text.result) _ _ _ _ _ _ (c.in_ok-put_pages.ensures.ok dh th) (c.in_ok-put_pages.ensures.fades dh th) (c.in_err-put_words.ensures.fades (c.in_ok-put_pages.ensures.goes_on.journal_faith.1 th)))

pub returns-clause-fades : goal.returns-clause-fades
returns-clause-fades g c dh th =
    let mid = c.in_ok-put_pages.ensures.goes_on.journal_faith.1 th in
    let lines : List ℕ = c.args.head.now.page.items ++ rest_text (g.D.Device.image c.args.image.now) c.args.ranges.now c.args.head.now.place in
    let all = paged_is _ _ _ _ _ (ap (λ l. lines ++ ended l) c.save_text.ensures.text) (paged_more lines (ended c.save_text.result) _ _ _ _ _ (c.in_ok-put_pages.ensures.ok dh th) (c.in_ok-put_words.ensures.ok mid)) in
    let put = fades_is _ (lines ++ ended c.save_text.result) (lines ++ ended (save_line c.args.head.now.number)) _ _ (ap (λ l. lines ++ ended l) c.save_text.ensures.text)
    (fades_behind lines (ended c.save_text.result) _ _ _ _ _ _ (c.in_ok-put_pages.ensures.ok dh th) (c.in_ok-put_pages.ensures.fades dh th) (c.in_ok-put_words.ensures.fades mid)) in
    fades_last (lines ++ ended (save_line c.args.head.now.number)) _ _ _ _ _ _ all put (c.append_page.ensures.fades (c.in_ok-put_words.ensures.goes_on.faith.1 mid))
