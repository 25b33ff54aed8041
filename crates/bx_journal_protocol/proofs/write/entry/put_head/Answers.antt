use Rattle.std.proofs.Common.{◌≡◌, ℕ, List, [], ◌++◌, ap, sym, ◌∙◌, arith, append_assoc, length-append}
use Rattle.std.specs.Prelude.{flat_map}
use Rattle.std.proofs.lemmas.Result.{on_ok_weaker, on_err_weaker}
use Rattle.bx_journal_format.specs.Kept.{Kept, kept_of}
use Rattle.bx_journal_format.specs.declared.format.version.Version.TheVariants.{Second}
use Rattle.bx_journal_format.specs.Line.{start_line, save_line}
use Rattle.bx_journal_format.specs.Entry.{rows, head_text, rows_text}
use Rattle.bx_journal_protocol.specs.write.Page.{IsPaged}
use Rattle.bx_journal_format.specs.Text.{ended}
use Rattle.bx_journal_protocol.proofs.PageLemmas.{paged_is, paged_more, paged_all, paged_length, part_is, part_front, part_behind, part_last, at_err}
use Rattle.bx_journal_format.proofs.WriterLemmas.{head_is, head_long, start_long}
use Rattle.bx_journal_protocol.proofs.FadeLemmas.{fades_front, fades_is, fades_behind, fades_last}
use Rattle.bx_journal_protocol.proofs.write.entry.put_head.Goals as goal

abbrev first_of : ℕ → Kept → List ℕ
first_of n s = ended (start_line Second n s.len)

abbrev lines_in : Kept → List ℕ
lines_in s = rows_text (flat_map rows s.runs)

abbrev last_of : ℕ → List ℕ
last_of n = ended (save_line n)

first_is : (n : ℕ) (s : Kept) (page line : List ℕ) → page ≡ [] → line ≡ start_line Second n s.len → page ++ ended line ≡ first_of n s
first_is n s page line none is = ap (λ p. p ++ ended line) none ∙ ap ended is

first_put : (n : ℕ) (s : Kept) (page line old new p : List ℕ) → page ≡ [] → line ≡ start_line Second n s.len → IsPaged (page ++ ended line) old new p → IsPaged (first_of n s) old new p
first_put n s page line old new p none is put = paged_is _ _ _ _ _ (first_is n s page line none is) put

last_put : (n : ℕ) (s : Kept) (line old mid new p q : List ℕ) → line ≡ save_line n → IsPaged (first_of n s ++ lines_in s) old mid p → IsPaged (p ++ ended line) mid new q → IsPaged (head_text n s) old new q
last_put n s line old mid new p q is before put =
    paged_is _ _ _ _ _ (ap (λ l. (first_of n s ++ lines_in s) ++ ended l) is ∙ sym (head_is n s)) (paged_more _ _ _ _ _ _ _ before put)

pub returns-in_err-put_words-clause-fault : goal.returns-in_err-put_words-clause-fault
returns-in_err-put_words-clause-fault g c faithful =
    let n : ℕ = c.args.number in
    let s : Kept = kept_of c.args.kept.now in
    at_err _ (part_is _ _ _ _ (sym (head_is n s ∙ append_assoc (first_of n s) (lines_in s) (last_of n)))
    (part_front (first_of n s) (lines_in s ++ last_of n) _ _
    (part_is _ _ _ _ (first_is n s c.args.page.now.items c.start_words.result c.requires.empty c.start_words.ensures.text) (c.in_err-put_words.ensures.fault faithful))))

pub put_runs-requires-clause-fits : goal.put_runs-requires-clause-fits
put_runs-requires-clause-fits g c now =
    let n : ℕ = c.args.number in
    let s : Kept = kept_of c.args.kept.now in
    let faithful = c.in_ok-put_words.ensures.goes_on.faith.0 now in
    let one = first_put n s _ _ _ _ _ c.requires.empty c.start_words.ensures.text (c.in_ok-put_words.ensures.ok faithful) in
    omega (arith, paged_length (first_of n s) _ _ _ one, start_long n s.len, head_long n s, c.requires.fits faithful, c.in_ok-put_words.ensures.goes_on.no_less_room)

pub returns-in_err-put_runs-clause-fault : goal.returns-in_err-put_runs-clause-fault
returns-in_err-put_runs-clause-fault g c faithful =
    let n : ℕ = c.args.number in
    let s : Kept = kept_of c.args.kept.now in
    let one = first_put n s _ _ _ _ _ c.requires.empty c.start_words.ensures.text (c.in_ok-put_words.ensures.ok faithful) in
    at_err _ (part_is _ _ _ _ (sym (head_is n s))
    (part_front (first_of n s ++ lines_in s) (last_of n) _ _
    (part_behind (first_of n s) (lines_in s) _ _ _ _ one (c.in_err-put_runs.ensures.fault (c.in_ok-put_words.ensures.goes_on.faith.1 faithful)))))

pub put_words-requires-2-clause-fits : goal.put_words-requires-2-clause-fits
put_words-requires-2-clause-fits g c now =
    let n : ℕ = c.args.number in
    let s : Kept = kept_of c.args.kept.now in
    let mid = c.in_ok-put_runs.ensures.goes_on.faith.0 now in
    let faithful = c.in_ok-put_words.ensures.goes_on.faith.0 mid in
    let one = first_put n s _ _ _ _ _ c.requires.empty c.start_words.ensures.text (c.in_ok-put_words.ensures.ok faithful) in
    let two = paged_more (first_of n s) (lines_in s) _ _ _ _ _ one (c.in_ok-put_runs.ensures.ok mid) in
    omega (
      arith,
      paged_length (first_of n s ++ lines_in s) _ _ _ two,
      length-append (first_of n s) (lines_in s),
      start_long n s.len,
      head_long n s,
      c.requires.fits faithful,
      c.in_ok-put_words.ensures.goes_on.no_less_room,
      c.in_ok-put_runs.ensures.goes_on.no_less_room,
    )

pub returns-in_err-put_words-2-clause-fault : goal.returns-in_err-put_words-2-clause-fault
returns-in_err-put_words-2-clause-fault g c faithful =
    let n : ℕ = c.args.number in
    let s : Kept = kept_of c.args.kept.now in
    let mid = c.in_ok-put_words.ensures.goes_on.faith.1 faithful in
    let one = first_put n s _ _ _ _ _ c.requires.empty c.start_words.ensures.text (c.in_ok-put_words.ensures.ok faithful) in
    let two = paged_more (first_of n s) (lines_in s) _ _ _ _ _ one (c.in_ok-put_runs.ensures.ok mid) in
    at_err _ (part_is _ _ _ _ (ap (λ l. (first_of n s ++ lines_in s) ++ ended l) c.save_text.ensures.text ∙ sym (head_is n s))
    (part_behind (first_of n s ++ lines_in s) _ _ _ _ _ two (c.in_err-put_words-2.ensures.fault (c.in_ok-put_runs.ensures.goes_on.faith.1 mid))))

pub append_page-requires-clause-fits : goal.append_page-requires-clause-fits
append_page-requires-clause-fits g c now =
    let n : ℕ = c.args.number in
    let s : Kept = kept_of c.args.kept.now in
    let last = c.in_ok-put_words-2.ensures.goes_on.faith.0 now in
    let mid = c.in_ok-put_runs.ensures.goes_on.faith.0 last in
    let faithful = c.in_ok-put_words.ensures.goes_on.faith.0 mid in
    let one = first_put n s _ _ _ _ _ c.requires.empty c.start_words.ensures.text (c.in_ok-put_words.ensures.ok faithful) in
    let two = paged_more (first_of n s) (lines_in s) _ _ _ _ _ one (c.in_ok-put_runs.ensures.ok mid) in
    let all = last_put n s _ _ _ _ _ _ c.save_text.ensures.text two (c.in_ok-put_words-2.ensures.ok last) in
    omega (
      arith,
      paged_length (head_text n s) _ _ _ all,
      c.requires.fits faithful,
      c.in_ok-put_words.ensures.goes_on.no_less_room,
      c.in_ok-put_runs.ensures.goes_on.no_less_room,
      c.in_ok-put_words-2.ensures.goes_on.no_less_room,
    )

pub returns-clause-ok : goal.returns-clause-ok
returns-clause-ok g c faithful =
    let n : ℕ = c.args.number in
    let s : Kept = kept_of c.args.kept.now in
    let mid = c.in_ok-put_words.ensures.goes_on.faith.1 faithful in
    let last = c.in_ok-put_runs.ensures.goes_on.faith.1 mid in
    let one = first_put n s _ _ _ _ _ c.requires.empty c.start_words.ensures.text (c.in_ok-put_words.ensures.ok faithful) in
    let two = paged_more (first_of n s) (lines_in s) _ _ _ _ _ one (c.in_ok-put_runs.ensures.ok mid) in
    let all = last_put n s _ _ _ _ _ _ c.save_text.ensures.text two (c.in_ok-put_words-2.ensures.ok last) in
    on_ok_weaker c.append_page.result (paged_all (head_text n s) _ _ _ _ all) (c.append_page.ensures.ok (c.in_ok-put_words-2.ensures.goes_on.faith.1 last))

pub returns-clause-fault : goal.returns-clause-fault
returns-clause-fault g c faithful =
    let n : ℕ = c.args.number in
    let s : Kept = kept_of c.args.kept.now in
    let mid = c.in_ok-put_words.ensures.goes_on.faith.1 faithful in
    let last = c.in_ok-put_runs.ensures.goes_on.faith.1 mid in
    let one = first_put n s _ _ _ _ _ c.requires.empty c.start_words.ensures.text (c.in_ok-put_words.ensures.ok faithful) in
    let two = paged_more (first_of n s) (lines_in s) _ _ _ _ _ one (c.in_ok-put_runs.ensures.ok mid) in
    let all = last_put n s _ _ _ _ _ _ c.save_text.ensures.text two (c.in_ok-put_words-2.ensures.ok last) in
    on_err_weaker c.append_page.result (part_last (head_text n s) _ _ _ _ all) (c.append_page.ensures.fault (c.in_ok-put_words-2.ensures.goes_on.faith.1 last))

pub returns-in_err-put_words-clause-fades : goal.returns-in_err-put_words-clause-fades
returns-in_err-put_words-clause-fades g c faithful =
    let n : ℕ = c.args.number in
    let s : Kept = kept_of c.args.kept.now in
    fades_is _ _ _ _ _ (sym (head_is n s ∙ append_assoc (first_of n s) (lines_in s) (last_of n)))
    (fades_front _ (first_of n s) (lines_in s ++ last_of n) _ _
    (fades_is _ _ _ _ _ (first_is n s c.args.page.now.items c.start_words.result c.requires.empty c.start_words.ensures.text) (c.in_err-put_words.ensures.fades faithful)))

pub returns-in_err-put_runs-clause-fades : goal.returns-in_err-put_runs-clause-fades
returns-in_err-put_runs-clause-fades g c faithful =
    let n : ℕ = c.args.number in
    let s : Kept = kept_of c.args.kept.now in
    let one = first_put n s _ _ _ _ _ c.requires.empty c.start_words.ensures.text (c.in_ok-put_words.ensures.ok faithful) in
    let start = fades_is _ _ _ _ _ (first_is n s c.args.page.now.items c.start_words.result c.requires.empty c.start_words.ensures.text) (c.in_ok-put_words.ensures.fades faithful) in
    fades_is _ _ _ _ _ (sym (head_is n s))
    (fades_front _ (first_of n s ++ lines_in s) (last_of n) _ _
    (fades_behind (first_of n s) (lines_in s) _ _ _ _ _ _ one start (c.in_err-put_runs.ensures.fades (c.in_ok-put_words.ensures.goes_on.faith.1 faithful))))

pub returns-in_err-put_words-2-clause-fades : goal.returns-in_err-put_words-2-clause-fades
returns-in_err-put_words-2-clause-fades g c faithful =
    let n : ℕ = c.args.number in
    let s : Kept = kept_of c.args.kept.now in
    let mid = c.in_ok-put_words.ensures.goes_on.faith.1 faithful in
    let one = first_put n s _ _ _ _ _ c.requires.empty c.start_words.ensures.text (c.in_ok-put_words.ensures.ok faithful) in
    let two = paged_more (first_of n s) (lines_in s) _ _ _ _ _ one (c.in_ok-put_runs.ensures.ok mid) in
    let start = fades_is _ _ _ _ _ (first_is n s c.args.page.now.items c.start_words.result c.requires.empty c.start_words.ensures.text) (c.in_ok-put_words.ensures.fades faithful) in
    let lines = fades_behind (first_of n s) (lines_in s) _ _ _ _ _ _ one start (c.in_ok-put_runs.ensures.fades mid) in
    fades_is _ _ _ _ _ (ap (λ l. (first_of n s ++ lines_in s) ++ ended l) c.save_text.ensures.text ∙ sym (head_is n s))
    (fades_behind (first_of n s ++ lines_in s) _ _ _ _ _ _ _ two lines (c.in_err-put_words-2.ensures.fades (c.in_ok-put_runs.ensures.goes_on.faith.1 mid)))

pub returns-clause-fades : goal.returns-clause-fades
returns-clause-fades g c faithful =
    let n : ℕ = c.args.number in
    let s : Kept = kept_of c.args.kept.now in
    let mid = c.in_ok-put_words.ensures.goes_on.faith.1 faithful in
    let last = c.in_ok-put_runs.ensures.goes_on.faith.1 mid in
    let one = first_put n s _ _ _ _ _ c.requires.empty c.start_words.ensures.text (c.in_ok-put_words.ensures.ok faithful) in
    let two = paged_more (first_of n s) (lines_in s) _ _ _ _ _ one (c.in_ok-put_runs.ensures.ok mid) in
    let all = last_put n s _ _ _ _ _ _ c.save_text.ensures.text two (c.in_ok-put_words-2.ensures.ok last) in
    let start = fades_is _ _ _ _ _ (first_is n s c.args.page.now.items c.start_words.result c.requires.empty c.start_words.ensures.text) (c.in_ok-put_words.ensures.fades faithful) in
    let lines = fades_behind (first_of n s) (lines_in s) _ _ _ _ _ _ one start (c.in_ok-put_runs.ensures.fades mid) in
    let whole = fades_is _ _ _ _ _ (ap (λ l. (first_of n s ++ lines_in s) ++ ended l) c.save_text.ensures.text ∙ sym (head_is n s))
    (fades_behind (first_of n s ++ lines_in s) _ _ _ _ _ _ _ two lines (c.in_ok-put_words-2.ensures.fades last)) in
    fades_last (head_text n s) _ _ _ _ _ _ all whole (c.append_page.ensures.fades (c.in_ok-put_words-2.ensures.goes_on.faith.1 last))
