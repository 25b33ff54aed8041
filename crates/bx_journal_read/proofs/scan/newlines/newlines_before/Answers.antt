use Rattle.std.proofs.Common.{◌≡◌, ◌∙◌, ℕ, List, false, length, take, ap, arith}
use Rattle.bx_journal_format.specs.Text.{split}
use Rattle.bx_journal_model.specs.Looking.{OnlyReadsText}
use Rattle.bx_journal_model.proofs.TextReads.{failed_through, read_behind, read_through}
use Rattle.bx_journal_read.proofs.scan.newlines.newlines_before.Goals as goal

pub returns-in-Err-clause-reads : goal.returns-in-Err-clause-reads
returns-in-Err-clause-reads g c =
    let T = g.T.TextStore in
    let first : OnlyReadsText T false c.args.store.now c.len.new.self = record { text = c.len.ensures.text; survives = c.len.ensures.survives; goes_on = c.in_ok-len.ensures.goes_on } in
    failed_through T (read_behind T first c.in-Err.ensures.reads)

pub returns-clause-reads : goal.returns-clause-reads
returns-clause-reads g c =
    let T = g.T.TextStore in
    let first : OnlyReadsText T false c.args.store.now c.len.new.self = record { text = c.len.ensures.text; survives = c.len.ensures.survives; goes_on = c.in_ok-len.ensures.goes_on } in
    read_through T c.in-Ok.count (read_behind T first c.in-Ok.ensures.reads)

pub returns-clause-lines : goal.returns-clause-lines
returns-clause-lines g c h within =
    let text : List ℕ = g.T.TextStore.text c.args.store.now in
    let n : ℕ = c.min.result in
    let all : n ≡ c.args.at = omega (arith, c.min.ensures, c.in_ok-len.ensures.len h, within) in
    c.in-Ok.ensures.lines (c.len.ensures.goes_on.faith.1 h) ∙ ap (λ t. length (split (take n t)).lines) (c.len.ensures.text h) ∙ ap (λ m. length (split (take m text)).lines) all
