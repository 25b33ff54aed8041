use Rattle.std.proofs.Common.{rules, ◌≡◌, ◌+◌, ◌-◌, ◌*◌, ◌/◌, ◌^◌, ◌<◌, ◌≤◌, ℕ, List, ◌++◌, length, min, take, drop, arith, sym, ap, ◌∙◌}
use Rattle.std.proofs.lemmas.Bool.{eqb-true}
use Rattle.std.proofs.lemmas.List.{take-append-le, take_all}
use Rattle.bx_dump.specs.private.Zeros.{zeros_put, HasCounted, PutsRows}
use Rattle.bx_dump.proofs.ZerosLemmas.{full_count, put_block, put_empty, whole_lines}
use Rattle.bx_dump.proofs.xxd.zeros.SkippingPagesPages.put.Goals as goal

pub returns-then-is_empty-clause-last : goal.returns-then-is_empty-clause-last
returns-then-is_empty-clause-last g c x len seen short =
    let p = c.args.self.now.lines in
    let none : length c.args.bytes.now ≡ 0 = eqb-true (length c.args.bytes.now) 0 (sym c.is_empty.ensures ∙ c.if-is_empty.true) in
    let place : p.start + c.args.done ≡ p.start + length x = ap (λ n. p.start + n) (sym len) in
    put_empty (g.F.LineForm.line p.form) (g.F.LineForm.cols p.form) p.start p.broad x c.args.bytes.now _ seen.0 c.args.self.now.zeros seen.1 none (rw place at c.put_end.ensures.text)

-- the text stands in front of the digits
front_room : (room lines width len text page digits : ℕ) → room * (lines + 2) + width * len ≤ page → digits ≡ width * len → text ≡ page - digits → room * (lines + 1) ≤ text
front_room room lines width len text page digits fits same is = omega arith

pub put_rows-requires-clause-room : goal.put_rows-requires-clause-room
put_rows-requires-clause-room g c =
    let p = c.args.self.now.lines in
    let C = g.F.LineForm.cols p.form in
    let R = g.F.LineForm.room p.form in
    let W = g.F.LineForm.width p.form in
    let bytes = c.args.bytes.now in
    let long : length bytes ≡ C * p.lines = c.if-bytes-full.true ∙ ap (λ n. n * p.lines) c.line_len.ensures.value in
    let count : length bytes / C ≡ p.lines = ap (λ n. n / C) long ∙ whole_lines C p.lines p.broad in
    let lines : (length bytes + C - 1) / C ≡ p.lines = ap (λ n. (n + C - 1) / C) long ∙ full_count C p.lines p.broad in
    let page = rw lines at c.requires.page in
    let digits : c.cell_len.result * length bytes ≡ W * length bytes = ap (λ w. w * length bytes) c.cell_len.ensures.value in
    rw count (front_room R p.lines W (length bytes) _ (length c.args.page.now) (c.cell_len.result * length bytes) page digits (omega (arith, c.split_at_mut-text.ensures.front_len)))

pub returns-then-bytes-full-clause-most : goal.returns-then-bytes-full-clause-most
returns-then-bytes-full-clause-most g c =
    let p = c.args.self.now.lines in
    let C = g.F.LineForm.cols p.form in
    let R = g.F.LineForm.room p.form in
    let W = g.F.LineForm.width p.form in
    let bytes = c.args.bytes.now in
    let long : length bytes ≡ C * p.lines = c.if-bytes-full.true ∙ ap (λ n. n * p.lines) c.line_len.ensures.value in
    let count : length bytes / C ≡ p.lines = ap (λ n. n / C) long ∙ whole_lines C p.lines p.broad in
    let lines : (length bytes + C - 1) / C ≡ p.lines = ap (λ n. (n + C - 1) / C) long ∙ full_count C p.lines p.broad in
    let page = rw lines at c.requires.page in
    let most = rw count at c.put_rows.ensures.most in
    below R p.lines W (length bytes) c.put_rows.result _ (length c.args.page.now) page most
  where
    below : (room lines width len used row page : ℕ) → room * (lines + 2) + width * len ≤ page → used + row ≤ room * (lines + 1) → used ≤ page
    below room lines width len used row page fits most = omega arith

-- what a whole block gives
block_gives : (line : ℕ → List ℕ → List ℕ) (n start at : ℕ) (xs bytes text : List ℕ) (m lines old new : ℕ) → 0 < n → at ≡ start + length xs → length bytes ≡ n * lines → HasCounted n old xs m →
    PutsRows line n (length bytes / n) old new at (take (n * (length bytes / n)) bytes) text →
    (zeros_put line n start (xs ++ bytes) ≡ zeros_put line n start xs ++ text) × HasCounted n new (xs ++ bytes) (m + lines)
block_gives line n start at xs bytes text m lines old new pos place long has puts =
    let count : length bytes / n ≡ lines = ap (λ k. k / n) long ∙ whole_lines n lines pos in
    let all : take (n * lines) bytes ≡ bytes = take_all (n * lines) bytes (omega arith) in
    put_block line n start pos xs m has.0 lines old new bytes text has long (rw (count, all, place) at puts)

pub returns-then-bytes-full-clause-text : goal.returns-then-bytes-full-clause-text
returns-then-bytes-full-clause-text g c x len seen full =
    let p = c.args.self.now.lines in
    let C = g.F.LineForm.cols p.form in
    let R = g.F.LineForm.room p.form in
    let place : p.start + c.args.done ≡ p.start + length x = ap (λ n. p.start + n) (sym len) in
    let text = c.put_rows.new.text in
    let W = g.F.LineForm.width p.form in
    let bytes = c.args.bytes.now in
    let count : length bytes / C ≡ p.lines = ap (λ n. n / C) full ∙ whole_lines C p.lines p.broad in
    let lines : (length bytes + C - 1) / C ≡ p.lines = ap (λ n. (n + C - 1) / C) full ∙ full_count C p.lines p.broad in
    let page = rw lines at c.requires.page in
    let most = rw count at c.put_rows.ensures.most in
    let digits : c.cell_len.result * length bytes ≡ W * length bytes = ap (λ w. w * length bytes) c.cell_len.ensures.value in
    let room = front_room R p.lines W (length bytes) (length text) (length c.args.page.now) (c.cell_len.result * length bytes) page digits (omega (arith, c.split_at_mut-text.ensures.front_len, c.put_rows.auto.text)) in
    let front : take c.put_rows.result (text ++ c.put_rows.new.cells) ≡ take c.put_rows.result text = take-append-le c.put_rows.result text c.put_rows.new.cells (omega (arith, most, room)) in
    rw front (block_gives (g.F.LineForm.line p.form) C p.start (p.start + c.args.done) x c.args.bytes.now (take c.put_rows.result text) seen.0 p.lines c.args.self.now.zeros c.put_rows.new.zeros p.broad place full seen.1 c.put_rows.ensures.text).0

pub returns-then-bytes-full-clause-seen : goal.returns-then-bytes-full-clause-seen
returns-then-bytes-full-clause-seen g c x len seen full =
    let p = c.args.self.now.lines in
    let place : p.start + c.args.done ≡ p.start + length x = ap (λ n. p.start + n) (sym len) in
    (seen.0 + p.lines, (block_gives (g.F.LineForm.line p.form) (g.F.LineForm.cols p.form) p.start (p.start + c.args.done) x c.args.bytes.now (take c.put_rows.result c.put_rows.new.text) seen.0 p.lines c.args.self.now.zeros c.put_rows.new.zeros p.broad place full seen.1 c.put_rows.ensures.text).1)
