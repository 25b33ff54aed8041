use Rattle.std.proofs.Common.{◌≡◌, ℕ, [], ◌+◌, ◌-◌, ◌*◌, ◌/◌, ◌<◌, ◌≤◌, ◌++◌, length, take, drop, arith, ap, ◌∙◌, sym, add-zero, append-nil, append_assoc, min, suc}
use Rattle.bx_dump.specs.FoldBy.{line_bytes_by, line_text_by, folded_by}
use Rattle.bx_dump.specs.private.FoldBy.{lines_to_by, line_count_by}
use Rattle.std.proofs.Math.Nat.{mul-le-mul_left}
use Rattle.std.proofs.lemmas.List.{length-append, length-take-le, length-drop}
use Rattle.bx_text.proofs.KnownLemmas.{take-put_mid_more}
use Rattle.bx_dump_columns.proofs.LinesLemmas.{line_begin, count_most}
use Rattle.bx_dump.proofs.FoldByLemmas.{lines_stay_by, count_is_by, count_all_by, bytes_after_by, taken_stay_by, lines_next_by}
use Rattle.bx_dump.proofs.driver.wide.put_lines.Goals as goal

-- a line begins inside the bytes
begins : (n cols k : ℕ) → 0 < cols → k < (n + (cols - 1)) / cols → cols * k < n
begins n cols k pos below =
    let e : n + cols - 1 ≡ n + (cols - 1) = omega arith in
    line_begin n cols k pos (rw e below)

pub loop-k-init : goal.loop-k-init
loop-k-init g c =
    let C = g.F.WideForm.cols c.args.form.now in
    let value = c.line_len-cols.ensures.value in
    let pos = rw value at c.line_len-cols.ensures.some in
    record {
      within = omega arith;
      text = λ input m start whole at taken.
          let line = g.F.WideForm.line c.args.form.now in
          let ys = c.args.bytes.now in
          rw (add-zero m, append-nil (folded_by C line c.args.all start input), count_is_by C pos input ys m whole) (lines_stay_by C pos input ys m whole line c.args.all start);
      taken = λ input m whole taken. rw (add-zero m) (taken_stay_by C pos input c.args.bytes.now m whole c.args.all c.args.fold.now taken);
    }

pub loop-k-preserved : goal.loop-k-preserved
loop-k-preserved g c =
    let C = g.F.WideForm.cols c.args.form.now in
    let R = g.F.WideForm.room c.args.form.now in
    let before = c.loop-k.invariant in
    let line = g.F.WideForm.line c.args.form.now in
    let ys = c.args.bytes.now in
    let k = c.loop-k.k in
    let all = c.args.all in
    let value = c.line_len-cols.ensures.value in
    let pos = rw value at c.line_len-cols.ensures.some in
    let below = rw value at c.loop-k-test.true in
    let begin = c.line_len-cols.result * k in
    let place : begin ≡ C * k = ap (λ n. n * k) value in
    let inside : C * k < length ys = begins (length ys) C k pos below in
    let size = c.min-end.result - begin in
    let cut : size ≡ min (begin + C) (length ys) - begin = omega (arith, c.min-end.ensures, value) in
    let next = c.put_next-used.ensures in
    let used = c.loop-k.used in
    let count : R * (k + 1) ≤ R * line_count_by C ys = mul-le-mul_left {m = k + 1} {n = line_count_by C ys} R (omega arith) in
    let room : length c.put_next-used.new.page ≡ length c.loop-k.page - used = c.put_next-used.auto.page ∙ length-take-le (length c.loop-k.page - used) (drop used c.loop-k.page) (omega (arith, length-drop used c.loop-k.page)) in
    let more = take-put_mid_more c.loop-k.page c.put_next-used.new.page used (length c.loop-k.page - used) c.put_next-used.result (omega (arith, before.within, count, c.loop-k.auto.page, c.requires.room)) (omega (arith, room, next.most, before.within, count, c.loop-k.auto.page, c.requires.room)) in
    record {
      within = omega (arith, next.most, before.within);
      text = λ input m start whole at taken.
          let part = bytes_after_by C pos input ys m whole k begin size place cut (omega arith) in
          let was = before.taken input m whole taken in
          let text = next.text (input ++ ys) (m + k) start (omega (arith, place)) part was in
          let one : m + (k + 1) ≡ m + k + 1 = omega arith in
          rw (one, lines_next_by C line all start (input ++ ys) (m + k), before.text input m start whole at taken, more, text)
          (append_assoc (folded_by C line all start input) (take used c.loop-k.page) (line_text_by C line all start (input ++ ys) (m + k)));
      taken = λ input m whole taken.
          let part = bytes_after_by C pos input ys m whole k begin size place cut (omega arith) in
          let was = before.taken input m whole taken in
          let one : m + (k + 1) ≡ suc (m + k) = omega arith in
          rw one (next.taken (input ++ ys) (m + k) part was);
    }

pub returns-clause-text : goal.returns-clause-text
returns-clause-text g c input m start whole at taken =
    let C = g.F.WideForm.cols c.args.form.now in
    let ys = c.args.bytes.now in
    let line = g.F.WideForm.line c.args.form.now in
    let value = c.line_len-cols.ensures.value in
    let pos = rw value at c.line_len-cols.ensures.some in
    let test = rw value at c.loop-k-test.false in
    let end = rw value at c.loop-k.auto.k-end in
    let all : c.loop-k.k ≡ line_count_by C ys = omega arith in
    ap (lines_to_by C line c.args.all start (input ++ ys)) (count_all_by C pos input ys m whole ∙ ap (λ t. m + t) (sym all)) ∙ c.loop-k.invariant.text input m start whole at taken

pub returns-clause-taken : goal.returns-clause-taken
returns-clause-taken g c input m lines whole full taken =
    let C = g.F.WideForm.cols c.args.form.now in
    let ys = c.args.bytes.now in
    let value = c.line_len-cols.ensures.value in
    let pos = rw value at c.line_len-cols.ensures.some in
    let test = rw value at c.loop-k-test.false in
    let end = rw value at c.loop-k.auto.k-end in
    let all : lines ≡ c.loop-k.k = omega (arith, count_is_by C pos ys [] lines full) in
    rw all (c.loop-k.invariant.taken input m whole taken)
