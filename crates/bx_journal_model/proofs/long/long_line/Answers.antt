use Rattle.std.proofs.Common.{◌≡◌, ◌∙◌, ◌≤◌, ◌<◌, ◌+◌, ◌-◌, ◌++◌, ℕ, List, length, take, drop, refl, ap, sym, subst, arith}
use Rattle.bx_journal_model.specs.Long.{IsLongLine}
use Rattle.bx_journal_model.proofs.LongLines.{front_again, line_is, no_line, other_line, short_line}
use Rattle.bx_journal_model.proofs.TextReads.{read_bytes}
use Rattle.bx_journal_model.proofs.long.long_line.Goals as goal

pub returns-clause-long : goal.returns-clause-long
returns-clause-long g c =
    let T = g.T.TextStore in
    let faithful = T.faithful c.args.store.now in
    let stored : List ℕ = T.text c.args.store.now in
    let end = c.in_ok-end.ensures in
    let f = end.newline in
    let buf : List ℕ = c.read_at.new.buf in
    let is : length c.split_at_mut-front.result.0.now ≡ 1024 = omega (arith, c.split_at_mut-front.ensures.front_len) in
    let few : length buf ≡ 1024 = omega (arith, c.read_at.auto.buf, is) in
    let read = read_bytes T end.reads buf c.args.at _ 1024 is c.in_ok-read_at.ensures.bytes in
    let long = f.plain.long in
    subst (λ t. IsLongLine faithful stored c.args.at c.args.len t (c.in_ok-end.end - c.args.at)) (sym (front_again buf _ few))
    (line_is faithful stored c.args.at c.args.len c.in_ok-end.end f (omega (arith, c.if-end-len.false)) buf read few (omega (arith, long, c.if-end-at.false)) c.in_default.ensures.none (c.in_ok-end.end - c.args.at) refl)

pub returns-then-end-len-clause-none : goal.returns-then-end-len-clause-none
returns-then-end-len-clause-none g c =
    let T = g.T.TextStore in
    no_line (T.faithful c.args.store.now) (T.text c.args.store.now) c.args.at c.args.len c.in_ok-end.end c.in_ok-end.ensures.newline (omega (arith, c.if-end-len.true))

pub returns-then-end-at-clause-none : goal.returns-then-end-at-clause-none
returns-then-end-at-clause-none g c =
    let T = g.T.TextStore in
    let f = c.in_ok-end.ensures.newline in
    short_line (T.faithful c.args.store.now) (T.text c.args.store.now) c.args.at c.args.len c.in_ok-end.end f (omega (arith, c.if-end-len.false)) (omega (arith, f.plain.long, c.if-end-at.true))

pub returns-in-Some-clause-none : goal.returns-in-Some-clause-none
returns-in-Some-clause-none g c =
    let T = g.T.TextStore in
    let end = c.in_ok-end.ensures in
    let f = end.newline in
    let buf : List ℕ = c.read_at.new.buf in
    let is : length c.split_at_mut-front.result.0.now ≡ 1024 = omega (arith, c.split_at_mut-front.ensures.front_len) in
    let found = c.in-Some.ensures.found in
    other_line (T.faithful c.args.store.now) (T.text c.args.store.now) c.args.at c.args.len c.in_ok-end.end f (omega (arith, c.if-end-len.false)) buf _ (read_bytes T end.reads buf c.args.at _ 1024 is c.in_ok-read_at.ensures.bytes)
    (omega (arith, f.plain.long, c.if-end-at.false)) found.0 found.2 (omega (arith, c.read_at.auto.buf, is))
