use Rattle.std.proofs.Common.{◌≡◌, ◌≤◌, ◌∙◌, ℕ, ◌+◌, ◌-◌, length, take, false, sym, arith}
use Rattle.std.proofs.lemmas.List.{length-take-le}
use Rattle.bx_read.specs.Text.{is_skipped}
use Rattle.bx_read_stream.specs.Laid.{image_made}
use Rattle.bx_read_stream.proofs.ImageLemmas.{near_of}
use Rattle.bx_read_stream.proofs.LayingLemmas.{held_len, line_fault, line_behind, line_fails, line_laid}
use Rattle.bx_read_stream.proofs.laying.Laying.lay_line.Goals as goal

pub returns-in-Err-clause-err : goal.returns-in-Err-clause-err
returns-in-Err-clause-err g c w0 before lines h =
    let shown : is_skipped c.args.line.now ≡ false = sym c.is_skipped.ensures ∙ c.if-is_skipped.false in
    line_fault c.args.self.now.shift w0 _ before (c.args.self.now.lines + 1) c.args.line.now lines c.in-Err.fault _ shown c.in-Err.ensures.read (c.stop.ensures w0 _ h)

pub overflow_add-at : goal.overflow_add-at
overflow_add-at g c =
    let near = near_of _ c.args.line.now c.in-Ok.found.at _ c.in-Ok.ensures.read in
    omega (arith, near, c.args.self.now.near)

pub returns-then-at-end-clause-err : goal.returns-then-at-end-clause-err
returns-then-at-end-clause-err g c w0 before lines h =
    let shown : is_skipped c.args.line.now ≡ false = sym c.is_skipped.ensures ∙ c.if-is_skipped.false in
    line_behind c.args.self.now.shift w0 _ before (c.args.self.now.lines + 1) c.args.line.now lines c.in-Ok.found.at _ _ shown c.in-Ok.ensures.read
    (omega (arith, c.len-end.ensures, held_len w0 _ _ _ _ h, c.if-at-end.true)) (c.stop-then-at-end.ensures w0 _ h)

pub push_behind-requires : goal.push_behind-requires
push_behind-requires g c =
    let near = near_of _ c.args.line.now c.in-Ok.found.at _ c.in-Ok.ensures.read in
    let long : length (take c.in-Ok.found.count c.read.new.out) ≤ 256 = omega (arith, length-take-le c.in-Ok.found.count c.read.new.out (omega (arith, c.in-Ok.ensures.some, c.read.array_long)), c.in-Ok.ensures.some) in
    omega (arith, near, long, c.args.self.now.near, c.requires.near, c.len-end.ensures, c.if-at-end.false)

pub returns-in-Ok-push_behind-clause-ok : goal.returns-in-Ok-push_behind-clause-ok
returns-in-Ok-push_behind-clause-ok g c w0 before h =
    let shown : is_skipped c.args.line.now ≡ false = sym c.is_skipped.ensures ∙ c.if-is_skipped.false in
    line_laid c.args.self.now.shift w0 _ _ _ before (c.args.self.now.lines + 1) c.args.line.now c.in-Ok.found.at (c.in-Ok.found.at + c.args.self.now.shift - c.len-end.result) _ shown c.in-Ok.ensures.read
    (omega (arith, c.len-end.ensures, held_len w0 _ _ _ _ h, c.if-at-end.false)) (c.in-Ok-push_behind.ensures.ok w0 _ h)

pub returns-in-Ok-push_behind-clause-near : goal.returns-in-Ok-push_behind-clause-near
returns-in-Ok-push_behind-clause-near g c =
    let near = near_of _ c.args.line.now c.in-Ok.found.at _ c.in-Ok.ensures.read in
    let long : length (take c.in-Ok.found.count c.read.new.out) ≤ 256 = omega (arith, length-take-le c.in-Ok.found.count c.read.new.out (omega (arith, c.in-Ok.ensures.some, c.read.array_long)), c.in-Ok.ensures.some) in
    omega (arith, near, long, c.args.self.now.near, c.in-Ok-push_behind.ensures.count, c.len-end.ensures, c.if-at-end.false)

pub returns-in-Err-push_behind-clause-err : goal.returns-in-Err-push_behind-clause-err
returns-in-Err-push_behind-clause-err g c w0 before lines h =
    let shown : is_skipped c.args.line.now ≡ false = sym c.is_skipped.ensures ∙ c.if-is_skipped.false in
    line_fails c.args.self.now.shift w0 _ before (c.args.self.now.lines + 1) c.args.line.now lines c.in-Ok.found.at (c.in-Ok.found.at + c.args.self.now.shift - c.len-end.result) _ _ shown c.in-Ok.ensures.read
    (omega (arith, c.len-end.ensures, held_len w0 _ _ _ _ h, c.if-at-end.false)) (c.in-Err-push_behind.ensures.err w0 _ h)
