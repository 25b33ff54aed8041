use Rattle.std.proofs.Common.{ℕ, Bool, true, false, List, subst}
use Rattle.bx_read.specs.Text.{contents}
use Rattle.bx_patch.specs.Grammar.{IsSigned}
use Rattle.bx_patch.specs.Read.{asked_of}
use Rattle.bx_patch.proofs.ReadLemmas.{OnOk-map, adds_new, adds_old, within}
use Rattle.bx_patch.proofs.read.line.take_signed.Goals as goal

pub returns-then-new-clause-ok : goal.returns-then-new-clause-ok
returns-then-new-clause-ok g c =
    let p = asked_of c.args.patch.now in
    let line = c.args.line.now in
    let piece : ℕ × List ℕ = (c.in-Ok.piece.at, c.in-Ok.piece.bytes) in
    let is = subst (λ (new : Bool). IsSigned new line piece) c.if-new.true c.in-Ok.ensures.ok in
    let fits = within c.is_past.result p.lengths c.args.new true piece c.if-new.true c.if-is_past.false c.is_past.ensures.1 in
    OnOk-map c.push.result (λ more. adds_new line p piece (contents c.push.new.pieces.items) is fits more) c.push.ensures.ok

pub returns-else-new-clause-ok : goal.returns-else-new-clause-ok
returns-else-new-clause-ok g c =
    let p = asked_of c.args.patch.now in
    let line = c.args.line.now in
    let piece : ℕ × List ℕ = (c.in-Ok.piece.at, c.in-Ok.piece.bytes) in
    let is = subst (λ (new : Bool). IsSigned new line piece) c.if-new.false c.in-Ok.ensures.ok in
    let fits = within c.is_past.result p.lengths c.args.new false piece c.if-new.false c.if-is_past.false c.is_past.ensures.1 in
    OnOk-map c.push-else-new.result (λ more. adds_old line p piece (contents c.push-else-new.new.pieces.items) is fits more) c.push-else-new.ensures.ok
