use Rattle.std.proofs.Common.{◌≡◌, ◌-◌, ◌<◌, ◌≤◌, ◌++◌, cond, length, take, drop, map, replicate, sym, ap, ◌∙◌, arith}
use Rattle.std.proofs.lemmas.List.{length-take-le}
use Rattle.bx_dd.specs.Output.{cased, filler, turned_blocks, swapped}
use Rattle.bx_dd.specs.private.Output.{block_of}
use Rattle.bx_dd.proofs.ConvertLemmas.{joined_none}
use Rattle.bx_dd.proofs.UnitLemmas.{below_block, block_full, block_plain, joined_one, take_front, unit_sync}
use Rattle.bx_dd.proofs.convert.units.turn_last.Goals as goal
use Rattle.bx_dd.proofs.convert.units.turn_last.Goals.{then-form, else-form}

pub returns-then-have-eq0-clause-bytes : goal.returns-then-have-eq0-clause-bytes
returns-then-have-eq0-clause-bytes c =
    sym (ap (λ k. turned_blocks c.args.form (take k c.args.buf.now)) c.if-have-eq0.true ∙ joined_none c.args.form c.requires.sizes.some_ibs)

pub returns-clause-bytes : goal.returns-clause-bytes
returns-clause-bytes c =
    let form = c.args.form in
    let b = take c.args.have c.args.buf.now in
    let n = c.if-form.n in
    let part = take n c.if-form.buf in
    let len : length b ≡ c.args.have = length-take-le c.args.have c.args.buf.now (omega (arith, c.requires.few, c.requires.room)) in
    let inside : c.args.have < form.ibs = below_block form c.args.have c.requires.few c.if-have-eq0.false in
    let fits : n ≤ length c.args.buf.now = elim c.if-form.branch [
      | then-form w ↦ omega (arith, w.n-is, unit_sync form w.if-form.true, c.requires.room)
      | else-form w ↦ omega (arith, w.n-is, c.requires.few, c.requires.room)
    ] in
    let turned : map (cased form.letters) (cond form.swab (swapped part) part) ≡ block_of form b = elim c.if-form.branch [
      | then-form w ↦
          let is : part ≡ b ++ replicate (form.ibs - length b) (filler form.shape) =
          ap (λ k. take k c.if-form.buf) w.n-is ∙ ap (take form.ibs) w.buf-is ∙ w.fill_up.ensures ∙ ap (λ f. b ++ replicate (form.ibs - c.args.have) f) w.filler.ensures
          ∙ ap (λ k. b ++ replicate (form.ibs - k) (filler form.shape)) (sym len) in
          ap (λ l. map (cased form.letters) (cond form.swab (swapped l) l)) is ∙ block_full form b w.if-form.true
      | else-form w ↦
          let is : part ≡ b = ap (λ k. take k c.if-form.buf) w.n-is ∙ ap (take c.args.have) w.buf-is in
          ap (λ l. map (cased form.letters) (cond form.swab (swapped l) l)) is ∙ block_plain form b w.if-form.false
    ] in
    let long : length c.turn_block.new.block ≡ n = c.turn_block.auto.block ∙ length-take-le n c.if-form.buf (omega (arith, c.if-form.auto.buf)) in
    take_front n c.turn_block.new.block (drop n c.if-form.buf) long ∙ c.turn_block.ensures ∙ turned ∙ sym (joined_one form b (omega (arith, len, c.if-have-eq0.false)) (omega (arith, len, inside)))
