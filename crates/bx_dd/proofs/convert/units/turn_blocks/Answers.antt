use Rattle.std.proofs.Common.{◌≡◌, ◌+◌, ◌-◌, ◌<◌, ◌≤◌, ◌%◌, ◌++◌, length, take, drop, sym, ap, ◌∙◌, arith, refl}
use Rattle.std.proofs.Math.Nat.{mod-eq_of_lt}
use Rattle.std.proofs.Math.Seq.{take-add}
use Rattle.std.proofs.lemmas.List.{length-take-le, length-drop, take_all, drop-drop}
use Rattle.bx_text.proofs.KnownLemmas.{take-put_mid_more}
use Rattle.bx_dd.specs.Output.{turned_blocks}
use Rattle.bx_dd.specs.private.Output.{block_of}
use Rattle.bx_dd.proofs.ConvertLemmas.{joined_more, joined_none}
use Rattle.bx_dd.proofs.RecordsLemmas.{mod_full}
use Rattle.bx_dd.proofs.UnitLemmas.{block_whole, drop_behind, whole_fits}
use Rattle.bx_dd.proofs.convert.units.turn_blocks.Goals as goal

pub loop-done-init : goal.loop-done-init
loop-done-init c = record {
  inside = omega arith;
  whole = mod-eq_of_lt c.requires.sizes.some_ibs;
  front = sym (joined_none c.args.form c.requires.sizes.some_ibs);
  back = refl;
}

pub loop-done-preserved : goal.loop-done-preserved
loop-done-preserved c =
    let form = c.args.form in
    let size = form.ibs in
    let pos = c.requires.sizes.some_ibs in
    let xs = c.args.bytes.now in
    let buf = c.loop-done.bytes in
    let d = c.loop-done.done in
    let m = d + size - d in
    let same : m ≡ size = omega arith in
    let before = c.loop-done.invariant in
    let kept : length buf ≡ length xs = c.loop-done.auto.bytes in
    let inside : d < length xs = omega (arith, c.loop-done-test.true) in
    let fits : d + size ≤ length xs = whole_fits d (length xs) size pos before.whole c.requires.whole inside in
    let next = c.turn_block.new.block in
    let part = take size (drop d xs) in
    let read : take m (drop d buf) ≡ part = ap (λ k. take k (drop d buf)) same ∙ ap (take size) before.back in
    let part_len : length part ≡ size = length-take-le size (drop d xs) (omega (arith, length-drop d xs)) in
    let next_len : length next ≡ size = c.turn_block.auto.block ∙ ap length read ∙ part_len in
    let turned : next ≡ block_of form part = c.turn_block.ensures ∙ block_whole form (take m (drop d buf)) (ap length read ∙ part_len) ∙ ap (block_of form) read in
    let front_len : length (take d xs) ≡ d = length-take-le d xs (omega arith) in
    let front_whole : length (take d xs) % size ≡ 0 = ap (λ k. k % size) front_len ∙ before.whole in
    record {
      inside = fits;
      whole = mod_full d size size pos (omega (arith, before.whole));
      front = take-put_mid_more buf next d m size (omega arith) (omega (arith, next_len)) ∙ ap (λ l. take d buf ++ l) (take_all size next (omega (arith, next_len)) ∙ turned)
          ∙ ap (λ l. l ++ block_of form part) before.front ∙ sym (joined_more form (take d xs) part pos front_whole (omega (arith, part_len)) (omega (arith, part_len)))
          ∙ ap (turned_blocks form) (sym (take-add d size xs));
      back = drop_behind buf next d m size (omega arith) next_len same ∙ sym (drop-drop size d buf) ∙ ap (drop size) before.back ∙ drop-drop size d xs;
    }
