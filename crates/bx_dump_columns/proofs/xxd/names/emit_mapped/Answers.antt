use Rattle.std.proofs.Common.{◌≡◌, ◌+◌, ◌-◌, map, take, drop, arith, refl, ap, ◌∙◌}
use Rattle.bx_dump_columns.specs.Names.{name_byte}
use Rattle.bx_dump_columns.proofs.NamesLemmas.{mapped_more, mapped_stops}
use Rattle.std.proofs.lemmas.List.{length-append}
use Rattle.bx_text.proofs.KnownLemmas.{Appends-trans}
use Rattle.bx_dump_columns.proofs.xxd.names.emit_mapped.Goals as goal

pub returns-in-Err : goal.returns-in-Err
returns-in-Err g c =
    let before = c.loop-done.invariant in
    let size = c.loop-done.done + c.min-size.result - c.loop-done.done in
    mapped_stops name_byte c.args.name.now c.args.before c.loop-done.done size _ _ _ _ _ c.in-Err.fault refl before.within before.so_far c.put_name.ensures c.in-Err.ensures.err

pub loop-done-preserved : goal.loop-done-preserved
loop-done-preserved g c =
    let before = c.loop-done.invariant in
    let name = c.args.name.now in
    let done = c.loop-done.done in
    let size = c.min-size.result in
    let same : done + size - done ≡ size = omega arith in
    let piece : c.put_name.new.text ≡ map name_byte (take size (drop done name)) = c.put_name.ensures ∙ ap (λ n. map name_byte (take n (drop done name))) same in
    record {
      within = omega (arith, c.min-size.ensures);
      room = omega (arith, length-append c.put_name.new.text c.split_at_mut-piece.result.1.now, c.put_name.auto.text, c.split_at_mut-piece.ensures.front_len, c.split_at_mut-piece.ensures.back_len, before.room, c.min-size.ensures);
      so_far = rw (mapped_more name_byte name done size, ← piece) (Appends-trans _ _ _ _ _ before.so_far c.in_default.ensures.ok);
    }
