use Rattle.std.proofs.Common.{◌+◌, length, ap, sym, subst, arith}
use Rattle.bx_journal_format.specs.declared.read.parts.Part.{Part}
use Rattle.std.specs.Prelude.{List}
use Rattle.bx_journal_format.specs.count.Parts.{GivesParts}
use Rattle.bx_journal_format.proofs.StretchLemmas.{HasParts, gives_parts, no_parts, parts_on}
use Rattle.bx_journal_format.proofs.read.parts.parts_in.Goals as goal

pub loop-window-init : goal.loop-window-init
loop-window-init g c = record {
  has = subst (λ (ps : List Part). HasParts c.args.len c.args.window.now c.args.window.now ps 0 0) (sym c.clear.ensures.items) (no_parts c.args.len c.args.window.now);
  few = omega (arith, ap length c.clear.ensures.items);
  room = omega (arith, c.clear.ensures.capacity);
}

pub returns-in_default-clause-read : goal.returns-in_default-clause-read
returns-in_default-clause-read g c =
    subst (λ w. GivesParts c.args.len c.args.window.now w c.loop-window.parts.items c.loop-window.taken) (sym c.in_default.ensures.kept)
    (gives_parts c.args.len c.args.window.now c.loop-window.window c.loop-window.parts.items c.loop-window.taken c.loop-window.used c.loop-window.invariant.has)

pub loop-window-preserved : goal.loop-window-preserved
loop-window-preserved g c =
    let inv = c.loop-window.invariant in
    let next = c.in-Some.next in
    let put = c.put_part.ensures in
    let has = parts_on c.args.len c.args.window.now c.loop-window.window c.take_stretch.new.window c.loop-window.parts.items c.put_part.new.parts.items c.loop-window.taken c.loop-window.used next inv.has c.in-Some.ensures.gives
    (λ runs lie. put.runs c.take_stretch.new.window c.args.len runs lie) (λ lie here. put.lie (c.loop-window.used + next.count) c.args.len lie here) in
    record {
      has = has;
      few = omega (arith, inv.few, put.few, c.in-Some.ensures.gives.some);
      room = omega (arith, inv.room, put.room);
    }
