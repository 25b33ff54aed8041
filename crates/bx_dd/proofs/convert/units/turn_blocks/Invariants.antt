use Rattle.std.proofs.Common.{◌≡◌, ◌-◌, ◌%◌, ◌≤◌, length, take, drop}
use Rattle.bx_dd.specs.Output.{turned_blocks}
use Rattle.bx_dd.proofs.convert.units.turn_blocks.Given as goal

-- the blocks so far were converted
abbrev pub invariant-loop-done : goal.invariant-loop-done
invariant-loop-done l = record {
  inside : l.done ≤ length l.initial.bytes;
  whole : l.done % l.form.ibs ≡ 0;
  front : take l.done l.bytes ≡ turned_blocks l.form (take l.done l.initial.bytes);
  back : drop l.done l.bytes ≡ drop l.done l.initial.bytes;
}

abbrev pub decreases-loop-done : goal.decreases-loop-done
decreases-loop-done l = length l.initial.bytes - l.done
