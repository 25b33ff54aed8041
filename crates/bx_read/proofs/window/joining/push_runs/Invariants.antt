use Rattle.std.proofs.Common.{◌≡◌, ◌++◌}
use Rattle.bx_read.specs.Text.{contents}
use Rattle.bx_read.specs.private.Window.{JoinsBehind}
use Rattle.bx_read.proofs.window.joining.push_runs.Given as goal

-- those that were put stand behind the others
abbrev pub invariant-loop-run : goal.invariant-loop-run
invariant-loop-run g l = record {
  all : l.yielded ++ l.run-iterator.rest.items ≡ l.fn.more.items;
  joins : JoinsBehind (contents l.fn.runs.items) (contents l.runs.items) (contents l.yielded);
}
