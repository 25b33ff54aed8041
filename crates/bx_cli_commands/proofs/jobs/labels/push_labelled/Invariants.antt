use Rattle.std.proofs.Common.{◌≡◌, List, ◌++◌, drop}
use Rattle.bx_cli_commands.specs.jobs.Labels.{labelled, line_begins}
use Rattle.bx_cli_commands.proofs.jobs.labels.push_labelled.Given as goal

-- what is appended and what is left are the whole
abbrev pub invariant-loop-byte : goal.invariant-loop-byte
invariant-loop-byte g l = record {
  text : l.out.items ++ labelled l.label l.next (drop l.byte-index l.text) ≡ l.fn.out.items ++ labelled l.label l.fn.begins l.text;
  behind : line_begins l.next (drop l.byte-index l.text) ≡ line_begins l.fn.begins l.text;
}
