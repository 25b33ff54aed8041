use Rattle.std.proofs.Common.{◌≡◌, ◌∙◌, ◌++◌, ◌+◌, [], ℕ, List, refl, ap, sym, arith}
use Rattle.bx_text.specs.declared.fault.IoFault.TheVariants.{NoMemory}
use Rattle.bx_text.proofs.KnownLemmas.{Consumes-nil, Appends-nil}
use Rattle.bx_read.specs.Text.{lines_of, answers}
use Rattle.bx_read_stream.proofs.DumpLemmas.{nothing_laid}
use Rattle.bx_read_stream.proofs.dump.lay_dump.Goals as goal

pub returns-in_default-clause-err : goal.returns-in_default-clause-err
returns-in_default-clause-err g c = record {
  text = [];
  consumed = Consumes-nil _;
  stops = record {
    lines = [];
    rest = [];
    written = 0;
    read = refl;
    appended = Appends-nil _;
    cause = omega arith;
  };
}

pub lay_windows-requires-clause-new : goal.lay_windows-requires-clause-new
lay_windows-requires-clause-new g c =
    let new = c.in-Ok.ensures in
    nothing_laid c.in-Ok.lines.laying c.in-Ok.lines.held.items (g.W.Write.contents c.args.w.now) new.lines new.sent new.pending new.held

pub returns-in-Ok-finish-clause-ok : goal.returns-in-Ok-finish-clause-ok
returns-in-Ok-finish-clause-ok g c =
    let all = c.in-Ok-lay_windows.ensures.ok in
    let shift = c.in-Ok-lay_windows.ensures.shift ∙ c.in-Ok.ensures.shift in
    let done = rw shift at (c.in-Ok-finish.ensures.ok _ all.0 all.3) in
    record {
      text = all.0;
      lines = done.0;
      consumed = all.1;
      ends = all.2;
      read = done.1;
      count = done.2;
      appended = done.3;
    }
