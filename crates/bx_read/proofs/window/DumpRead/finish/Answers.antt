use Rattle.std.proofs.Common.{ap, sym, ◌∙◌}
use Rattle.bx_read.specs.Window.{DumpView}
use Rattle.bx_read.proofs.WindowLemmas.{fault_at_end, fault_of_read}
use Rattle.bx_read.proofs.window.DumpRead.finish.Goals as goal

pub returns-in-Some : goal.returns-in-Some
returns-in-Some g c = record {
  exact = λ text is.
      fault_at_end text c.in-Some.fault (fault_of_read text c.args.self c.in-Some.fault (ap (λ (v : DumpView). v.fault) (sym c.self.view_is) ∙ c.in-Some.is) is);
}
