use Rattle.bx_dump.proofs.FoldByLemmas.{more_text_by}
use Rattle.bx_dump.proofs.driver.wide.WidePagesPages.grows.Goals as goal

pub returns-clause-more : goal.returns-clause-more
returns-clause-more g c input more seen =
    let p = c.args.self.now in
    more_text_by (g.F.WideForm.cols p.form) (g.F.WideForm.line p.form) p.all p.start seen.0 input more p.broad seen.1
