use Rattle.bx_dump.specs.Xxd.{words_line}
use Rattle.bx_dump_columns.proofs.LinesLemmas.{lines_zero}
use Rattle.bx_dump.proofs.xxd.words.WordsLineForm.put_alone.Goals as goal

pub returns-in_default-2-clause-text : goal.returns-in_default-2-clause-text
returns-in_default-2-clause-text c =
    let p = c.args.self.now in
    lines_zero (words_line p.decimal p.upper p.cols p.group) p.cols c.args.at c.args.bytes.now p.some
