-- What dd counts.
use Rattle.std.specs.Prelude.{ℕ, ◌/◌, ◌%◌, min, ◌==◌, if◌then◌else◌, List, [], ◌++◌, length, codes}
use Rattle.std.specs.Fmt.{decimal}
use Rattle.bx_dd.specs.declared.form.Form.{Form}
use Rattle.bx_dd.specs.declared.counts.Counts.{Counts}
use Rattle.bx_dd.specs.Output.{converted, cut_records, turned_blocks}

-- blocks of the selected input and of the output, those that are short apart, and the records that were cut
abbrev pub counts_of : Form → List ℕ → Counts
counts_of form input = let output = converted form input in record {
  whole_in = length input / form.ibs;
  part_in = min (length input % form.ibs) 1;
  whole_out = length output / form.obs;
  part_out = min (length output % form.obs) 1;
  cut = cut_records form.shape form.cbs (turned_blocks form input);
}

-- dd's report; it tells how many records were cut, if any were
abbrev pub report_text : Counts → List ℕ
report_text c = decimal c.whole_in ++ codes "+" ++ decimal c.part_in ++ codes " records in\n"
    ++ decimal c.whole_out ++ codes "+" ++ decimal c.part_out ++ codes " records out\n"
    ++ (if c.cut == 0 then [] else if c.cut == 1 then codes "1 truncated record\n" else decimal c.cut ++ codes " truncated records\n")
