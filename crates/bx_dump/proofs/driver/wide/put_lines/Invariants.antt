use Rattle.std.proofs.Common.{◌≡◌, ◌+◌, ◌*◌, ◌≤◌, ℕ, List, ◌++◌, length, take}
use Rattle.bx_dump.specs.FoldBy.{folded_by}
use Rattle.bx_dump.specs.private.FoldBy.{lines_to_by, IsTakenInLines}
use Rattle.bx_dump.proofs.driver.wide.put_lines.Given as goal

-- what stands for the lines so far
abbrev pub invariant-loop-k : goal.invariant-loop-k
invariant-loop-k g l = record {
  within : l.used ≤ g.F.WideForm.room l.form * l.k;
  text : (input : List ℕ) (m start : ℕ) → length input ≡ g.F.WideForm.cols l.form * m → l.at ≡ start + g.F.WideForm.cols l.form * m → IsTakenInLines (g.F.WideForm.cols l.form) l.all l.initial.fold input m →
      lines_to_by (g.F.WideForm.cols l.form) (g.F.WideForm.line l.form) l.all start (input ++ l.bytes) (m + l.k)
      ≡ folded_by (g.F.WideForm.cols l.form) (g.F.WideForm.line l.form) l.all start input ++ take l.used l.page;
  taken : (input : List ℕ) (m : ℕ) → length input ≡ g.F.WideForm.cols l.form * m → IsTakenInLines (g.F.WideForm.cols l.form) l.all l.initial.fold input m →
      IsTakenInLines (g.F.WideForm.cols l.form) l.all l.fold (input ++ l.bytes) (m + l.k);
}
