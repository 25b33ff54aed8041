use Rattle.std.proofs.Common.{◌≡◌, ◌++◌, ◌∷◌, List, ℕ, codes, string_bytes, ap, append_assoc}
use Rattle.std.specs.Fmt.{decimal}
use Rattle.bx_dd.specs.private.Counting.{cut_text}
use Rattle.bx_dd.proofs.counts.report.Goals as goal

-- the parts of a report, one after another
joined : (a b c d cut : List ℕ) →
    (a ++ 43 ∷ (b ++ (codes " records in\n" ++ (c ++ 43 ∷ (d ++ codes " records out\n"))))) ++ cut
    ≡ a ++ codes "+" ++ b ++ codes " records in\n" ++ c ++ codes "+" ++ d ++ codes " records out\n" ++ cut
joined a b c d cut = simp append_assoc

pub returns-clause-text : goal.returns-clause-text
returns-clause-text g c =
    let n = c.args.counts.now in
    let vec : c.into_bytes.result.items ≡ string_bytes c.push_cut.new.text = ap (λ v. v.items) c.into_bytes.ensures.value in
    rw (vec, c.in_ok-push_cut.ensures, c.in_ok-write.ensures.bytes, c.new-text.ensures.bytes)
    (joined (decimal n.whole_in) (decimal n.part_in) (decimal n.whole_out) (decimal n.part_out) (cut_text n.cut))
