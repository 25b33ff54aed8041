use Rattle.std.proofs.Common.{◌≡◌, arith, length, ◌/◌, ◌%◌, min, ◌+◌, ◌++◌, cond, subst, ◌∙◌, sym, ap, add-zero}
use Rattle.bx_dd.specs.Counting.{counts_of}
use Rattle.bx_dd.specs.Output.{turned_blocks, converted}
use Rattle.bx_dd.specs.Standing.{Progress, IsAfter}
use Rattle.bx_dd.specs.private.Standing.{last_of}
use Rattle.bx_dd.proofs.RecordsLemmas.{Stands_last}
use Rattle.bx_dd.proofs.ConvertLemmas.{counts_same}
use Rattle.bx_dd.proofs.convert.Convert.finish.Goals as goal
use Rattle.bx_dd.proofs.convert.Convert.finish.Goals.{then-over, else-over}

pub returns-clause-bytes : goal.returns-clause-bytes
returns-clause-bytes g c input after =
    let i = c.self.inside in
    let P : Progress → Type 0 = λ p. IsAfter input p in
    let was = subst P (sym c.self.view_is) after in
    let Q : Progress → Type 0 = λ p. c.from_vec.result ≡ converted p.form input in
    subst Q c.self.view_is (c.from_vec.ensures ∙ c.in_ok-end_output.ensures.ok ∙ ap (λ l. i.out.items ++ last_of i.form.shape i.form.cbs l) c.as_slice.ensures.value
    ∙ (Stands_last i.form.shape i.form.cbs (turned_blocks i.form input) i.out.items i.held.items i.over i.cut c.self.invariant.0.some_cbs was.1).0)

pub returns-clause-counts : goal.returns-clause-counts
returns-clause-counts g c input after =
    let i = c.self.inside in
    let P : Progress → Type 0 = λ p. IsAfter input p in
    let was = subst P (sym c.self.view_is) after in
    let last = Stands_last i.form.shape i.form.cbs (turned_blocks i.form input) i.out.items i.held.items i.over i.cut c.self.invariant.0.some_cbs was.1 in
    let bytes : c.end_output.new.out.items ≡ converted i.form input = c.in_ok-end_output.ensures.ok ∙ ap (λ l. i.out.items ++ last_of i.form.shape i.form.cbs l) c.as_slice.ensures.value ∙ last.0 in
    let cut : c.if-over.counts ≡ i.cut + cond i.over 1 0 = elim c.if-over.branch [
      | then-over w ↦ w.counts-is ∙ ap (λ b. i.cut + cond b 1 0) (sym w.if-over.true)
      | else-over w ↦ w.counts-is ∙ sym (add-zero i.cut) ∙ ap (λ b. i.cut + cond b 1 0) (sym w.if-over.false)
    ] in
    let size : c.len-length.result ≡ length c.end_output.new.out.items = omega arith in
    let Q : Progress → Type 0 = λ p. record { whole_in = i.taken / i.form.ibs; part_in = c.min.result; whole_out = c.len-length.result / i.form.obs; part_out = c.min-2.result; cut = c.if-over.counts } ≡ counts_of p.form input in
    subst Q c.self.view_is (counts_same i.form input c.end_output.new.out.items i.taken c.min.result c.min-2.result c.if-over.counts was.0 bytes c.min.ensures (c.min-2.ensures ∙ ap (λ n. min (n % i.form.obs) 1) size) (cut ∙ last.1) c.len-length.result size)
