use Rattle.std.proofs.Common.{◌≡◌, ◌-◌, ◌++◌, ◌∷◌, [], ℕ, suc, List, length, take, reverse, sym, ◌∙◌, ap, subst, arith, Result, Ok, Err}
use Rattle.std.specs.Prelude.{OnOk, slice_set, slice_index_or}
use Rattle.std.proofs.lemmas.Result.{on_ok_weaker}
use Rattle.bx_image.specs.declared.record.Saved.{Saved}
use Rattle.bx_image.specs.Change.{IsOf}
use Rattle.bx_image.specs.Runs.{AreRunsOf}
use Rattle.bx_journal_protocol.proofs.TakenLemmas.{last_is, last_set, IsShapedAs, IsFilled, behind_filled, ready_filled, shaped_next, len_next}
use Rattle.bx_journal_protocol.specs.protocol.Takens.{AreRoomFrom, AreReady, AllShaped, LieBehind, LieInTurn, entries_len}
use Rattle.bx_journal_protocol.proofs.protocol.fill.fill_end.Goals as goal

some_more : (n : ℕ) → (n ≡ 0 → ⊥) → n ≡ suc (n - 1)
some_more n some = omega arith

both : {T E A : Type 0} (t new : Saved A) (x : List ℕ) (r : Result T E) → (t.len ≡ length x → OnOk r (IsOf new x)) → OnOk r (AreRunsOf x new.runs) → OnOk r (IsFilled x t new)
both t new x (Ok v) kept read = record { kept = kept; read = read }
both t new x (Err e) kept read = tt

pub returns-clause-filled : goal.returns-clause-filled
returns-clause-filled g c faithful =
    let ts = c.args.takens.now in
    let n : ℕ = length ts - 1 in
    let t = slice_index_or ts n c.index-takens-count.result in
    let long : length ts ≡ suc n = omega (arith, c.if-count-eq0.false) in
    let old : ts ≡ take n ts ++ t ∷ [] = last_is ts n c.index-takens-count.result long in
    let new : slice_set ts n c.fill.new.self ≡ take n ts ++ c.fill.new.self ∷ [] = last_set ts n c.fill.new.self long in
    let shape : IsShapedAs t c.fill.new.self = record { len = c.fill.ensures.len; runs = c.fill.ensures.shape } in
    let x = g.D.Device.image c.args.image.now in
    let filled = both t c.fill.new.self x c.fill.result (λ len. c.fill.ensures.kept faithful len) (c.fill.ensures.read faithful) in
    on_ok_weaker c.fill.result (λ f. record {
      ready = λ es z. subst (λ us. AreReady x es (reverse us)) (sym new) (ready_filled x es (take n ts) t c.fill.new.self shape f (subst (λ us. AreRoomFrom x es (reverse us)) old z));
      behind = λ len es z. subst (λ us. LieBehind es (reverse us)) (sym new) (behind_filled len es (take n ts) t c.fill.new.self (subst (λ us. LieInTurn len es (reverse us)) old z));
    }) filled

pub returns-clause-shaped : goal.returns-clause-shaped
returns-clause-shaped g c all =
    let ts = c.args.takens.now in
    let n : ℕ = length ts - 1 in
    let t = slice_index_or ts n c.index-takens-count.result in
    let long : length ts ≡ suc n = omega (arith, c.if-count-eq0.false) in
    let old : ts ≡ take n ts ++ t ∷ [] = last_is ts n c.index-takens-count.result long in
    let shape : IsShapedAs t c.fill.new.self = record { len = c.fill.ensures.len; runs = c.fill.ensures.shape } in
    subst AllShaped (sym (last_set ts n c.fill.new.self long)) (shaped_next (take n ts) t c.fill.new.self shape (subst AllShaped old all))

pub returns-clause-entries_len : goal.returns-clause-entries_len
returns-clause-entries_len g c =
    let ts = c.args.takens.now in
    let n : ℕ = length ts - 1 in
    let t = slice_index_or ts n c.index-takens-count.result in
    let long : length ts ≡ suc n = omega (arith, c.if-count-eq0.false) in
    let old : ts ≡ take n ts ++ t ∷ [] = last_is ts n c.index-takens-count.result long in
    let shape : IsShapedAs t c.fill.new.self = record { len = c.fill.ensures.len; runs = c.fill.ensures.shape } in
    ap entries_len (last_set ts n c.fill.new.self long) ∙ len_next (take n ts) t c.fill.new.self shape ∙ sym (ap entries_len old)
