use Rattle.std.proofs.Common.{◌≡◌, ◌∙◌, ◌+◌, ◌-◌, ◌≤◌, ℕ, List, [], length, length-take, map, take, drop, refl, ap, sym, subst, arith}
use Rattle.std.specs.Prelude.{vec_capacity}
use Rattle.bx_image.specs.Change.{placed}
use Rattle.bx_journal_format.specs.declared.read.parts.Part.{Part}
use Rattle.bx_journal_format.specs.Kept.{with_runs}
use Rattle.bx_journal_format.specs.count.Parts.{IsIn, part_run}
use Rattle.bx_journal_model.specs.Long.{BeginsAlike, IsCut}
use Rattle.bx_journal_model.specs.Restoring.{AreNamed}
use Rattle.bx_journal_model.proofs.LongLines.{passed_most, passed_within}
use Rattle.bx_journal_model.proofs.RestoreLemmas.{cut_given, cut_some, parts_within, placed_long, window_named}
use Rattle.bx_journal_protocol.proofs.protocol.restore.restore_window.Goals as goal

pub returns-in_err-restore_parts-clause-keeps : goal.returns-in_err-restore_parts-clause-keeps
returns-in_err-restore_parts-clause-keeps g c dh th text is s r st names x to =
    let T = g.T.TextStore in
    let n : ℕ = c.parts_in-taken.result in
    let cut = c.in_ok-cut.cut in
    let window : List ℕ = c.parts_in-taken.new.window in
    let parts : List Part = c.parts_in-taken.new.parts.items in
    let gives = c.parts_in-taken.ensures.read in
    let here : IsCut (T.faithful c.args.from.now) text c.args.at c.args.mark.saved c.read_cut.new.window cut =
    subst (λ t. IsCut (T.faithful c.args.from.now) t c.args.at c.args.mark.saved c.read_cut.new.window cut) is c.in_ok-cut.ensures.cut in
    let inside = cut_given (T.faithful c.args.from.now) text c.args.mark.len c.args.at c.args.mark.saved n c.read_cut.new.window c.split_at_mut-now.result.0.now window cut parts th here c.split_at_mut-now.ensures.front gives
    st.entries st.version (with_runs [] to.runs) to.inside in
    let within = passed_within cut n c.args.at c.args.mark.saved
    (omega (arith, gives.within, ap length c.split_at_mut-now.ensures.front, length-take cut.count c.read_cut.new.window)) here.below in
    let named = window_named text c.args.mark s r st names c.args.at _ x _ to (map (part_run window) parts) within inside in
    let all : AreNamed r (map (part_run window) c.deref.result.now) = subst (λ ps. AreNamed r (map (part_run window) ps)) (sym c.deref.ensures.value) named in
    (c.in_err-restore_parts.ensures.keeps dh r all, c.in_err-restore_parts.ensures.survives dh r all)

pub returns-clause-keeps : goal.returns-clause-keeps
returns-clause-keeps g c dh th text is s r st names x to =
    let T = g.T.TextStore in
    let n : ℕ = c.parts_in-taken.result in
    let cut = c.in_ok-cut.cut in
    let window : List ℕ = c.parts_in-taken.new.window in
    let parts : List Part = c.parts_in-taken.new.parts.items in
    let gives = c.parts_in-taken.ensures.read in
    let here : IsCut (T.faithful c.args.from.now) text c.args.at c.args.mark.saved c.read_cut.new.window cut =
    subst (λ t. IsCut (T.faithful c.args.from.now) t c.args.at c.args.mark.saved c.read_cut.new.window cut) is c.in_ok-cut.ensures.cut in
    let inside = cut_given (T.faithful c.args.from.now) text c.args.mark.len c.args.at c.args.mark.saved n c.read_cut.new.window c.split_at_mut-now.result.0.now window cut parts th here c.split_at_mut-now.ensures.front gives
    st.entries st.version (with_runs [] to.runs) to.inside in
    let within = passed_within cut n c.args.at c.args.mark.saved
    (omega (arith, gives.within, ap length c.split_at_mut-now.ensures.front, length-take cut.count c.read_cut.new.window)) here.below in
    let named = window_named text c.args.mark s r st names c.args.at _ x _ to (map (part_run window) parts) within inside in
    let all : AreNamed r (map (part_run window) c.deref.result.now) = subst (λ ps. AreNamed r (map (part_run window) ps)) (sym c.deref.ensures.value) named in
    (c.in_ok-restore_parts.ensures.keeps dh r all, c.in_ok-restore_parts.ensures.survives dh r all)

pub returns-clause-restored : goal.returns-clause-restored
returns-clause-restored g c dh th text is =
    let T = g.T.TextStore in
    let n : ℕ = c.parts_in-taken.result in
    let cut = c.in_ok-cut.cut in
    let window : List ℕ = c.parts_in-taken.new.window in
    let parts : List Part = c.parts_in-taken.new.parts.items in
    let gives = c.parts_in-taken.ensures.read in
    let more : ℕ = c.args.mark.saved - c.args.at in
    let here : IsCut (T.faithful c.args.from.now) text c.args.at c.args.mark.saved c.read_cut.new.window cut =
    subst (λ t. IsCut (T.faithful c.args.from.now) t c.args.at c.args.mark.saved c.read_cut.new.window cut) is c.in_ok-cut.ensures.cut in
    let begins : BeginsAlike (take more (drop c.args.at text)) c.split_at_mut-now.result.0.now = subst (BeginsAlike (take more (drop c.args.at text))) (sym c.split_at_mut-now.ensures.front)
    (subst (λ t. BeginsAlike (take more (drop c.args.at t)) (take cut.count c.read_cut.new.window)) is (c.in_ok-cut.ensures.begins c.requires.window th)) in
    record {
      runs = map (part_run window) parts;
      within = parts_within c.args.mark.len (length window) window parts refl gives.lie;
      leads = λ es v old inside. subst (λ k. IsIn (take (c.args.at + k) text) es v (record { len = c.args.mark.len; runs = with_runs old (map (part_run window) parts) })) (sym c.passed.ensures)
          (cut_given (T.faithful c.args.from.now) text c.args.mark.len c.args.at c.args.mark.saved n c.read_cut.new.window c.split_at_mut-now.result.0.now window cut parts th here c.split_at_mut-now.ensures.front gives es v old inside);
      some = cut_some c.args.mark.len (vec_capacity c.args.parts.now) n c.passed.result (take more (drop c.args.at text)) c.split_at_mut-now.result.0.now c.parts_in-taken.ensures.some begins (passed_most cut n c.passed.result c.passed.ensures);
      image = c.in_ok-restore_parts.ensures.ok dh ∙ ap (λ ps. placed (map (part_run window) ps) (g.D.Device.image c.args.image.now)) c.deref.ensures.value;
    }

pub returns-clause-below : goal.returns-clause-below
returns-clause-below g c =
    let cut = c.in_ok-cut.cut in
    let here = c.in_ok-cut.ensures.cut in
    omega (
      arith,
      c.passed.ensures,
      passed_within cut c.parts_in-taken.result c.args.at c.args.mark.saved
          (omega (arith, c.parts_in-taken.ensures.read.within, ap length c.split_at_mut-now.ensures.front, length-take cut.count c.read_cut.new.window)) here.below,
    )

pub returns-clause-long : goal.returns-clause-long
returns-clause-long g c dh long =
    let window : List ℕ = c.parts_in-taken.new.window in
    let parts : List Part = c.parts_in-taken.new.parts.items in
    placed_long c.args.mark.len (map (part_run window) parts) _ _ (parts_within c.args.mark.len (length window) window parts refl c.parts_in-taken.ensures.read.lie) long
    (c.in_ok-restore_parts.ensures.ok dh ∙ ap (λ ps. placed (map (part_run window) ps) (g.D.Device.image c.args.image.now)) c.deref.ensures.value)
