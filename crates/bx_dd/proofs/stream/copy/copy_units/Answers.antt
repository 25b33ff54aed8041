use Rattle.std.proofs.Common.{◌≡◌, ◌+◌, ◌^◌, ◌-◌, ◌≤◌, max, ◌++◌, [], ℕ, Option, refl, append_assoc, length, take, drop, cond, sym, ap, ◌∙◌, arith, append-nil, subst}
use Rattle.std.proofs.lemmas.Bool.{ne_eqb}
use Rattle.std.proofs.lemmas.List.{length-append, length-drop, length-take, length-take-le}
use Rattle.std.specs.Prelude.{List}
use Rattle.bx_text.proofs.KnownLemmas.{Consumes-nil, Consumes-trans, take-put_mid_more}
use Rattle.bx_text.specs.Writing.{WritesFront}
use Rattle.bx_text.specs.declared.fault.IoFault.{IoFault}
use Rattle.bx_text.specs.declared.stream.State.TheVariants.{Open, Ended}
use Rattle.bx_dd.specs.declared.form.Shape.TheVariants.{Flat, Unblock}
use Rattle.bx_dd.specs.Output.{converted}
use Rattle.bx_dd.specs.Streaming.{IsCopyAhead}
use Rattle.bx_dd.specs.private.Paged.{output_with}
use Rattle.bx_dd.specs.private.Streaming.{StopsPass, written_by}
use Rattle.bx_dd.proofs.CopyLemmas.{ahead_of, read_sizes, read_stops, stage_near, stage_read, stage_sent, stage_start, stage_unsent, unit_some, write_stops}
use Rattle.bx_dd.proofs.stream.copy.copy_units.Goals as goal
use Rattle.bx_dd.proofs.stream.copy.copy_units.Goals.{In-Ok}

pub loop-turn-init : goal.loop-turn-init
loop-turn-init g c = record {
  open_now = λ some. c.requires.open (λ e. some (sym e));
  limit = c.requires.fresh.most;
  few = omega arith;
  room = omega (arith, ap length c.requires.fresh.none.0);
  space = omega arith;
  part = λ is. omega (arith, ap length c.requires.fresh.none.0, c.requires.fresh.sizes.some_cbs (λ e. let wrong : Unblock ≡ Flat = sym is ∙ e in cc));
  pending = unit_some c.args.task.form c.requires.fresh.sizes.some_ibs;
  so_far = (
    [],
    refl,
    omega arith,
    omega arith,
    Consumes-nil (g.R.Read.remaining c.args.r.now),
    stage_start c.args.task.form (output_with (g.W.Write.contents c.args.w.now) c.args.waiting.now) c.requires.fresh.sizes c.requires.fresh.none.1 c.requires.fresh.none.0 c.requires.fresh.none.2,
  );
}

pub returns-in-Err-clause-err : goal.returns-in-Err-clause-err
returns-in-Err-clause-err g c =
    let before = c.loop-turn.invariant in
    let now = before.so_far in
    let have = c.loop-turn.turn.have in
    let want = c.min-want.result in
    let buf = c.loop-turn.buf in
    let same : have + want - have ≡ want = omega arith in
    let fits : have + want ≤ length buf = omega (arith, c.min-want.ensures, before.pending, c.requires.fresh.inside, c.loop-turn.auto.buf) in
    let size : length (take (have + want - have) (drop have buf)) ≡ want = length-take-le (have + want - have) (drop have buf) (omega (arith, length-drop have buf)) ∙ same in
    let open_now : c.loop-turn.meter.state ≡ Open = before.open_now (omega arith) in
    read_stops c.args.task.form _ _ _ _ now.0 _ _ _ c.args.task.most c.args.meter.now.taken _ _ c.in-Err.fault c.requires.fresh.sizes now.5 now.4 (c.in-Err.ensures.stopped open_now)
    (omega (arith, size, now.1, before.few, c.min-want.ensures)) (omega (arith, now.2, before.limit, c.loop-turn.meter.within))

-- the input with what this turn read
abbrev more_of : (g : _) (c : In-Ok g) → List ℕ
more_of g c = c.loop-turn.invariant.so_far.0 ++ take c.in-Ok.n c.read.new.buf

-- there was room for it behind the bytes that waited
fits_in : (g : _) (c : In-Ok g) → c.loop-turn.turn.have + c.min-want.result ≤ length c.loop-turn.buf
fits_in g c = omega (arith, c.min-want.ensures, c.loop-turn.invariant.pending, c.requires.fresh.inside, c.loop-turn.auto.buf)

sizes_of : (g : _) (c : In-Ok g) → (length c.read.new.buf ≡ c.min-want.result) × (length (more_of g c) ≡ length c.loop-turn.invariant.so_far.0 + c.in-Ok.n)
sizes_of g c = read_sizes c.loop-turn.buf c.read.new.buf c.loop-turn.invariant.so_far.0 c.loop-turn.turn.have c.min-want.result c.in-Ok.n (fits_in g c) c.read.auto.buf c.in-Ok.ensures.bound.0

-- before it, what was written was near what was converted
near_by : (g : _) (c : In-Ok g) (e : IoFault) → c.loop-turn.waiting.page.written ≤ written_by e → IsCopyAhead c.args.task.form.ibs (converted c.args.task.form) (more_of g c) e
near_by g c e grows =
    let before = c.loop-turn.invariant in
    let stage = before.so_far.5 in
    let have = c.loop-turn.turn.have in
    let pending = take have c.loop-turn.buf in
    let chunk = take c.in-Ok.n c.read.new.buf in
    let is : more_of g c ≡ stage.done ++ (pending ++ chunk) = ap (λ l. l ++ chunk) stage.parts ∙ append_assoc stage.done pending chunk in
    let sizes = sizes_of g c in
    let few : length (pending ++ chunk) ≤ max (2 ^ 24) c.args.task.form.ibs = omega (arith, length-append pending chunk, length-take have c.loop-turn.buf, length-take c.in-Ok.n c.read.new.buf, sizes.0, fits_in g c, c.requires.fresh.few, c.loop-turn.auto.buf) in
    ahead_of c.args.task.form.ibs (converted c.args.task.form) (more_of g c) stage.done (pending ++ chunk) c.loop-turn.waiting.page.written e is few (stage_near stage c.requires.fresh.sizes c.loop-turn.waiting.page.near before.room) grows

-- a write of it failed
unwritten : (g : _) (c : In-Ok g) (w : Option (List ℕ)) (e : IoFault) → c.loop-turn.waiting.page.written ≤ written_by e → WritesFront 0 (g.W.Write.contents c.args.w.now) w (converted c.args.task.form (more_of g c)) e
    → StopsPass c.args.task.form c.args.task.most c.args.meter.now.taken (g.R.Read.remaining c.args.r.now) (g.R.Read.remaining c.read.new.reader) (g.W.Write.contents c.args.w.now) w e
unwritten g c w e grows stop =
    let before = c.loop-turn.invariant in
    let now = before.so_far in
    let read = c.in-Ok.ensures in
    let sizes = sizes_of g c in
    write_stops c.args.task.form _ _ _ _ (more_of g c) c.args.task.most c.args.meter.now.taken e (Consumes-trans _ _ _ _ _ now.4 read.bytes)
    (omega (arith, sizes.1, now.1, before.few, sizes.0, read.bound.0, c.min-want.ensures)) (omega (arith, sizes.1, now.2, read.taken, read.limit, before.limit, c.read.new.self.within)) (near_by g c e grows) stop

pub returns-in-Err-pass-clause-err : goal.returns-in-Err-pass-clause-err
returns-in-Err-pass-clause-err g c =
    let at = (goal.at.returns-in-Err-pass-clause-err g c).In-Ok in
    let more = more_of g at in
    let have = c.loop-turn.turn.have in
    let fits = fits_in g at in
    let stage = stage_read c.loop-turn.invariant.so_far.5 (take c.in-Ok.n c.read.new.buf) _ (take-put_mid_more c.loop-turn.buf c.read.new.buf have (have + c.min-want.result - have) c.in-Ok.n (omega (arith, fits)) c.in-Ok.ensures.bound.0) in
    let stop = c.in-Err-pass.ensures.err more (g.W.Write.contents c.args.w.now) stage [] in
    unwritten g at _ c.in-Err-pass.fault (omega (arith, c.in-Err-pass.ensures.grows))
    (subst (λ (l : List ℕ). WritesFront 0 (g.W.Write.contents c.args.w.now) (g.W.Write.contents c.pass.new.w) (converted c.args.task.form l) c.in-Err-pass.fault) (append-nil more) stop)

pub returns-in-Err-pause-clause-err : goal.returns-in-Err-pause-clause-err
returns-in-Err-pause-clause-err g c =
    let at = (goal.at.returns-in-Err-pause-clause-err g c).In-Ok in
    let have = c.loop-turn.turn.have in
    let fits = fits_in g at in
    let stage = c.in-Ok-pass.ensures.ok (more_of g at) (g.W.Write.contents c.args.w.now) (stage_read c.loop-turn.invariant.so_far.5 (take c.in-Ok.n c.read.new.buf) _ (take-put_mid_more c.loop-turn.buf c.read.new.buf have (have + c.min-want.result - have) c.in-Ok.n (omega (arith, fits)) c.in-Ok.ensures.bound.0)) in
    let stop = c.in-Err-pause.ensures.err (g.W.Write.contents c.args.w.now) stage.flows.text stage.flows.goes in
    unwritten g at _ c.in-Err-pause.fault (omega (arith, c.in-Ok-pass.ensures.grows, c.in-Err-pause.ensures.grows)) (stage_unsent stage _ c.in-Err-pause.fault c.requires.fresh.sizes stop)

pub loop-turn-preserved : goal.loop-turn-preserved
loop-turn-preserved g c =
    let at = (goal.at.loop-turn-preserved g c).In-Ok in
    let before = c.loop-turn.invariant in
    let now = before.so_far in
    let more = more_of g at in
    let have = c.loop-turn.turn.have in
    let n = c.in-Ok.n in
    let read = c.in-Ok.ensures in
    let passed = c.in-Ok-pass.ensures in
    let fits = fits_in g at in
    let sizes = sizes_of g at in
    let less : n ≤ c.args.task.most - c.loop-turn.turn.read = omega (arith, sizes.0, read.bound.0, c.min-want.ensures) in
    let stage = passed.ok more (g.W.Write.contents c.args.w.now) (stage_read now.5 (take n c.read.new.buf) _ (take-put_mid_more c.loop-turn.buf c.read.new.buf have (have + c.min-want.result - have) n (omega (arith, fits)) read.bound.0)) in
    record {
      open_now = λ left. read.state ∙ ap (λ b. cond b Ended Open) (ne_eqb n 0 c.if-n-eq0.false);
      limit = read.limit ∙ before.limit;
      few = omega (arith, less, before.few, passed.read);
      room = passed.within.0;
      space = omega (arith, passed.space, before.space);
      part = passed.part;
      pending = passed.within.2;
      so_far = (
        more,
        omega (arith, sizes.1, now.1, passed.read),
        omega (arith, sizes.1, now.2, read.taken),
        omega (arith, sizes.1, now.3, passed.within.1),
        Consumes-trans _ _ _ _ _ now.4 read.bytes,
        stage_sent stage _ _ _ (c.in-Ok-pause.ensures.ok (g.W.Write.contents c.args.w.now) stage.flows.text stage.flows.goes),
      );
    }
