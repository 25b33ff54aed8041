use Rattle.std.proofs.Common.{◌≡◌, ◌<◌, ◌≤◌, ℕ, Bool, true, false, sym, ap, subst, inl, inr, arith}
use Rattle.bx_cli_commands.specs.Replies.{stands_by}
use Rattle.bx_world.specs.files.Files.{AreAllThere, IsOneOfMade}
use Rattle.bx_world.specs.files.Numbers.{numbers_of}
use Rattle.bx_run_session.specs.session.Contents.{DoesFound, FoundIn, Holds, TellsUnfinished}
use Rattle.bx_run_session.specs.session.Guarded.{WasJudged}
use Rattle.bx_run_session.specs.session.Named.{contents_of, is_missing}
use Rattle.bx_run_session.proofs.Begun.{begun, made_missing, never_another, nothing_done, unopened_judged, why_unbegun}
use Rattle.bx_run_session.proofs.Files.{before_all, by_flag, contents_before, contents_cleared, made_behind, made_by_run, named_behind, none_left, others_of, texts_gone, trio_cleared}
use Rattle.bx_run_session.proofs.NoteLemmas.{clears_behind}
use Rattle.bx_run_session.proofs.Refused.{endures_less, is_cleared, left_refused, read_between, unrefused, why_refused}
use Rattle.bx_run_session.proofs.session.named.run_on_files.Goals as goal

pub with_devices-done-requires-clause-kept : goal.with_devices-done-requires-clause-kept
with_devices-done-requires-clause-kept g c opening =
    let old = c.open_image_files.ensures.faith.0 opening in
    let opened = c.in-Ok.ensures.ok old in
    let kept = c.in-Ok.ensures.kept old in
    (kept.0 _ opened.image.named, kept.1 _ opened.journal.named)

pub clear-requires-clause-made : goal.clear-requires-clause-made
clear-requires-clause-made g c behind =
    let opening = c.with_devices-done.ensures.faith.0 behind in
    let old = c.open_image_files.ensures.faith.0 opening in
    let by_run = made_by_run _ _ _ _ _ _ _ _ (λ name n e. g.met.W.World.within c.args.world.now name n old e) (c.in-Ok.ensures.ok old)
    (c.with_devices-done.ensures.only opening) (g.met.W.World.begun c.args.world.now old) in
    let Began : ℕ → Type 0 = λ n. (g.W.World.state c.with_devices-done.new.world).before ≤ n in
    let numbers = numbers_of g.W.World.number c.in-Ok.files in
    let behind_made = subst (λ m. (n : ℕ) → IsOneOfMade m numbers n → Began n) (sym c.with_devices-done.ensures.made) by_run in
    subst (λ t. (n : ℕ) → IsOneOfMade c.with_devices-done.result.files.made t n → Began n) (sym (c.with_devices-done.ensures.files opening)) behind_made

pub clear-requires-clause-apart : goal.clear-requires-clause-apart
clear-requires-clause-apart g c behind =
    let opening = c.with_devices-done.ensures.faith.0 behind in
    let old = c.open_image_files.ensures.faith.0 opening in
    rw (c.with_devices-done.ensures.files opening, (c.with_devices-done.ensures.only opening).there) (c.in-Ok.ensures.ok old).apart

pub clear-requires-clause-named : goal.clear-requires-clause-named
clear-requires-clause-named g c behind =
    let opening = c.with_devices-done.ensures.faith.0 behind in
    let old = c.open_image_files.ensures.faith.0 opening in
    rw (c.with_devices-done.ensures.files opening)
    (named_behind _ _ _ _ _ _ _ (λ name n e. g.met.W.World.within c.args.world.now name n old e) (c.in-Ok.ensures.ok old) _
    (c.with_devices-done.ensures.only opening))

pub returns-clause-done : goal.returns-clause-done
returns-clause-done g c old s holds stopped =
    let opening = c.open_image_files.ensures.faith.1 old in
    let within : AreAllThere (g.W.World.state c.args.world.now) = λ name n e. g.met.W.World.within c.args.world.now name n old e in
    let opened = c.in-Ok.ensures.ok old in
    let held = subst (λ contents. Holds contents s) (sym (contents_before _ _ _ _ _ _ _ within opened)) holds in
    let named = named_behind _ _ _ _ _ _ _ within opened _ (c.with_devices-done.ensures.only opening) in
    let done = c.with_devices-done.result in
    let is_begun = begun done.unopened done.reply done.how c.with_devices-done.ensures.unbegun stopped in
    let does = unrefused g.R.Read.remaining _ _ _ _ (c.with_devices-done.ensures.does opening is_begun s held) stopped in
    rw (contents_cleared _ _ _ _ _ named (c.clear.ensures.most (c.with_devices-done.ensures.faith.1 opening))) does

pub returns-in-Err-clause-survives : goal.returns-in-Err-clause-survives
returns-in-Err-clause-survives g c old = record {
  holds = λ s holds stopped. absurd (stopped (λ wrong. cc));
  finds = λ s found stopped. absurd (stopped (λ wrong. cc));
  refused = λ whole is. c.open_image_files.ensures.survives old;
  settled = λ whole other. absurd (other tt);
}

pub returns-clause-survives : goal.returns-clause-survives
returns-clause-survives g c old =
    let opening = c.open_image_files.ensures.faith.1 old in
    let within : AreAllThere (g.W.World.state c.args.world.now) = λ name n e. g.met.W.World.within c.args.world.now name n old e in
    let opened = c.in-Ok.ensures.ok old in
    let named = named_behind _ _ _ _ _ _ _ within opened _ (c.with_devices-done.ensures.only opening) in
    let done = c.with_devices-done.ensures.faith.1 opening in
    let before = sym (contents_before _ _ _ _ _ _ _ within opened) in
    let most = c.clear.ensures.most done in
    let nothing = c.clear.ensures.survives done in
    record {
      holds = λ s holds stopped t behind.
          let trio = trio_cleared _ _ t _ _ _ named most behind in
          rw (trio.0, trio.1, trio.2) (λ x text redo there text_there redo_there.
          c.with_devices-done.ensures.survives opening s (subst (λ contents. Holds contents s) before holds) stopped x text redo
          (nothing _ x there) (nothing _ text text_there) (nothing _ redo redo_there));
      finds = λ s found stopped t behind.
          let trio = trio_cleared _ _ t _ _ _ named most behind in
          rw (trio.0, trio.1, trio.2) (endures_less g.R.Read.remaining s c.args.task c.with_devices-done.result.how c.with_devices-done.result.reply
          _ _ _ _ _ _ (nothing _) (nothing _) (nothing _)
          (c.with_devices-done.ensures.endures opening s (subst (λ contents. FoundIn contents s) before found) stopped));
      refused = λ whole is.
          before_all _ _ _ _ _ (c.open_image_files.ensures.survives old) ((c.with_devices-done.ensures.spares opening whole).0 is) (c.clear.ensures.survives done);
      settled = λ whole other t behind.
          let trio = trio_cleared _ _ t _ _ _ named most behind in
          let settled = (c.with_devices-done.ensures.spares opening whole).1 other in
          rw (trio.0, trio.1, trio.2, contents_cleared _ _ _ _ _ named most) (record {
            image = λ x there. settled.image x (nothing _ x there);
            journal = λ x there. settled.journal x (nothing _ x there);
            redo = λ x there. settled.redo x (nothing _ x there);
          });
    }

pub returns-in-Err-clause-refused : goal.returns-in-Err-clause-refused
returns-in-Err-clause-refused g c old whole = record {
  files = λ unrecovered. c.in-Err.ensures.err old;
  contents = λ opened. absurd (never_another c.args.names.now c.args.guard.mounted c.args.makes (g.W.World.refusals c.args.world.now < g.W.World.refusals c.open_image_files.new.world)
      (g.W.World.state c.args.world.now) c.in-Err.unopened (c.in-Err.ensures.why old) opened);
}

pub returns-clause-refused : goal.returns-clause-refused
returns-clause-refused g c old whole =
    let opening = c.open_image_files.ensures.faith.1 old in
    let within : AreAllThere (g.W.World.state c.args.world.now) = λ name n e. g.met.W.World.within c.args.world.now name n old e in
    let opened = c.in-Ok.ensures.ok old in
    let done = c.with_devices-done.ensures.faith.1 opening in
    let named = named_behind _ _ _ _ _ _ _ within opened _ (c.with_devices-done.ensures.only opening) in
    left_refused c.with_devices-done.result.unopened c.with_devices-done.result.how c.args.names.now _ _ _ _ (contents_before _ _ _ _ _ _ _ within opened)
    (contents_cleared _ _ _ _ _ named (c.clear.ensures.most done)) (c.with_devices-done.ensures.whole opening whole) (λ unrecovered same.
    let has = made_behind _ _ _ _ _ _ _ _ within opened (c.with_devices-done.ensures.only opening) (c.requires.free old)
    (c.with_devices-done.ensures.free opening) same in
    c.clear.ensures.left done whole unrecovered _ within (rw (c.with_devices-done.ensures.files opening, c.with_devices-done.ensures.made) has))

pub returns-clause-unopened : goal.returns-clause-unopened
returns-clause-unopened g c old =
    let done = c.with_devices-done.result in
    nothing_done done.unopened done.reply done.how _ _ c.with_devices-done.ensures.unbegun (λ whole. (returns-clause-refused g c old whole).files)

pub returns-clause-judged : goal.returns-clause-judged
returns-clause-judged g c old =
    let opening = c.open_image_files.ensures.faith.1 old in
    let within : AreAllThere (g.W.World.state c.args.world.now) = λ name n e. g.met.W.World.within c.args.world.now name n old e in
    let opened = c.in-Ok.ensures.ok old in
    let done = c.with_devices-done.result in
    let judged = c.with_devices-done.ensures.judged opening in
    let named = subst (λ contents. WasJudged c.args.guard c.in-Ok.files.made.image (g.W.World.note c.open_image_files.new.world) contents c.args.task done.unopened done.how)
    (contents_before _ _ _ _ _ _ _ within opened) judged in
    let held = contents_of c.args.names.now (g.W.World.state c.args.world.now) in
    let missing = subst (λ (b : Bool). WasJudged c.args.guard b (g.W.World.note c.open_image_files.new.world) held c.args.task done.unopened done.how)
    (made_missing _ _ _ _ _ opened.image) named in
    subst (λ note. WasJudged c.args.guard (is_missing c.args.names.now.image (g.W.World.state c.args.world.now)) note held c.args.task done.unopened done.how)
    (c.open_image_files.ensures.note old) missing

pub returns-clause-why_unopened : goal.returns-clause-why_unopened
returns-clause-why_unopened g c old =
    let done = c.with_devices-done.result in
    why_unbegun c.args.guard c.args.makes (g.W.World.note c.args.world.now) c.args.task c.args.names.now _ (g.W.World.state c.args.world.now) done.unopened done.reply done.how c.with_devices-done.ensures.unbegun
    (returns-clause-judged g c old)

pub returns-in-Err-clause-judged : goal.returns-in-Err-clause-judged
returns-in-Err-clause-judged g c old =
    unopened_judged c.args.guard c.args.makes (is_missing c.args.names.now.image (g.W.World.state c.args.world.now)) (g.W.World.note c.args.world.now)
    (contents_of c.args.names.now (g.W.World.state c.args.world.now)) c.args.task c.args.names.now
    (g.W.World.refusals c.args.world.now < g.W.World.refusals c.open_image_files.new.world) (g.W.World.state c.args.world.now) c.in-Err.unopened (c.in-Err.ensures.why old)

pub returns-in-Err-clause-why_unopened : goal.returns-in-Err-clause-why_unopened
returns-in-Err-clause-why_unopened g c old = inl (c.in-Err.ensures.why old)

pub returns-in-Err-clause-how : goal.returns-in-Err-clause-how
returns-in-Err-clause-how g c old = record { told = λ reading reads. tt; none = λ s holds. tt; some = tt }

pub returns-clause-how : goal.returns-clause-how
returns-clause-how g c old =
    let opening = c.open_image_files.ensures.faith.1 old in
    let within : AreAllThere (g.W.World.state c.args.world.now) = λ name n e. g.met.W.World.within c.args.world.now name n old e in
    subst (λ contents. TellsUnfinished contents c.with_devices-done.result.how (stands_by c.with_devices-done.result.reply)) (contents_before _ _ _ _ _ _ _ within (c.in-Ok.ensures.ok old))
    (c.with_devices-done.ensures.how opening)

pub returns-clause-why : goal.returns-clause-why
returns-clause-why g c old s holds is_opened whole =
    let opening = c.open_image_files.ensures.faith.1 old in
    let within : AreAllThere (g.W.World.state c.args.world.now) = λ name n e. g.met.W.World.within c.args.world.now name n old e in
    let opened = c.in-Ok.ensures.ok old in
    let held = subst (λ contents. Holds contents s) (sym (contents_before _ _ _ _ _ _ _ within opened)) holds in
    why_refused g.R.Read.remaining _ _ _ _ (c.with_devices-done.ensures.does opening is_opened s held)

pub returns-clause-recovered : goal.returns-clause-recovered
returns-clause-recovered g c old s found is_opened =
    let opening = c.open_image_files.ensures.faith.1 old in
    let within : AreAllThere (g.W.World.state c.args.world.now) = λ name n e. g.met.W.World.within c.args.world.now name n old e in
    let opened = c.in-Ok.ensures.ok old in
    let held = subst (λ contents. FoundIn contents s) (sym (contents_before _ _ _ _ _ _ _ within opened)) found in
    let named = named_behind _ _ _ _ _ _ _ within opened _ (c.with_devices-done.ensures.only opening) in
    subst (λ contents. DoesFound g.R.Read.remaining s c.args.task c.with_devices-done.result.how c.with_devices-done.result.reply contents)
    (sym (contents_cleared _ _ _ _ _ named (c.clear.ensures.most (c.with_devices-done.ensures.faith.1 opening)))) (c.with_devices-done.ensures.found opening is_opened s held)

pub returns-clause-stands : goal.returns-clause-stands
returns-clause-stands g c old unfailed =
    let opening = c.open_image_files.ensures.faith.1 old in
    let within : AreAllThere (g.W.World.state c.args.world.now) = λ name n e. g.met.W.World.within c.args.world.now name n old e in
    let opened = c.in-Ok.ensures.ok old in
    let named = named_behind _ _ _ _ _ _ _ within opened _ (c.with_devices-done.ensures.only opening) in
    let done = c.with_devices-done.result in
    read_between g.R.Read.remaining c.args.task done.how done.reply _ _ _ _ (contents_before _ _ _ _ _ _ _ within opened)
    (contents_cleared _ _ _ _ _ named (c.clear.ensures.most (c.with_devices-done.ensures.faith.1 opening))) (c.with_devices-done.ensures.stands opening unfailed)

pub returns-clause-others : goal.returns-clause-others
returns-clause-others g c old =
    let opening = c.open_image_files.ensures.faith.1 old in
    let within : AreAllThere (g.W.World.state c.args.world.now) = λ name n e. g.met.W.World.within c.args.world.now name n old e in
    let opened = c.in-Ok.ensures.ok old in
    let done = c.with_devices-done.ensures.faith.1 opening in
    let result = c.with_devices-done.result in
    let most = rw (c.with_devices-done.ensures.files opening, c.with_devices-done.ensures.made) at (c.clear.ensures.most done) in
    let named = named_behind _ _ _ _ _ _ _ within opened _ (c.with_devices-done.ensures.only opening) in
    others_of _ _ _ _ _ _ _ _ within opened (c.with_devices-done.ensures.only opening) _ most (elim (is_cleared result.reply result.how) [
      | inl cleared ↦ inl ((left_refused result.unopened result.how c.args.names.now _ _ _ _ (contents_before _ _ _ _ _ _ _ within opened)
          (contents_cleared _ _ _ _ _ named (c.clear.ensures.most done)) (c.with_devices-done.ensures.whole opening cleared.0) (λ unrecovered same.
          let has = made_behind _ _ _ _ _ _ _ _ within opened (c.with_devices-done.ensures.only opening) (c.requires.free old)
          (c.with_devices-done.ensures.free opening) same in
          c.clear.ensures.left done cleared.0 unrecovered _ within (rw (c.with_devices-done.ensures.files opening, c.with_devices-done.ensures.made) has))).files cleared.1)
      | inr stayed ↦ inr (by_flag c.is_opening-opening.result (λ no. ap g.W.World.state (c.clear.ensures.stays done stayed no))
          (λ yes. rw (c.with_devices-done.ensures.files opening, c.with_devices-done.ensures.made) at (c.clear.ensures.texts done stayed yes)))
    ])

pub returns-in-Err-clause-texts : goal.returns-in-Err-clause-texts
returns-in-Err-clause-texts g c old is = none_left c.args.names.now _ _ (c.in-Err.ensures.err old)

pub returns-clause-texts : goal.returns-clause-texts
returns-clause-texts g c old is =
    let opening = c.open_image_files.ensures.faith.1 old in
    let within : AreAllThere (g.W.World.state c.args.world.now) = λ name n e. g.met.W.World.within c.args.world.now name n old e in
    let opened = c.in-Ok.ensures.ok old in
    let done = c.with_devices-done.ensures.faith.1 opening in
    let result = c.with_devices-done.result in
    elim (is_cleared result.reply result.how) [
      | inl cleared ↦ none_left c.args.names.now _ _ ((returns-clause-refused g c old cleared.0).files cleared.1)
      | inr stayed ↦ texts_gone _ _ _ _ _ _ _ _ within opened (c.with_devices-done.ensures.only opening) _
          (rw (c.with_devices-done.ensures.files opening, c.with_devices-done.ensures.made)
          at (c.clear.ensures.texts done stayed (c.is_opening-opening.ensures is)))
    ]

pub returns-in-Err-clause-fit : goal.returns-in-Err-clause-fit
returns-in-Err-clause-fit g c old is = absurd (never_another c.args.names.now c.args.guard.mounted c.args.makes (g.W.World.refusals c.args.world.now < g.W.World.refusals c.open_image_files.new.world)
    (g.W.World.state c.args.world.now) c.in-Err.unopened (c.in-Err.ensures.why old) is)

pub returns-clause-counted : goal.returns-clause-counted
returns-clause-counted g c old =
    let opening = c.open_image_files.ensures.faith.1 old in
    let done = c.with_devices-done.ensures.faith.1 opening in
    let first = c.open_image_files.ensures.counted old in
    let ran = c.with_devices-done.ensures.counted opening in
    let last = c.clear.ensures.counted done in
    let least = ran.0.least in (
      record {
        least = omega (arith, first, least, last);
        rise = λ is. let rise = ran.0.rise is in omega (arith, first, rise, last);
      },
      clears_behind _ _ _ _ _ _ _ _ _ _ _ _ _ (made_missing _ _ _ _ _ (c.in-Ok.ensures.ok old).journal) first (omega (arith, last))
          (c.open_image_files.ensures.note old) (c.clear.ensures.note done) ran.1,
    )

pub returns-in-Err-clause-counted : goal.returns-in-Err-clause-counted
returns-in-Err-clause-counted g c old = (
  record { least = c.open_image_files.ensures.counted old; rise = λ is. absurd (let wrong : false ≡ true = is in cc) },
  record { unbegun = c.open_image_files.ensures.note old; cleared = λ whole is some. inl (c.open_image_files.ensures.note old) },
)
