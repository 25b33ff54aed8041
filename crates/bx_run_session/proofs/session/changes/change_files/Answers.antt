use Rattle.std.proofs.Common.{◌∙◌, refl, sym, subst}
use Rattle.bx_run_session.specs.session.Contents.{DoesFound}
use Rattle.bx_run_session.proofs.Lines.{contents_kept, leads_back, not_left_kept, nothing_kept, others_kept, refused_kept, settled_kept, tells_alone}
use Rattle.bx_run_session.proofs.Parts.{changed_by, interrupted_by}
use Rattle.bx_run_session.proofs.Refused.{endures_less, read_between}
use Rattle.bx_run_session.proofs.session.changes.change_files.Goals as goal

pub returns-clause-done : goal.returns-clause-done
returns-clause-done g c old s holds =
    let behind = c.run_on_files-answer.ensures.faith.1 old in
    let reply = c.run_on_files-answer.result.reply in
    rw (contents_kept c.args.names.now _ _ (c.tell_recovered.ensures.files behind))
    (changed_by g.R.Read.remaining _ _ s c.args.task reply holds (c.run_on_files-answer.ensures.done old s holds))

pub returns-clause-interrupted : goal.returns-clause-interrupted
returns-clause-interrupted g c old s holds is =
    let behind = c.run_on_files-answer.ensures.faith.1 old in
    rw (contents_kept c.args.names.now _ _ (c.tell_recovered.ensures.files behind))
    (interrupted_by g.R.Read.remaining _ s c.args.task c.run_on_files-answer.result.reply is (c.run_on_files-answer.ensures.done old s holds))

pub returns-clause-refused : goal.returns-clause-refused
returns-clause-refused g c old whole =
    let behind = c.run_on_files-answer.ensures.faith.1 old in
    record {
      why = λ s holds is_opened. c.run_on_files-answer.ensures.why old s holds is_opened whole;
      left = refused_kept _ _ _ _ _ _ (c.run_on_files-answer.ensures.refused old whole)
          (c.tell_recovered.ensures.files behind) (c.tell_recovered.ensures.output behind) (c.tell_recovered.ensures.errors behind);
    }

pub returns-clause-survives : goal.returns-clause-survives
returns-clause-survives g c old =
    let behind = c.run_on_files-answer.ensures.faith.1 old in
    let nothing = c.tell_recovered.ensures.survives behind in
    let survives = c.run_on_files-answer.ensures.survives old in
    let answer = c.run_on_files-answer.result in
    record {
      holds = λ s holds stopped t led x text redo there text_there redo_there.
          survives.holds s holds stopped t (leads_back _ _ _ _ (c.tell_recovered.ensures.files behind) led) x text redo
          (nothing t.image x there) (nothing t.journal text text_there) (nothing t.redo redo redo_there);
      finds = λ s found stopped t led.
          endures_less g.R.Read.remaining s c.args.task answer.how answer.reply _ _ _ _ _ _ (nothing t.image) (nothing t.journal) (nothing t.redo)
          (survives.finds s found stopped t (leads_back _ _ _ _ (c.tell_recovered.ensures.files behind) led));
      refused = λ whole is n below x there. survives.refused whole is n below x (nothing n x there);
      settled = λ whole other t led.
          settled_kept c.args.names.now _ _ _ _ _ _ _ _ (c.tell_recovered.ensures.files behind) (nothing t.image) (nothing t.journal) (nothing t.redo)
          (survives.settled whole other t (leads_back _ _ _ _ (c.tell_recovered.ensures.files behind) led));
    }

pub returns-clause-unopened : goal.returns-clause-unopened
returns-clause-unopened g c old =
    let behind = c.run_on_files-answer.ensures.faith.1 old in
    let answer = c.run_on_files-answer.result in
    nothing_kept answer.unopened answer.reply answer.how _ _ _ (c.run_on_files-answer.ensures.unopened old) (c.tell_recovered.ensures.files behind)
    (c.tell_recovered.ensures.output behind) (c.tell_recovered.ensures.errors behind)

pub returns-clause-why_unopened : goal.returns-clause-why_unopened
returns-clause-why_unopened g c old =
    let behind = c.run_on_files-answer.ensures.faith.1 old in
    rw (c.tell_recovered.ensures.noted behind) (c.run_on_files-answer.ensures.why_unopened old)

pub returns-clause-recovered : goal.returns-clause-recovered
returns-clause-recovered g c old s found is_opened =
    let behind = c.run_on_files-answer.ensures.faith.1 old in
    let answer = c.run_on_files-answer.result in
    subst (λ contents. DoesFound g.R.Read.remaining s c.args.task answer.how answer.reply contents)
    (sym (contents_kept c.args.names.now _ _ (c.tell_recovered.ensures.files behind))) (c.run_on_files-answer.ensures.recovered old s found is_opened)

pub returns-clause-stands : goal.returns-clause-stands
returns-clause-stands g c old unfailed =
    let behind = c.run_on_files-answer.ensures.faith.1 old in
    let answer = c.run_on_files-answer.result in
    read_between g.R.Read.remaining c.args.task answer.how answer.reply _ _ _ _ refl
    (contents_kept c.args.names.now _ _ (c.tell_recovered.ensures.files behind)) (c.run_on_files-answer.ensures.stands old unfailed)

pub returns-clause-rest : goal.returns-clause-rest
returns-clause-rest g c old =
    let behind = c.run_on_files-answer.ensures.faith.1 old in
    record {
      others = others_kept _ _ _ _ (c.run_on_files-answer.ensures.others old) (c.tell_recovered.ensures.files behind);
      texts = λ is. not_left_kept _ _ _ _ (c.run_on_files-answer.ensures.texts old is) (c.tell_recovered.ensures.files behind);
    }

pub returns-clause-streams : goal.returns-clause-streams
returns-clause-streams g c old =
    let behind = c.run_on_files-answer.ensures.faith.1 old in
    let silent = c.run_on_files-answer.ensures.silent old in
    let tells = c.tell_recovered.ensures.errors behind in
    record {
      output = c.tell_recovered.ensures.output behind ∙ silent.output;
      errors = tells_alone _ _ _ _ _ silent.errors tells refl;
      lent = (c.tell_recovered.ensures.files behind).lent ∙ silent.lent;
      before = (c.tell_recovered.ensures.files behind).before ∙ silent.before;
    }

pub returns-clause-counted : goal.returns-clause-counted
returns-clause-counted g c old =
    let behind = c.run_on_files-answer.ensures.faith.1 old in
    rw (c.tell_recovered.ensures.noted behind, c.tell_recovered.ensures.note behind) (c.run_on_files-answer.ensures.counted old)
