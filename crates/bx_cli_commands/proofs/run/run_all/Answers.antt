use Rattle.std.proofs.Common.{rules, arith, ◌≡◌, ◌<◌, ◌≤◌, [], ◌∷◌, ◌++◌, length}
use Rattle.std.specs.Vec.{vec_capacity}
use Rattle.bx_cli_commands.specs.Command.{IsNear}
use Rattle.bx_cli_commands.specs.Obeys.{Obeys}
use Rattle.bx_cli_commands.specs.SessionRun.{SessionStep}
use Rattle.bx_cli_commands.specs.Tells.{Tells}
use Rattle.bx_cli_commands.specs.Standing.{Standing, HoldsAt}
use Rattle.bx_cli_commands.proofs.Runs.{ahead_more, mapped_ok}
use Rattle.bx_cli_commands.proofs.SessionRuns.{leads_none, leads_more, leads_all, run_of, stacks_of, told_of, unfailed_of, counts_none, counts_more, counts_once, counts_all, own_of, same_of, redo_same_of, survives_of}
use Rattle.bx_cli_commands.proofs.Unfailed.{stands_at_top}
use Rattle.bx_cli_commands.proofs.run.run_all.Goals as goal

pub loop-command-init : goal.loop-command-init
loop-command-init g c =
    let made = c.map_err-2.ensures in
    let none : c.in_ok-replies.replies.items ≡ [] =
    mapped_ok c.with_capacity.result c.map_err-2.result c.in_ok-replies.replies _ _ made.cases made.variant c.in_ok-replies.was c.with_capacity.ensures.items in
    let room : length c.args.list.now ≤ vec_capacity c.in_ok-replies.replies =
    mapped_ok c.with_capacity.result c.map_err-2.result c.in_ok-replies.replies _ _ made.cases made.variant c.in_ok-replies.was c.with_capacity.ensures.capacity in
    record {
      leads = rw none (leads_none (SessionStep (Obeys g.D.Device g.T.TextStore) Tells g.R.Read.remaining) c.args.session.now c.args.list.now);
      counted = counts_none g.D.Device g.T.TextStore c.args.session.now;
      ahead = λ k d above within. c.requires.near k d within;
      replied = search rules;
      room = search rules;
    }

pub loop-command-preserved : goal.loop-command-preserved
loop-command-preserved g c =
    let pushed : c.push.new.self.items ≡ c.loop-command.replies.items ++ c.run_one-reply.result ∷ [] = search rules in
    let within : c.loop-command.command-index < length c.loop-command.list = search rules in
    let kept = c.loop-command.invariant in
    record {
      leads = rw pushed (leads_more (SessionStep (Obeys g.D.Device g.T.TextStore) Tells g.R.Read.remaining)
          _ c.loop-command.session _ _ c.loop-command.list _ c.loop-command.command-index c.command-item.result _ _ within c.run_one-reply.ensures.runs kept.leads);
      counted = counts_more g.D.Device g.T.TextStore _ c.loop-command.session _ c.loop-command.command-index c.run_one-reply.result kept.counted
          (counts_once g.D.Device g.T.TextStore g.R.Read.remaining _ _ _ _ _ c.run_one-reply.ensures.runs);
      ahead = ahead_more IsNear c.loop-command.list c.loop-command.command-index _ kept.ahead;
      replied = search rules;
      room = search rules;
    }

pub returns-clause-each : goal.returns-clause-each
returns-clause-each g c =
    let all : length c.loop-command.list ≤ c.loop-command.command-index = search rules in
    leads_all (SessionStep (Obeys g.D.Device g.T.TextStore) Tells g.R.Read.remaining)
    _ _ _ _ _ c.loop-command.command-index all c.loop-command.invariant.leads

pub returns-clause-run : goal.returns-clause-run
returns-clause-run g c =
    run_of g.D.Device g.T.TextStore g.R.Read.remaining _ _ _ _ _ (returns-clause-each g c)

pub returns-clause-survives : goal.returns-clause-survives
returns-clause-survives g c =
    survives_of g.D.Device g.T.TextStore g.R.Read.remaining _ _ _ _ _ (returns-clause-each g c)

pub returns-clause-told : goal.returns-clause-told
returns-clause-told g c =
    told_of g.D.Device g.T.TextStore g.R.Read.remaining _ _ _ _ _ (returns-clause-each g c)

pub returns-clause-unfailed : goal.returns-clause-unfailed
returns-clause-unfailed g c = λ same.
    unfailed_of g.D.Device g.T.TextStore _ _ _ (returns-clause-told g c) same

pub returns-clause-counts : goal.returns-clause-counts
returns-clause-counts g c =
    let within : c.loop-command.command-index ≤ length c.args.list.now = search rules in
    counts_all g.D.Device g.T.TextStore _ _ c.loop-command.command-index (length c.args.list.now) within c.loop-command.invariant.counted

pub returns-clause-sound : goal.returns-clause-sound
returns-clause-sound g c = λ device store redo same start rests.
    let holds : HoldsAt g.D.Device g.T.TextStore c.args.session.now (Standing.Up start) = (device, store, redo, rests) in
    stands_at_top g.D.Device g.T.TextStore g.R.Read.remaining c.loop-command.session start c.args.list.now c.loop-command.replies.items
    (returns-clause-run g c (Standing.Up start) holds) (returns-clause-unfailed g c same)

pub returns-clause-headline : goal.returns-clause-headline
returns-clause-headline g c = λ device store redo same.
    stacks_of g.D.Device g.T.TextStore g.R.Read.remaining _ _ _ _ _ (returns-clause-each g c) (device, store, redo) (returns-clause-unfailed g c same)

pub returns-clause-own : goal.returns-clause-own
returns-clause-own g c =
    own_of g.D.Device g.T.TextStore g.R.Read.remaining _ _ _ _ _ (returns-clause-each g c)

pub returns-clause-same : goal.returns-clause-same
returns-clause-same g c =
    same_of g.D.Device g.T.TextStore g.R.Read.remaining _ _ _ _ _ (returns-clause-each g c)

pub returns-clause-redo_same : goal.returns-clause-redo_same
returns-clause-redo_same g c =
    redo_same_of g.D.Device g.T.TextStore g.R.Read.remaining _ _ _ _ _ (returns-clause-each g c)

pub run_one-reply-requires-clause-near : goal.run_one-reply-requires-clause-near
run_one-reply-requires-clause-near g c =
    let within : c.loop-command.command-index < length c.loop-command.list = search rules in
    c.loop-command.invariant.ahead c.loop-command.command-index c.command-item.result (omega arith) within
