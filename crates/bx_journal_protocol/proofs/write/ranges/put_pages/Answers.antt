use Rattle.std.proofs.Common.{rules, ◌≡◌, ℕ, List, [], ◌++◌, length, ap, sym, refl, ◌∙◌, subst, arith, append_assoc, append-nil, length-append}
use Rattle.bx_image.proofs.Devices.{GoesOn_refl, GoesOn_then}
use Rattle.bx_journal_protocol.specs.write.Ranges.{rest_text}
use Rattle.bx_journal_protocol.proofs.PageLemmas.{part_last, part_all, part_front, part_is, paged_all, at_err}
use Rattle.bx_journal_protocol.proofs.FadeLemmas.{fades_within}
use Rattle.bx_journal_protocol.proofs.PrefixLemmas.{prefix_by, prefix_self}
use Rattle.bx_journal_protocol.proofs.write.ranges.put_pages.Goals as goal

pub returns-in_err-append_page-clause-fault : goal.returns-in_err-append_page-clause-fault
returns-in_err-append_page-clause-fault g c dh th =
    let before = c.loop-now.invariant in
    let put = before.puts dh th in
    at_err _ (part_is _ _ _ _ put.1
    (part_front put.0 (rest_text (g.D.Device.image c.args.image.now) c.args.ranges.now c.loop-now.now) _ _
    (part_last put.0 _ _ _ _ put.2 (c.in_err-append_page.ensures.fault (before.journal_goes_on.faith.1 th)))))

pub returns-in_err-now-clause-fault : goal.returns-in_err-now-clause-fault
returns-in_err-now-clause-fault g c dh th =
    let before = c.loop-now.invariant in
    let put = before.puts dh th in
    at_err _ (part_is _ _ _ _ put.1
    (part_front put.0 (rest_text (g.D.Device.image c.args.image.now) c.args.ranges.now c.loop-now.now) _ _
    (part_all put.0 _ _ (paged_all put.0 _ _ _ _ put.2 (c.in_ok-append_page.ensures.ok (before.journal_goes_on.faith.1 th))))))

pub loop-now-smaller : goal.loop-now-smaller
loop-now-smaller g c =
    let none = ap length c.in_ok-append_page.ensures.empty in
    omega (arith, none, c.in_ok-now.ensures.long, c.in_ok-now.ensures.more (omega (arith, c.loop-now-test.true)) (omega (arith, none, c.requires.room, c.loop-now.invariant.room, c.in_ok-append_page.ensures.room)))

pub loop-now-preserved : goal.loop-now-preserved
loop-now-preserved g c =
    let before = c.loop-now.invariant in
    let x : List ℕ = g.D.Device.image c.args.image.now in
    let page : List ℕ = c.fill_page.new.page.items in
    let none = c.in_ok-append_page.ensures.empty in
    record {
      place = c.in_ok-now.ensures.place;
      puts = λ dh th.
          let put = before.puts dh th in
          let left : List ℕ = rest_text x c.args.ranges.now c.loop-now.now in
          let filled : page ++ rest_text x c.args.ranges.now c.in_ok-now.now ≡ left =
          subst (λ y. page ++ rest_text y c.args.ranges.now c.in_ok-now.now ≡ rest_text y c.args.ranges.now c.loop-now.now) (before.image dh)
          (c.in_ok-now.ensures.put (before.image_goes_on.faith.1 dh) ∙ ap (λ t. t ++ rest_text (g.D.Device.image c.loop-now.image) c.args.ranges.now c.loop-now.now) none) in (
            put.0 ++ page,
            append_assoc put.0 page (rest_text x c.args.ranges.now c.in_ok-now.now) ∙ ap (λ t. put.0 ++ t) filled ∙ put.1,
            record { added = put.0; text_is = paged_all put.0 _ _ _ _ put.2 (c.in_ok-append_page.ensures.ok (before.journal_goes_on.faith.1 th)); bytes_are = refl },
          );
      fades = λ dh th.
          let put = before.puts dh th in
          fades_within put.0 (rest_text x c.args.ranges.now c.loop-now.now) _ _ _ _ _ _ _ put.1 put.2 (before.fades dh th) (c.in_ok-append_page.ensures.fades (before.journal_goes_on.faith.1 th));
      long = λ th. omega (
        arith,
        before.long th,
        ap length (c.in_ok-append_page.ensures.ok (before.journal_goes_on.faith.1 th)),
        length-append (g.T.TextStore.text c.loop-now.journal) c.loop-now.page.items,
        ap length none,
        c.in_ok-now.ensures.long,
      );
      front = λ th. prefix_by _ _ (before.front th) (c.in_ok-append_page.ensures.ok (before.journal_goes_on.faith.1 th));
      room = omega (arith, before.room, c.in_ok-append_page.ensures.room, c.in_ok-now.ensures.room);
      window = c.in_ok-now.ensures.window ∙ before.window;
      image = λ dh. c.in_ok-now.ensures.image (before.image_goes_on.faith.1 dh) ∙ before.image dh;
      survives = λ dh y there. before.survives dh y (c.in_ok-now.ensures.survives (before.image_goes_on.faith.1 dh) y there);
      image_goes_on = GoesOn_then _ _ _ _ _ _ _ before.image_goes_on c.in_ok-now.ensures.goes_on;
      journal_goes_on = GoesOn_then _ _ _ _ _ _ _ before.journal_goes_on c.in_ok-append_page.ensures.goes_on;
    }

pub loop-now-init : goal.loop-now-init
loop-now-init g c = record {
  place = c.requires.place;
  puts = λ dh th. (c.args.page.now.items, refl, record { added = []; text_is = sym (append-nil (g.T.TextStore.text c.args.journal.now)); bytes_are = refl });
  fades = λ dh th. record { fade = λ n rest all. all };
  long = λ th. refl;
  front = λ th. prefix_self (g.T.TextStore.text c.args.journal.now);
  room = omega arith;
  window = refl;
  image = λ dh. refl;
  survives = λ dh y there. there;
  image_goes_on = GoesOn_refl g.D.Device.faithful g.D.Device.room g.D.Device.failures c.args.image.now;
  journal_goes_on = GoesOn_refl g.T.TextStore.faithful g.T.TextStore.room g.T.TextStore.failures c.args.journal.now;
}

pub returns-clause-front : goal.returns-clause-front
returns-clause-front g c th = c.loop-now.invariant.front th

pub returns-in_err-append_page-clause-fades : goal.returns-in_err-append_page-clause-fades
returns-in_err-append_page-clause-fades g c dh th =
    let before = c.loop-now.invariant in
    let put = before.puts dh th in
    fades_within put.0 (rest_text (g.D.Device.image c.args.image.now) c.args.ranges.now c.loop-now.now) _ _ _ _ _ _ _ put.1 put.2 (before.fades dh th) (c.in_err-append_page.ensures.fades (before.journal_goes_on.faith.1 th))

pub returns-in_err-now-clause-fades : goal.returns-in_err-now-clause-fades
returns-in_err-now-clause-fades g c dh th =
    let before = c.loop-now.invariant in
    let put = before.puts dh th in
    fades_within put.0 (rest_text (g.D.Device.image c.args.image.now) c.args.ranges.now c.loop-now.now) _ _ _ _ _ _ _ put.1 put.2 (before.fades dh th) (c.in_ok-append_page.ensures.fades (before.journal_goes_on.faith.1 th))

pub returns-in_err-now-clause-goes_on : goal.returns-in_err-now-clause-goes_on
returns-in_err-now-clause-goes_on g c =
    let before = c.loop-now.invariant in
    record {
      image = λ dh. c.in_err-now.ensures.image (before.image_goes_on.faith.1 dh) ∙ before.image dh;
      survives = λ dh y there. before.survives dh y (c.in_err-now.ensures.survives (before.image_goes_on.faith.1 dh) y there);
      image_faith = search rules;
      image_room = search rules;
      journal_faith = search rules;
      journal_room = search rules;
      no_failure = search rules;
      failure = search rules;
    }
