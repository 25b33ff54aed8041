use Rattle.std.proofs.Common.{◌≡◌, ℕ, ◌+◌, ◌-◌, ◌^◌, ◌<◌, ◌≤◌, ◌⊎◌, Option, List, [], ◌++◌, length, take, drop, arith, IfSome, ◌∙◌, sym, ap, append_assoc, append-nil, inl, inr, ⊎_elim}
use Rattle.std.proofs.lemmas.Bool.{cases_order}
use borrow.Rule.Slice.PartMut.{put_mid, post_of}
use Rattle.std.specs.Io.KnownBytes.{Consumes}
use Rattle.std.proofs.lemmas.List.{length-append, length-drop, length-take-le}
use Rattle.bx_text.proofs.KnownLemmas.{Appends-trans, Consumes-trans, take-put_mid_more}
use Rattle.bx_dump.proofs.PagesLemmas.{rest_read_stop, rest_write_stop, within_along, last_read, held_fits}
use Rattle.bx_dump.proofs.driver.pages.dump_blocks.Goals as goal

-- the text of a block more, by what the pages say of it
block_text : (text now : List ℕ → List ℕ) (input chunk page : List ℕ) → ((xs : List ℕ) → now xs ≡ text xs) → now (input ++ chunk) ≡ now input ++ page → text (input ++ chunk) ≡ text input ++ page
block_text text now input chunk page same put = sym (same (input ++ chunk)) ∙ put ∙ ap (λ t. t ++ page) (same input)

-- the same of the last block, behind which nothing is kept
last_text : (text now written known : List ℕ → List ℕ) (input chunk page : List ℕ) → ((xs : List ℕ) → now xs ≡ text xs) → ((xs : List ℕ) → known xs ≡ written xs) →
    now (input ++ chunk) ≡ known input ++ page → text (input ++ chunk) ≡ written input ++ page
last_text text now written known input chunk page same put_same put = sym (same (input ++ chunk)) ∙ put ∙ ap (λ t. t ++ page) (put_same input)

-- either way the page is the text behind what was put before
page_is : (text now new written known after : List ℕ → List ℕ) (input chunk page : List ℕ) (n size : ℕ) → n ≤ size → ((xs : List ℕ) → now xs ≡ text xs) → ((xs : List ℕ) → new xs ≡ now xs) →
    ((xs : List ℕ) → known xs ≡ written xs) → ((xs : List ℕ) → after xs ≡ known xs) → (n < size → now (input ++ chunk) ≡ known input ++ page) →
    (n ≡ size → known (input ++ chunk) ≡ known input ++ page) → (n ≡ size → (rest : List ℕ) × (new ((input ++ chunk) ++ []) ≡ after (input ++ chunk) ++ rest)) →
    (more : List ℕ) × (text (input ++ chunk) ≡ written input ++ (page ++ more))
page_is text now new written known after input chunk page n size le same still put_same put_still last put later =
    ⊎_elim (λ whole.
    let rest = later whole in
    let nil : (input ++ chunk) ++ [] ≡ input ++ chunk = append-nil (input ++ chunk) in
    let is : text (input ++ chunk) ≡ written input ++ (page ++ rest.0) =
    sym (same (input ++ chunk)) ∙ sym (still (input ++ chunk)) ∙ ap new (sym nil) ∙ rest.1 ∙ ap (λ t. t ++ rest.0) (put_still (input ++ chunk) ∙ put whole ∙ ap (λ t. t ++ page) (put_same input))
    ∙ append_assoc (written input) page rest.0 in
    (rest.0, is))
    (λ short.
    let is : text (input ++ chunk) ≡ written input ++ (page ++ []) =
    last_text text now written known input chunk page same put_same (last short) ∙ ap (λ t. written input ++ t) (sym (append-nil page)) in
    ([], is)) (order le)
  where
    order : n ≤ size → (n ≡ size) ⊎ (n < size)
    order le = ⊎_elim (λ e. inl e) (λ other. ⊎_elim (λ short. inr short) (λ over. absurd (omega arith)) other) (cases_order n size)

-- a block was read behind the input: what was held of it, and then the rest
block_read : (r0 r1 r2 : Option (List ℕ)) (input held rest block : List ℕ) → block ≡ held ++ rest → Consumes r0 r1 (input ++ held) → Consumes r1 r2 rest → Consumes r0 r2 (input ++ block)
block_read r0 r1 r2 input held rest block is reads more =
    let whole : (input ++ held) ++ rest ≡ input ++ block = append_assoc input held rest ∙ ap (λ xs. input ++ xs) (sym is) in
    rw whole at (Consumes-trans r0 r1 r2 (input ++ held) rest reads more)

-- nothing is held then
none_held : (r0 r1 : Option (List ℕ)) (input block : List ℕ) → Consumes r0 r1 input → Consumes r0 r1 (input ++ take 0 block)
none_held r0 r1 input block reads =
    let none : input ++ take 0 block ≡ input = append-nil input in
    rw none reads

pub returns-in-Err-clause-err : goal.returns-in-Err-clause-err
returns-in-Err-clause-err g c from old len begun =
    let before = c.loop-n.invariant in
    let now = before.so_far in
    let text = g.P.Pages.text c.args.pages.now in
    let written = g.P.Pages.written c.args.pages.now in
    let held = take c.loop-n.held c.loop-n.block in
    let want = c.next_len-want.result in
    let most = c.next_len-want.ensures.most in
    let stop = rw before.limit at (c.in-Err.ensures.stops.stopped before.open_now) in
    let same = before.same in
    let goes : (more : List ℕ) → (rest : List ℕ) × (text (now.0 ++ more) ≡ written now.0 ++ rest) = λ more.
    let later = c.grows.ensures.more now.0 more now.5 in
    (later.0, sym (before.whole (now.0 ++ more)) ∙ later.1 ∙ ap (λ t. t ++ later.0) (same now.0)) in
    let room : want ≤ length c.loop-n.block = omega (arith, most, c.block_len-size.ensures.most, before.block) in
    let fits = held_fits c.args.asked.limit c.loop-n.part.read c.loop-n.held want c.block_len-size.result before.fits before.within c.next_len-want.ensures.last in
    let front : length held ≡ c.loop-n.held = length-take-le c.loop-n.held c.loop-n.block (omega (arith, fits, room)) in
    let size : length (take (want - c.loop-n.held) (drop c.loop-n.held c.loop-n.block)) ≡ want - c.loop-n.held =
    length-take-le (want - c.loop-n.held) (drop c.loop-n.held c.loop-n.block) (omega (arith, length-drop c.loop-n.held c.loop-n.block, room)) in
    let read : length (now.0 ++ held) ≡ c.loop-n.part.read + c.loop-n.held = omega (arith, length-append now.0 held, front, now.1) in
    let within = within_along c.args.asked.limit (c.loop-n.part.read + want) (length (now.0 ++ held) + length (take (want - c.loop-n.held) (drop c.loop-n.held c.loop-n.block)))
    (omega (arith, read, size, fits)) c.next_len-want.ensures.within in
    rest_read_stop (g.P.Pages.kept c.args.pages.now) text c.args.asked.limit c.args.asked.before _ _ _ _ _ now.0 held (written now.0) from c.loop-n.meter.taken _ c.in-Err.fault
    (omega (arith, before.taken, read, len)) (omega (arith, before.limit, c.loop-n.meter.within)) within goes (now.2 old begun) now.3 stop

pub returns-in-Err-emit_after-clause-err : goal.returns-in-Err-emit_after-clause-err
returns-in-Err-emit_after-clause-err g c from old len begun =
    let before = c.loop-n.invariant in
    let now = before.so_far in
    let fill = c.in-Ok.ensures in
    let text = g.P.Pages.text c.args.pages.now in
    let written = g.P.Pages.written c.args.pages.now in
    let put = c.put-used.ensures in
    let held = c.loop-n.held in
    let want = c.next_len-want.result in
    let chunk = take (held + c.in-Ok.n) (put_mid held (want - held) c.loop-n.block c.fill.new.buf) in
    let page = take c.put-used.result c.put-used.new.page in
    let fits = held_fits c.args.asked.limit c.loop-n.part.read held want c.block_len-size.result before.fits before.within c.next_len-want.ensures.last in
    let room : want ≤ length c.loop-n.block = omega (arith, c.next_len-want.ensures.most, c.block_len-size.ensures.most, before.block) in
    let buf : length c.fill.new.buf ≡ want - held = c.fill.auto.buf ∙ length-take-le (want - held) (drop held c.loop-n.block) (omega (arith, length-drop held c.loop-n.block, room)) in
    let part = take-put_mid_more c.loop-n.block c.fill.new.buf held (want - held) c.in-Ok.n (omega (arith, fits, room)) (omega (arith, fill.bound)) in
    let size : length chunk ≡ held + c.in-Ok.n =
    omega (arith, ap length part, length-append (take held c.loop-n.block) (take c.in-Ok.n c.fill.new.buf), length-take-le held c.loop-n.block (omega (arith, fits, room)), length-take-le c.in-Ok.n c.fill.new.buf (omega (arith, fill.bound))) in
    let all : length (now.0 ++ chunk) ≡ c.loop-n.part.read + (held + c.in-Ok.n) = omega (arith, length-append now.0 chunk, size, now.1) in
    let full : length chunk ≤ c.block_len-size.result = omega (arith, size, fits, fill.bound, buf, c.next_len-want.ensures.most) in
    let is = page_is text (g.P.Pages.text c.loop-n.pages) (g.P.Pages.text c.put-used.new.self) written (g.P.Pages.written c.loop-n.pages) (g.P.Pages.written c.put-used.new.self)
    now.0 chunk page (length chunk) c.block_len-size.result full before.whole put.whole before.same put.same (λ short. put.last now.0 now.1 now.5 (omega (arith, short, before.size)))
    (λ whole. put.text now.0 now.1 now.5 (whole ∙ sym before.size)) (λ whole. c.grows-in-loop-n.ensures.more (now.0 ++ chunk) [] (put.seen now.0 now.1 now.5 (whole ∙ sym before.size))) in
    let kept : length (text now.0) ≤ length (written now.0) + g.P.Pages.kept c.args.pages.now =
    omega (arith, c.grows.ensures.few now.0 now.5, ap length (before.whole now.0), ap length (before.same now.0), before.bound) in
    let within : IfSome c.args.asked.limit (λ most. length (now.0 ++ chunk) ≤ most) = within_along c.args.asked.limit (c.loop-n.part.read + want) (length (now.0 ++ chunk)) (omega (arith, all, fits, buf, fill.bound)) c.next_len-want.ensures.within in
    let few : from + length (now.0 ++ chunk) ≤ 2 ^ 40 = omega (arith, all, len, before.taken, fill.taken, fill.limit, before.limit, c.fill.new.self.within) in
    let block : length chunk ≤ 2 ^ 14 = omega (arith, size, fits, fill.bound, buf, c.next_len-want.ensures.most, c.block_len-size.ensures.most) in
    rest_write_stop (g.P.Pages.kept c.args.pages.now) text c.args.asked.limit from c.args.asked.before _ _ _ _ _ now.0 chunk (written now.0) page is.0 c.loop-n.part.written c.in-Err-emit_after.fault
    (block_read _ _ _ now.0 (take held c.loop-n.block) (take c.in-Ok.n c.fill.new.buf) chunk part (now.2 old begun) fill.bytes) few block within now.3 now.4 kept is.1 c.in-Err-emit_after.ensures.err

pub returns-then-n-size-clause-ok : goal.returns-then-n-size-clause-ok
returns-then-n-size-clause-ok g c from old len begun =
    let before = c.loop-n.invariant in
    let now = before.so_far in
    let fill = c.in-Ok.ensures in
    let text = g.P.Pages.text c.args.pages.now in
    let written = g.P.Pages.written c.args.pages.now in
    let held = c.loop-n.held in
    let want = c.next_len-want.result in
    let chunk = take (held + c.in-Ok.n) (put_mid held (want - held) c.loop-n.block c.fill.new.buf) in
    let page = take c.put-used.result c.put-used.new.page in
    let fits = held_fits c.args.asked.limit c.loop-n.part.read held want c.block_len-size.result before.fits before.within c.next_len-want.ensures.last in
    let room : want ≤ length c.loop-n.block = omega (arith, c.next_len-want.ensures.most, c.block_len-size.ensures.most, before.block) in
    let buf : length c.fill.new.buf ≡ want - held = c.fill.auto.buf ∙ length-take-le (want - held) (drop held c.loop-n.block) (omega (arith, length-drop held c.loop-n.block, room)) in
    let part = take-put_mid_more c.loop-n.block c.fill.new.buf held (want - held) c.in-Ok.n (omega (arith, fits, room)) (omega (arith, fill.bound)) in
    let size : length chunk ≡ held + c.in-Ok.n =
    omega (arith, ap length part, length-append (take held c.loop-n.block) (take c.in-Ok.n c.fill.new.buf), length-take-le held c.loop-n.block (omega (arith, fits, room)), length-take-le c.in-Ok.n c.fill.new.buf (omega (arith, fill.bound))) in
    let all : length (now.0 ++ chunk) ≡ c.loop-n.part.read + (held + c.in-Ok.n) = omega (arith, length-append now.0 chunk, size, now.1) in
    let is = last_text text (g.P.Pages.text c.loop-n.pages) written (g.P.Pages.written c.loop-n.pages) now.0 chunk page before.whole before.same
    (c.put-used.ensures.last now.0 now.1 now.5 (omega (arith, size, c.if-n-size.true, before.size))) in
    let long : length page ≡ c.put-used.result = length-take-le c.put-used.result c.put-used.new.page (omega (arith, c.put-used.ensures.most, c.put-used.auto.page)) in
    record {
      input = now.0 ++ chunk;
      consumed = block_read _ _ _ now.0 (take held c.loop-n.block) (take c.in-Ok.n c.fill.new.buf) chunk part (now.2 old begun) fill.bytes;
      ends = last_read c.args.asked.limit c.loop-n.part.read (held + c.in-Ok.n) want c.block_len-size.result _ (omega (arith, fits, buf, fill.bound)) c.if-n-size.true c.next_len-want.ensures.within c.next_len-want.ensures.last
          (λ short. fill.end (fill.ended (omega (arith, buf, short))) before.open_now);
      few = omega (arith, all, len, before.taken, fill.taken, fill.limit, before.limit, c.fill.new.self.within);
      dumped = all;
      appended = rw is (Appends-trans _ _ _ _ _ now.3 c.in_default.ensures.ok);
      long = omega (arith, ap length is, length-append (written now.0) page, now.4, long);
    }

pub loop-n-preserved : goal.loop-n-preserved
loop-n-preserved g c =
    let before = c.loop-n.invariant in
    let now = before.so_far in
    let fill = c.in-Ok.ensures in
    let put = c.put-used.ensures in
    let text = g.P.Pages.written c.args.pages.now in
    let held = c.loop-n.held in
    let want = c.next_len-want.result in
    let chunk = take (held + c.in-Ok.n) (put_mid held (want - held) c.loop-n.block c.fill.new.buf) in
    let page = take c.put-used.result c.put-used.new.page in
    let fits = held_fits c.args.asked.limit c.loop-n.part.read held want c.block_len-size.result before.fits before.within c.next_len-want.ensures.last in
    let room : want ≤ length c.loop-n.block = omega (arith, c.next_len-want.ensures.most, c.block_len-size.ensures.most, before.block) in
    let buf : length c.fill.new.buf ≡ want - held = c.fill.auto.buf ∙ length-take-le (want - held) (drop held c.loop-n.block) (omega (arith, length-drop held c.loop-n.block, room)) in
    let front : length (take held c.loop-n.block) ≡ held = length-take-le held c.loop-n.block (omega (arith, fits, room)) in
    let part = take-put_mid_more c.loop-n.block c.fill.new.buf held (want - held) c.in-Ok.n (omega (arith, fits, room)) (omega (arith, fill.bound)) in
    let size : length chunk ≡ held + c.in-Ok.n =
    omega (arith, ap length part, length-append (take held c.loop-n.block) (take c.in-Ok.n c.fill.new.buf), front, length-take-le c.in-Ok.n c.fill.new.buf (omega (arith, fill.bound))) in
    let all : held + c.in-Ok.n ≡ c.block_len-size.result = omega (arith, c.if-n-size.false, buf, fits, fill.bound, c.next_len-want.ensures.most) in
    let is = block_text text (g.P.Pages.written c.loop-n.pages) now.0 chunk page before.same (put.text now.0 now.1 now.5 (size ∙ all ∙ sym before.size)) in
    let long : length page ≡ c.put-used.result = length-take-le c.put-used.result c.put-used.new.page (omega (arith, put.most, c.put-used.auto.page)) in
    let read : c.loop-n.part.read + (held + c.in-Ok.n) + 0 ≤ c.loop-n.part.read + want = omega (arith, buf, fits, fill.bound) in
    record {
      open_now = fill.full (omega (arith, all, buf, c.next_len-want.ensures.most)) ∙ before.open_now;
      limit = fill.limit ∙ before.limit;
      block = omega (
        arith,
        length-append (take held c.loop-n.block) (c.fill.new.buf ++ post_of held (want - held) c.loop-n.block),
        length-append c.fill.new.buf (post_of held (want - held) c.loop-n.block),
        length-drop (want - held) (drop held c.loop-n.block),
        length-drop held c.loop-n.block,
        front,
        buf,
        fits,
        room,
        before.block,
      );
      page = c.put-used.auto.page ∙ before.page;
      taken = omega (arith, fill.taken, before.taken);
      few = omega (arith, before.few, put.most, before.page, all, c.block_len-size.ensures.some);
      size = put.size ∙ before.size;
      room = λ n inside. rw (put.room n) (before.room n inside);
      same = λ xs. put.same xs ∙ before.same xs;
      whole = λ xs. put.whole xs ∙ before.whole xs;
      bound = put.bound ∙ before.bound;
      fits = omega arith;
      within = within_along c.args.asked.limit (c.loop-n.part.read + want) (c.loop-n.part.read + (held + c.in-Ok.n) + 0) read c.next_len-want.ensures.within;
      so_far = (
        now.0 ++ chunk,
        omega (arith, length-append now.0 chunk, size, now.1),
        λ old begun. none_held _ _ (now.0 ++ chunk) (put_mid held (want - held) c.loop-n.block c.fill.new.buf) (block_read _ _ _ now.0 (take held c.loop-n.block) (take c.in-Ok.n c.fill.new.buf) chunk part (now.2 old begun) fill.bytes),
        rw is (Appends-trans _ _ _ _ _ now.3 c.in_default.ensures.ok),
        omega (arith, ap length is, length-append (text now.0) page, now.4, long),
        put.seen now.0 now.1 now.5 (size ∙ all ∙ sym before.size),
      );
    }
