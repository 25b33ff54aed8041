-- What a dump of a part leaves where it stops or ends.
use Rattle.std.proofs.Common.{◌≡◌, ℕ, ◌+◌, ◌-◌, ◌^◌, ◌<◌, ◌≤◌, true, false, List, [], ◌∷◌, ◌++◌, length, take, drop, Option, None, Some, IfSome, refl, sym, ap, ◌∙◌, arith, length-append, append_assoc, inl, inr, ⊎_elim}
use Rattle.std.specs.Io.KnownBytes.{Appends, Consumes, IsAtEnd}
use Rattle.std.proofs.lemmas.List.{take-append-le, take_all, take_at, drop_all}
use Rattle.std.proofs.Math.Seq.{take-append-add, drop-append-add}
use Rattle.std.proofs.lemmas.Bool.{cases_order}
use Rattle.bx_text.specs.declared.fault.IoFault.{IoFault}
use Rattle.bx_text.specs.declared.fault.IoFault.TheVariants.{NoMemory, ReadFailed, WriteFailed, InputTooLong, SkipPastEnd}
use Rattle.bx_text.specs.Stream.{IsReadCause, Skips}
use Rattle.bx_text.specs.private.Stream.{StopsAfter}
use Rattle.bx_text.specs.Writing.{WritesFront}
use Rattle.bx_text.proofs.KnownLemmas.{Appends-trans, Consumes-trans, Appends-nil, Consumes-nil}
use Rattle.bx_text.proofs.StreamLemmas.{cause_more, read_within}
use Rattle.bx_dump.specs.private.Dumped.{StopsDump, KeepsUp}
use Rattle.bx_dump.proofs.DumpLemmas.{cause_longer, keeps_read, keeps_along, keeps_whole}
use Rattle.bx_dump.specs.Dumped.{IsDumpStop}
use Rattle.bx_dump.specs.Pages.{Dump, WritesAll, WritesFrontOf, bytes_dumped}
use Rattle.bx_dump.specs.private.Pages.{WritesPart, WritesFrontBut, limited_to, IsEndOf, WritesRest, IsLast, streams}

-- why a read stopped is why a dump did
dump_cause : (fault : IoFault) (wanted n written size : ℕ) → IsReadCause fault wanted (2 ^ 40) n → StopsDump fault n written size
dump_cause ReadFailed wanted n written size p = p.1
dump_cause InputTooLong wanted n written size p = p.1
dump_cause NoMemory wanted n written size p = absurd p
dump_cause (WriteFailed m) wanted n written size p = absurd p
dump_cause SkipPastEnd wanted n written size p = absurd p

-- fewer are within the limit too
pub within_along : (limit : Option ℕ) (m n : ℕ) → n ≤ m → IfSome limit (λ most. m ≤ most) → IfSome limit (λ most. n ≤ most)
within_along None m n e p = tt
within_along (Some most) m n e p = omega arith

-- behind bytes that are skipped
asked_behind : (limit : Option ℕ) (skip m n : ℕ) → n ≤ skip + m → IfSome limit (λ most. m ≤ most) → IfSome limit (λ most. n ≤ skip + most)
asked_behind None skip m n e p = tt
asked_behind (Some most) skip m n e p = omega arith

asked_after : (limit : Option ℕ) (skip m n : ℕ) → n ≤ skip + m → IfSome limit (λ most. m ≤ 0 + most) → IfSome limit (λ most. n ≤ skip + most)
asked_after None skip m n e p = tt
asked_after (Some most) skip m n e p = omega arith

asked_among : (limit : Option ℕ) (skip n : ℕ) → n ≤ skip → IfSome limit (λ most. n ≤ skip + most)
asked_among None skip n e = tt
asked_among (Some most) skip n e = omega arith

asked_at_end : (limit : Option ℕ) (skip n : ℕ) (r : Option (List ℕ)) → IsEndOf skip limit n r → IfSome limit (λ most. n ≤ skip + most)
asked_at_end None skip n r p = tt
asked_at_end (Some most) skip n r p = p.0

-- the bytes so far, and more of what follows
capped_more : (limit : Option ℕ) (xs more : List ℕ) → IfSome limit (λ most. length xs ≤ most) → (rest : List ℕ) × (limited_to limit (xs ++ more) ≡ xs ++ rest)
capped_more None xs more within = (more, refl)
capped_more (Some most) xs more within =
    let e : length xs + (most - length xs) ≡ most = omega arith in
    (take (most - length xs) more, ap (λ n. take n (xs ++ more)) (sym e) ∙ take-append-add xs more (most - length xs))

pub capped_all : (limit : Option ℕ) (xs : List ℕ) → IfSome limit (λ most. length xs ≤ most) → limited_to limit xs ≡ xs
capped_all None xs within = refl
capped_all (Some most) xs within = take_all most xs within

-- the reader stopped, behind bytes that are held; `old` was written
pub rest_read_stop : (slack : ℕ) (text : List ℕ → List ℕ) (limit : Option ℕ) (before : ℕ) (r0 r1 r2 w0 w1 : Option (List ℕ)) (input held old : List ℕ) (from taken less : ℕ) (fault : IoFault) →
    from + length (input ++ held) ≡ taken → taken ≤ 2 ^ 40 → IfSome limit (λ most. length (input ++ held) + less ≤ most) →
    ((more : List ℕ) → (rest : List ℕ) × (text (input ++ more) ≡ old ++ rest)) → Consumes r0 r1 (input ++ held) → Appends w0 w1 old →
    StopsAfter r1 r2 less (2 ^ 40 - taken) fault → WritesFrontBut slack (λ xs. text (limited_to limit xs)) 0 limit from before (streams r0 r2 w0 w1) fault
rest_read_stop slack text limit before r0 r1 r2 w0 w1 input held old from taken less fault len few within goes reads writes stop =
    let read = input ++ held in
    let join : read ++ stop.0 ≡ input ++ (held ++ stop.0) = append_assoc input held stop.0 in
    let cut = capped_more limit input (held ++ stop.0) (within_along limit (length read + less) (length input) (omega (arith, length-append input held)) within) in
    let more = goes cut.0 in
    let is : text (limited_to limit (read ++ stop.0)) ≡ old ++ more.0 = ap (λ xs. text (limited_to limit xs)) join ∙ ap text cut.1 ∙ more.1 in
    let front : take (length old) (text (limited_to limit (read ++ stop.0))) ≡ old =
    ap (take (length old)) is ∙ take_at old more.0 (length old) refl in
    let all : from + length (read ++ stop.0) ≡ taken + length stop.0 = omega (arith, length-append read stop.0) in record {
      input = read ++ stop.0;
      written = length old;
      consumed = Consumes-trans r0 r1 r2 read stop.0 reads stop.1;
      asked = asked_behind limit 0 (length read + less) (length (read ++ stop.0))
          (omega (arith, length-append read stop.0, read_within fault less (2 ^ 40 - taken) (length stop.0) stop.2)) within;
      within = omega (arith, ap length is, length-append old more.0);
      appended = rw front writes;
      cause = rw all (dump_cause fault (taken + less) (taken + length stop.0) (before + length old) _ (cause_more fault less (taken + less) (2 ^ 40 - taken) (2 ^ 40) (length stop.0) (taken + length stop.0) taken stop.2 refl (omega arith) (omega arith)));
      ahead = keeps_read fault less (2 ^ 40 - taken) (length stop.0) slack (length old) (λ xs. text (limited_to limit xs)) (read ++ stop.0) stop.2;
    }

-- the writer stopped in a page behind `old`
pub rest_write_stop : (slack : ℕ) (text : List ℕ → List ℕ) (limit : Option ℕ) (from before : ℕ) (r0 r1 w0 w1 w2 : Option (List ℕ)) (front last old page more : List ℕ) (written : ℕ) (fault : IoFault) →
    Consumes r0 r1 (front ++ last) → from + length (front ++ last) ≤ 2 ^ 40 → length last ≤ 2 ^ 14 → IfSome limit (λ most. length (front ++ last) ≤ most) → Appends w0 w1 old →
    length old ≡ written → length (text front) ≤ length old + slack → text (front ++ last) ≡ old ++ (page ++ more) → WritesFront (before + written) w1 w2 page fault →
    WritesFrontBut slack (λ xs. text (limited_to limit xs)) 0 limit from before (streams r0 r1 w0 w2) fault
rest_write_stop slack text limit from before r0 r1 w0 w1 w2 front last old page more written (WriteFailed n) reads few block within writes len kept is stop =
    let input = front ++ last in
    let same : text (limited_to limit input) ≡ old ++ (page ++ more) = ap text (capped_all limit input within) ∙ is in
    let page_part : take stop.0 (page ++ more) ≡ take stop.0 page = take-append-le stop.0 page more (omega (arith, stop.2)) in
    let begun : take (written + stop.0) (text (limited_to limit input)) ≡ old ++ take stop.0 page =
    rw (same, ← len, ← page_part) (take-append-add old (page ++ more) stop.0) in
    let known : text (limited_to limit front) ≡ text front = ap text (capped_all limit front (within_along limit (length input) (length front) (omega (arith, length-append front last)) within)) in record {
      input = input;
      written = written + stop.0;
      consumed = reads;
      asked = asked_behind limit 0 (length input) (length input) (omega arith) within;
      within = omega (arith, ap length same, length-append old (page ++ more), length-append page more, stop.2);
      appended = rw begun (Appends-trans w0 w1 w2 old (take stop.0 page) writes stop.3);
      cause = (omega (arith, stop.1), omega (arith, ap length same, length-append old (page ++ more), length-append page more, stop.2), few);
      ahead = (front, last, refl, block, omega (arith, ap length known, len, kept));
    }
rest_write_stop slack text limit from before r0 r1 w0 w1 w2 front last old page more written NoMemory reads few block within writes len kept is stop = absurd stop
rest_write_stop slack text limit from before r0 r1 w0 w1 w2 front last old page more written ReadFailed reads few block within writes len kept is stop = absurd stop
rest_write_stop slack text limit from before r0 r1 w0 w1 w2 front last old page more written InputTooLong reads few block within writes len kept is stop = absurd stop
rest_write_stop slack text limit from before r0 r1 w0 w1 w2 front last old page more written SkipPastEnd reads few block within writes len kept is stop = absurd stop

-- where the whole text is empty, nothing was put
pub none_put : (text old rest : List ℕ) → text ≡ [] → text ≡ old ++ rest → old ≡ []
none_put text [] rest none is = refl
none_put text (x ∷ old) rest none is = absurd (omega (arith, ap length none, ap length is))

-- what is held is no more than is asked for
pub held_fits : (limit : Option ℕ) (done held want size : ℕ) → held ≤ size → IfSome limit (λ most. done + held ≤ most) → (want < size → limit ≡ Some (done + want)) → held ≤ want
held_fits limit done held want size fits within last =
    ⊎_elim (λ same. omega arith) (λ other. ⊎_elim (λ short. held_last limit (last short) within) (λ over. omega arith) other) (cases_order want size)
  where
    held_last : (most : Option ℕ) → most ≡ Some (done + want) → IfSome most (λ n. done + held ≤ n) → held ≤ want
    held_last None e p = absurd cc
    held_last (Some n) e p = let same : n ≡ done + want = cc in omega arith

-- the end of the input, or of what may be dumped
pub last_at_end : (limit : Option ℕ) (n : ℕ) (r : Option (List ℕ)) → IfSome limit (λ most. n ≤ most) → IsAtEnd r → IsLast limit n r
last_at_end None n r within p = p
last_at_end (Some most) n r within p = (within, inl p)

pub last_at_limit : (limit : Option ℕ) (n : ℕ) (r : Option (List ℕ)) → limit ≡ Some n → IsLast limit n r
last_at_limit None n r e = absurd cc
last_at_limit (Some most) n r e = let same : most ≡ n = cc in (omega arith, inr (sym same))

-- fewer bytes than a block were read
pub last_read : (limit : Option ℕ) (done n want size : ℕ) (r : Option (List ℕ)) → n ≤ want → n < size → IfSome limit (λ most. done + want ≤ most) → (want < size → limit ≡ Some (done + want)) → (n < want → IsAtEnd r) →
    IsLast limit (done + n) r
last_read limit done n want size r le less within last end =
    ⊎_elim (λ all. last_at_limit limit (done + n) r (last (omega arith) ∙ ap (λ m. Some (done + m)) (sym all)))
    (λ other. last_at_end limit (done + n) r (within_along limit (done + want) (done + n) (omega arith) within) (end (omega arith))) (cases_order n want)

-- behind the bytes that were skipped
part_behind : (skip : ℕ) (limit : Option ℕ) (front xs : List ℕ) → length front ≡ skip → bytes_dumped skip limit (front ++ xs) ≡ limited_to limit xs
part_behind skip limit front xs len =
    let e : skip ≡ length front + 0 = omega arith in
    ap (limited_to limit) (ap (λ n. drop n (front ++ xs)) e ∙ drop-append-add front xs 0)

part_none : (skip : ℕ) (limit : Option ℕ) (xs : List ℕ) → length xs ≤ skip → bytes_dumped skip limit xs ≡ []
part_none skip None xs short = drop_all skip xs short
part_none skip (Some most) xs short = ap (take most) (drop_all skip xs short) ∙ none most
  where
    none : (n : ℕ) → take {A = ℕ} n [] ≡ []
    none n = take_all {A = ℕ} n [] (omega arith)

pub part_empty : (skip : ℕ) (limit : Option ℕ) → bytes_dumped skip limit [] ≡ []
part_empty skip limit = part_none skip limit [] (omega arith)

last_within : (limit : Option ℕ) (n : ℕ) (r : Option (List ℕ)) → IsLast limit n r → IfSome limit (λ most. n ≤ most)
last_within None n r p = tt
last_within (Some most) n r p = p.0

end_behind : (skip n m : ℕ) (limit : Option ℕ) (r : Option (List ℕ)) → m ≡ skip + n → IsLast limit n r → IsEndOf skip limit m r
end_behind skip n m None r e p = p
end_behind skip n m (Some most) r e p = (omega (arith, p.0), ⊎_elim (λ q. inl q) (λ q. inr (omega (arith, q))) p.1)

end_short : (skip n : ℕ) (limit : Option ℕ) (r : Option (List ℕ)) → n < skip → IsAtEnd r → IsEndOf skip limit n r
end_short skip n None r less p = p
end_short skip n (Some most) r less p = (omega arith, inl p)

-- all was skipped, and the rest dumped
pub part_whole : (text : List ℕ → List ℕ) (skip : ℕ) (limit : Option ℕ) (r0 r1 r2 w0 w1 : Option (List ℕ)) (read written : ℕ) → Skips true skip (2 ^ 40) r0 r1 →
    WritesRest text skip limit (streams r1 r2 w0 w1) read written → WritesPart (λ xs. text (bytes_dumped skip limit xs)) skip limit (streams r0 r2 w0 w1) read written
part_whole text skip limit r0 r1 r2 w0 w1 read written front rest =
    let len = front.whole refl in
    let within : IfSome limit (λ most. read ≤ most) = last_within limit read r2 rest.ends in
    let within_all : IfSome limit (λ most. length rest.input ≤ most) = rw rest.dumped within in
    let same : bytes_dumped skip limit (front.input ++ rest.input) ≡ rest.input = part_behind skip limit front.input rest.input len ∙ capped_all limit rest.input within_all in
    let count : length (front.input ++ rest.input) ≡ skip + read = omega (arith, length-append front.input rest.input, rest.dumped) in record {
      input = front.input ++ rest.input;
      consumed = Consumes-trans r0 r1 r2 front.input rest.input front.consumed rest.consumed;
      ends = end_behind skip read _ limit r2 count rest.ends;
      few = omega (arith, count, rest.few, rest.dumped);
      dumped = ap length same ∙ rest.dumped;
      appended = rw same rest.appended;
      long = ap length (ap text same) ∙ rest.long;
    }

-- the input ended among the bytes to skip
pub part_short : (text : List ℕ → List ℕ) (skip : ℕ) (limit : Option ℕ) (r0 r1 w : Option (List ℕ)) → text [] ≡ [] → Skips false skip (2 ^ 40) r0 r1 →
    WritesPart (λ xs. text (bytes_dumped skip limit xs)) skip limit (streams r0 r1 w w) 0 0
part_short text skip limit r0 r1 w empty front =
    let short = front.short refl in
    let none : bytes_dumped skip limit front.input ≡ [] = part_none skip limit front.input (omega (arith, short.0)) in record {
      input = front.input;
      consumed = front.consumed;
      ends = end_short skip (length front.input) limit r1 short.0 short.1;
      few = front.few;
      dumped = ap length none;
      appended = rw (none, empty) (Appends-nil w);
      long = ap length (ap text none ∙ empty);
    }

-- a fault among the bytes to skip
pub front_skip : (slack : ℕ) (text : List ℕ → List ℕ) (skip : ℕ) (limit : Option ℕ) (before : ℕ) (r0 r1 w : Option (List ℕ)) (fault : IoFault) → StopsAfter r0 r1 skip (2 ^ 40) fault →
    WritesFrontBut slack text skip limit 0 before (streams r0 r1 w w) fault
front_skip slack text skip limit before r0 r1 w fault stop =
    let none : take 0 (text stop.0) ≡ [] = refl in
    let zero_more : 0 + length stop.0 ≡ length stop.0 = omega arith in record {
      input = stop.0;
      written = 0;
      consumed = stop.1;
      asked = asked_among limit skip (length stop.0) (read_within fault skip (2 ^ 40) (length stop.0) stop.2);
      within = omega arith;
      appended = Appends-nil w;
      cause = rw zero_more (dump_cause fault skip (length stop.0) (before + 0) _ stop.2);
      ahead = keeps_read fault skip (2 ^ 40) (length stop.0) slack 0 text stop.0 stop.2;
    }

-- a block ahead, behind them
keeps_behind : (slack : ℕ) (text : List ℕ → List ℕ) (skip : ℕ) (limit : Option ℕ) (skipped input : List ℕ) (written : ℕ) (fault : IoFault) → length skipped ≡ skip →
    KeepsUp slack (λ xs. text (limited_to limit xs)) input written fault → KeepsUp slack (λ xs. text (bytes_dumped skip limit xs)) (skipped ++ input) written fault
keeps_behind slack text skip limit skipped input written (WriteFailed n) len p =
    let same : text (bytes_dumped skip limit (skipped ++ p.0)) ≡ text (limited_to limit p.0) = ap text (part_behind skip limit skipped p.0 len) in
    let none : limited_to limit [] ≡ bytes_dumped skip limit [] = part_none 0 limit [] (omega arith) ∙ sym (part_none skip limit [] (omega arith)) in
    let empty : text (limited_to limit []) ≡ text (bytes_dumped skip limit []) = ap text none in (
      skipped ++ p.0,
      p.1,
      ap (λ xs. skipped ++ xs) p.2 ∙ sym (append_assoc skipped p.0 p.1),
      p.3,
      omega (arith, p.4, ap length same, ap length empty),
    )
keeps_behind slack text skip limit skipped input written NoMemory len p = tt
keeps_behind slack text skip limit skipped input written ReadFailed len p = tt
keeps_behind slack text skip limit skipped input written InputTooLong len p = tt
keeps_behind slack text skip limit skipped input written SkipPastEnd len p = tt

-- a fault after them
pub front_behind : (slack : ℕ) (text : List ℕ → List ℕ) (skip : ℕ) (limit : Option ℕ) (before : ℕ) (r0 r1 r2 w0 w1 : Option (List ℕ)) (fault : IoFault) → Skips true skip (2 ^ 40) r0 r1 →
    WritesFrontBut slack (λ xs. text (limited_to limit xs)) 0 limit skip before (streams r1 r2 w0 w1) fault →
    WritesFrontBut slack (λ xs. text (bytes_dumped skip limit xs)) skip limit 0 before (streams r0 r2 w0 w1) fault
front_behind slack text skip limit before r0 r1 r2 w0 w1 fault front rest =
    let len = front.whole refl in
    let same : text (bytes_dumped skip limit (front.input ++ rest.input)) ≡ text (limited_to limit rest.input) = ap text (part_behind skip limit front.input rest.input len) in
    let count : 0 + length (front.input ++ rest.input) ≡ skip + length rest.input = omega (arith, length-append front.input rest.input) in record {
      input = front.input ++ rest.input;
      written = rest.written;
      consumed = Consumes-trans r0 r1 r2 front.input rest.input front.consumed rest.consumed;
      asked = asked_after limit skip (length rest.input) (length (front.input ++ rest.input)) (omega (arith, count)) rest.asked;
      within = rw same rest.within;
      appended = rw same rest.appended;
      cause = rw (count, same) rest.cause;
      ahead = keeps_behind slack text skip limit front.input rest.input rest.written fault len rest.ahead;
    }

-- where two texts are the same, so are the dumps
pub part_along : (text other : List ℕ → List ℕ) (skip : ℕ) (limit : Option ℕ) (r0 r1 w0 w1 : Option (List ℕ)) (read written : ℕ) → ((xs : List ℕ) → text xs ≡ other xs) →
    WritesPart text skip limit (streams r0 r1 w0 w1) read written → WritesPart other skip limit (streams r0 r1 w0 w1) read written
part_along text other skip limit r0 r1 w0 w1 read written same d =
    let e : other d.input ≡ text d.input = sym (same d.input) in record {
      input = d.input;
      consumed = d.consumed;
      ends = d.ends;
      few = d.few;
      dumped = d.dumped;
      appended = rw e d.appended;
      long = rw e d.long;
    }

pub rest_along : (text other : List ℕ → List ℕ) (from : ℕ) (limit : Option ℕ) (r0 r1 w0 w1 : Option (List ℕ)) (read written : ℕ) → ((xs : List ℕ) → text xs ≡ other xs) →
    WritesRest text from limit (streams r0 r1 w0 w1) read written → WritesRest other from limit (streams r0 r1 w0 w1) read written
rest_along text other from limit r0 r1 w0 w1 read written same d =
    let e : other d.input ≡ text d.input = sym (same d.input) in record {
      input = d.input;
      consumed = d.consumed;
      ends = d.ends;
      few = d.few;
      dumped = d.dumped;
      appended = rw e d.appended;
      long = rw e d.long;
    }

pub front_along : (slack wide : ℕ) (text other : List ℕ → List ℕ) (skip : ℕ) (limit : Option ℕ) (from before : ℕ) (r0 r1 w0 w1 : Option (List ℕ)) (fault : IoFault) → ((xs : List ℕ) → text xs ≡ other xs) →
    slack ≤ wide → WritesFrontBut slack text skip limit from before (streams r0 r1 w0 w1) fault → WritesFrontBut wide other skip limit from before (streams r0 r1 w0 w1) fault
front_along slack wide text other skip limit from before r0 r1 w0 w1 fault same wider d =
    let e : other d.input ≡ text d.input = sym (same d.input) in record {
      input = d.input;
      written = d.written;
      consumed = d.consumed;
      asked = d.asked;
      within = rw e d.within;
      appended = rw e d.appended;
      cause = rw e d.cause;
      ahead = keeps_along fault slack wide d.written d.written text other d.input (λ front few. omega (arith, few, wider, ap length (same front), ap length (same []))) d.ahead;
    }

-- A text behind the dump: `last` where `read` bytes were dumped.
module _ (text other : List ℕ → List ℕ) (skip : ℕ) (limit : Option ℕ) (r0 r1 w0 w1 w2 : Option (List ℕ)) (read written : ℕ) (last : List ℕ)
    (is : (xs : List ℕ) → length (bytes_dumped skip limit xs) ≡ read → other xs ≡ text xs ++ last) (d : WritesPart text skip limit (streams r0 r1 w0 w1) read written) where
  pub part_then : Appends w1 w2 last → WritesPart other skip limit (streams r0 r1 w0 w2) read (written + length last)
  part_then writes =
      let e = is d.input d.dumped in record {
        input = d.input;
        consumed = d.consumed;
        ends = d.ends;
        few = d.few;
        dumped = d.dumped;
        appended = rw e (Appends-trans w0 w1 w2 (text d.input) last d.appended writes);
        long = omega (arith, ap length e, length-append (text d.input) last, d.long);
      }

  pub stop_then : (slack before : ℕ) (fault : IoFault) → length last ≤ length (other []) + slack → WritesFront (before + written) w1 w2 last fault →
      WritesFrontBut slack other skip limit 0 before (streams r0 r1 w0 w2) fault
  stop_then slack before (WriteFailed n) short stop =
      let e = is d.input d.dumped in
      let front : take (written + stop.0) (other d.input) ≡ text d.input ++ take stop.0 last =
      rw (e, ← d.long) (take-append-add (text d.input) last stop.0) in record {
        input = d.input;
        written = written + stop.0;
        consumed = d.consumed;
        asked = asked_at_end limit skip (length d.input) r1 d.ends;
        within = omega (arith, ap length e, length-append (text d.input) last, stop.2, d.long);
        appended = rw front (Appends-trans w0 w1 w2 (text d.input) (take stop.0 last) d.appended stop.3);
        cause = (omega (arith, stop.1), omega (arith, ap length e, length-append (text d.input) last, stop.2, d.long), omega (arith, d.few));
        ahead = keeps_whole slack (written + stop.0) other d.input n (omega (arith, short, ap length e, length-append (text d.input) last, d.long));
      }
  stop_then slack before NoMemory short stop = absurd stop
  stop_then slack before ReadFailed short stop = absurd stop
  stop_then slack before InputTooLong short stop = absurd stop
  stop_then slack before SkipPastEnd short stop = absurd stop

-- a front of a text is one of a longer text
pub front_then : (slack wide : ℕ) (text other : List ℕ → List ℕ) (skip : ℕ) (limit : Option ℕ) (from before : ℕ) (r0 r1 w0 w1 : Option (List ℕ)) (fault : IoFault) → ((xs : List ℕ) → (rest : List ℕ) × (other xs ≡ text xs ++ rest)) →
    ((xs : List ℕ) → length (other xs) + length (text []) + slack ≤ length (text xs) + length (other []) + wide) → WritesFrontBut slack text skip limit from before (streams r0 r1 w0 w1) fault →
    WritesFrontBut wide other skip limit from before (streams r0 r1 w0 w1) fault
front_then slack wide text other skip limit from before r0 r1 w0 w1 fault is short d =
    let more = is d.input in
    let front : take d.written (other d.input) ≡ take d.written (text d.input) = ap (take d.written) more.1 ∙ take-append-le d.written (text d.input) more.0 d.within in record {
      input = d.input;
      written = d.written;
      consumed = d.consumed;
      asked = d.asked;
      within = omega (arith, d.within, ap length more.1, length-append (text d.input) more.0);
      appended = rw front d.appended;
      cause = cause_longer fault (from + length d.input) (before + d.written) _ _ (omega (arith, ap length more.1, length-append (text d.input) more.0)) d.cause;
      ahead = keeps_along fault slack wide d.written d.written text other d.input
          (λ xs few. omega (arith, few, short xs)) d.ahead;
    }

-- a text in front of the dump
pub part_after : (text : List ℕ → List ℕ) (skip : ℕ) (limit : Option ℕ) (r0 r1 w0 w1 w2 : Option (List ℕ)) (read written : ℕ) (head : List ℕ) → Appends w0 w1 head →
    WritesPart text skip limit (streams r0 r1 w1 w2) read written → WritesPart (λ xs. head ++ text xs) skip limit (streams r0 r1 w0 w2) read (length head + written)
part_after text skip limit r0 r1 w0 w1 w2 read written head writes d = record {
  input = d.input;
  consumed = d.consumed;
  ends = d.ends;
  few = d.few;
  dumped = d.dumped;
  appended = Appends-trans w0 w1 w2 head (text d.input) writes d.appended;
  long = omega (arith, length-append head (text d.input), d.long);
}

pub front_after : (slack : ℕ) (text : List ℕ → List ℕ) (skip : ℕ) (limit : Option ℕ) (r0 r1 w0 w1 w2 : Option (List ℕ)) (from before all : ℕ) (head : List ℕ) (fault : IoFault) → all ≡ before + length head → Appends w0 w1 head →
    WritesFrontBut slack text skip limit from all (streams r0 r1 w1 w2) fault → WritesFrontBut slack (λ xs. head ++ text xs) skip limit from before (streams r0 r1 w0 w2) fault
front_after slack text skip limit r0 r1 w0 w1 w2 from before all head fault is writes d =
    let front : take (length head + d.written) (head ++ text d.input) ≡ head ++ take d.written (text d.input) = take-append-add head (text d.input) d.written in
    let count : all + d.written ≡ before + (length head + d.written) = omega arith in
    let size : all + length (text d.input) ≡ before + length (head ++ text d.input) = omega (arith, length-append head (text d.input)) in record {
      input = d.input;
      written = length head + d.written;
      consumed = d.consumed;
      asked = d.asked;
      within = omega (arith, length-append head (text d.input), d.within);
      appended = rw front (Appends-trans w0 w1 w2 head (take d.written (text d.input)) writes d.appended);
      cause = rw (← count, ← size) d.cause;
      ahead = keeps_along fault slack slack d.written (length head + d.written) text (λ xs. head ++ text xs) d.input
          (λ xs few. omega (arith, few, length-append head (text xs), length-append head (text []))) d.ahead;
    }

-- the text in front was not written whole
pub front_head : (slack : ℕ) (text : List ℕ → List ℕ) (skip : ℕ) (limit : Option ℕ) (r w0 w1 : Option (List ℕ)) (before : ℕ) (head : List ℕ) (fault : IoFault) → WritesFront before w0 w1 head fault →
    WritesFrontBut slack (λ xs. head ++ text xs) skip limit 0 before (streams r r w0 w1) fault
front_head slack text skip limit r w0 w1 before head (WriteFailed n) stop =
    let front : take stop.0 (head ++ text []) ≡ take stop.0 head = take-append-le stop.0 head (text []) (omega (arith, stop.2)) in record {
      input = [];
      written = stop.0;
      consumed = Consumes-nil r;
      asked = asked_among limit skip 0 (omega arith);
      within = omega (arith, length-append head (text []), stop.2);
      appended = rw front stop.3;
      cause = (stop.1, omega (arith, length-append head (text []), stop.2), omega arith);
      ahead = keeps_whole slack stop.0 (λ xs. head ++ text xs) [] n (omega arith);
    }
front_head slack text skip limit r w0 w1 before head NoMemory stop = absurd stop
front_head slack text skip limit r w0 w1 before head ReadFailed stop = absurd stop
front_head slack text skip limit r w0 w1 before head InputTooLong stop = absurd stop
front_head slack text skip limit r w0 w1 before head SkipPastEnd stop = absurd stop

-- a whole text was written
pub all_of : (d : Dump) (r0 r1 w0 w1 : Option (List ℕ)) (read written : ℕ) →
    WritesPart (λ xs. d.text (bytes_dumped d.skip d.limit xs)) d.skip d.limit (streams r0 r1 w0 w1) read written → WritesAll d r0 r1 w0 w1 read
all_of d r0 r1 w0 w1 read written p = record {
  input = p.input;
  consumed = p.consumed;
  ends = p.ends;
  few = p.few;
  dumped = p.dumped;
  appended = p.appended;
}

stop_of : (held : ℕ) (text : List ℕ → List ℕ) (input : List ℕ) (written : ℕ) (fault : IoFault) → StopsDump fault (0 + length input) (0 + written) (0 + length (text input)) →
    KeepsUp held text input written fault → IsDumpStop held text input written fault
stop_of held text input written ReadFailed cause ahead = omega (arith, cause)
stop_of held text input written InputTooLong cause ahead = omega (arith, cause)
stop_of held text input written (WriteFailed n) cause ahead = (omega (arith, cause.0), omega (arith, cause.1), omega (arith, cause.2), ahead)
stop_of held text input written NoMemory cause ahead = absurd cause
stop_of held text input written SkipPastEnd cause ahead = absurd cause

-- a front of one was
pub front_of : (d : Dump) (r0 r1 w0 w1 : Option (List ℕ)) (fault : IoFault) →
    WritesFrontBut d.held (λ xs. d.text (bytes_dumped d.skip d.limit xs)) d.skip d.limit 0 0 (streams r0 r1 w0 w1) fault → WritesFrontOf d r0 r1 w0 w1 fault
front_of d r0 r1 w0 w1 fault p = record {
  input = p.input;
  written = p.written;
  consumed = p.consumed;
  asked = p.asked;
  within = p.within;
  appended = p.appended;
  cause = stop_of d.held (λ xs. d.text (bytes_dumped d.skip d.limit xs)) p.input p.written fault p.cause p.ahead;
}
