-- A dump that is read window by window.
use Rattle.std.proofs.Common.{◌≡◌, ◌≢◌, ◌⊎◌, inl, inr, ℕ, ◌+◌, ◌<◌, Bool, true, false, eqb, Some, None, Option, Result, Ok, Err, List, [], ◌∷◌, ◌++◌, length, refl, arith, sym, ap, subst, ◌∙◌, append_assoc, append-nil}
use Rattle.std.specs.List.{onto_first, All}
use Rattle.std.specs.Prelude.{◌^◌}
use Rattle.std.specs.Option.{unwrap_or, is_some}
use Rattle.std.proofs.lemmas.Bool.{eqb-true}
use Rattle.std.proofs.lemmas.List.{length-append, map-append}
use Rattle.std.proofs.lemmas.List.Elements.{All-append}
use Rattle.bx_text.specs.declared.owned.pieces.Piece.{Piece}
use Rattle.bx_read.specs.Digits.{pairs_of}
use Rattle.bx_read.specs.Line.{read_line}
use Rattle.bx_read.specs.Runs.{with_piece, joined}
use Rattle.bx_read.specs.Text.{lines_of, is_skipped, answer_then, answers, gathered, piece_then, contents, dump_pieces}
use Rattle.bx_read.specs.Window.{AreWholeLines, GivesRuns, ArePiecesRuns, IsDumpFault, IsFaultBehind, ReadsAlike, HasLines, HasReadBy, HasReadDump, DumpView}
use Rattle.bx_read.specs.private.Unfinished.{IsFaultOfFront}
use Rattle.bx_read.specs.private.Window.{newlines, JoinsBehind, TakesText}
use Rattle.bx_read.specs.private.NextLine.{joined_of}
use Rattle.bx_read.specs.declared.fault.ReadFault.{ReadFault}
use Rattle.bx_read.specs.declared.fault.ReadFault.TheVariants.{NoMemory}
use Rattle.bx_read.proofs.DumpLemmas.{Pieces, after}
use Rattle.bx_read.proofs.LinesLemmas.{answers_read, answers_skip}
use Rattle.bx_read.proofs.RunLemmas.{same_front, all_near}
use Rattle.bx_read.proofs.UnfinishedLemmas.{stands_itself, stands_more, stands_then}

-- a run behind others: the last one has its bytes too, where it begins at its end
abbrev pub onto_last : Pieces → ℕ × List ℕ → Pieces
onto_last [] q = q ∷ []
onto_last (r ∷ []) q = with_piece r (q ∷ [])
onto_last (r ∷ s ∷ runs) q = r ∷ onto_last (s ∷ runs) q

pub onto_front : (front : Pieces) (last q : ℕ × List ℕ) → onto_last (front ++ last ∷ []) q ≡ front ++ with_piece last (q ∷ [])
onto_front [] last q = refl
onto_front (f ∷ []) last q = refl
onto_front (f ∷ g ∷ front) last q = ap (λ t. f ∷ t) (onto_front (g ∷ front) last q)

-- one piece in front, and one behind
both_ends : (p : ℕ × List ℕ) (runs : Pieces) (q : ℕ × List ℕ) → with_piece p (onto_last runs q) ≡ onto_last (with_piece p runs) q
both_ends p [] q = refl
both_ends p (r ∷ []) q = one (eqb r.0 (p.0 + length p.1)) refl (eqb q.0 (r.0 + length r.1)) refl
  where
    one : (a : Bool) → eqb r.0 (p.0 + length p.1) ≡ a → (b : Bool) → eqb q.0 (r.0 + length r.1) ≡ b → with_piece p (with_piece r (q ∷ [])) ≡ onto_last (with_piece p (r ∷ [])) q
    one true e true k =
        let at : r.0 ≡ p.0 + length p.1 = eqb-true r.0 (p.0 + length p.1) e in
        let end : p.0 + length (p.1 ++ r.1) ≡ r.0 + length r.1 = omega (arith, at, length-append p.1 r.1) in
        rw (e, k, end, k, e) (ap (λ b. (p.0, b) ∷ []) (sym (append_assoc p.1 r.1 q.1)))
    one true e false k =
        let at : r.0 ≡ p.0 + length p.1 = eqb-true r.0 (p.0 + length p.1) e in
        let end : p.0 + length (p.1 ++ r.1) ≡ r.0 + length r.1 = omega (arith, at, length-append p.1 r.1) in
        rw (e, k, end, k, e) refl
    one false e true k = rw (e, k, e) refl
    one false e false k = rw (e, k, e) refl
both_ends p (r ∷ s ∷ runs) q = more (eqb r.0 (p.0 + length p.1)) refl
  where
    more : (a : Bool) → eqb r.0 (p.0 + length p.1) ≡ a → with_piece p (r ∷ onto_last (s ∷ runs) q) ≡ onto_last (with_piece p (r ∷ s ∷ runs)) q
    more true e = rw e refl
    more false e = rw e refl

pub joined_onto : (pieces : Pieces) (q : ℕ × List ℕ) → joined (pieces ++ q ∷ []) ≡ onto_last (joined pieces) q
joined_onto [] q = refl
joined_onto (p ∷ pieces) q = ap (with_piece p) (joined_onto pieces q) ∙ both_ends p (joined pieces) q

-- runs are joined already
with_joined : (p : ℕ × List ℕ) (runs : Pieces) → joined (with_piece p runs) ≡ with_piece p (joined runs)
with_joined p [] = refl
with_joined p (r ∷ runs) = go (eqb r.0 (p.0 + length p.1)) refl
  where
    go : (a : Bool) → eqb r.0 (p.0 + length p.1) ≡ a → joined (with_piece p (r ∷ runs)) ≡ with_piece p (with_piece r (joined runs))
    go true e =
        let at : r.0 ≡ p.0 + length p.1 = eqb-true r.0 (p.0 + length p.1) e in
        rw e (sym (subst (λ a. with_piece p (with_piece (a, r.1) (joined runs)) ≡ with_piece (p.0, p.1 ++ r.1) (joined runs)) (sym at) (same_front p.0 p.1 r.1 (joined runs))))
    go false e = rw e refl

pub joined_twice : (pieces : Pieces) → joined (joined pieces) ≡ joined pieces
joined_twice [] = refl
joined_twice (p ∷ pieces) = with_joined p (joined pieces) ∙ ap (with_piece p) (joined_twice pieces)

pub joined_behind : (pieces more : Pieces) → joined (pieces ++ joined more) ≡ joined (pieces ++ more)
joined_behind [] more = joined_twice more
joined_behind (p ∷ pieces) more = ap (with_piece p) (joined_behind pieces more)

-- the first line has a byte more in front
onto_lines : (c : ℕ) (lines others : List (List ℕ)) → 0 < length lines → onto_first c (lines ++ others) ≡ onto_first c lines ++ others
onto_lines c [] others some = absurd (omega arith)
onto_lines c (line ∷ lines) others some = refl

onto_length : (c : ℕ) (lines : List (List ℕ)) → 0 < length lines → length (onto_first c lines) ≡ length lines
onto_length c [] some = absurd (omega arith)
onto_length c (line ∷ lines) some = refl

-- a newline ends a line
pub some_lines : (front rest : List ℕ) → 0 < length (lines_of (front ++ 10 ∷ rest))
some_lines [] rest = omega arith
some_lines (c ∷ front) rest = go (eqb c 10) refl (some_lines front rest)
  where
    go : (b : Bool) → eqb c 10 ≡ b → 0 < length (lines_of (front ++ 10 ∷ rest)) → 0 < length (lines_of (c ∷ (front ++ 10 ∷ rest)))
    go true e some = rw e (omega arith)
    go false e some = rw e (omega (arith, some, onto_length c (lines_of (front ++ 10 ∷ rest)) some))

-- how many lines whole lines are
pub lines_count : (front : List ℕ) → length (lines_of (front ++ 10 ∷ [])) ≡ newlines (front ++ 10 ∷ [])
lines_count [] = refl
lines_count (c ∷ front) = go (eqb c 10) refl (lines_count front) (some_lines front [])
  where
    go : (b : Bool) → eqb c 10 ≡ b → length (lines_of (front ++ 10 ∷ [])) ≡ newlines (front ++ 10 ∷ []) → 0 < length (lines_of (front ++ 10 ∷ []))
        → length (lines_of (c ∷ (front ++ 10 ∷ []))) ≡ newlines (c ∷ (front ++ 10 ∷ []))
    go true e same some = rw e (omega (arith, same))
    go false e same some = rw e (onto_length c (lines_of (front ++ 10 ∷ [])) some ∙ same)

-- lines behind whole lines
lines_front : (front rest : List ℕ) → lines_of (front ++ 10 ∷ rest) ≡ lines_of (front ++ 10 ∷ []) ++ lines_of rest
lines_front [] rest = refl
lines_front (c ∷ front) rest = go (eqb c 10) refl (lines_front front rest) (some_lines front [])
  where
    go : (b : Bool) → eqb c 10 ≡ b → lines_of (front ++ 10 ∷ rest) ≡ lines_of (front ++ 10 ∷ []) ++ lines_of rest → 0 < length (lines_of (front ++ 10 ∷ []))
        → lines_of (c ∷ (front ++ 10 ∷ rest)) ≡ lines_of (c ∷ (front ++ 10 ∷ [])) ++ lines_of rest
    go true e same some = rw e (ap (λ l. [] ∷ l) same)
    go false e same some = rw e (ap (onto_first c) same ∙ onto_lines c (lines_of (front ++ 10 ∷ [])) (lines_of rest) some)

pub lines_behind : (whole rest : List ℕ) → AreWholeLines whole → lines_of (whole ++ rest) ≡ lines_of whole ++ lines_of rest
lines_behind whole rest (inl none) = rw none refl
lines_behind whole rest (inr (front, is)) =
    rw is (ap lines_of (append_assoc front (10 ∷ []) rest) ∙ lines_front front rest)

-- what lines give, and what those behind them give
abbrev pub gives_then : Result Pieces ReadFault → Result Pieces ReadFault → Result Pieces ReadFault
gives_then (Ok pieces) later = after pieces later
gives_then (Err fault) later = Err fault

piece_in_front : (piece : ℕ × List ℕ) (r later : Result Pieces ReadFault) → piece_then piece (gives_then r later) ≡ gives_then (piece_then piece r) later
piece_in_front piece (Ok pieces) (Ok more) = refl
piece_in_front piece (Ok pieces) (Err fault) = refl
piece_in_front piece (Err fault) later = refl

after_nothing : (r : Result Pieces ReadFault) → r ≡ after [] r
after_nothing (Ok pieces) = refl
after_nothing (Err fault) = refl

pub gathered_behind : (p q : ℕ) (lines others : List (List ℕ)) → q ≡ p + length lines →
    gathered (answers p (lines ++ others)) ≡ gives_then (gathered (answers p lines)) (gathered (answers q others))
gathered_behind p q [] others e =
    let same : p ≡ q = omega (arith, e) in
    ap (λ n. gathered (answers n others)) same ∙ after_nothing (gathered (answers q others))
gathered_behind p q (line ∷ lines) others e = go (is_skipped line) refl (gathered_behind (p + 1) q lines others (omega (arith, e)))
  where
    read : (r : Result (ℕ × List ℕ) ReadFault) → gathered (answers (p + 1) (lines ++ others)) ≡ gives_then (gathered (answers (p + 1) lines)) (gathered (answers q others)) →
        gathered (answer_then p r (answers (p + 1) (lines ++ others))) ≡ gives_then (gathered (answer_then p r (answers (p + 1) lines))) (gathered (answers q others))
    read (Err fault) later = refl
    read (Ok got) later =
        ap (piece_then (got.0, unwrap_or (pairs_of got.1) [])) later
        ∙ piece_in_front (got.0, unwrap_or (pairs_of got.1) []) (gathered (answers (p + 1) lines)) (gathered (answers q others))

    go : (b : Bool) → is_skipped line ≡ b → gathered (answers (p + 1) (lines ++ others)) ≡ gives_then (gathered (answers (p + 1) lines)) (gathered (answers q others)) →
        gathered (answers p (line ∷ (lines ++ others))) ≡ gives_then (gathered (answers p (line ∷ lines))) (gathered (answers q others))
    go true e later = rw (answers_skip p line (lines ++ others) e, answers_skip p line lines e) later
    go false e later = rw (answers_read p line (lines ++ others) e, answers_read p line lines e) (read (read_line p line) later)

-- a run put behind others
module _ {A : Type 0} (old popped new : List (Piece A)) (run : Piece A) where
  pub push_onto : contents new ≡ onto_last (contents old) (run.at, run.bytes) → JoinsBehind (contents old) (contents new) ((run.at, run.bytes) ∷ [])
  push_onto is = λ pieces joined_are. is ∙ ap (λ r. onto_last r (run.at, run.bytes)) joined_are ∙ sym (joined_onto pieces (run.at, run.bytes))

  pub push_first : old ≡ popped ++ [] → length popped ≡ 0 → new ≡ popped ++ run ∷ [] → JoinsBehind (contents old) (contents new) ((run.at, run.bytes) ∷ [])
  push_first before none pushed = push_onto (go popped none before pushed)
    where
      go : (popped : List (Piece A)) → length popped ≡ 0 → old ≡ popped ++ [] → new ≡ popped ++ run ∷ [] → contents new ≡ onto_last (contents old) (run.at, run.bytes)
      go [] none before pushed = rw (before, pushed) refl
      go (p ∷ popped) none before pushed = absurd (omega arith)

  module _ (last : Piece A) (before : old ≡ popped ++ last ∷ []) where
    last_of : contents old ≡ contents popped ++ (last.at, last.bytes) ∷ []
    last_of = ap contents before ∙ map-append (λ p. (p.at, p.bytes)) popped (last ∷ [])

    with_last : onto_last (contents old) (run.at, run.bytes) ≡ contents popped ++ with_piece (last.at, last.bytes) ((run.at, run.bytes) ∷ [])
    with_last = ap (λ r. onto_last r (run.at, run.bytes)) last_of ∙ onto_front (contents popped) (last.at, last.bytes) (run.at, run.bytes)

    pub push_apart : (between : List (Piece A)) → between ≡ popped ++ last ∷ [] → new ≡ between ++ run ∷ [] → eqb run.at (last.at + length last.bytes) ≡ false →
        JoinsBehind (contents old) (contents new) ((run.at, run.bytes) ∷ [])
    push_apart between first second e =
        let both : contents new ≡ contents popped ++ (last.at, last.bytes) ∷ (run.at, run.bytes) ∷ [] =
        ap contents (second ∙ ap (λ b. b ++ run ∷ []) first ∙ append_assoc popped (last ∷ []) (run ∷ []))
        ∙ map-append (λ p. (p.at, p.bytes)) popped (last ∷ run ∷ []) in
        let two : contents popped ++ with_piece (last.at, last.bytes) ((run.at, run.bytes) ∷ []) ≡ contents popped ++ (last.at, last.bytes) ∷ (run.at, run.bytes) ∷ [] = rw e refl in
        push_onto (both ∙ sym (with_last ∙ two))

    pub push_joined : (longer : Piece A) → longer.at ≡ last.at → longer.bytes ≡ last.bytes ++ run.bytes → new ≡ popped ++ longer ∷ [] →
        eqb run.at (last.at + length last.bytes) ≡ true → JoinsBehind (contents old) (contents new) ((run.at, run.bytes) ∷ [])
    push_joined longer at bytes pushed e =
        let all : contents new ≡ contents popped ++ (longer.at, longer.bytes) ∷ [] = ap contents pushed ∙ map-append (λ p. (p.at, p.bytes)) popped (longer ∷ []) in
        let one : contents popped ++ (longer.at, longer.bytes) ∷ [] ≡ contents popped ++ (last.at, last.bytes ++ run.bytes) ∷ [] = rw (at, bytes) refl in
        let two : contents popped ++ with_piece (last.at, last.bytes) ((run.at, run.bytes) ∷ []) ≡ contents popped ++ (last.at, last.bytes ++ run.bytes) ∷ [] = rw e refl in
        push_onto (all ∙ one ∙ sym (with_last ∙ two))

-- runs put behind others, one after another
pub none_put : {A : Type 0} (old : List (Piece A)) → JoinsBehind (contents old) (contents old) []
none_put old = λ pieces joined_are. joined_are ∙ ap joined (sym (append-nil pieces))

pub one_put : {A : Type 0} (old mid new done more : List (Piece A)) (run : Piece A) → JoinsBehind (contents old) (contents mid) (contents done) →
    JoinsBehind (contents mid) (contents new) ((run.at, run.bytes) ∷ []) → more ≡ done ++ run ∷ [] → JoinsBehind (contents old) (contents new) (contents more)
one_put old mid new done more run before step all = λ pieces joined_are.
    step (pieces ++ contents done) (before pieces joined_are)
    ∙ ap joined (append_assoc pieces (contents done) ((run.at, run.bytes) ∷ [])
    ∙ ap (λ t. pieces ++ t) (sym (ap contents all ∙ map-append (λ p. (p.at, p.bytes)) done (run ∷ []))))

-- a text behind lines that were read, by its own runs
pub takes_text : {A : Type 0} (lines : ℕ) (text : List ℕ) (got old new : List (Piece A)) → joined_of (gathered (answers (lines + 1) (lines_of text))) ≡ Ok (contents got) →
    JoinsBehind (contents old) (contents new) (contents got) → TakesText lines text (contents old) (contents new)
takes_text lines text got old new read joins = go (gathered (answers (lines + 1) (lines_of text))) refl read
  where
    same : (x y : Pieces) → ◌≡◌ {A = Result Pieces ReadFault} (Ok x) (Ok y) → x ≡ y
    same x y h = cc

    go : (r : Result Pieces ReadFault) → gathered (answers (lines + 1) (lines_of text)) ≡ r → joined_of r ≡ Ok (contents got) → TakesText lines text (contents old) (contents new)
    go (Ok more) is e = (more, is, λ pieces joined_are. joins pieces joined_are ∙ ap (λ t. joined (pieces ++ t)) (sym (same (joined more) (contents got) e)) ∙ joined_behind pieces more)
    go (Err fault) is e = cc

-- whole lines that were read, and a text behind them
module _ (whole text : List ℕ) (lines : ℕ) (pieces : Pieces) (ends : AreWholeLines whole) (read : dump_pieces whole ≡ Ok pieces) (count : lines ≡ length (lines_of whole)) where
  all_of : dump_pieces (whole ++ text) ≡ gives_then (Ok pieces) (gathered (answers (lines + 1) (lines_of text)))
  all_of =
      ap (λ l. gathered (answers 1 l)) (lines_behind whole text ends)
      ∙ gathered_behind 1 (lines + 1) (lines_of whole) (lines_of text) (omega (arith, count))
      ∙ ap (λ r. gives_then r (gathered (answers (lines + 1) (lines_of text)))) read

  pub pieces_behind : (more : Pieces) → gathered (answers (lines + 1) (lines_of text)) ≡ Ok more → dump_pieces (whole ++ text) ≡ Ok (pieces ++ more)
  pieces_behind more e = all_of ∙ ap (gives_then (Ok pieces)) e

  pub fault_behind : (fault : ReadFault) → gathered (answers (lines + 1) (lines_of text)) ≡ Err fault → dump_pieces (whole ++ text) ≡ Err fault
  fault_behind fault e = all_of ∙ ap (gives_then (Ok pieces)) e

-- a fault of whole lines is that of each text which begins with them
pub fault_lasts : (whole rest : List ℕ) (fault : ReadFault) → AreWholeLines whole → dump_pieces whole ≡ Err fault → dump_pieces (whole ++ rest) ≡ Err fault
fault_lasts whole rest fault ends e =
    ap (λ l. gathered (answers 1 l)) (lines_behind whole rest ends)
    ∙ gathered_behind 1 (1 + length (lines_of whole)) (lines_of whole) (lines_of rest) refl
    ∙ ap (λ r. gives_then r (gathered (answers (1 + length (lines_of whole)) (lines_of rest)))) e

-- a line's front that is only held yet
pub held_more : (text : List ℕ) (runs : Pieces) (lines : ℕ) (held more short : List ℕ) → HasLines text runs lines held → All (λ c. c ≢ 10) more → ReadsAlike (held ++ more) short →
    HasLines (text ++ more) runs lines short
held_more text runs lines held more short has apart stands = record {
  whole = has.whole;
  front = has.front ++ more;
  spelled = ap (λ t. t ++ more) has.spelled ∙ append_assoc has.whole has.front more;
  ends = has.ends;
  gives = has.gives;
  counted = has.counted;
  stands = stands_then (has.front ++ more) (held ++ more) short (stands_more has.front held more apart has.stands) stands;
}

pub held_as_is : (text : List ℕ) (runs : Pieces) (lines : ℕ) (held more new : List ℕ) → HasLines text runs lines held → All (λ c. c ≢ 10) more → new ≡ held ++ more →
    HasLines (text ++ more) runs lines new
held_as_is text runs lines held more new has apart same =
    subst (HasLines (text ++ more) runs lines) (sym same)
    (held_more text runs lines held more (held ++ more) has apart (stands_itself (held ++ more) (All-append (λ c. c ≢ 10) held more has.stands.apart apart)))

-- the whole lines and the line's front, with a text behind them
module _ (text more : List ℕ) (runs : Pieces) (lines : ℕ) (held : List ℕ) (has : HasLines text runs lines held) where
  pub spelled_more : text ++ more ≡ has.whole ++ (has.front ++ more)
  spelled_more = ap (λ t. t ++ more) has.spelled ∙ append_assoc has.whole has.front more

  reads_as : (number : ℕ) → gathered (answers number (lines_of (held ++ more))) ≡ gathered (answers number (lines_of (has.front ++ more)))
  reads_as number = sym (has.stands.reads number more)

  pub more_pieces : (pieces : Pieces) → gathered (answers (lines + 1) (lines_of (held ++ more))) ≡ Ok pieces → dump_pieces (text ++ more) ≡ Ok (has.gives.0 ++ pieces)
  more_pieces pieces e =
      ap dump_pieces spelled_more
      ∙ pieces_behind has.whole (has.front ++ more) lines has.gives.0 has.ends has.gives.1 has.counted pieces (sym (reads_as (lines + 1)) ∙ e)

  pub more_fault : (fault : ReadFault) → gathered (answers (lines + 1) (lines_of (held ++ more))) ≡ Err fault → dump_pieces (text ++ more) ≡ Err fault
  more_fault fault e =
      ap dump_pieces spelled_more
      ∙ fault_behind has.whole (has.front ++ more) lines has.gives.0 has.ends has.gives.1 has.counted fault (sym (reads_as (lines + 1)) ∙ e)

  -- whole lines now
  module _ (front : List ℕ) (end : more ≡ front ++ 10 ∷ []) where
    ends_more : AreWholeLines (has.whole ++ (has.front ++ more))
    ends_more = inr (
      has.whole ++ (has.front ++ front),
      ap (λ l. has.whole ++ (has.front ++ l)) end
          ∙ ap (λ l. has.whole ++ l) (sym (append_assoc has.front front (10 ∷ []))) ∙ sym (append_assoc has.whole (has.front ++ front) (10 ∷ [])),
    )

    all_read : (took : Pieces) (count : ℕ) → TakesText lines (held ++ more) runs took → count ≡ lines + newlines (held ++ more) → HasLines (text ++ more) took count []
    all_read took count takes counted = record {
      whole = has.whole ++ (has.front ++ more);
      front = [];
      spelled = spelled_more ∙ sym (append-nil (has.whole ++ (has.front ++ more)));
      ends = ends_more;
      gives = (
        has.gives.0 ++ takes.0,
        sym (ap dump_pieces spelled_more) ∙ more_pieces takes.0 takes.1,
        takes.2 has.gives.0 has.gives.2,
      );
      counted =
          let held_end : held ++ more ≡ (held ++ front) ++ 10 ∷ [] = ap (λ l. held ++ l) end ∙ sym (append_assoc held front (10 ∷ [])) in
          let of_held : length (lines_of (held ++ more)) ≡ newlines (held ++ more) = subst (λ t. length (lines_of t) ≡ newlines t) (sym held_end) (lines_count (held ++ front)) in
          let both : length (lines_of (has.whole ++ (has.front ++ more))) ≡ length (lines_of has.whole) + length (lines_of (has.front ++ more)) =
          ap length (lines_behind has.whole (has.front ++ more) has.ends) ∙ length-append (lines_of has.whole) (lines_of (has.front ++ more)) in
          omega (arith, counted, has.counted, both, of_held, has.stands.lines more);
      stands = stands_itself [] (λ k d inside. absurd (omega (arith, inside)));
    }

    fault_read : (fault : ReadFault) → (fault ≡ NoMemory) ⊎ (gathered (answers (lines + 1) (lines_of (held ++ more))) ≡ Err fault) → IsFaultBehind (text ++ more) fault
    fault_read fault (inl none) = inl none
    fault_read fault (inr is) = inr (λ rest.
        ap (λ t. dump_pieces (t ++ rest)) spelled_more
        ∙ fault_lasts (has.whole ++ (has.front ++ more)) rest fault ends_more (sym (ap dump_pieces spelled_more) ∙ more_fault fault is))

    module _ (both : List ℕ) (before : ℕ) (mid : Pieces) (same : both ≡ held ++ more) (counted : before ≡ lines) (kept : mid ≡ runs) where
      pub lines_read : (took : Pieces) (count : ℕ) (left : List ℕ) → TakesText before both mid took → count ≡ before + newlines both → left ≡ [] → HasLines (text ++ more) took count left
      lines_read took count left takes more_lines none =
          subst (HasLines (text ++ more) took count) (sym none)
          (all_read took count
          (subst (λ r. TakesText lines (held ++ more) r took) kept (subst (λ n. TakesText n (held ++ more) mid took) counted (subst (λ t. TakesText before t mid took) same takes)))
          (more_lines ∙ ap (λ n. n + newlines both) counted ∙ ap (λ t. lines + newlines t) same))

      pub lines_fault : (fault : ReadFault) → (fault ≡ NoMemory) ⊎ (gathered (answers (before + 1) (lines_of both)) ≡ Err fault) → IsFaultBehind (text ++ more) fault
      lines_fault fault is = fault_read fault
          (subst (λ n. (fault ≡ NoMemory) ⊎ (gathered (answers (n + 1) (lines_of (held ++ more))) ≡ Err fault)) counted
          (subst (λ t. (fault ≡ NoMemory) ⊎ (gathered (answers (before + 1) (lines_of t)) ≡ Err fault)) same is))

  -- the fault of a line whatever follows
  pub front_fault : All (λ c. c ≢ 10) more → (both : List ℕ) (count : ℕ) → both ≡ held ++ more → count ≡ lines → (fault : ReadFault) →
      (fault ≡ NoMemory) ⊎ (All (λ c. c ≢ 10) both → IsFaultOfFront (count + 1) both fault) → IsFaultBehind (text ++ more) fault
  front_fault apart both count same counted fault (inl none) = inl none
  front_fault apart both count same counted fault (inr of_both) = inr (λ rest.
      let is : All (λ c. c ≢ 10) (held ++ more) → IsFaultOfFront (lines + 1) (held ++ more) fault =
      subst (λ n. All (λ c. c ≢ 10) (held ++ more) → IsFaultOfFront (n + 1) (held ++ more) fault) counted
      (subst (λ t. All (λ c. c ≢ 10) t → IsFaultOfFront (count + 1) t fault) same of_both) in
      let sure = is (All-append (λ c. c ≢ 10) held more has.stands.apart apart) rest in
      let stands = stands_more has.front held more apart has.stands in
      ap (λ t. dump_pieces (t ++ rest)) spelled_more ∙ ap dump_pieces (append_assoc has.whole (has.front ++ more) rest)
      ∙ fault_behind has.whole ((has.front ++ more) ++ rest) lines has.gives.0 has.ends has.gives.1 has.counted fault (stands.reads (lines + 1) rest ∙ sure))

-- a fault lasts
pub fault_goes_on : (text more : List ℕ) (fault : ReadFault) → IsFaultBehind text fault → IsFaultBehind (text ++ more) fault
fault_goes_on text more fault (inl none) = inl none
fault_goes_on text more fault (inr all) = inr (λ rest. ap dump_pieces (append_assoc text more rest) ∙ all (more ++ rest))

-- nothing was read yet
pub nothing_read : HasLines [] [] 0 []
nothing_read = record {
  whole = [];
  front = [];
  spelled = refl;
  ends = inl refl;
  gives = ([], refl, refl);
  counted = refl;
  stands = stands_itself [] (λ k d inside. absurd (omega (arith, inside)));
}

-- what is known of a text, by the fault that is kept
pub not_known : {X : Type 0} (o : Option X) → ((x : X) → o ≡ Some x → ⊥) → o ≡ None
not_known None none = refl
not_known (Some x) none = absurd (none x refl)

pub no_fault : {X : Type 0} (o : Option X) (b : Bool) → b ≡ is_some o → b ≡ false → o ≡ None
no_fault None b is e = refl
no_fault (Some x) b is e = cc

pub some_fault : (o : Option ReadFault) (b : Bool) → b ≡ is_some o → b ≡ true → (fault : ReadFault) × (o ≡ Some fault)
some_fault None b is e = cc
some_fault (Some fault) b is e = (fault, refl)

-- a fault that is known stays
pub fault_stays : (text more : List ℕ) (read : DumpView) (fault : ReadFault) → read.fault ≡ Some fault → HasReadDump text read → HasReadDump (text ++ more) read
fault_stays text more read fault known is = subst (HasReadBy (text ++ more) read) (sym known) (fault_goes_on text more fault (subst (HasReadBy text read) known is))

pub lines_of_read : (text : List ℕ) (read : DumpView) → read.fault ≡ None → HasReadDump text read → HasLines text read.runs read.lines read.held
lines_of_read text read none is = subst (HasReadBy text read) none is

pub read_of_lines : (text : List ℕ) (read : DumpView) → read.fault ≡ None → HasLines text read.runs read.lines read.held → HasReadDump text read
read_of_lines text read none has = subst (HasReadBy text read) (sym none) has

pub read_of_fault : (text : List ℕ) (read : DumpView) (fault : ReadFault) → read.fault ≡ Some fault → IsFaultBehind text fault → HasReadDump text read
read_of_fault text read fault known is = subst (HasReadBy text read) (sym known) is

pub fault_of_read : (text : List ℕ) (read : DumpView) (fault : ReadFault) → read.fault ≡ Some fault → HasReadDump text read → IsFaultBehind text fault
fault_of_read text read fault known is = subst (HasReadBy text read) known is

-- at the end of the text
pub fault_at_end : (text : List ℕ) (fault : ReadFault) → IsFaultBehind text fault → IsDumpFault text fault
fault_at_end text fault (inl none) = inl none
fault_at_end text fault (inr all) = inr (ap dump_pieces (sym (append-nil text)) ∙ all [])

module _ (text : List ℕ) (runs : Pieces) (lines : ℕ) (held : List ℕ) (has : HasLines text runs lines held) where
  no_more : (number : ℕ) → gathered (answers number (lines_of held)) ≡ gathered (answers number (lines_of (held ++ [])))
  no_more number = ap (λ t. gathered (answers number (lines_of t))) (sym (append-nil held))

  pub last_runs : (new : Pieces) → TakesText lines held runs new → GivesRuns text new
  last_runs new takes = (
    has.gives.0 ++ takes.0,
    ap dump_pieces (sym (append-nil text)) ∙ more_pieces text [] runs lines held has takes.0 (sym (no_more (lines + 1)) ∙ takes.1),
    takes.2 has.gives.0 has.gives.2,
  )

  pub last_fault : (fault : ReadFault) → (fault ≡ NoMemory) ⊎ (gathered (answers (lines + 1) (lines_of held)) ≡ Err fault) → IsDumpFault text fault
  last_fault fault (inl refused) = inl refused
  last_fault fault (inr e) = inr (ap dump_pieces (sym (append-nil text)) ∙ more_fault text [] runs lines held has fault (sym (no_more (lines + 1)) ∙ e))

-- each run of a text begins below 2 ^ 62
pub runs_near : {A : Type 0} (text : List ℕ) (runs : List (Piece A)) → ArePiecesRuns text runs → All (λ run. run.at < 2 ^ 62) runs
runs_near text runs are = all_near text runs (ap joined_of are.1 ∙ ap Ok (sym are.2))
