-- A redo text is refused at one line, and only where it isn't one.
use Rattle.std.proofs.Common.{◌≡◌, ℕ, zero, suc, ◌+◌, ◌-◌, ◌≤◌, inl, inr, true, false, List, [], ◌∷◌, ◌++◌, length, length-append, take, drop, refl, ap, sym, ◌∙◌, subst, arith, Option, Some, None}
use Rattle.std.specs.Prelude.{is_some, IsTrue, IfSome}
use Rattle.std.proofs.lemmas.Bool.{cases_lt}
use Rattle.std.proofs.Math.Seq.{take-add}
use Rattle.bx_journal_format.specs.Parsed.{told_by}
use Rattle.bx_journal_format.specs.Text.{Entry, Between, Reading, split, start, after_lines}
use Rattle.bx_journal_model.specs.Stack.{HaveLengths}
use Rattle.bx_journal_format.specs.Finished.{IsFinished, AllTell}
use Rattle.bx_journal_format.proofs.Foreign.{no_way_back}
use Rattle.bx_journal_protocol.proofs.LawProofs.{damaged_at_one}
use Rattle.bx_journal_model.proofs.Phases.{length-stack_of}
use Rattle.bx_journal_format.proofs.Runs.{after_lines-append}
use Rattle.bx_journal_model.specs.Redo.{IsRedoOf, BeginsAt, HasTailAt, IsTooManyAt, IsNoRedoAt, DamagedLine, Tail, FirstForm, IsRefusedAt, NoRedo, TooMany, Off}
use Rattle.bx_journal_model.specs.RedoLaws.{RedoLineOne}
use Rattle.bx_journal_protocol.proofs.RedoText.{one_reading, one_list}

-- where the first a lines and the first b lines lead to the same finished entries, b is not above a
further : (es : List Entry) (ls : List (List ℕ)) (a b : ℕ) → a ≤ b → b ≤ length ls → after_lines start (take a ls) ≡ Some (record { entries = es; stage = Between }) → after_lines start (take b ls) ≡ Some (record { entries = es; stage = Between }) → b ≤ a
further es ls a b le within p q =
    let count : b ≡ a + (b - a) = omega arith in
    let parts : take b ls ≡ take a ls ++ take (b - a) (drop a ls) = ap (λ n. take n ls) count ∙ take-add a (b - a) ls in
    let rest : after_lines (record { entries = es; stage = Between }) (take (b - a) (drop a ls)) ≡ Some (record { entries = es; stage = Between }) =
    sym (after_lines-append start (record { entries = es; stage = Between }) (take a ls) (take (b - a) (drop a ls)) p) ∙ sym (ap (after_lines start) parts) ∙ q in
    let none : length (take (b - a) (drop a ls)) ≡ 0 = no_way_back es (take (b - a) (drop a ls)) rest in
    let long : length (take (b - a) (drop a ls)) ≡ b - a = length_taken (b - a) a ls (omega arith) in
    omega (arith, none, long)
  where
    length_dropped : (k : ℕ) (xs : List (List ℕ)) → k ≤ length xs → length (drop k xs) + k ≡ length xs
    length_dropped zero xs le = omega arith
    length_dropped (suc k) [] le = absurd (omega arith)
    length_dropped (suc k) (x ∷ xs) le = let more = length_dropped k xs (omega arith) in omega (arith, more)

    length_of_take : (k : ℕ) (xs : List (List ℕ)) → k ≤ length xs → length (take k xs) ≡ k
    length_of_take zero xs le = refl
    length_of_take (suc k) [] le = absurd (omega arith)
    length_of_take (suc k) (x ∷ xs) le = ap suc (length_of_take k xs (omega arith))

    length_taken : (k n : ℕ) (xs : List (List ℕ)) → n + k ≤ length xs → length (take k (drop n xs)) ≡ k
    length_taken k n xs le = let d = length_dropped n xs (omega arith) in length_of_take k (drop n xs) (omega (arith, d))

begins_once : (text : List ℕ) (es fs : List Entry) (m n : ℕ) → es ≡ fs → BeginsAt text es m → BeginsAt text fs n → m ≡ n
begins_once text es fs m n same a b =
    let ls : List (List ℕ) = (split text).lines in
    let there : after_lines start (take b.before ls) ≡ Some (record { entries = es; stage = Between }) = b.reads ∙ ap (λ gs. Some (record { entries = gs; stage = Between })) (sym same) in
    elim (cases_lt a.before b.before) [
      | inl less ↦ let le = further es ls a.before b.before (omega (arith, less)) b.within a.reads there in absurd (omega (arith, less, le))
      | inr most ↦ let le = further es ls b.before a.before most a.within there a.reads in omega (arith, a.line_is, b.line_is, most, le)
    ]

untold_not_told : (o : Option ℕ) → o ≡ None → IsTrue (is_some o) → ⊥
untold_not_told o none some = absurd (let e : false ≡ true = sym (ap is_some none) ∙ some in cc)

pub tell_below : (newer older : List Entry) → AllTell (newer ++ older) → AllTell older
tell_below [] older tell = tell
tell_below (e ∷ newer) older tell = tell_below newer older tell.1

-- the first entry that tells none
same_first : (ns ms : List Entry) (e f : Entry) (os ps : List Entry) → ns ++ e ∷ os ≡ ms ++ f ∷ ps → e.after ≡ None → f.after ≡ None → AllTell os → AllTell ps → os ≡ ps
same_first [] [] e f os ps is none zero_ all each = ap (drop 1) is
same_first [] (m ∷ ms) e f os ps is none zero_ all each =
    let rest : os ≡ ms ++ f ∷ ps = ap (drop 1) is in
    absurd (untold_not_told f.after zero_ (tell_below ms (f ∷ ps) (subst AllTell rest all)).0)
same_first (n ∷ ns) [] e f os ps is none zero_ all each =
    let rest : ns ++ e ∷ os ≡ ps = ap (drop 1) is in
    absurd (untold_not_told e.after none (tell_below ns (e ∷ os) (subst AllTell (sym rest) each)).0)
same_first (n ∷ ns) (m ∷ ms) e f os ps is none zero_ all each = same_first ns ms e f os ps (ap (drop 1) is) none zero_ all each

-- two ends of one length
same_end : (ns ms os ps : List Entry) → ns ++ os ≡ ms ++ ps → length os ≡ length ps → os ≡ ps
same_end [] [] os ps is long = is
same_end [] (m ∷ ms) os ps is long = absurd (let e = ap length is in omega (arith, e, long, length-append ms ps))
same_end (n ∷ ns) [] os ps is long = absurd (let e = ap length is in omega (arith, e, long, length-append ns os))
same_end (n ∷ ns) (m ∷ ms) os ps is long = same_end ns ms os ps (ap (drop 1) is) long

not_tail : (text : List ℕ) (m : ℕ) (es : List Entry) → HasTailAt text m → IsFinished text es → ⊥
not_tail text m es t f =
    let same : t.reading ≡ record { entries = es; stage = Between } = one_reading (sym t.reads.lines ∙ f.reads.lines) in
    t.unfinished (subst (IsFinished text) (sym (ap (λ (r : Reading). r.entries) same)) f)

-- a text of finished entries that tell is neither damaged nor has a tail nor the first form
pub not_no_redo : (text : List ℕ) (m : ℕ) (es : List Entry) → IsFinished text es → AllTell es → IsNoRedoAt text m → ⊥
not_no_redo text m es f tell refused = elim refused [
  | DamagedLine d ↦ (damaged_at_one text m d).0 (record { entries = es; stage = Between }, f.reads)
  | Tail t ↦ not_tail text m es t f
  | FirstForm n ↦
      let same : es ≡ n.newer ++ n.entry ∷ n.older = one_list text es (n.newer ++ n.entry ∷ n.older) f.reads n.finished.reads in
      untold_not_told n.entry.after n.untold (tell_below n.newer (n.entry ∷ n.older) (subst AllTell same tell)).0
]

some_length : (es : List Entry) → (es ≡ [] → ⊥) → 1 ≤ length es
some_length [] some = absurd (some refl)
some_length (e ∷ es) some = omega arith

pub too_many : (text : List ℕ) (n m : ℕ) (es : List Entry) → IsFinished text es → IsTooManyAt text n m → n + length es ≤ 65535 → ⊥
too_many text n m es f t few =
    let same : es ≡ t.newer ++ t.older = one_list text es (t.newer ++ t.older) f.reads t.finished.reads in
    let long = ap length same in
    omega (arith, few, long, length-append t.newer t.older, some_length t.newer t.some, t.many)

no_redo_once : (text : List ℕ) (m n : ℕ) → IsNoRedoAt text m → IsNoRedoAt text n → m ≡ n
no_redo_once text m n a b = elim a [
  | DamagedLine d ↦ elim b [
    | DamagedLine e ↦ (damaged_at_one text m d).1 n e
    | Tail t ↦ absurd ((damaged_at_one text m d).0 (t.reading, t.reads))
    | FirstForm f ↦ absurd ((damaged_at_one text m d).0 (record { entries = f.newer ++ f.entry ∷ f.older; stage = Between }, f.finished.reads))
  ]
  | Tail t ↦ elim b [
    | DamagedLine e ↦ absurd ((damaged_at_one text n e).0 (t.reading, t.reads))
    | Tail u ↦
        let same : t.reading ≡ u.reading = one_reading (sym t.reads.lines ∙ u.reads.lines) in
        begins_once text t.reading.entries u.reading.entries m n (ap (λ (r : Reading). r.entries) same) t.begins u.begins
    | FirstForm f ↦ absurd (not_tail text m (f.newer ++ f.entry ∷ f.older) t f.finished)
  ]
  | FirstForm f ↦ elim b [
    | DamagedLine e ↦ absurd ((damaged_at_one text n e).0 (record { entries = f.newer ++ f.entry ∷ f.older; stage = Between }, f.finished.reads))
    | Tail t ↦ absurd (not_tail text n (f.newer ++ f.entry ∷ f.older) t f.finished)
    | FirstForm g ↦
        let same = one_list text (f.newer ++ f.entry ∷ f.older) (g.newer ++ g.entry ∷ g.older) f.finished.reads g.finished.reads in
        begins_once text f.older g.older m n (same_first f.newer g.newer f.entry g.entry f.older g.older same f.untold g.untold f.told g.told) f.begins g.begins
  ]
]

pub refused_once : (text x : List ℕ) (k m n : ℕ) → IsRefusedAt text x k m → IsRefusedAt text x k n → m ≡ n
refused_once text x k m n a b = elim a [
  | NoRedo p ↦ elim b [
    | NoRedo q ↦ no_redo_once text m n p q
    | TooMany t ↦ absurd (not_no_redo text m (t.newer ++ t.older) t.finished t.tell p)
    | Off o ↦ absurd (not_no_redo text m o.entries o.finished o.tell p)
  ]
  | TooMany t ↦ elim b [
    | NoRedo q ↦ absurd (not_no_redo text n (t.newer ++ t.older) t.finished t.tell q)
    | TooMany u ↦
        let same = one_list text (t.newer ++ t.older) (u.newer ++ u.older) t.finished.reads u.finished.reads in
        begins_once text t.older u.older m n (same_end t.newer u.newer t.older u.older same (omega (arith, t.many, u.many))) t.begins u.begins
    | Off o ↦ absurd (too_many text k m o.entries o.finished t o.few)
  ]
  | Off o ↦ elim b [
    | NoRedo q ↦ absurd (not_no_redo text n o.entries o.finished o.tell q)
    | TooMany u ↦ absurd (too_many text k n o.entries o.finished u o.few)
    | Off p ↦ o.line_is ∙ sym p.line_is
  ]
]

told_is : (es : List Entry) (x : List ℕ) (n : ℕ) → HaveLengths es x → told_by es ≡ Some n → length x ≡ n
told_is [] x n have is = absurd (let e : None ≡ Some n = is in cc)
told_is (e ∷ es) x n have is = by_after e.after is have.0
  where
    by_after : (o : Option ℕ) → o ≡ Some n → IfSome o (λ m. length x ≡ m) → length x ≡ n
    by_after None is told = absurd (let e : None ≡ Some n = is in cc)
    by_after (Some m) is told = let same : m ≡ n = cc in told ∙ same

pub none_refused : (text x : List ℕ) (k m : ℕ) (u : List (List ℕ)) → IsRedoOf text x k u → IsRefusedAt text x k m → ⊥
none_refused text x k m u r a =
    let f : IsFinished text r.stands.entries = record { reads = r.stands.reads; whole = r.stands.whole } in
    elim a [
      | NoRedo p ↦ not_no_redo text m r.stands.entries f r.tell p
      | TooMany t ↦
          let count = ap length r.stands.stack_is in
          too_many text k m r.stands.entries f t (omega (arith, r.few, count, length-stack_of r.stands.entries x))
      | Off o ↦
          let same : r.stands.entries ≡ o.entries = one_list text r.stands.entries o.entries r.stands.reads o.finished.reads in
          o.differs (told_is r.stands.entries x o.expected r.stands.lengths (ap told_by same ∙ o.told))
    ]

pub one_redo_line : RedoLineOne
one_redo_line = record { one = refused_once; none = none_refused }
