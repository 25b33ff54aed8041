-- Lines that are shown, where one may be longer than a window.
use Rattle.std.proofs.Common.{◌≡◌, ℕ, ◌+◌, ◌-◌, ◌<◌, ◌≤◌, List, [], ◌∷◌, ◌++◌, length, length-take, take, drop, ap, sym, ◌∙◌, subst, arith, Option}
use Rattle.std.specs.Prelude.{flat_map}
use Rattle.std.specs.Io.KnownBytes.{Appends}
use Rattle.std.proofs.lemmas.List.{take_all}
use Rattle.bx_journal_format.specs.declared.read.ranges.Ranging.{Ranging}
use Rattle.bx_journal_format.specs.declared.read.ranges.RangedLines.{RangedLines}
use Rattle.bx_journal_format.specs.declared.read.marks.Mark.{Mark}
use Rattle.bx_journal_format.specs.Kept.{Run}
use Rattle.bx_journal_format.specs.Ranges.{AreRanged, IsRangedIn, RangesOn}
use Rattle.bx_journal_format.specs.Spelled.{runs_behind, with_found}
use Rattle.bx_journal_format.specs.Text.{split}
use Rattle.bx_journal_format.proofs.Stops.{saved_same}
use Rattle.bx_journal_model.specs.declared.long.Cut.{Cut}
use Rattle.bx_journal_read.specs.declared.show.fault.ShowFault.{ShowFault}
use Rattle.bx_journal_read.specs.declared.show.ranges.Done.{Done}
use Rattle.bx_journal_model.specs.Long.{IsCut, passed_of}
use Rattle.bx_journal_read.specs.show.Differences.{diff_line, line_made, lines_beside, made_line, shown_between, AreAdded, AreWritten}
use Rattle.bx_journal_read.specs.show.Showing.{PutsOn, StopsRanges}
use Rattle.bx_journal_read.specs.show.Stopping.{CountsBytes, StopsPrefix}
use Rattle.bx_journal_read.proofs.AddedLemmas.{window_counted, window_stopped, written_window}
use Rattle.bx_journal_model.proofs.LongLines.{StandsFor, stands_for}
use Rattle.bx_journal_read.proofs.PutLemmas.{ranges_stopped}

-- a line's first bytes say what is shown of it
abbrev pub Alike : (List ℕ → List ℕ) → Type 0
Alike show = (front more : List ℕ) → 1024 ≤ length front → show (front ++ more) ≡ show front

pub made_alike : (len : ℕ) → Alike (made_line len)
made_alike len front more enough = ap line_made (saved_same len front more enough)

pub diff_alike : (image : List ℕ) (len : ℕ) → Alike (diff_line image len)
diff_alike image len front more enough = ap (lines_beside image) (saved_same len front more enough)

-- the lines of a window that was read
module _ (faithful : Type 0) (stored window bytes : List ℕ) (at len : ℕ) (c : Cut) (cut : IsCut faithful stored at len window c) (is : bytes ≡ take c.count window) where
  cut_stands : (taken : ℕ) → taken ≤ length bytes → (split (take taken bytes)).rest ≡ [] → StandsFor faithful stored at len (take taken (take c.count window)) c taken
  cut_stands taken within whole =
      stands_for faithful stored at len window c taken cut (omega (arith, within, ap length is, length-take c.count window, cut.within)) (ap (λ t. (split (take taken t)).rest) (sym is) ∙ whole)

  module _ (show : List ℕ → List ℕ) (alike : Alike show) (taken : ℕ) (old text : List ℕ) (within : taken ≤ length bytes) (empty : old ≡ []) (added : AreAdded show bytes taken old text) where
    s : StandsFor faithful stored at len (take taken (take c.count window)) c taken
    s = cut_stands taken within added.whole

    all_added : AreAdded show s.text (length s.text) old text
    all_added =
        let all : take (length s.text) s.text ≡ s.text = take_all (length s.text) s.text (omega arith) in
        let here : text ≡ old ++ flat_map show (split (take taken (take c.count window))).lines = added.added ∙ ap (λ t. old ++ flat_map show (split (take taken t)).lines) is in
        record {
          whole = ap (λ u. (split u).rest) all ∙ s.whole;
          added = subst (λ u. text ≡ old ++ flat_map show (split u).lines) (sym all)
              (s.alike (λ ls. text ≡ old ++ flat_map show ls) (λ front more enough e. e ∙ ap (λ l. old ++ (l ++ [])) (sym (alike front more enough))) here);
        }

    pub cut_written : (n : ℕ) (w0 w1 : Option (List ℕ)) → n ≡ passed_of c taken → faithful → Appends w0 w1 text → AreWritten show stored at (at + n) w0 w1
    cut_written n w0 w1 to h put =
        subst (λ k. AreWritten show stored at (at + k) w0 w1) (s.long ∙ sym to) (written_window show s.text stored at (length s.text) (passed_of c taken) old text w0 w1 (omega arith) (s.is h) empty all_added put)

    pub cut_counted : (n before after : ℕ) → n ≡ passed_of c taken → faithful → CountsBytes before text after → CountsBytes before (shown_between show stored at (at + n)) after
    cut_counted n before after to h counted =
        subst (λ k. CountsBytes before (shown_between show stored at (at + k)) after) (s.long ∙ sym to)
        (window_counted show s.text stored at (length s.text) (passed_of c taken) old text before after (omega arith) (s.is h) empty all_added counted)

    pub cut_stopped : (before : ℕ) (w0 w1 : Option (List ℕ)) (fault : ShowFault) → faithful → StopsPrefix before text w0 w1 fault → StopsPrefix before (shown_between show stored at len) w0 w1 fault
    cut_stopped before w0 w1 fault h stop =
        window_stopped show s.text stored at (length s.text) (passed_of c taken) len old text before w0 w1 fault (omega arith) (s.is h) empty all_added (omega (arith, s.long, s.within)) stop

  -- the same of ranges
  module _ (limit : ℕ) (from : Ranging) (old put : List ℕ) (l : RangedLines) (ranged : IsRangedIn bytes limit from old put l) where
    pub stands_of : StandsFor faithful stored at len (take l.taken (take c.count window)) c l.taken
    stands_of = cut_stands l.taken ranged.within ranged.whole

    abbrev r : StandsFor faithful stored at len (take l.taken (take c.count window)) c l.taken
    r = stands_of

    all_lead : RangesOn limit (split r.text).lines from old put l.ranging
    unfolding runs_behind
    all_lead =
        let here : RangesOn limit (split (take l.taken (take c.count window))).lines from old put l.ranging = subst (λ t. RangesOn limit (split (take l.taken t)).lines from old put l.ranging) is ranged.leads in
        r.alike (λ ls. RangesOn limit ls from old put l.ranging)
        (λ front more enough leads runs before are. subst (λ o. AreRanged (with_found runs o) l.ranging (before ++ put)) (sym (saved_same limit front more enough)) (leads runs before are)) here

    pub all_ranged : IsRangedIn r.text limit from old put (record { ranging = l.ranging; taken = length r.text })
    all_ranged =
        let all : take (length r.text) r.text ≡ r.text = take_all (length r.text) r.text (omega arith) in
        record {
          leads = subst (λ u. RangesOn limit (split u).lines from old put l.ranging) (sym all) all_lead;
          whole = ap (λ u. (split u).rest) all ∙ r.whole;
          within = omega arith;
        }
