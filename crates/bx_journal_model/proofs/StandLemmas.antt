-- Where the record of an unfinished entry stands, from the places at which the entry begins and its save line ends.
use Rattle.std.proofs.Common.{◌≡◌, ℕ, suc, ◌+◌, ◌-◌, ◌≤◌, inl, inr, List, [], ◌∷◌, ◌++◌, length, length-append, length-take, take, drop, codes, refl, ap, sym, ◌∙◌, subst, arith, Some}
use Rattle.std.proofs.lemmas.List.{take-append-drop, take-append-le}
use Rattle.bx_journal_format.specs.Hex.{hex_digits}
use Rattle.bx_image.specs.declared.record.Saved.{Saved}
use Rattle.bx_journal_format.specs.Kept.{Kept, kept_of, with_run}
use Rattle.bx_journal_format.specs.declared.read.types.EntryRead.{EntryRead}
use Rattle.bx_journal_format.specs.declared.read.types.StageRead.TheVariants.{Ending as EndingRead}
use Rattle.bx_journal_format.specs.Parsed.{IsStageMarked, entries_of}
use Rattle.bx_journal_format.specs.Line.{address_width, start_head, start_line, start_size}
use Rattle.bx_journal_format.specs.Text.{Entry, Between, Saving, Ending, Reading, ended, text_of_lines, split, start, next_at, after_lines}
use Rattle.bx_journal_format.specs.declared.format.version.Version.{Version}
use Rattle.bx_journal_format.specs.declared.format.version.Version.TheVariants.{First, Second}
use Rattle.bx_journal_format.specs.count.Mark.{IsMark}
use Rattle.bx_journal_format.specs.read.Plain.{HasNoNewline}
use Rattle.bx_journal_format.proofs.Foreign.{joined_lines, lines_plain}
use Rattle.bx_journal_format.proofs.HexLemmas.{length-hex_digits}
use Rattle.bx_journal_format.proofs.Inverse.{bind_some, next_between, next_ending}
use Rattle.bx_journal_format.proofs.Runs.{after_lines-append}
use Rattle.bx_journal_format.proofs.Splits.{AllPlain, split-append, split-ended}
use Rattle.bx_journal_format.proofs.TallyLemmas.{last, take_sum}
use Rattle.bx_journal_model.specs.Restoring.{StandsAt}
use Rattle.bx_journal_model.proofs.RestoreLemmas.{line_gives, lines_more, same_reading}

-- the version and the length of an entry stay among its lines
pub record StaysOf (v w : Version) (k s : Kept) : Type 0 where
  pub version : v ≡ w
  pub len : k.len ≡ s.len

stage_version : (v w : Version) (k s : Kept) → Ending v k ≡ Ending w s → v ≡ w
stage_version v w k s e = cc

stage_kept : (v w : Version) (k s : Kept) → Ending v k ≡ Ending w s → k ≡ s
stage_kept v w k s e = cc

saving_apart : (v w : Version) (k s : Kept) → Saving v k ≡ Ending w s → ⊥
saving_apart v w k s e = cc

between_apart : (w : Version) (s : Kept) → Between ≡ Ending w s → ⊥
between_apart w s e = cc

ending_of : (es : List Entry) (v w : Version) (k s : Kept) (ls : List (List ℕ)) → after_lines (record { entries = es; stage = Ending v k }) ls ≡ Some (record { entries = es; stage = Ending w s }) → StaysOf v w k s
unfolding after_lines
ending_of es v w k s [] e =
    let stages = ap (λ (r : Reading). r.stage) (same_reading (record { entries = es; stage = Ending v k }) (record { entries = es; stage = Ending w s }) e) in
    record { version = stage_version v w k s stages; len = ap (λ (t : Kept). t.len) (stage_kept v w k s stages) }
ending_of es v w k s (l ∷ ls) e =
    let b = bind_some (λ q. after_lines q ls) (next_at es (Ending v k) l) (record { entries = es; stage = Ending w s }) e in
    let n = next_ending es v k l b.0 b.1 in
    absurd (omega (arith, lines_more ls b.0 (record { entries = es; stage = Ending w s }) b.2, ap (λ (p : Reading). length p.entries) n.1))

pub saving_of : (es : List Entry) (v w : Version) (k s : Kept) (ls : List (List ℕ)) → after_lines (record { entries = es; stage = Saving v k }) ls ≡ Some (record { entries = es; stage = Ending w s }) → StaysOf v w k s
unfolding after_lines
saving_of es v w k s [] e =
    absurd (saving_apart v w k s (ap (λ (r : Reading). r.stage) (same_reading (record { entries = es; stage = Saving v k }) (record { entries = es; stage = Ending w s }) e)))
saving_of es v w k s (l ∷ ls) e =
    let b = bind_some (λ q. after_lines q ls) (next_at es (Saving v k) l) (record { entries = es; stage = Ending w s }) e in
    elim (line_gives es v k l b.0 b.1) [
      | inl is ↦ ending_of es v w k s ls (subst (λ q. after_lines q ls ≡ Some (record { entries = es; stage = Ending w s })) is b.2)
      | inr is ↦
          let more = saving_of es v w (record { len = k.len; runs = with_run k.runs is.0 }) s ls (subst (λ q. after_lines q ls ≡ Some (record { entries = es; stage = Ending w s })) is.2 b.2) in
          record { version = more.version; len = more.len }
    ]

head_size : (v : Version) (n : ℕ) → length (start_head v n) + address_width v ≡ start_size v
unfolding start_head
head_size First n = omega (arith, length-append (codes "change ") (hex_digits 8 n ++ codes " "), length-append (hex_digits 8 n) (codes " "), length-hex_digits 8 n)
head_size Second n = omega (arith, length-append (codes "change2 ") (hex_digits 8 n ++ codes " "), length-append (hex_digits 8 n) (codes " "), length-hex_digits 8 n)

start_long : (v : Version) (n len : ℕ) → length (start_line v n len) ≡ start_size v
unfolding start_line
start_long v n len = length-append (start_head v n) (hex_digits (address_width v) len) ∙ ap (λ k. length (start_head v n) + k) (length-hex_digits (address_width v) len) ∙ head_size v n

-- the first line of the entry, and what it leads to
record FirstLine (es : List Entry) (v : Version) (len : ℕ) (bytes : List ℕ) : Type 0 where
  line : List ℕ
  long : length line ≡ start_size v
  plain : HasNoNewline line
  is : take (length line + 1) bytes ≡ ended line
  most : length line + 1 ≤ length bytes
  leads : next_at es Between line ≡ Some (record { entries = es; stage = Saving v (record { len = len; runs = [] }) })

first_of : (es : List Entry) (w : Version) (s : Kept) (ls : List (List ℕ)) (bytes : List ℕ) → after_lines (record { entries = es; stage = Between }) ls ≡ Some (record { entries = es; stage = Ending w s })
    → AllPlain ls → text_of_lines ls ≡ bytes → FirstLine es w s.len bytes
unfolding after_lines
first_of es w s [] bytes e plain is =
    absurd (between_apart w s (ap (λ (r : Reading). r.stage) (same_reading (record { entries = es; stage = Between }) (record { entries = es; stage = Ending w s }) e)))
first_of es w s (l ∷ ls) bytes e plain is =
    let b = bind_some (λ q. after_lines q ls) (next_at es Between l) (record { entries = es; stage = Ending w s }) e in
    let n = next_between es l b.0 b.1 in
    let v : Version = n.1.0 in
    let k : Kept = record { len = n.1.1; runs = [] } in
    let q_is : b.0 ≡ record { entries = es; stage = Saving v k } = n.2 ∙ ap (λ stage. record { entries = es; stage = stage }) n.1.7 in
    let stays = saving_of es v w k s ls (subst (λ q. after_lines q ls ≡ Some (record { entries = es; stage = Ending w s })) q_is b.2) in
    let long : length l ≡ start_size v = ap length n.1.6 ∙ start_long v (suc (length es)) n.1.1 in
    let own : length (ended l) ≡ length l + 1 = length-append l (10 ∷ []) in
    let front : take (length l + 1) (ended l ++ text_of_lines ls) ≡ ended l = ap (λ m. take m (ended l ++ text_of_lines ls)) (sym own) ∙ take_front (ended l) (text_of_lines ls) in
    record {
      line = l;
      long = long ∙ ap start_size stays.version;
      plain = plain.0;
      is = ap (take (length l + 1)) (sym is) ∙ front;
      most = omega (arith, ap length is, length-append (ended l) (text_of_lines ls), own);
      leads = b.1 ∙ ap Some q_is ∙ ap (λ u. Some (record { entries = es; stage = Saving u k })) stays.version ∙ ap (λ m. Some (record { entries = es; stage = Saving w (record { len = m; runs = [] }) })) stays.len;
    }
  where
    take_front : (a b : List ℕ) → take (length a) (a ++ b) ≡ a
    take_front [] b = refl
    take_front (x ∷ a) b = ap (λ t. x ∷ t) (take_front a b)

-- so its saved lines begin behind its first line
pub stands_of : (text : List ℕ) (es : List Entry) (v : Version) (s : Kept) (from saved : ℕ) → IsMark text from (record { entries = es; stage = Between }) → IsMark text saved (record { entries = es; stage = Ending v s })
    → from ≤ saved → StandsAt text (record { lines = from + start_size v + 1; saved = saved; len = s.len }) s
unfolding split
stands_of text es v s from saved mark ends le =
    let a : List ℕ = take from text in
    let b : List ℕ = take (saved - from) (drop from text) in
    let count : from + (saved - from) ≡ saved = omega (arith, le) in
    let is : take saved text ≡ a ++ b = ap (λ i. take i text) (sym count) ∙ take_sum from (saved - from) text in
    let both = ap split is ∙ split-append a b mark.whole in
    let lines : after_lines (record { entries = es; stage = Between }) (split b).lines ≡ Some (record { entries = es; stage = Ending v s }) =
    sym (after_lines-append start (record { entries = es; stage = Between }) (split a).lines (split b).lines mark.lines) ∙ ap (after_lines start) (sym (ap (λ t. t.lines) both)) ∙ ends.lines in
    let whole : (split b).rest ≡ [] = sym (ap (λ t. t.rest) both) ∙ ends.whole in
    let f = first_of es v s (split b).lines b lines (lines_plain b) (joined_lines b whole) in
    let n : ℕ = length f.line + 1 in
    let more : take n (drop from text) ≡ ended f.line =
    ap (take n) (sym (take-append-drop (saved - from) (drop from text))) ∙ take_within n b (drop (saved - from) (drop from text)) f.most ∙ f.is in
    let place : from + start_size v + 1 ≡ from + n = omega (arith, f.long) in
    let front : take (from + start_size v + 1) text ≡ a ++ ended f.line = ap (λ i. take i text) place ∙ take_sum from n text ∙ ap (λ t. a ++ t) more in
    let one = split-ended f.line [] f.plain in
    let all = ap split front ∙ split-append a (ended f.line) mark.whole in
    let r : Reading = record { entries = es; stage = Saving v (record { len = s.len; runs = [] }) } in
    record {
      entries = es;
      version = v;
      len = refl;
      begins = record {
        within = omega (arith, place, f.most, length-take (saved - from) (drop from text), ends.within, le);
        lines = ap (λ t. after_lines start t.lines) all ∙ after_lines-append start (record { entries = es; stage = Between }) (split a).lines (split (ended f.line)).lines mark.lines
            ∙ ap (λ t. after_lines (record { entries = es; stage = Between }) t.lines) one ∙ last (record { entries = es; stage = Between }) r f.line f.leads;
        whole = ap (λ t. t.rest) all ∙ ap (λ t. t.rest) one;
      };
      ends = ends;
      order = omega (arith, place, f.most, length-take (saved - from) (drop from text), le);
    }
  where
    take_within : (n : ℕ) (a b : List ℕ) → n ≤ length a → take n (a ++ b) ≡ take n a
    take_within n a b le = take-append-le n a b le

-- the record of an entry that was read up to its save line
pub ending_stands : {A : Type 0} → (text : List ℕ) (es : List (EntryRead A)) (v : Version) (kept : Saved A) (begins saved at : ℕ) → IsStageMarked text [] es (EndingRead v kept begins saved) at
    → StandsAt text (record { lines = begins + start_size v + 1; saved = saved; len = kept.len }) (kept_of kept)
ending_stands text es v kept begins saved at marked = stands_of text (entries_of es) v (kept_of kept) begins saved marked.1 marked.2 marked.3

-- whose saved lines begin within the text
pub ending_fits : {A : Type 0} → (text : List ℕ) (es : List (EntryRead A)) (v : Version) (kept : Saved A) (begins saved at : ℕ) → IsStageMarked text [] es (EndingRead v kept begins saved) at
    → begins + start_size v + 1 ≤ length text
ending_fits text es v kept begins saved at marked =
    let st = ending_stands text es v kept begins saved at marked in
    st.begins.within
