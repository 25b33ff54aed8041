-- A written entry may be cut anywhere.
use Rattle.std.proofs.Common.{◌≡◌, ℕ, suc, ◌<◌, ◌≤◌, Bool, true, false, List, [], ◌∷◌, ◌++◌, length, length-append, refl, sym, subst, inl, inr, arith, append_assoc, append-nil, Some, map}
use Rattle.std.specs.Prelude.{◌&&◌, flat_map, nat_le, nat_lt}
use Rattle.std.specs.List.{list_all}
use Rattle.std.specs.Str.{bytes_eq}
use Rattle.std.proofs.lemmas.Grind.{common_steps}
use Rattle.std.proofs.lemmas.List.Folds.{list_all-append}
use Rattle.bx_image.specs.declared.change.TheConstants.{MAX_LEN}
use Rattle.bx_journal_format.specs.Kept.{Run, with_run, Kept, with_runs}
use Rattle.bx_journal_format.specs.declared.format.version.Version.{Version}
use Rattle.bx_journal_format.specs.declared.format.version.Version.TheVariants.{Second}
use Rattle.bx_journal_format.specs.Hex.{hex_digits}
use Rattle.bx_journal_format.specs.DumpLine.{saved_run_line}
use Rattle.bx_journal_format.specs.Line.{start_line, save_line, end_line, saved_in}
use Rattle.bx_journal_format.specs.Entry.{rows, head_lines}
use Rattle.bx_text.specs.Ascii.{is_printable}
use Rattle.bx_journal_format.specs.Text.{IsPrefix, Reading, Entry, Between, Saving, Ending, IsRest, next_at, may_begin, is_short, begins_with_s, next}
use Rattle.bx_journal_format.proofs.Written.{IsSavedLine, saved_line}
use Rattle.bx_journal_format.proofs.Runs.{SafeRun}
use Rattle.bx_journal_format.proofs.SavedLines.{saved_reads}
use Rattle.bx_journal_format.proofs.RowLemmas.{AreRows}
use Rattle.bx_journal_format.proofs.LineLemmas.{bytes_eq-same, start_reads, first_not_second, end_reads, plain_start, plain_save, plain_end, short_start, short_save, short_end}

abbrev pub saving : List Entry → Version → ℕ → List Run → Reading
saving es v len runs = record { entries = es; stage = Saving v (record { len = len; runs = runs }) }

abbrev pub ending : List Entry → Version → ℕ → List Run → Reading
ending es v len runs = record { entries = es; stage = Ending v (record { len = len; runs = runs }) }

abbrev pub between : List Entry → Reading
between es = record { entries = es; stage = Between }

not_save : (line rest : List ℕ) → begins_with_s line ≡ false → bytes_eq line (115 ∷ rest) ≡ false
not_save [] rest h = refl
not_save (b ∷ line) rest h = rw h refl

pub save_rest : (es : List Entry) (v : Version) (s : Kept) (t : List ℕ) → IsPrefix t (save_line (suc (length es))) → IsRest es (Saving v s) t
unfolding save_line
save_rest es v s [] front = inr (refl, refl)
save_rest es v s (b ∷ t) front = inl (let is : 115 ≡ b = cc in rw (← is) refl, front)

both_true : (a b c : Bool) → (a && (b && c)) ≡ true → (a ≡ true) × (b ≡ true)
both_true true true c h = (refl, refl)
both_true true false c h = cc
both_true false b c h = cc

short_parts : (t rest : List ℕ) → is_short (t ++ rest) ≡ true → is_short t ≡ true
short_parts t rest h =
    let parts : (nat_le (length (t ++ rest)) 75 ≡ true) × (list_all is_printable t ≡ true) = both_true (nat_le (length (t ++ rest)) 75) (list_all is_printable t) (list_all is_printable rest) (rw (list_all-append is_printable t rest) at h) in
    short_by (length t) (length (t ++ rest)) (list_all is_printable t) (omega (arith, length-append t rest)) parts.0 parts.1
  where
    short_by : (m n : ℕ) (b : Bool) → m ≤ n → nat_le n 75 ≡ true → b ≡ true → (nat_le m 75 && b) ≡ true
    short_by m n b le few is = grind (arith, common_steps)

pub short_front : (t rest line : List ℕ) → line ≡ t ++ rest → is_short line ≡ true → is_short t ≡ true
short_front t rest line e h = short_parts t rest (subst (λ l. is_short l ≡ true) e h)

next_save : (es : List Entry) (v : Version) (s : Kept) → next (record { entries = es; stage = Saving v s }) (save_line (suc (length es))) ≡ Some (record { entries = es; stage = Ending v s })
unfolding next_at
next_save es v s = rw (bytes_eq-same (save_line (suc (length es)))) refl

next_saved : (es : List Entry) (v : Version) (len : ℕ) (done : List Run) (line : List ℕ) (p : Run) → begins_with_s line ≡ false → saved_in len line ≡ Some p → next (saving es v len done) line ≡ Some (saving es v len (with_run done p))
unfolding next_at save_line
next_saved es v len done line p apart is = rw (not_save line (97 ∷ 118 ∷ 101 ∷ 32 ∷ hex_digits 8 (suc (length es))) apart, is) refl

-- the saved lines and the save line, behind rows that were read before
saving_run : (Q E : Reading → Type 0) (es : List Entry) (v : Version) (len : ℕ) → len ≤ MAX_LEN → ((runs : List Run) → Q (saving es v len runs))
    → (more : List (List ℕ)) (ps done : List Run) → AreRows len ps → SafeRun Q E (ending es v len (with_runs done ps)) more
    → SafeRun Q E (saving es v len done) (map (λ p. saved_run_line p.at p.bytes) ps ++ save_line (suc (length es)) ∷ more)
unfolding with_runs
saving_run Q E es v len most q more [] done are run = (
  q done,
  save_rest es v (record { len = len; runs = done }),
  plain_save (suc (length es)),
  short_save (suc (length es)),
  (ending es v len done, next_save es v (record { len = len; runs = done }), run),
)
saving_run Q E es v len most q more (p ∷ ps) done are run =
    let line : IsSavedLine (saved_run_line p.at p.bytes) p = saved_line p are.3 are.0 are.1 (omega (arith, are.2)) in (
      q done,
      (λ t front. inr (line.front t front, short_front t front.0 (saved_run_line p.at p.bytes) front.1 line.short)),
      line.plain,
      line.short,
      (
        saving es v len (with_run done p),
        next_saved es v len done (saved_run_line p.at p.bytes) p (line.front (saved_run_line p.at p.bytes) ([], sym (append-nil (saved_run_line p.at p.bytes)))) (saved_reads len (saved_run_line p.at p.bytes) p line.reads are.1 are.2),
        saving_run Q E es v len most q more ps (with_run done p) are.4 run,
      ),
    )

next_start : (es : List Entry) (len : ℕ) → length es < 65535 → len ≤ MAX_LEN → may_begin es len ≡ true → next (between es) (start_line Second (suc (length es)) len) ≡ Some (saving es Second len [])
unfolding next_at
next_start es len room most may =
    let test : nat_lt (length es) 65535 ≡ true = grind (arith, common_steps) in
    rw (test, first_not_second (suc (length es)) (suc (length es)) len, start_reads Second (suc (length es)) len most (omega arith), may) refl

-- an entry up to its save line, and what follows
pub head_run : (Q E : Reading → Type 0) (es : List Entry) (s : Kept) → length es < 65535 → s.len ≤ MAX_LEN → may_begin es s.len ≡ true → AreRows s.len (flat_map rows s.runs)
    → Q (between es) → ((runs : List Run) → Q (saving es Second s.len runs)) → (more : List (List ℕ)) → SafeRun Q E (ending es Second s.len (with_runs [] (flat_map rows s.runs))) more
    → SafeRun Q E (between es) (head_lines (suc (length es)) s ++ more)
unfolding head_lines
head_run Q E es s room most may are at_rest q more run = (
  at_rest,
  (λ t front. inr (Second, s.len, room, most, omega arith, may, front)),
  plain_start (suc (length es)) s.len,
  short_start (suc (length es)) s.len,
  (
    saving es Second s.len [],
    next_start es s.len room most may,
    subst (SafeRun Q E (saving es Second s.len [])) (sym (append_assoc (map (λ p. saved_run_line p.at p.bytes) (flat_map rows s.runs)) (save_line (suc (length es)) ∷ []) more))
        (saving_run Q E es Second s.len most q more (flat_map rows s.runs) [] are run),
  ),
)

-- the line that ends an entry
pub end_run : (Q E : Reading → Type 0) (es : List Entry) (s : Kept) (after : ℕ) → after ≤ MAX_LEN
    → Q (ending es Second s.len s.runs) → Q (between (record { saved = s; after = Some after } ∷ es)) → E (between (record { saved = s; after = Some after } ∷ es)) → SafeRun Q E (ending es Second s.len s.runs) (end_line Second (suc (length es)) after ∷ [])
unfolding next_at
end_run Q E es s after most before behind ends = (
  before,
  (λ t front. (after, most, front)),
  plain_end (suc (length es)) after,
  short_end (suc (length es)) after,
  (between (record { saved = s; after = Some after } ∷ es), rw (end_reads (suc (length es)) after most) refl, (behind, ends)),
)
