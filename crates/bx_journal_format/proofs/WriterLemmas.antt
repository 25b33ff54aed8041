-- Texts of entries, line by line.
use Rattle.std.proofs.Common.{◌≡◌, ℕ, zero, suc, ◌+◌, ◌-◌, ◌*◌, ◌/◌, ◌<◌, ◌≤◌, min, List, [], ◌∷◌, ◌++◌, length, map, take, drop, refl, ap, sym, ◌∙◌, subst, arith, append_assoc, append-nil, length-drop, length-append, inl, inr, get_or, false}
use Rattle.std.specs.Prelude.{flat_map, codes}
use Rattle.std.specs.List.{range_with_len}
use Rattle.std.proofs.lemmas.List.{map-append, take_all, take-append-drop, length-map}
use Rattle.std.proofs.lemmas.List.FromFn.{length-map-range_with_len}
use Rattle.std.proofs.lemmas.Bool.{cases_lt}
use Rattle.std.proofs.lemmas.Grind.{flat_map-append}
use Rattle.bx_text.specs.declared.owned.pieces.Piece.{Piece}
use Rattle.bx_text.specs.Field.{hex_text, char_at}
use Rattle.bx_text.specs.Dump.{pair_of, shown_byte}
use Rattle.bx_text.specs.private.Dump.{hex_place, hex_columns}
use Rattle.bx_image.specs.Change.{AllWithin}
use Rattle.bx_image.specs.Image.{end_of}
use Rattle.bx_journal_format.specs.Kept.{Run, Kept, run_of}
use Rattle.bx_journal_format.specs.declared.format.version.Version.TheVariants.{Second}
use Rattle.bx_journal_format.specs.Line.{start_head, start_line, save_line}
use Rattle.bx_journal_format.specs.Hex.{hex_digits}
use Rattle.bx_journal_format.specs.DumpLine.{saved_run_line}
use Rattle.bx_journal_format.specs.Entry.{rows, head_lines, head_text, rows_text, row}
use Rattle.bx_journal_format.specs.Text.{ended, text_of_lines}
use Rattle.bx_journal_format.proofs.HexLemmas.{length-hex_digits}

range_more : (a n : ℕ) → range_with_len a (n + 1) ≡ range_with_len a n ++ (a + n) ∷ []
range_more a zero = ap (λ x. x ∷ []) (omega arith)
range_more a (suc n) =
    let count : suc n + 1 ≡ suc (n + 1) = omega arith in
    let same : a + 1 + n ≡ a + suc n = omega arith in
    ap (range_with_len a) count ∙ ap (λ xs. a ∷ xs) (range_more (a + 1) n ∙ ap (λ k. range_with_len (a + 1) n ++ k ∷ []) same)

abbrev pub lines_of : List Run → List (List ℕ)
lines_of rows = map (λ (p : Run). saved_run_line p.at p.bytes) rows

pub lines_more : (rows more : List Run) → text_of_lines (lines_of (rows ++ more)) ≡ text_of_lines (lines_of rows) ++ text_of_lines (lines_of more)
lines_more rows more = ap text_of_lines (map-append (λ (p : Run). saved_run_line p.at p.bytes) rows more) ∙ flat_map-append ended (lines_of rows) (lines_of more)

range_split : (a m n : ℕ) → range_with_len a (m + n) ≡ range_with_len a m ++ range_with_len (a + m) n
range_split a zero n =
    let none : 0 + n ≡ n = omega arith in
    let same : a ≡ a + 0 = omega arith in
    ap (range_with_len a) none ∙ ap (λ b. range_with_len b n) same
range_split a (suc m) n =
    let count : suc m + n ≡ suc (m + n) = omega arith in
    let same : a + 1 + m ≡ a + suc m = omega arith in
    ap (range_with_len a) count ∙ ap (λ xs. a ∷ xs) (range_split (a + 1) m n ∙ ap (λ b. range_with_len (a + 1) m ++ range_with_len b n) same)

-- rows of a run from a place on, and one more
pub row_more_at : (run : Run) (a k : ℕ) → rows_text (map (row run) (range_with_len a (k + 1))) ≡ rows_text (map (row run) (range_with_len a k)) ++ ended (saved_run_line (row run (a + k)).at (row run (a + k)).bytes)
row_more_at run a k =
    ap (λ ks. text_of_lines (lines_of (map (row run) ks))) (range_more a k)
    ∙ ap (λ ps. text_of_lines (lines_of ps)) (map-append (row run) (range_with_len a k) ((a + k) ∷ []))
    ∙ lines_more (map (row run) (range_with_len a k)) (map (row run) ((a + k) ∷ []))
    ∙ ap (λ t. text_of_lines (lines_of (map (row run) (range_with_len a k))) ++ t) (append-nil (ended (saved_run_line (row run (a + k)).at (row run (a + k)).bytes)))

-- the rows of a run before a place, and one more
pub row_more : (run : Run) (k : ℕ) → text_of_lines (lines_of (map (row run) (range_with_len 0 (k + 1)))) ≡ text_of_lines (lines_of (map (row run) (range_with_len 0 k))) ++ ended (saved_run_line (row run k).at (row run k).bytes)
row_more run k =
    row_more_at run 0 k
    ∙ ap (λ j. text_of_lines (lines_of (map (row run) (range_with_len 0 k))) ++ ended (saved_run_line (row run j).at (row run j).bytes)) (let none : 0 + k ≡ k = omega arith in none)

-- the rows before a place, and those from there on
pub rows_split : (run : Run) (k n : ℕ) → rows_text (map (row run) (range_with_len 0 (k + n))) ≡ rows_text (map (row run) (range_with_len 0 k)) ++ rows_text (map (row run) (range_with_len k n))
rows_split run k n =
    let none : 0 + k ≡ k = omega arith in
    ap (λ ks. rows_text (map (row run) ks)) (range_split 0 k n ∙ ap (λ j. range_with_len 0 k ++ range_with_len j n) none)
    ∙ ap rows_text (map-append (row run) (range_with_len 0 k) (range_with_len k n))
    ∙ lines_more (map (row run) (range_with_len 0 k)) (map (row run) (range_with_len k n))

row_slice : (bytes : List ℕ) (k to : ℕ) → to ≡ min (16 * k + 16) (length bytes) → take (to - 16 * k) (drop (16 * k) bytes) ≡ take 16 (drop (16 * k) bytes)
row_slice bytes k to is =
    elim (cases_lt (length bytes) (16 * k + 16)) [
      | inl less ↦
          let short : length (drop (16 * k) bytes) ≤ 16 = omega (arith, length-drop (16 * k) bytes, less) in
          let all : length (drop (16 * k) bytes) ≤ to - 16 * k = omega (arith, length-drop (16 * k) bytes, less, is) in
          take_all (to - 16 * k) (drop (16 * k) bytes) all ∙ sym (take_all 16 (drop (16 * k) bytes) short)
      | inr more ↦ ap (λ n. take n (drop (16 * k) bytes)) (let count : to - 16 * k ≡ 16 = omega (arith, is, more) in count)
    ]

pub row_written : (text old new bytes : List ℕ) (run : Run) (k to : ℕ) → bytes ≡ run.bytes → to ≡ min (16 * k + 16) (length bytes)
    → new ≡ old ++ ended (saved_run_line (run.at + 16 * k) (take (to - 16 * k) (drop (16 * k) bytes))) → old ≡ text ++ text_of_lines (lines_of (map (row run) (range_with_len 0 k)))
    → new ≡ text ++ text_of_lines (lines_of (map (row run) (range_with_len 0 (k + 1))))
row_written text old new bytes run k to same is added before =
    let slice : take (to - 16 * k) (drop (16 * k) bytes) ≡ (row run k).bytes = row_slice bytes k to is ∙ ap (λ b. take 16 (drop (16 * k) b)) same in
    added ∙ ap (λ b. old ++ ended (saved_run_line (run.at + 16 * k) b)) slice ∙ ap (λ t. t ++ ended (saved_run_line (run.at + 16 * k) (row run k).bytes)) before
    ∙ append_assoc text (text_of_lines (lines_of (map (row run) (range_with_len 0 k)))) (ended (saved_run_line (row run k).at (row run k).bytes))
    ∙ ap (λ t. text ++ t) (sym (row_more run k))

pub within_at : {A : Type 0} → (len : ℕ) (runs : List (Piece A)) (run : Piece A) (k : ℕ) → AllWithin len runs → k < length runs → run ≡ get_or runs k run → end_of run.at run.bytes ≤ len
within_at len [] run k all inside is = absurd (omega arith)
within_at len (r ∷ runs) run zero all inside is = subst (λ p. end_of p.at p.bytes ≤ len) (sym is) all.0
within_at len (r ∷ runs) run (suc k) all inside is = within_at len runs run k all.1 (omega (arith, inside)) is

-- the lines of the first runs, and of one more
pub runs_more : {A : Type 0} → (text old new : List ℕ) (runs : List (Piece A)) (run : Piece A) (k : ℕ) → k < length runs → run ≡ get_or runs k run
    → new ≡ old ++ text_of_lines (lines_of (rows (run_of run))) → old ≡ text ++ text_of_lines (lines_of (flat_map rows (map run_of (take k runs))))
    → new ≡ text ++ text_of_lines (lines_of (flat_map rows (map run_of (take (k + 1) runs))))
runs_more text old new runs run k inside is added before =
    let one : take (k + 1) runs ≡ take k runs ++ run ∷ [] = take_one runs run k inside is in
    let all : flat_map rows (map run_of (take (k + 1) runs)) ≡ flat_map rows (map run_of (take k runs)) ++ rows (run_of run) =
    ap (λ rs. flat_map rows (map run_of rs)) one ∙ ap (flat_map rows) (map-append run_of (take k runs) (run ∷ []))
    ∙ flat_map-append rows (map run_of (take k runs)) (run_of run ∷ []) ∙ ap (λ ps. flat_map rows (map run_of (take k runs)) ++ ps) (append-nil (rows (run_of run))) in
    added ∙ ap (λ t. t ++ text_of_lines (lines_of (rows (run_of run)))) before ∙ append_assoc text (text_of_lines (lines_of (flat_map rows (map run_of (take k runs))))) (text_of_lines (lines_of (rows (run_of run))))
    ∙ ap (λ t. text ++ t) (sym (lines_more (flat_map rows (map run_of (take k runs))) (rows (run_of run))) ∙ ap (λ ps. text_of_lines (lines_of ps)) (sym all))
  where
    take_one : {A : Type 0} → (runs : List (Piece A)) (run : Piece A) (k : ℕ) → k < length runs → run ≡ get_or runs k run → take (k + 1) runs ≡ take k runs ++ run ∷ []
    take_one [] run k inside is = absurd (omega arith)
    take_one (r ∷ runs) run zero inside is = ap (λ p. p ∷ []) (sym is)
    take_one (r ∷ runs) run (suc k) inside is =
        let count : suc k + 1 ≡ suc (k + 1) = omega arith in
        ap (λ n. take n (r ∷ runs)) count ∙ ap (λ rs. r ∷ rs) (take_one runs run k (omega (arith, inside)) is)

pub head_written : (text : List ℕ) (n : ℕ) (s : Kept) → text ≡ ([] ++ ended (start_line Second n s.len)) ++ text_of_lines (lines_of (flat_map rows s.runs)) → head_text n s ≡ text ++ ended (save_line n)
unfolding head_lines
head_written text n s is =
    ap (λ t. ended (start_line Second n s.len) ++ t) (flat_map-append ended (lines_of (flat_map rows s.runs)) (save_line n ∷ []) ∙ ap (λ t. text_of_lines (lines_of (flat_map rows s.runs)) ++ t) (append-nil (ended (save_line n))))
    ∙ sym (append_assoc (ended (start_line Second n s.len)) (text_of_lines (lines_of (flat_map rows s.runs))) (ended (save_line n)))
    ∙ ap (λ t. t ++ ended (save_line n)) (sym is)

pub take_whole : {A : Type 0} → (runs : List A) (k : ℕ) → length runs ≤ k → take k runs ≡ runs
take_whole runs k all = take_all k runs all

-- what the rows of a run before a place, and the row there, make of the text
pub row_step : (text bytes : List ℕ) (run : Run) (k to : ℕ) → bytes ≡ run.bytes → to ≡ min (16 * k + 16) (length bytes)
    → (text ++ rows_text (map (row run) (range_with_len 0 k))) ++ ended (saved_run_line (run.at + 16 * k) (take (to - 16 * k) (drop (16 * k) bytes)))
    ≡ text ++ rows_text (map (row run) (range_with_len 0 (k + 1)))
row_step text bytes run k to same is = row_written text _ _ bytes run k to same is refl refl

rows_front_by : (run : Run) (k d : ℕ) → (rest : List ℕ) × (rows_text (map (row run) (range_with_len 0 (k + d))) ≡ rows_text (map (row run) (range_with_len 0 k)) ++ rest)
rows_front_by run k zero =
    let none : k + 0 ≡ k = omega arith in
    ([], ap (λ n. rows_text (map (row run) (range_with_len 0 n))) none ∙ sym (append-nil (rows_text (map (row run) (range_with_len 0 k)))))
rows_front_by run k (suc d) =
    let more : k + suc d ≡ (k + d) + 1 = omega arith in
    let before = rows_front_by run k d in
    let last : List ℕ = ended (saved_run_line (row run (k + d)).at (row run (k + d)).bytes) in (
      before.0 ++ last,
      ap (λ n. rows_text (map (row run) (range_with_len 0 n))) more ∙ row_more run (k + d) ∙ ap (λ t. t ++ last) before.1
          ∙ append_assoc (rows_text (map (row run) (range_with_len 0 k))) before.0 last,
    )

-- the rows before a place are a front of all
pub rows_front : (run : Run) (k : ℕ) → k ≤ (length run.bytes + 15) / 16 → (rest : List ℕ) × (rows_text (rows run) ≡ rows_text (map (row run) (range_with_len 0 k)) ++ rest)
unfolding rows
rows_front run k le =
    let count : k + ((length run.bytes + 15) / 16 - k) ≡ (length run.bytes + 15) / 16 = omega arith in
    let front = rows_front_by run k ((length run.bytes + 15) / 16 - k) in
    (front.0, ap (λ n. rows_text (map (row run) (range_with_len 0 n))) (sym count) ∙ front.1)

pub rows_all : (run : Run) (k : ℕ) → k ≡ (length run.bytes + 15) / 16 → rows_text (map (row run) (range_with_len 0 k)) ≡ rows_text (rows run)
unfolding rows
rows_all run k is = ap (λ n. rows_text (map (row run) (range_with_len 0 n))) is

pub runs_step : {A : Type 0} → (runs : List (Piece A)) (run : Piece A) (k : ℕ) → k < length runs → run ≡ get_or runs k run
    → rows_text (flat_map rows (map run_of (take (k + 1) runs))) ≡ rows_text (flat_map rows (map run_of (take k runs))) ++ rows_text (rows (run_of run))
runs_step runs run k inside is = sym (runs_more [] _ _ runs run k inside is refl refl)

-- the first runs are a front of all
pub runs_front : {A : Type 0} → (runs : List (Piece A)) (k : ℕ) → rows_text (flat_map rows (map run_of runs)) ≡ rows_text (flat_map rows (map run_of (take k runs))) ++ rows_text (flat_map rows (map run_of (drop k runs)))
runs_front runs k =
    ap (λ rs. rows_text (flat_map rows (map run_of rs))) (sym (take-append-drop k runs))
    ∙ ap (λ rs. rows_text (flat_map rows rs)) (map-append run_of (take k runs) (drop k runs))
    ∙ ap rows_text (flat_map-append rows (map run_of (take k runs)) (map run_of (drop k runs)))
    ∙ lines_more (flat_map rows (map run_of (take k runs))) (flat_map rows (map run_of (drop k runs)))

pub head_is : (n : ℕ) (s : Kept) → head_text n s ≡ (ended (start_line Second n s.len) ++ rows_text (flat_map rows s.runs)) ++ ended (save_line n)
head_is n s = head_written (ended (start_line Second n s.len) ++ rows_text (flat_map rows s.runs)) n s refl

pub start_long : (n len : ℕ) → length (ended (start_line Second n len)) ≡ 34
unfolding start_line start_head
start_long n len =
    let front : List ℕ = codes "change2 " ++ hex_digits 8 n ++ codes " " in
    omega (
      arith,
      length-append (front ++ hex_digits 16 len) (10 ∷ []),
      length-append front (hex_digits 16 len),
      length-append (codes "change2 " ++ hex_digits 8 n) (codes " "),
      length-append (codes "change2 ") (hex_digits 8 n),
      length-hex_digits 8 n,
      length-hex_digits 16 len,
    )

pub save_long : (n : ℕ) → length (ended (save_line n)) ≡ 14
unfolding save_line
save_long n = omega (arith, length-append (codes "save " ++ hex_digits 8 n) (10 ∷ []), length-append (codes "save ") (hex_digits 8 n), length-hex_digits 8 n)

pub head_long : (n : ℕ) (s : Kept) → length (head_text n s) ≡ 48 + length (rows_text (flat_map rows s.runs))
head_long n s =
    let first : List ℕ = ended (start_line Second n s.len) in
    let lines : List ℕ = rows_text (flat_map rows s.runs) in
    omega (arith, ap length (head_is n s), length-append (first ++ lines) (ended (save_line n)), length-append first lines, start_long n s.len, save_long n)

columns_long : (bytes : List ℕ) → length (hex_columns false 2 bytes 40) ≡ 40
columns_long bytes = length-map-range_with_len (char_at (hex_place 2) (λ i. pair_of false (get_or bytes i 0)) (length bytes)) 0 40

parts_long : (a c s : List ℕ) → length ((a ++ codes ": " ++ c ++ codes " " ++ s) ++ 10 ∷ []) ≡ length a + length c + length s + 4
parts_long a c s =
    omega (
      arith,
      length-append (a ++ codes ": " ++ c ++ codes " " ++ s) (10 ∷ []),
      length-append (a ++ codes ": " ++ c ++ codes " ") s,
      length-append (a ++ codes ": " ++ c) (codes " "),
      length-append (a ++ codes ": ") c,
      length-append a (codes ": "),
    )

pub row_long : (at : ℕ) (bytes : List ℕ) → length (ended (saved_run_line at bytes)) ≡ length (hex_text false 8 at) + 44 + length bytes
unfolding saved_run_line
row_long at bytes =
    omega (arith, parts_long (hex_text false 8 at) (hex_columns false 2 bytes 40) (map shown_byte bytes), columns_long bytes, length-map bytes shown_byte)
