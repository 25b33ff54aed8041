-- How long entries are, whatever bytes their records have.
use Rattle.std.proofs.Common.{◌≡◌, ℕ, ◌+◌, ◌*◌, ◌/◌, List, [], ◌∷◌, ◌++◌, length, map, drop, refl, ap, sym, ◌∙◌, arith, length-append, length-take, length-drop, false}
use Rattle.std.specs.Prelude.{flat_map, codes}
use Rattle.std.specs.List.{range_with_len}
use Rattle.bx_text.specs.declared.owned.pieces.Piece.{Piece}
use Rattle.bx_text.specs.Field.{hex_text}
use Rattle.bx_image.specs.Runs.{HaveShape}
use Rattle.bx_journal_format.specs.Kept.{Run, Kept, run_of}
use Rattle.bx_journal_format.specs.DumpLine.{saved_run_line}
use Rattle.bx_journal_format.specs.Line.{end_head, end_line}
use Rattle.bx_journal_format.specs.Hex.{hex_digits}
use Rattle.bx_journal_format.specs.Entry.{rows, head_text, end_text, entry_text, rows_text, row}
use Rattle.bx_journal_format.specs.Text.{ended, text_of_lines}
use Rattle.bx_journal_format.proofs.HexLemmas.{length-hex_digits}
use Rattle.bx_journal_format.proofs.WriterLemmas.{head_long, row_long}
use Rattle.bx_journal_protocol.proofs.LawProofs.{joined-append}
use Rattle.std.proofs.lemmas.List.{map-append}

pub end_long : (n after : ℕ) → length (end_text n after) ≡ 32
unfolding end_line end_head
end_long n after =
    omega (
      arith,
      length-append (((codes "done2 " ++ hex_digits 8 n ++ codes " ") ++ hex_digits 16 after) ++ 10 ∷ []) [],
      length-append ((codes "done2 " ++ hex_digits 8 n ++ codes " ") ++ hex_digits 16 after) (10 ∷ []),
      length-append (codes "done2 " ++ hex_digits 8 n ++ codes " ") (hex_digits 16 after),
      length-append (codes "done2 " ++ hex_digits 8 n) (codes " "),
      length-append (codes "done2 ") (hex_digits 8 n),
      length-hex_digits 8 n,
      length-hex_digits 16 after,
    )

-- rows of two runs of one place and length
rows_same : (r s : Run) (ks : List ℕ) → r.at ≡ s.at → length r.bytes ≡ length s.bytes → length (rows_text (map (row r) ks)) ≡ length (rows_text (map (row s) ks))
rows_same r s [] at len = refl
rows_same r s (k ∷ ks) at len =
    let a : List ℕ = ended (saved_run_line (row r k).at (row r k).bytes) in
    let b : List ℕ = ended (saved_run_line (row s k).at (row s k).bytes) in
    let one : length a ≡ length b = row_long (row r k).at (row r k).bytes ∙ grow at ∙ sym (row_long (row s k).at (row s k).bytes) in
    length-append a (rows_text (map (row r) ks)) ∙ omega (arith, one, rows_same r s ks at len) ∙ sym (length-append b (rows_text (map (row s) ks)))
  where
    taken : length (row r k).bytes ≡ length (row s k).bytes
    taken = omega (arith, length-take 16 (drop (16 * k) r.bytes), length-take 16 (drop (16 * k) s.bytes), length-drop (16 * k) r.bytes, length-drop (16 * k) s.bytes, len)

    grow : r.at ≡ s.at → length (hex_text false 8 (row r k).at) + 44 + length (row r k).bytes ≡ length (hex_text false 8 (row s k).at) + 44 + length (row s k).bytes
    grow same = ap (λ p. length (hex_text false 8 (p + 16 * k)) + 44 + length (row r k).bytes) same ∙ ap (λ n. length (hex_text false 8 (s.at + 16 * k)) + 44 + n) taken

pub run_same : (r s : Run) → r.at ≡ s.at → length r.bytes ≡ length s.bytes → length (rows_text (rows r)) ≡ length (rows_text (rows s))
unfolding rows
run_same r s at len = rows_same r s (range_with_len 0 ((length r.bytes + 15) / 16)) at len ∙ ap (λ n. length (rows_text (map (row s) (range_with_len 0 ((n + 15) / 16))))) len

pub text-append : (ps qs : List Run) → rows_text (ps ++ qs) ≡ rows_text ps ++ rows_text qs
text-append ps qs =
    ap text_of_lines (map-append (λ (p : Run). saved_run_line p.at p.bytes) ps qs) ∙ joined-append (map (λ (p : Run). saved_run_line p.at p.bytes) ps) (map (λ (p : Run). saved_run_line p.at p.bytes) qs)

pub runs_same : {A : Type 0} (olds news : List (Piece A)) → HaveShape olds news → length (rows_text (flat_map rows (map run_of news))) ≡ length (rows_text (flat_map rows (map run_of olds)))
runs_same [] [] shape = refl
runs_same [] (r ∷ news) shape = absurd shape
runs_same (o ∷ olds) [] shape = absurd shape
runs_same (o ∷ olds) (r ∷ news) shape =
    let a : List Run = flat_map rows (map run_of news) in
    let b : List Run = flat_map rows (map run_of olds) in
    ap length (text-append (rows (run_of r)) a) ∙ length-append (rows_text (rows (run_of r))) (rows_text a)
    ∙ omega (arith, run_same (run_of r) (run_of o) shape.0 shape.1, runs_same olds news shape.2)
    ∙ sym (ap length (text-append (rows (run_of o)) b) ∙ length-append (rows_text (rows (run_of o))) (rows_text b))

pub entry_long : (n m : ℕ) (s t : Kept) (a b : ℕ) → length (rows_text (flat_map rows s.runs)) ≡ length (rows_text (flat_map rows t.runs)) → length (entry_text n s a) ≡ length (entry_text m t b)
entry_long n m s t a b same =
    omega (arith, length-append (head_text n s) (end_text n a), length-append (head_text m t) (end_text m b), head_long n s, head_long m t, end_long n a, end_long m b, same)
