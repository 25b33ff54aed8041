-- The first run of some bytes that ends in them, behind bytes that have none.
use Rattle.std.proofs.Common.{◌≡◌, ℕ, suc, ◌+◌, ◌-◌, ◌<◌, ◌≤◌, true, false, List, [], ◌∷◌, ◌++◌, length, take, drop, refl, ap, ◌∙◌, arith, append_assoc, inl, inr}
use Rattle.std.specs.Prelude.{nat_le, codes}
use Rattle.std.specs.List.{prefix_len}
use Rattle.std.proofs.lemmas.Bool.Decides.{nat_tests}
use Rattle.std.proofs.lemmas.List.{length-drop, length-take-le}
use Rattle.std.proofs.Math.Seq.{take-add}
use Rattle.bx_dump_columns.specs.declared.od.options.Address.{Address}
use Rattle.bx_text.specs.Ascii.{is_printable}
use Rattle.bx_dump_columns.specs.Places.{place_text}
use Rattle.bx_dump.specs.private.Scan.{scan_text, scan_run, end_of_run, AllPrint, NonePrints, IsQuiet}
use Rattle.bx_dump.proofs.ScanLemmas.{both, front_prints, scan_text-append, scan_run-append, scan_run-print, scan_run-none, scan_end, scan_short, scan_crossing}

-- the byte behind those that print in front
stop_none : (xs : List ℕ) → NonePrints (take 1 (drop (prefix_len is_printable xs) xs))
stop_none [] = tt
stop_none (b ∷ bs) = elim (both (is_printable b)) [
  | inl holds ↦ let e : 1 + prefix_len is_printable bs ≡ suc (prefix_len is_printable bs) = omega arith in rw (holds, e) (stop_none bs)
  | inr fails ↦ rw fails (fails, tt)
]

module _ (least : ℕ) (o : Address) (at quiet run : ℕ) (bytes : List ℕ) (some : 0 < least) (before : IsQuiet least (take quiet bytes)) (inside : quiet + run < length bytes)
    (is : run ≡ prefix_len is_printable (drop quiet bytes)) where
  abbrev rest : List ℕ
  rest = drop quiet bytes

  abbrev first : List ℕ
  first = take run rest

  abbrev last : List ℕ
  last = take 1 (drop run rest)

  join : take (quiet + run + 1) bytes ≡ take quiet bytes ++ (first ++ last)
  join =
      let e : quiet + run + 1 ≡ quiet + (run + 1) = omega arith in
      ap (λ n. take n bytes) e ∙ take-add quiet (run + 1) bytes ∙ ap (λ t. take quiet bytes ++ t) (take-add run 1 rest)

  prints : AllPrint first
  prints = rw is (front_prints rest)

  none : NonePrints last
  none = rw is (stop_none rest)

  one : 0 < length last
  one = omega (arith, inside, length-take-le 1 (drop run rest) (omega (arith, inside, length-drop run rest, length-drop quiet bytes)))

  size : length (take quiet bytes) ≡ quiet
  size = length-take-le quiet bytes (omega (arith, inside))

  long : length first ≡ run
  long = length-take-le run rest (omega (arith, inside, length-drop quiet bytes))

  goes : scan_text least o at [] (take (quiet + run + 1) bytes) ≡ scan_text least o (at + quiet) [] first ++ end_of_run least first
  goes =
      ap (scan_text least o at []) join ∙ scan_text-append least o at [] (take quiet bytes) (first ++ last)
      ∙ rw (before.text o at, size, before.run) (scan_text-append least o (at + quiet) [] first last
      ∙ ap (λ t. scan_text least o (at + quiet) [] first ++ t) (ap (λ r. scan_text least o (at + quiet + length first) r last) (scan_run-print [] first prints)
      ∙ scan_end least o (at + quiet + length first) first last none one some))

  pub first_run : scan_run [] (take (quiet + run + 1) bytes) ≡ []
  first_run =
      ap (scan_run []) join ∙ scan_run-append [] (take quiet bytes) (first ++ last)
      ∙ rw before.run (scan_run-append [] first last ∙ scan_run-none (scan_run [] first) last none one)

  pub first_short : run < least → scan_text least o at [] (take (quiet + run + 1) bytes) ≡ []
  first_short few =
      let fails : nat_le least (length first) ≡ false = grind (arith, nat_tests, long, few) in
      goes ∙ rw (scan_short least o (at + quiet) [] first prints (omega (arith, long, few)), fails) refl

  pub first_long : least ≤ run → scan_text least o at [] (take (quiet + run + 1) bytes) ≡ place_text o (at + quiet) ++ (first ++ codes "\n")
  first_long many =
      let holds : nat_le least (length first) ≡ true = grind (arith, nat_tests, long, many) in
      let place : at + quiet - 0 ≡ at + quiet = omega arith in
      goes ∙ rw (scan_crossing least o (at + quiet) [] first prints some (omega (arith, long, many)), place, holds) (append_assoc (place_text o (at + quiet)) first (codes "\n"))
