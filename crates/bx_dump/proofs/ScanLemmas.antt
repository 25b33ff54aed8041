-- Scanning part by part, and that it gives the runs by position.
use Rattle.std.proofs.Common.{◌≡◌, ◌⊎◌, ℕ, zero, suc, ◌+◌, ◌-◌, ◌*◌, ◌<◌, ◌≤◌, Bool, true, false, List, [], ◌∷◌, ◌++◌, length, take, drop, refl, sym, ap, ◌∙◌, arith, add-zero, append_assoc, append-nil, length-append, inl, inr}
use Rattle.std.specs.Prelude.{nat_lt, nat_le, ◌==◌, not, slice_index}
use Rattle.std.specs.List.{prefix_len}
use Rattle.std.proofs.lemmas.Bool.{cases_eq, eq-eqb, ne_eqb}
use Rattle.std.proofs.lemmas.Bool.Decides.{nat_tests}
use Rattle.std.proofs.Math.Seq.{take-add}
use Rattle.bx_dump_columns.specs.declared.od.options.Address.{Address}
use Rattle.bx_text.specs.Ascii.{is_printable}
use Rattle.bx_dump_columns.specs.Places.{place_text, cost_of}
use Rattle.bx_dump_columns.specs.declared.od.options.Address.TheVariants.{Octal, Decimal, Hexadecimal, Without}
use Rattle.bx_dump.specs.private.Scan.{scan_text, scan_run, grown_text, end_of_run, AllPrint, NonePrints, pending, IsKept, EndsQuiet, IsQuiet}

pub both : (b : Bool) → (b ≡ true) ⊎ (b ≡ false)
both true = inl refl
both false = inr refl

pub scan_text-append : (least : ℕ) (o : Address) (at : ℕ) (run xs ys : List ℕ) →
    scan_text least o at run (xs ++ ys) ≡ scan_text least o at run xs ++ scan_text least o (at + length xs) (scan_run run xs) ys
unfolding scan_text scan_run
scan_text-append least o at run [] ys = rw (add-zero at) refl
scan_text-append least o at run (b ∷ bs) ys =
    let place : at + 1 + length bs ≡ at + suc (length bs) = omega arith in
    elim (both (is_printable b)) [
      | inl holds ↦
          let later = rw place at (scan_text-append least o (at + 1) (run ++ b ∷ []) bs ys) in
          rw holds (ap (λ t. grown_text least o at run b ++ t) later ∙ sym (append_assoc (grown_text least o at run b) (scan_text least o (at + 1) (run ++ b ∷ []) bs) _))
      | inr fails ↦
          let later = rw place at (scan_text-append least o (at + 1) [] bs ys) in
          rw fails (ap (λ t. end_of_run least run ++ t) later ∙ sym (append_assoc (end_of_run least run) (scan_text least o (at + 1) [] bs) _))
    ]

pub scan_run-append : (run xs ys : List ℕ) → scan_run run (xs ++ ys) ≡ scan_run (scan_run run xs) ys
unfolding scan_run
scan_run-append run [] ys = refl
scan_run-append run (b ∷ bs) ys = elim (both (is_printable b)) [
  | inl holds ↦ rw holds (scan_run-append (run ++ b ∷ []) bs ys)
  | inr fails ↦ rw fails (scan_run-append [] bs ys)
]

-- a run that is written goes on
pub scan_long : (least : ℕ) (o : Address) (at : ℕ) (run more : List ℕ) → AllPrint more → least ≤ length run → scan_text least o at run more ≡ more
unfolding scan_text
scan_long least o at run [] print long = refl
scan_long least o at run (b ∷ bs) print long =
    let fails : nat_lt (length run) least ≡ false = grind (arith, nat_tests) in
    rw (print.0, fails) (ap (λ t. b ∷ t) (scan_long least o (at + 1) (run ++ b ∷ []) bs print.1 (omega (arith, length-append run (b ∷ [])))))

-- a run that stays short
pub scan_short : (least : ℕ) (o : Address) (at : ℕ) (run more : List ℕ) → AllPrint more → length run + length more < least → scan_text least o at run more ≡ []
unfolding scan_text
scan_short least o at run [] print short = refl
scan_short least o at run (b ∷ bs) print short =
    let holds : nat_lt (length run) least ≡ true = grind (arith, nat_tests) in
    let other : (length run + 1 == least) ≡ false = ne_eqb (length run + 1) least (λ e. omega arith) in
    rw (print.0, holds, other) (scan_short least o (at + 1) (run ++ b ∷ []) bs print.1 (omega (arith, length-append run (b ∷ []))))

-- a run that becomes long enough
pub scan_crossing : (least : ℕ) (o : Address) (at : ℕ) (run more : List ℕ) → AllPrint more → length run < least → least ≤ length run + length more →
    scan_text least o at run more ≡ place_text o (at - length run) ++ (run ++ more)
unfolding scan_text
scan_crossing least o at run [] print short long = absurd (omega arith)
scan_crossing least o at run (b ∷ bs) print short long =
    let holds : nat_lt (length run) least ≡ true = grind (arith, nat_tests) in
    let size : length (run ++ b ∷ []) ≡ length run + 1 = length-append run (b ∷ []) in
    elim (cases_eq (length run + 1) least) [
      | inl e ↦
          let same : (length run + 1 == least) ≡ true = eq-eqb (length run + 1) least e in
          let rest = scan_long least o (at + 1) (run ++ b ∷ []) bs print.1 (omega arith) in
          rw (print.0, holds, same, rest) (append_assoc (place_text o (at - length run)) (run ++ b ∷ []) bs ∙ ap (λ t. place_text o (at - length run) ++ t) (append_assoc run (b ∷ []) bs))
      | inr n ↦
          let other : (length run + 1 == least) ≡ false = ne_eqb (length run + 1) least n in
          let place : at + 1 - length (run ++ b ∷ []) ≡ at - length run = omega arith in
          let rest = scan_crossing least o (at + 1) (run ++ b ∷ []) bs print.1 (omega arith) (omega arith) in
          rw (print.0, holds, other) (rest ∙ rw place (ap (λ t. place_text o (at - length run) ++ t) (append_assoc run (b ∷ []) bs)))
    ]

pub scan_run-print : (run more : List ℕ) → AllPrint more → scan_run run more ≡ run ++ more
unfolding scan_run
scan_run-print run [] print = sym (append-nil run)
scan_run-print run (b ∷ bs) print = rw print.0 (scan_run-print (run ++ b ∷ []) bs print.1 ∙ append_assoc run (b ∷ []) bs)

none_scanned : (least : ℕ) (o : Address) (at : ℕ) (more : List ℕ) → NonePrints more → 0 < least → scan_text least o at [] more ≡ []
unfolding scan_text
none_scanned least o at [] none some = refl
none_scanned least o at (b ∷ bs) none some =
    let fails : nat_le least 0 ≡ false = grind (arith, nat_tests) in
    rw (none.0, fails) (none_scanned least o (at + 1) bs none.1 some)

-- a run that ends
pub scan_end : (least : ℕ) (o : Address) (at : ℕ) (run more : List ℕ) → NonePrints more → 0 < length more → 0 < least → scan_text least o at run more ≡ end_of_run least run
unfolding scan_text
scan_end least o at run [] none some least_some = absurd (omega arith)
scan_end least o at run (b ∷ bs) none some least_some =
    rw (none.0, none_scanned least o (at + 1) bs none.1 least_some) (append-nil (end_of_run least run))

pub scan_run-none : (run more : List ℕ) → NonePrints more → 0 < length more → scan_run run more ≡ []
unfolding scan_run
scan_run-none run [] none some = absurd (omega arith)
scan_run-none run (b ∷ []) none some = rw none.0 refl
scan_run-none run (b ∷ d ∷ bs) none some = rw none.0 (scan_run-none [] (d ∷ bs) none.1 (omega arith))

pub front_prints : (xs : List ℕ) → AllPrint (take (prefix_len is_printable xs) xs)
front_prints [] = tt
front_prints (b ∷ bs) = elim (both (is_printable b)) [
  | inl holds ↦ let e : 1 + prefix_len is_printable bs ≡ suc (prefix_len is_printable bs) = omega arith in rw (holds, e) (holds, front_prints bs)
  | inr fails ↦ rw fails tt
]

pub front_none : (xs : List ℕ) → NonePrints (take (prefix_len (λ b. not (is_printable b)) xs) xs)
front_none [] = tt
front_none (b ∷ bs) = elim (both (is_printable b)) [
  | inl holds ↦ rw holds tt
  | inr fails ↦ let e : 1 + prefix_len (λ b. not (is_printable b)) bs ≡ suc (prefix_len (λ b. not (is_printable b)) bs) = omega arith in rw (fails, e) (fails, front_none bs)
]

-- where fails byte in front prints, one in front doesn't
pub front_some : (xs : List ℕ) → 0 < length xs → prefix_len is_printable xs ≡ 0 → 0 < prefix_len (λ b. not (is_printable b)) xs
front_some [] some none = absurd (omega arith)
front_some (b ∷ bs) some none = elim (both (is_printable b)) [
  | inl holds ↦ absurd (omega (arith, rw holds at none))
  | inr fails ↦ rw fails (omega arith)
]

pub scan_text-none : (least : ℕ) (o : Address) (at : ℕ) (run : List ℕ) → [] ≡ scan_text least o at run []
unfolding scan_text
scan_text-none least o at run = refl

pub scan_run-stays : (run : List ℕ) → run ≡ scan_run run []
unfolding scan_run
scan_run-stays run = refl

-- one more part of xs
module _ (least : ℕ) (o : Address) (at done taken : ℕ) (run xs part : List ℕ) (size : length (take done xs) ≡ done) (join : take done xs ++ part ≡ take (done + taken) xs) where
  pub scan_step : (before now : List ℕ) → before ≡ scan_text least o at run (take done xs) → now ≡ scan_text least o (at + done) (scan_run run (take done xs)) part →
      before ++ now ≡ scan_text least o at run (take (done + taken) xs)
  scan_step before now b n =
      let whole = rw (join, size) at (scan_text-append least o at run (take done xs) part) in
      rw (b, n) (sym whole)

  pub run_step : scan_run (scan_run run (take done xs)) part ≡ scan_run run (take (done + taken) xs)
  run_step = rw (← join) (sym (scan_run-append run (take done xs) part))

-- what a step costs
pub cost_step : (o : Address) (used waiting more left done taken : ℕ) → 0 < taken → used + waiting ≤ 4096 + cost_of o * done → more + left + 2 ≤ waiting + taken + cost_of o →
    used + more + left ≤ 4096 + cost_of o * (done + taken)
cost_step Octal used waiting more left done taken some a b = omega arith
cost_step Decimal used waiting more left done taken some a b = omega arith
cost_step Hexadecimal used waiting more left done taken some a b = omega arith
cost_step Without used waiting more left done taken some a b = omega arith

pub cost_fits : (o : Address) (n m : ℕ) → n ≤ m → cost_of o * n ≤ cost_of o * m
cost_fits Octal n m le = omega arith
cost_fits Decimal n m le = omega arith
cost_fits Hexadecimal n m le = omega arith
cost_fits Without n m le = omega arith

pub pending_most : (least count : ℕ) → pending least count ≤ count
pending_most least count = elim (both (nat_lt count least)) [ inl e ↦ rw e (omega arith) | inr e ↦ rw e (omega arith) ]

-- what more bytes add to the text of all before
pub scan_goes : (least : ℕ) (o : Address) (input chunk page : List ℕ) (at : ℕ) → length input ≡ at → page ≡ scan_text least o at (scan_run [] input) chunk →
    scan_text least o 0 [] (input ++ chunk) ≡ scan_text least o 0 [] input ++ page
scan_goes least o input chunk page at size is =
    let place : 0 + length input ≡ at = omega (arith, size) in
    rw place at (scan_text-append least o 0 [] input chunk) ∙ ap (λ t. scan_text least o 0 [] input ++ t) (sym is)

pub scan_grows : (least : ℕ) (o : Address) (input more : List ℕ) → (rest : List ℕ) × (scan_text least o 0 [] (input ++ more) ≡ scan_text least o 0 [] input ++ rest)
scan_grows least o input more = (scan_text least o (0 + length input) (scan_run [] input) more, scan_text-append least o 0 [] input more)

pub kept_none : (least : ℕ) (kept : List ℕ) (count : ℕ) → count ≡ 0 → 0 < least → IsKept least count kept (scan_run [] [])
unfolding scan_run
kept_none least kept count e some = record { most = omega arith; short = λ lt. (sym e, rw e refl); long = λ le. absurd (omega arith) }

-- bytes that end in one that doesn't print leave no run
quiet_run : (run : List ℕ) (b : ℕ) (bs : List ℕ) → EndsQuiet (b ∷ bs) → scan_run run (b ∷ bs) ≡ []
unfolding scan_run
quiet_run run b [] quiet = rw quiet refl
quiet_run run b (c ∷ bs) quiet = elim (both (is_printable b)) [
  | inl holds ↦ rw holds (quiet_run (run ++ b ∷ []) c bs quiet)
  | inr fails ↦ rw fails (quiet_run [] c bs quiet)
]

-- at most as many bytes as a run needs make none known, where the last doesn't print
window_quiet : (least : ℕ) (o : Address) (at : ℕ) (run : List ℕ) (b : ℕ) (bs : List ℕ) → EndsQuiet (b ∷ bs) → length run + length (b ∷ bs) ≤ least →
    scan_text least o at run (b ∷ bs) ≡ []
unfolding scan_text
window_quiet least o at run b [] quiet fits =
    let none : nat_le least (length run) ≡ false = grind (arith, nat_tests) in
    rw (quiet, none) refl
window_quiet least o at run b (c ∷ bs) quiet fits = elim (both (is_printable b)) [
  | inl holds ↦
      let first : nat_lt (length run) least ≡ true = grind (arith, nat_tests) in
      let other : (length run + 1 == least) ≡ false = ne_eqb (length run + 1) least (λ e. omega arith) in
      rw (holds, first, other) (window_quiet least o (at + 1) (run ++ b ∷ []) c bs quiet (omega (arith, length-append run (b ∷ []))))
  | inr fails ↦
      let none : nat_le least (length run) ≡ false = grind (arith, nat_tests) in
      rw (fails, none) (window_quiet least o (at + 1) [] c bs quiet (omega arith))
]

pub none_quiet : (least : ℕ) → IsQuiet least []
unfolding scan_text scan_run
none_quiet least = record { text = λ o at. refl; run = refl }

pub one_quiet : (least : ℕ) (bytes : List ℕ) → EndsQuiet bytes → length bytes ≤ least → IsQuiet least bytes
one_quiet least [] quiet fits = none_quiet least
one_quiet least (b ∷ bs) quiet fits = record { text = λ o at. window_quiet least o at [] b bs quiet (omega arith); run = quiet_run [] b bs quiet }

pub more_quiet : (least : ℕ) (xs ys : List ℕ) → IsQuiet least xs → IsQuiet least ys → IsQuiet least (xs ++ ys)
more_quiet least xs ys a b = record {
  text = λ o at. scan_text-append least o at [] xs ys ∙ rw (a.text o at, a.run) (b.text o (at + length xs));
  run = scan_run-append [] xs ys ∙ rw a.run b.run;
}

pub ends_quiet : (xs : List ℕ) (k : ℕ) → k < length xs → is_printable (slice_index xs k) ≡ false → EndsQuiet (take (suc k) xs)
ends_quiet [] k inside quiet = absurd (omega arith)
ends_quiet (b ∷ bs) zero inside quiet = quiet
ends_quiet (b ∷ []) (suc k) inside quiet = absurd (omega arith)
ends_quiet (b ∷ c ∷ bs) (suc k) inside quiet = ends_quiet (c ∷ bs) k (omega arith) quiet

-- one window more
pub quiet_step : (least : ℕ) (xs part : List ℕ) (done more : ℕ) → IsQuiet least (take done xs) → EndsQuiet part → length part ≤ least → part ≡ take more (drop done xs) →
    IsQuiet least (take (done + more) xs)
quiet_step least xs part done more before quiet fits is =
    rw (take-add done more xs, ← is) (more_quiet least (take done xs) part before (one_quiet least part quiet fits))
