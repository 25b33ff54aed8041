-- The runs by position are what the scan gives.
use Rattle.std.proofs.Common.{◌≡◌, ℕ, zero, suc, ◌+◌, ◌-◌, ◌^◌, ◌<◌, ◌≤◌, Bool, true, false, List, [], ◌∷◌, ◌++◌, length, take, refl, sym, ap, ◌∙◌, arith, append_assoc, append-nil, length-append, inl, inr}
use Rattle.std.specs.Prelude.{nat_lt, nat_le, ◌==◌, codes, if◌then◌else◌, Option, None}
use Rattle.std.specs.List.{prefix_len}
use Rattle.std.proofs.lemmas.Bool.{cases_lt, cases_eq, eq-eqb, ne_eqb}
use Rattle.std.proofs.lemmas.Bool.Decides.{nat_tests}
use Rattle.bx_text.proofs.RangeLemmas.{flat_map_along}
use Rattle.std.proofs.lemmas.List.{take-append-le}
use Rattle.bx_text.specs.declared.fault.IoFault.{IoFault}
use Rattle.bx_dump.specs.private.Pages.{WritesFrontBut, streams}
use Rattle.bx_dump.specs.private.Dumped.{DumpsFrontBut}
use Rattle.bx_dump.proofs.DumpLemmas.{cause_longer, keeps_along, front_whole}
use Rattle.bx_dump.proofs.ScanLemmas.{both}
use Rattle.bx_dump_columns.specs.declared.od.options.Address.{Address}
use Rattle.bx_text.specs.Ascii.{is_printable}
use Rattle.bx_dump_columns.specs.Places.{place_text}
use Rattle.bx_dump.specs.Strings.{is_run_start, line_at, strings_text}
use Rattle.bx_dump.specs.private.Strings.{runs_lines}
use Rattle.bx_dump.specs.private.Scan.{scan_text, scan_run, grown_text, end_of_run}

-- what a run that stands right before x leaves to be written
abbrev front_of : List ℕ → List ℕ
front_of x = take (prefix_len is_printable x) x

abbrev bracket : ℕ → Address → ℕ → List ℕ → List ℕ → List ℕ
bracket least o at run x =
    if nat_le least (length run) then front_of x ++ codes "\n"
    else if nat_le least (length run + length (front_of x)) then place_text o (at - length run) ++ ((run ++ front_of x) ++ codes "\n")
    else []

same_start : (c : ℕ) (before : Bool) (cs : List ℕ) (k : ℕ) → is_run_start before (c ∷ cs) (suc k) ≡ is_run_start (is_printable c) cs k
same_start c before cs zero = refl
same_start c before cs (suc k) = refl

-- the first byte's run, and those of the others
first_line : (least : ℕ) (o : Address) (before : Bool) (first c : ℕ) (cs : List ℕ) →
    runs_lines least o before first (c ∷ cs) ≡ line_at least o before first (c ∷ cs) 0 ++ runs_lines least o (is_printable c) (first + 1) cs
first_line least o before first c cs =
    let along = flat_map_along (line_at least o before first (c ∷ cs)) (line_at least o (is_printable c) (first + 1) cs) 1 0 (length cs) (λ k inside.
    let e : 1 + k ≡ suc k = omega arith in
    let z : 0 + k ≡ k = omega arith in
    let place : first + suc k ≡ first + 1 + k = omega arith in
    rw (e, z, same_start c before cs k, place) refl) in
    ap (λ t. line_at least o before first (c ∷ cs) 0 ++ t) along

none_first : (least : ℕ) (o : Address) (before : Bool) (first c : ℕ) (cs : List ℕ) → is_printable c ≡ false → line_at least o before first (c ∷ cs) 0 ≡ []
none_first least o before first c cs fails = rw fails refl

inside_first : (least : ℕ) (o : Address) (first c : ℕ) (cs : List ℕ) → is_printable c ≡ true → line_at least o true first (c ∷ cs) 0 ≡ []
inside_first least o first c cs holds = rw holds refl

-- a run begins
starts_first : (least : ℕ) (o : Address) (first c : ℕ) (cs : List ℕ) → 0 < least → is_printable c ≡ true →
    line_at least o false first (c ∷ cs) 0 ≡ bracket least o first [] (c ∷ cs)
starts_first least o first c cs some holds =
    let fails : nat_le least 0 ≡ false = grind (arith, nat_tests) in
    let at : first + 0 ≡ first = omega arith in
    let same : first - 0 ≡ first = omega arith in
    let none : 0 + length (front_of (c ∷ cs)) ≡ length (front_of (c ∷ cs)) = omega arith in
    rw (fails, at, same, none, holds) refl

front_none : (c : ℕ) (cs : List ℕ) → is_printable c ≡ false → front_of (c ∷ cs) ≡ []
front_none c cs fails = rw fails refl

front_more : (c : ℕ) (cs : List ℕ) → is_printable c ≡ true → front_of (c ∷ cs) ≡ c ∷ front_of cs
front_more c cs holds =
    let e : 1 + prefix_len is_printable cs ≡ suc (prefix_len is_printable cs) = omega arith in
    rw (holds, e) refl

-- one more byte of a run
one_more : (least : ℕ) (o : Address) (at : ℕ) (run : List ℕ) (c : ℕ) (cs : List ℕ) → is_printable c ≡ true →
    grown_text least o at run c ++ bracket least o (at + 1) (run ++ c ∷ []) cs ≡ bracket least o at run (c ∷ cs)
one_more least o at run c cs holds =
    let size : length (run ++ c ∷ []) ≡ length run + 1 = length-append run (c ∷ []) in
    let front = front_more c cs holds in
    let place : at + 1 - (length run + 1) ≡ at - length run = omega arith in
    let move : length run + 1 + length (front_of cs) ≡ length run + suc (length (front_of cs)) = omega arith in
    let join : (run ++ c ∷ []) ++ front_of cs ≡ run ++ c ∷ front_of cs = append_assoc run (c ∷ []) (front_of cs) in
    elim (cases_lt (length run) least) [
      | inr long ↦
          let a : nat_lt (length run) least ≡ false = grind (arith, nat_tests) in
          let b : nat_le least (length run) ≡ true = grind (arith, nat_tests) in
          let d : nat_le least (length run + 1) ≡ true = grind (arith, nat_tests) in
          rw (a, b, size, d, front) refl
      | inl short ↦
          let a : nat_lt (length run) least ≡ true = grind (arith, nat_tests) in
          let b : nat_le least (length run) ≡ false = grind (arith, nat_tests) in
          elim (cases_eq (length run + 1) least) [
            | inl e ↦
                let s : (length run + 1 == least) ≡ true = eq-eqb (length run + 1) least e in
                let d : nat_le least (length run + 1) ≡ true = grind (arith, nat_tests) in
                let f : nat_le least (length run + suc (length (front_of cs))) ≡ true = grind (arith, nat_tests) in
                rw (a, b, s, size, d, front, f)
                (append_assoc (place_text o (at - length run)) (run ++ c ∷ []) (front_of cs ++ codes "\n")
                ∙ ap (λ t. place_text o (at - length run) ++ t) (sym (append_assoc (run ++ c ∷ []) (front_of cs) (codes "\n")) ∙ ap (λ t. t ++ codes "\n") join))
            | inr n ↦
                let s : (length run + 1 == least) ≡ false = ne_eqb (length run + 1) least n in
                let d : nat_le least (length run + 1) ≡ false = grind (arith, nat_tests) in
                rw (a, b, s, size, d, front, place, move, join) refl
          ]
    ]

ends_run : (least : ℕ) (o : Address) (at : ℕ) (run x : List ℕ) → front_of x ≡ [] → bracket least o at run x ≡ end_of_run least run
ends_run least o at run x none =
    let zero_more : length run + 0 ≡ length run = omega arith in
    elim (both (nat_le least (length run))) [
      | inl holds ↦ rw (none, holds) refl
      | inr fails ↦ rw (none, zero_more, fails) refl
    ]

-- The scan of x, behind a byte that doesn't print, and behind a run.
abbrev IsFresh : ℕ → Address → ℕ → List ℕ → Type 0
IsFresh least o at x = scan_text least o at [] x ++ end_of_run least (scan_run [] x) ≡ runs_lines least o false at x

abbrev IsBehind : ℕ → Address → ℕ → List ℕ → List ℕ → Type 0
IsBehind least o at run x = scan_text least o at run x ++ end_of_run least (scan_run run x) ≡ bracket least o at run x ++ runs_lines least o true at x

joined : (least : ℕ) (o : Address) (at c : ℕ) (cs run : List ℕ) → is_printable c ≡ true → IsBehind least o (at + 1) (run ++ c ∷ []) cs →
    {line : List ℕ} → grown_text least o at run c ++ bracket least o (at + 1) (run ++ c ∷ []) cs ≡ line →
    scan_text least o at run (c ∷ cs) ++ end_of_run least (scan_run run (c ∷ cs)) ≡ line ++ runs_lines least o true (at + 1) cs
unfolding scan_text scan_run
joined least o at c cs run holds is {line} e =
    let grown = grown_text least o at run c in
    rw holds (append_assoc grown (scan_text least o (at + 1) (run ++ c ∷ []) cs) (end_of_run least (scan_run (run ++ c ∷ []) cs))
    ∙ ap (λ t. grown ++ t) is
    ∙ sym (append_assoc grown (bracket least o (at + 1) (run ++ c ∷ []) cs) (runs_lines least o true (at + 1) cs))
    ∙ ap (λ t. t ++ runs_lines least o true (at + 1) cs) e)

scans : (least : ℕ) (o : Address) (x : List ℕ) → 0 < least → ((at : ℕ) → IsFresh least o at x) × ((at : ℕ) (run : List ℕ) → IsBehind least o at run x)
unfolding scan_text scan_run
scans least o [] some = (
  (λ at. let fails : nat_le least 0 ≡ false = grind (arith, nat_tests) in rw fails refl),
  (λ at run. sym (append-nil (bracket least o at run []) ∙ ends_run least o at run [] refl)),
)
scans least o (c ∷ cs) some =
    let later = scans least o cs some in
    let short : nat_le least 0 ≡ false = grind (arith, nat_tests) in
    elim (both (is_printable c)) [
      | inr fails ↦ (
        (λ at.
            let is : scan_text least o (at + 1) [] cs ++ end_of_run least (scan_run [] cs) ≡ runs_lines least o false (at + 1) cs = later.0 (at + 1) in
            let same : runs_lines least o false at (c ∷ cs) ≡ runs_lines least o false (at + 1) cs = first_line least o false at c cs ∙ rw (none_first least o false at c cs fails, fails) refl in
            rw (fails, short) is ∙ sym same),
        (λ at run.
            let is : scan_text least o (at + 1) [] cs ++ end_of_run least (scan_run [] cs) ≡ runs_lines least o false (at + 1) cs = later.0 (at + 1) in
            let same : runs_lines least o true at (c ∷ cs) ≡ runs_lines least o false (at + 1) cs = first_line least o true at c cs ∙ rw (none_first least o true at c cs fails, fails) refl in
            let ends : bracket least o at run (c ∷ cs) ≡ end_of_run least run = ends_run least o at run (c ∷ cs) (front_none c cs fails) in
            rw (same, ends, fails) (append_assoc (end_of_run least run) (scan_text least o (at + 1) [] cs) (end_of_run least (scan_run [] cs)) ∙ ap (λ t. end_of_run least run ++ t) is)),
      )
      | inl holds ↦ (
        (λ at.
            let grown = grown_text least o at [] c in
            let is = later.1 (at + 1) (c ∷ []) in
            let line : grown ++ bracket least o (at + 1) (c ∷ []) cs ≡ line_at least o false at (c ∷ cs) 0 = one_more least o at [] c cs holds ∙ sym (starts_first least o at c cs some holds) in
            let same : runs_lines least o false at (c ∷ cs) ≡ line_at least o false at (c ∷ cs) 0 ++ runs_lines least o true (at + 1) cs = first_line least o false at c cs ∙ ap (λ b. line_at least o false at (c ∷ cs) 0 ++ runs_lines least o b (at + 1) cs) holds in
            joined least o at c cs [] holds is line ∙ sym same),
        (λ at run.
            let is = later.1 (at + 1) (run ++ c ∷ []) in
            let same : runs_lines least o true at (c ∷ cs) ≡ runs_lines least o true (at + 1) cs = first_line least o true at c cs ∙ ap (λ t. t ++ runs_lines least o (is_printable c) (at + 1) cs) (inside_first least o at c cs holds) ∙ ap (λ b. runs_lines least o b (at + 1) cs) holds in
            joined least o at c cs run holds is (one_more least o at run c cs holds) ∙ sym (ap (λ t. bracket least o at run (c ∷ cs) ++ t) same)),
      )
    ]

pub strings_is : (least : ℕ) (o : Address) (x : List ℕ) → 0 < least → strings_text least o x ≡ scan_text least o 0 [] x ++ end_of_run least (scan_run [] x)
strings_is least o x some = sym ((scans least o x some).0 0)

pub end_few : (least : ℕ) (run : List ℕ) → length (end_of_run least run) ≤ 1
end_few least run = go (nat_le least (length run)) refl
  where
    go : (b : Bool) → nat_le least (length run) ≡ b → length (end_of_run least run) ≤ 1
    go true e = rw e (omega arith)
    go false e = rw e (omega arith)

-- a front of what is known is a front of the whole
pub front_known : (least : ℕ) (o : Address) (r0 r1 w0 w1 : Option (List ℕ)) (fault : IoFault) → 0 < least →
    DumpsFrontBut 0 (scan_text least o 0 []) r0 r1 w0 w1 fault → WritesFrontBut (2 ^ 7) (strings_text least o) 0 None 0 0 (streams r0 r1 w0 w1) fault
front_known least o r0 r1 w0 w1 fault some d =
    let text = scan_text least o 0 [] d.0 in
    let tail = end_of_run least (scan_run [] d.0) in
    let is = strings_is least o d.0 some in
    let e : take d.1 (strings_text least o d.0) ≡ take d.1 text = ap (take d.1) is ∙ take-append-le d.1 text tail d.3 in
    let more : length text ≤ length (strings_text least o d.0) = omega (arith, ap length is, length-append text tail) in
    front_whole (2 ^ 7) (strings_text least o) r0 r1 w0 w1 fault (
      d.0,
      d.1,
      d.2,
      omega (arith, d.3, more),
      rw e d.4,
      cause_longer fault (length d.0) d.1 _ _ more d.5,
      keeps_along fault 0 (2 ^ 7) d.1 d.1 (scan_text least o 0 []) (strings_text least o) d.0
          (λ xs few. omega (
            arith,
            few,
            ap length (strings_is least o xs some),
            length-append (scan_text least o 0 [] xs) (end_of_run least (scan_run [] xs)),
            end_few least (scan_run [] xs),
            ap length (strings_is least o [] some),
            length-append (scan_text least o 0 [] []) (end_of_run least (scan_run [] [])),
          )) d.6,
    )
