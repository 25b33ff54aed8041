-- Which lines od writes: of one type alone, or of rows.
use Rattle.std.proofs.Common.{◌≡◌, ℕ, zero, suc, ◌+◌, ◌<◌, Bool, true, false, List, Option, Result, Ok, Err, IfOk, IfErr, refl, arith}
use Rattle.bx_text.specs.declared.fault.IoFault.{IoFault}
use Rattle.bx_dump.specs.FoldBy.{folded_by}
use Rattle.bx_dump.specs.Od.{columns_below, od_line, od_rows, plain_or_rows}
use Rattle.bx_dump.specs.private.OdDump.{DumpsLines, od_lines, lines_with_rows, shown_lines}
use Rattle.bx_dump.specs.private.Pages.{StopsNext, WritesNext, limited_to, streams}
use Rattle.bx_dump.specs.declared.driver.pages.Part.{Part}
use Rattle.bx_dump.specs.declared.od.options.OdOptions.{OdOptions}
use Rattle.bx_dump.proofs.PagesLemmas.{front_along, rest_along}

module _ (plain rows : ℕ → List ℕ → List ℕ) (width : ℕ) (all : Bool) (start : ℕ) (bytes : List ℕ) where
  by_text : (t : Bool) (n : ℕ) → t ≡ true → folded_by width rows all start bytes ≡ folded_by width (plain_or_rows t n plain rows) all start bytes
  by_text t n is = rw is refl

  by_count : (t : Bool) (n : ℕ) → 0 < n → folded_by width rows all start bytes ≡ folded_by width (plain_or_rows t n plain rows) all start bytes
  by_count true n some = refl
  by_count false zero some = absurd (omega arith)
  by_count false (suc n) some = refl

  by_none : (t : Bool) (n : ℕ) → t ≡ false → n ≡ 0 → folded_by width plain all start bytes ≡ folded_by width (plain_or_rows t n plain rows) all start bytes
  by_none t n off none = rw (off, none) refl

pub rows_by_text : (o : OdOptions) → o.text ≡ true → (bytes : List ℕ) → lines_with_rows o bytes ≡ shown_lines o bytes
rows_by_text o is bytes =
    by_text (od_line o.address o.kind o.endian) (od_rows o.address o.endian o.width (record { kind = o.kind; text = o.text }) (columns_below o.below)) o.width o.all (o.first + o.skip) bytes o.text o.below.count is

pub rows_by_count : (o : OdOptions) → 0 < o.below.count → (bytes : List ℕ) → lines_with_rows o bytes ≡ shown_lines o bytes
rows_by_count o some bytes =
    by_count (od_line o.address o.kind o.endian) (od_rows o.address o.endian o.width (record { kind = o.kind; text = o.text }) (columns_below o.below)) o.width o.all (o.first + o.skip) bytes o.text o.below.count some

pub plain_by_none : (o : OdOptions) → o.text ≡ false → o.below.count ≡ 0 → (bytes : List ℕ) → od_lines o bytes ≡ shown_lines o bytes
plain_by_none o off none bytes =
    by_none (od_line o.address o.kind o.endian) (od_rows o.address o.endian o.width (record { kind = o.kind; text = o.text }) (columns_below o.below)) o.width o.all (o.first + o.skip) bytes o.text o.below.count off none

-- what is written of one text is written of its equal
pub next_along : (text other : List ℕ → List ℕ) (taken : ℕ) (limit : Option ℕ) (r0 r1 w0 w1 : Option (List ℕ)) (result : Result Part IoFault) → ((xs : List ℕ) → text xs ≡ other xs) →
    IfOk result (WritesNext text taken limit (streams r0 r1 w0 w1)) → IfOk result (WritesNext other taken limit (streams r0 r1 w0 w1))
next_along text other taken limit r0 r1 w0 w1 (Ok part) same is = rest_along text other taken limit r0 r1 w0 w1 part.read part.written same is
next_along text other taken limit r0 r1 w0 w1 (Err fault) same is = is

pub stops_along : (text other : List ℕ → List ℕ) (taken : ℕ) (limit : Option ℕ) (r0 r1 w0 w1 : Option (List ℕ)) (result : Result Part IoFault) → ((xs : List ℕ) → text xs ≡ other xs) →
    IfErr result (StopsNext text taken limit 0 (streams r0 r1 w0 w1)) → IfErr result (StopsNext other taken limit 0 (streams r0 r1 w0 w1))
stops_along text other taken limit r0 r1 w0 w1 (Ok part) same is = is
stops_along text other taken limit r0 r1 w0 w1 (Err fault) same is =
    front_along 0 0 (λ xs. text (limited_to limit xs)) (λ xs. other (limited_to limit xs)) 0 limit taken 0 r0 r1 w0 w1 fault (λ xs. same (limited_to limit xs)) (omega arith) is

-- lines of one text that were written are those of its equal
pub lines_along : (text other : List ℕ → List ℕ) (taken : ℕ) (limit : Option ℕ) (r0 r1 w0 w1 : Option (List ℕ)) (result : Result Part IoFault) → ((xs : List ℕ) → text xs ≡ other xs) →
    DumpsLines text taken limit (streams r0 r1 w0 w1) result → DumpsLines other taken limit (streams r0 r1 w0 w1) result
lines_along text other taken limit r0 r1 w0 w1 result same is = record {
  ok = next_along text other taken limit r0 r1 w0 w1 result same is.ok;
  err = stops_along text other taken limit r0 r1 w0 w1 result same is.err;
  few = is.few;
  count = is.count;
}
