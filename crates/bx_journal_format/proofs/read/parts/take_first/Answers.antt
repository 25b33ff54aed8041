use Rattle.std.proofs.Common.{◌≡◌, ◌+◌, ◌<◌, ℕ, List, ◌∷◌, ◌++◌, length, take, drop, ap, sym, ◌∙◌, subst, arith, Some, None, Option, length-take, length-drop}
use Rattle.std.specs.Prelude.{IfNone}
use Rattle.bx_journal_format.specs.Kept.{Run}
use Rattle.bx_journal_format.specs.Line.{saved_in as saved_read}
use Rattle.bx_journal_format.specs.count.Parts.{GivesStretch, TakesSome}
use Rattle.bx_journal_format.specs.read.Plain.{HasNoNewline}
use Rattle.bx_journal_format.proofs.StretchLemmas.{none_ends, none_saved, small, stretch_first}
use Rattle.bx_journal_format.proofs.TallyLemmas.{IsFirstLine}
use Rattle.bx_journal_format.proofs.read.parts.take_first.Goals as goal

in_any : {A X : Type 0} → (r : Option A) → X → IfNone r X
in_any None x = x
in_any (Some a) x = tt

-- the line that was found is the first one
first : (text rest : List ℕ) (i : ℕ) → rest ≡ text → i < length rest → HasNoNewline (take i rest) → rest ≡ take i rest ++ 10 ∷ drop (i + 1) rest → IsFirstLine text i
first text rest i same below plain is = subst (λ t. IsFirstLine t i) same (record { below = below; plain = plain; is = is })

pub returns-in_err-i-clause-none : goal.returns-in_err-i-clause-none
returns-in_err-i-clause-none c =
    in_any c.from_residual.result (subst (λ t. TakesSome c.args.len t 1 0) c.rest_at.ensures (none_ends c.args.len c.rest_at.result.now c.in_err-i.ensures.none))

pub returns-in_err-read-clause-none : goal.returns-in_err-read-clause-none
returns-in_err-read-clause-none c =
    let rest : List ℕ = drop c.args.from c.args.window.now in
    let i = c.in_ok-i.i in
    let found = c.in_ok-i.ensures.found in
    let f = first rest c.rest_at.result.now i c.rest_at.ensures found.0 found.1 found.2 in
    let line : c.split_at.result.0.now ≡ take i rest = c.split_at.ensures.front ∙ ap (take i) c.rest_at-2.ensures in
    in_any c.from_residual-in_err-read.result (none_saved c.args.len i rest f (ap (saved_read c.args.len) (sym line) ∙ c.in_err-read.ensures))

pub put_over-requires : goal.put_over-requires
put_over-requires c =
    let rest : List ℕ = drop c.args.from c.args.window.now in
    let i = c.in_ok-i.i in
    let found = c.in_ok-i.ensures.found in
    let f = first rest c.rest_at.result.now i c.rest_at.ensures found.0 found.1 found.2 in
    let line : c.split_at.result.0.now ≡ take i rest = c.split_at.ensures.front ∙ ap (take i) c.rest_at-2.ensures in
    let read = c.in_ok-read.read in
    let run : Run = record { at = read.at; bytes = take read.count read.bytes } in
    let s = small c.args.len (take i rest) run (ap (saved_read c.args.len) (sym line) ∙ c.in_ok-read.ensures) in
    omega (arith, s.short, length-take i rest, f.below, length-drop c.args.from c.args.window.now, c.requires.order, c.requires.within)

pub returns-clause-gives : goal.returns-clause-gives
returns-clause-gives c =
    let window : List ℕ = c.args.window.now in
    let rest : List ℕ = drop c.args.from window in
    let i = c.in_ok-i.i in
    let found = c.in_ok-i.ensures.found in
    let f = first rest c.rest_at.result.now i c.rest_at.ensures found.0 found.1 found.2 in
    let line : c.split_at.result.0.now ≡ take i rest = c.split_at.ensures.front ∙ ap (take i) c.rest_at-2.ensures in
    let read = c.in_ok-read.read in
    let run : Run = record { at = read.at; bytes = take read.count read.bytes } in
    let saved : saved_read c.args.len (take i rest) ≡ Some run = ap (saved_read c.args.len) (sym line) ∙ c.in_ok-read.ensures in
    let s = small c.args.len (take i rest) run saved in
    let long : length (take read.count read.bytes) ≡ read.count = omega (arith, length-take read.count read.bytes, read.few) in
    subst (λ n. GivesStretch c.args.len c.args.used c.args.from window c.put_over.new.text (record { at = read.at; count = n; taken = i + 1 })) long
    (stretch_first c.args.len c.args.used c.args.from i window c.put_over.new.text run c.requires.order f saved
    (record { within = omega (arith, s.short, length-take i rest, f.below, length-drop c.args.from window, c.requires.order, c.requires.within); is = c.put_over.ensures }))
