use Rattle.std.proofs.Common.{◌≡◌, ◌+◌, ◌∙◌, ◌++◌, ◌∷◌, List, ℕ, take, drop, ap, sym, subst, inl, inr, arith, append_assoc, append-nil}
use Rattle.bx_journal_format.specs.read.Stops.{StopsAt}
use Rattle.bx_journal_format.proofs.Stops.{long_stops, not_so}
use Rattle.bx_journal_format.proofs.read.damage.is_damaged.Goals as goal

pub returns-in-Some : goal.returns-in-Some
returns-in-Some c r is yes_ more all =
    let f = c.in-Some.ensures.found in
    let bytes : List ℕ = c.args.bytes.now in
    let i : ℕ = c.in-Some.i in
    inl (take i bytes, drop (i + 1) bytes ++ more, ap (λ t. t ++ more) f.2 ∙ append_assoc (take i bytes) (10 ∷ drop (i + 1) bytes) more, f.1, c.is_misplaced.ensures r is yes_)

pub returns-then-is_all : goal.returns-then-is_all
returns-then-is_all c r is yes_ more all =
    let same : c.args.bytes.now ++ more ≡ c.args.bytes.now = ap (λ t. c.args.bytes.now ++ t) (all c.if-is_all.true) ∙ append-nil c.args.bytes.now in
    subst (StopsAt r) (sym same) (inr (c.in_default.ensures.none, λ rest. not_so c.rest_may_follow.result yes_ ((c.rest_may_follow.ensures r is).1 rest)))

pub returns : goal.returns
returns c r is yes_ more all = long_stops r c.args.bytes.now more c.in_default.ensures.none (omega (arith, c.if-bytes-lt-SURELY_LONG.false)) (c.is_misplaced-2.ensures r is yes_)
