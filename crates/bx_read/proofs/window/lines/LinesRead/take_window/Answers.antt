use Rattle.std.proofs.Common.{◌≡◌, ◌++◌, ◌+◌, ap, sym, subst, ◌∙◌, append_assoc}
use Rattle.std.proofs.lemmas.List.{take-append-drop}
use Rattle.bx_read.specs.Text.{contents}
use Rattle.bx_read.specs.Window.{IsFaultBehind, HasLines}
use Rattle.bx_read.proofs.UnfinishedLemmas.{behind_last}
use Rattle.bx_read.proofs.WindowLemmas.{fault_goes_on}
use Rattle.bx_read.proofs.window.lines.LinesRead.take_window.Goals as goal

pub returns-in-Err-clause-fault : goal.returns-in-Err-clause-fault
returns-in-Err-clause-fault g c = λ text has.
    let window = c.args.window.now in
    let end = c.in-Some.end in
    let first = c.split_at.result.0.now in
    let rest = c.split_at.result.1.now in
    let cut : window ≡ first ++ rest = rw (c.split_at.ensures.front, c.split_at.ensures.back) (sym (take-append-drop (end + 1) window)) in
    subst (λ t. IsFaultBehind t c.in-Err.fault) (append_assoc text first rest ∙ ap (λ t. text ++ t) (sym cut))
    (fault_goes_on (text ++ first) rest c.in-Err.fault (c.in-Err.ensures.fault text has))

pub hold_more-requires-in-Some-clause-apart : goal.hold_more-requires-in-Some-clause-apart
hold_more-requires-in-Some-clause-apart g c =
    behind_last c.args.window.now c.split_at.result.1.now (c.in-Some.end + 1) c.split_at.ensures.back c.in-Some.ensures.0.after

pub returns-in-Ok-hold_more-clause-read : goal.returns-in-Ok-hold_more-clause-read
returns-in-Ok-hold_more-clause-read g c = λ text has.
    let window = c.args.window.now in
    let end = c.in-Some.end in
    let first = c.split_at.result.0.now in
    let rest = c.split_at.result.1.now in
    let new = c.hold_more-in-Some.new.self in
    let cut : window ≡ first ++ rest = rw (c.split_at.ensures.front, c.split_at.ensures.back) (sym (take-append-drop (end + 1) window)) in
    subst (λ t. HasLines t (contents new.runs.items) new.lines new.held.items) (append_assoc text first rest ∙ ap (λ t. text ++ t) (sym cut))
    (c.in-Ok-hold_more.ensures.read (text ++ first) (c.in-Ok.ensures.read text has))

pub returns-in-Err-hold_more-clause-fault : goal.returns-in-Err-hold_more-clause-fault
returns-in-Err-hold_more-clause-fault g c = λ text has.
    let window = c.args.window.now in
    let end = c.in-Some.end in
    let first = c.split_at.result.0.now in
    let rest = c.split_at.result.1.now in
    let cut : window ≡ first ++ rest = rw (c.split_at.ensures.front, c.split_at.ensures.back) (sym (take-append-drop (end + 1) window)) in
    subst (λ t. IsFaultBehind t c.in-Err-hold_more.fault) (append_assoc text first rest ∙ ap (λ t. text ++ t) (sym cut))
    (c.in-Err-hold_more.ensures.fault (text ++ first) (c.in-Ok.ensures.read text has))
