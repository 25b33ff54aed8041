use Rattle.std.proofs.Common.{◌≡◌, ◌+◌, ◌<◌, ◌≤◌, length, take, drop, ℕ, ◌-◌, ◌*◌, true, false, List, [], ◌∷◌, ◌++◌, slice_set, length-append, refl, sym, ap, ◌∙◌, arith}
use Rattle.bx_dump.specs.Encodings.{char_len, char_byte, char_prints}
use Rattle.bx_dump.specs.private.Chars.{grown_run, held_with}
use Rattle.bx_dump.specs.private.Runs.{Keeps}
use Rattle.std.proofs.lemmas.List.{length-drop}
use Rattle.bx_dump.proofs.CharsLemmas.{grown_along, kept_short, other_byte, other_is, shown_byte, shown_is, take_set, place_along}
use Rattle.bx_dump.proofs.strings.dump.chars.state.Chars.put_byte.Goals as goal

pub returns-in-Some-clause-text : goal.returns-in-Some-clause-text
returns-in-Some-clause-text c now was =
    let self = c.args.self.now in
    let bytes : take (self.count + 1) (slice_set self.held self.count c.args.byte) ≡ held_with now c.args.byte =
    take_set self.count self.held c.args.byte (omega arith) ∙ ap (λ t. t ++ c.args.byte ∷ []) was.1 in
    let is = shown_is self.encoding (held_with now c.args.byte) c.in-Some.byte (rw bytes at (sym c.char_in.ensures ∙ c.in-Some.is)) in
    let long : char_len self.encoding ≤ length now.held + 1 = omega (arith, was.0, c.if-len.false, c.len.ensures.value) in
    let whole : char_len self.encoding ≡ self.count + 1 = omega (arith, was.0, long, self.short) in
    let known = (shown_byte self.encoding self.runs.least self.runs.offsets c.args.at now c.args.byte long is.0).1 in
    c.grow_by.ensures.text now.run was.2
    ∙ grown_along self.runs.least self.runs.offsets c.saturating_sub-start.result (c.args.at + 1 - char_len self.encoding * (length now.run + 1)) now.run c.in-Some.byte
    (λ short. c.saturating_sub-start.ensures ∙ place_along (c.args.at + 1) whole (kept_short self.runs.least self.runs.count self.runs.kept now.run was.2 short))
    ∙ ap (grown_run self.runs.least self.runs.offsets (c.args.at + 1 - char_len self.encoding * (length now.run + 1)) now.run) (sym is.1)
    ∙ sym known

pub returns-in-Some-clause-kept : goal.returns-in-Some-clause-kept
returns-in-Some-clause-kept c now was =
    let self = c.args.self.now in
    let bytes : take (self.count + 1) (slice_set self.held self.count c.args.byte) ≡ held_with now c.args.byte =
    take_set self.count self.held c.args.byte (omega arith) ∙ ap (λ t. t ++ c.args.byte ∷ []) was.1 in
    let is = shown_is self.encoding (held_with now c.args.byte) c.in-Some.byte (rw bytes at (sym c.char_in.ensures ∙ c.in-Some.is)) in
    let long : char_len self.encoding ≤ length now.held + 1 = omega (arith, was.0, c.if-len.false, c.len.ensures.value) in
    let next = (shown_byte self.encoding self.runs.least self.runs.offsets c.args.at now c.args.byte long is.0).0 in
    rw (next, is.1) (refl, refl, c.grow_by.ensures.kept now.run was.2)

pub returns-in-None-clause-text : goal.returns-in-None-clause-text
returns-in-None-clause-text c now was =
    let self = c.args.self.now in
    let bytes : take (self.count + 1) (slice_set self.held self.count c.args.byte) ≡ held_with now c.args.byte =
    take_set self.count self.held c.args.byte (omega arith) ∙ ap (λ t. t ++ c.args.byte ∷ []) was.1 in
    let wrong = other_is self.encoding (held_with now c.args.byte) (rw bytes at (sym c.char_in.ensures ∙ c.in-None.is)) in
    let long : char_len self.encoding ≤ length now.held + 1 = omega (arith, was.0, c.if-len.false, c.len.ensures.value) in
    c.end.ensures.text now.run was.2 ∙ sym (other_byte self.encoding self.runs.least self.runs.offsets c.args.at now c.args.byte long wrong).1

pub returns-in-None-clause-kept : goal.returns-in-None-clause-kept
returns-in-None-clause-kept c now was =
    let self = c.args.self.now in
    let bytes : take (self.count + 1) (slice_set self.held self.count c.args.byte) ≡ held_with now c.args.byte =
    take_set self.count self.held c.args.byte (omega arith) ∙ ap (λ t. t ++ c.args.byte ∷ []) was.1 in
    let wrong = other_is self.encoding (held_with now c.args.byte) (rw bytes at (sym c.char_in.ensures ∙ c.in-None.is)) in
    let long : char_len self.encoding ≤ length now.held + 1 = omega (arith, was.0, c.if-len.false, c.len.ensures.value) in
    let next = (other_byte self.encoding self.runs.least self.runs.offsets c.args.at now c.args.byte long wrong).0 in
    let same : self.count + 1 - 1 ≡ self.count = omega arith in
    let size : length (drop 1 (held_with now c.args.byte)) ≡ self.count = length-drop 1 (held_with now c.args.byte) ∙ omega (arith, length-append now.held (c.args.byte ∷ []), was.0) in
    let held : take self.count c.shifted-self.result ≡ drop 1 (held_with now c.args.byte) =
    c.shifted-self.ensures self.count (omega (arith, self.short, c.len.ensures.value, c.len.ensures.most)) ∙ ap (drop 1) bytes in
    rw (next, same) (size, held, c.end.ensures.kept)
