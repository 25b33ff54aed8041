use Rattle.std.proofs.Common.{◌≡◌, ◌≤◌, ◌+◌, ◌-◌, ◌^◌, ℕ, List, length, min, sym, refl, ap, ◌∙◌, subst, arith}
use Rattle.std.specs.List.{length_refill}
use Rattle.bx_image.specs.Change.{saved, HaveBytes}
use Rattle.bx_image.specs.Over.{LieWithin}
use Rattle.bx_image.specs.declared.record.spans.Span.{Span}
use Rattle.bx_journal_format.specs.Entry.{head_text}
use Rattle.bx_journal_protocol.specs.declared.write.head.Place.{Place}
use Rattle.bx_journal_protocol.specs.write.Ranges.{head_from, kept_over, left_len, rest_len, AreRanges, IsPlace}
use Rattle.bx_journal_protocol.proofs.RangeLemmas.{are_ranges, ranges_more, kept_as, kept_of_image}
use Rattle.bx_journal_protocol.proofs.before.head.begin_change.Goals as goal

all_ranges : (len wide : ℕ) (spans slice : List Span) → slice ≡ spans → len ≤ wide → LieWithin len spans → AreRanges wide slice
all_ranges len wide spans slice is le within = subst (AreRanges wide) (sym is) (ranges_more len wide spans le (are_ranges len spans within))

pub head_len_of-total-requires : goal.head_len_of-total-requires
head_len_of-total-requires g c =
    let few : c.args.len ≤ 281474976710655 = c.requires.few in
    all_ranges c.args.len (2 ^ 62) _ _ c.as_slice-spans.ensures.value (omega (arith, few)) c.in_ok-ranges.ensures.within

pub look_and_begin-requires-clause-ordered : goal.look_and_begin-requires-clause-ordered
look_and_begin-requires-clause-ordered g c =
    let few : c.args.len ≤ 281474976710655 = c.requires.few in
    all_ranges c.args.len (2 ^ 64) _ _ c.as_slice-spans.ensures.value (omega (arith, few)) c.in_ok-ranges.ensures.within

pub look_and_begin-requires-clause-ranges : goal.look_and_begin-requires-clause-ranges
look_and_begin-requires-clause-ranges g c faithful =
    all_ranges c.args.len (length (g.D.Device.image c.args.image.now)) _ _ c.as_slice-spans.ensures.value (omega (arith, c.requires.long faithful)) c.in_ok-ranges.ensures.within

pub returns-clause-head : goal.returns-clause-head
returns-clause-head g c =
    let spans : List Span = c.in_ok-ranges.ranges.items in
    let slice : List Span = c.as_slice-spans.result.now in
    let is : slice ≡ spans = c.as_slice-spans.ensures.value in
    let p : Place = c.in_ok-place.place in
    let few : c.args.len ≤ 281474976710655 = c.requires.few in
    let begun = c.in_ok-place.ensures in
    let wide : 16 ≤ c.in_ok-window.window.len = omega (arith, c.in_ok-window.window.ok.0, c.in_ok-window.ensures.len, c.max.ensures, c.min.ensures) in
    record {
      ordered = all_ranges c.args.len (2 ^ 64) spans spans refl (omega (arith, few)) c.in_ok-ranges.ensures.within;
      place = subst (λ r. IsPlace r p) is begun.place;
      window = subst (λ n. 16 ≤ n) (length_refill c.in_ok-window.window.len c.in_ok-window.window.items c.look_and_begin.new.window c.in_ok-window.window.ok.0) wide;
      room = omega (arith, begun.room, c.in_ok-page.ensures.room);
    }

pub returns-clause-long : goal.returns-clause-long
returns-clause-long g c =
    let spans : List Span = c.in_ok-ranges.ranges.items in
    let slice : List Span = c.as_slice-spans.result.now in
    let p : Place = c.in_ok-place.place in
    let all : 48 + left_len slice 0 ≡ length c.look_and_begin.new.page.items + rest_len spans p + 14 = omega (arith, c.in_ok-place.ensures.long, ap (λ r. rest_len r p) c.as_slice-spans.ensures.value) in
    c.head_len_of-total.ensures ∙ ap (λ n. min n (2 ^ 64 - 1)) all

pub returns-clause-begins : goal.returns-clause-begins
returns-clause-begins g c faithful =
    let x : List ℕ = g.D.Device.image c.args.image.now in
    let spans : List Span = c.in_ok-ranges.ranges.items in
    let slice : List Span = c.as_slice-spans.result.now in
    let is : slice ≡ spans = c.as_slice-spans.ensures.value in
    let p : Place = c.in_ok-place.place in
    let page : List ℕ = c.look_and_begin.new.page.items in
    let long : c.args.len ≡ length x = c.requires.long faithful in
    let within : LieWithin (length x) spans = subst (λ n. LieWithin n spans) long c.in_ok-ranges.ensures.within in
    let begun = c.in_ok-place.ensures in
    record {
      begun = record {
        within = are_ranges (length x) spans within;
        text = subst (λ r. head_from x r p page c.args.number ≡ head_text c.args.number (kept_over x r)) is (begun.begun faithful);
      };
      saved_is = sym (kept_as x spans (saved c.args.change.now x) (c.in_ok-ranges.ensures.saved x (sym long)));
      kept = kept_of_image x spans within (subst (λ r. HaveBytes (kept_over x r).runs) is (begun.bytes faithful));
    }
