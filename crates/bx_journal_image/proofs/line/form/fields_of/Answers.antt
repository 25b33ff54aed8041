use Rattle.std.proofs.Common.{◌≡◌, [], ◌++◌, refl, ◌∙◌}
use Rattle.std.specs.Prelude.{codes}
use Rattle.bx_journal_image.specs.Line.{field, image_line, marks_text}
use Rattle.bx_journal_image.proofs.LineLemmas.{assoc_of}
use Rattle.bx_journal_image.proofs.line.form.fields_of.Goals as goal

pub returns : goal.returns
unfolding image_line
returns c l fits is =
    let f1 = field (codes "image3 ") 8 l.changes in
    let f2 = field (codes " ") 8 l.undone in
    let f3 = field (codes " ") 16 l.length in
    let f4 = field (codes " ") 16 l.last.high in
    let f5 = field [] 16 l.last.low in
    let f6 = field (codes " ") 16 l.next.high in
    let f7 = field [] 16 l.next.low in
    let f8 = field (codes " ") 8 l.others in
    let f9 = field (codes " ") 16 l.least in
    let f10 = field (codes " ") 16 l.most in
    let f11 = marks_text l.marks in
    let f12 = codes "\n" in
    let tail = f9 ++ (f10 ++ (f11 ++ f12)) in
    let whole : c.args.text.now ≡ f1 ++ (f2 ++ (f3 ++ (f4 ++ (f5 ++ (f6 ++ (f7 ++ (f8 ++ tail))))))) = is ∙ assoc_of f1 f2 f3 f4 f5 f6 f7 f8 f9 f10 f11 f12 in
    let one = c.number_behind-changes.ensures.is (codes "image3 ") (f2 ++ (f3 ++ (f4 ++ (f5 ++ (f6 ++ (f7 ++ (f8 ++ tail))))))) l.changes refl fits.changes whole in
    let two = c.number_behind-undone.ensures.is (codes " ") (f3 ++ (f4 ++ (f5 ++ (f6 ++ (f7 ++ (f8 ++ tail)))))) l.undone refl fits.undone one.1 in
    let three = c.number_behind-length.ensures.is (codes " ") (f4 ++ (f5 ++ (f6 ++ (f7 ++ (f8 ++ tail))))) l.length refl fits.length two.1 in
    let four = c.number_behind-last.ensures.is (codes " ") (f5 ++ (f6 ++ (f7 ++ (f8 ++ tail)))) l.last.high refl fits.last_high three.1 in
    let five = c.number_behind-last_low.ensures.is [] (f6 ++ (f7 ++ (f8 ++ tail))) l.last.low refl fits.last_low four.1 in
    let six = c.number_behind-next.ensures.is (codes " ") (f7 ++ (f8 ++ tail)) l.next.high refl fits.next_high five.1 in
    let seven = c.number_behind-next_low.ensures.is [] (f8 ++ tail) l.next.low refl fits.next_low six.1 in
    let eight = c.number_behind-others.ensures.is (codes " ") tail l.others refl fits.others seven.1 in
    let nine = c.number_behind-least.ensures.is (codes " ") (f10 ++ (f11 ++ f12)) l.least refl fits.least eight.1 in
    let ten = c.number_behind-most.ensures.is (codes " ") (f11 ++ f12) l.most refl fits.most nine.1 in
    let marks = c.marks_before-marks.ensures l.marks f12 fits.marks ten.1 in
    rw (one.0, two.0, three.0, four.0, five.0, six.0, seven.0, eight.0, nine.0, ten.0, marks) refl
