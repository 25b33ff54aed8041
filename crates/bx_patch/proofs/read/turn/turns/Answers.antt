use Rattle.std.proofs.Common.{◌≡◌, false, true}
use Rattle.std.specs.Option.{option_map}
use Rattle.bx_read.specs.Text.{contents}
use Rattle.bx_patch.specs.declared.read.lengths.PatchLengths.{PatchLengths}
use Rattle.bx_patch.proofs.WalkLemmas.{turns_no, turns_yes}
use Rattle.bx_patch.proofs.read.turn.turns.Goals as goal

pub returns-then-not-reach_all : goal.returns-then-not-reach_all
returns-then-not-reach_all g c = (
  λ is. let no : false ≡ true = is in cc,
  λ turns. absurd (turns_no (option_map (λ (lengths : PatchLengths). (lengths.old, lengths.new)) c.args.lengths) (contents c.args.expected.now) (contents c.args.written.now) c.requires.old c.requires.new
      (c.are_in_order.ensures.0 c.if-not-are_in_order.false) (c.are_in_order-2.ensures.0 c.if-not-are_in_order-2.false) c.limit_of-below.result c.limit_of-below.ensures
      c.reach_all.result c.reach_all.ensures c.if-not-reach_all.true turns),
)

pub returns : goal.returns
returns g c =
    turns_yes (option_map (λ (lengths : PatchLengths). (lengths.old, lengths.new)) c.args.lengths) (contents c.args.expected.now) (contents c.args.written.now) c.requires.old c.requires.new
    (c.are_in_order.ensures.0 c.if-not-are_in_order.false) (c.are_in_order-2.ensures.0 c.if-not-are_in_order-2.false) c.limit_of-below.result c.limit_of-below.ensures
    c.reach_all.result c.reach_all-2.result (c.reach_cut.ensures.0 c.if-not-reach_cut.false) c.reach_all.ensures c.if-not-reach_all.false c.reach_all-2.ensures
