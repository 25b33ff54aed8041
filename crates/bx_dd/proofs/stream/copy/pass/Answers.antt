use Rattle.std.proofs.Common.{◌≡◌, ℕ, List, ◌+◌, ◌-◌, ◌%◌, ◌++◌, length, take, drop, sym, ap, ◌∙◌, arith}
use Rattle.std.proofs.Math.Seq.{take-add}
use Rattle.std.proofs.lemmas.List.{length-take-le}
use Rattle.bx_dd.specs.declared.form.Form.{Form}
use Rattle.bx_dd.specs.Output.{turned_blocks}
use Rattle.bx_dd.specs.private.Streaming.{unit_of}
use Rattle.bx_dd.proofs.UnitLemmas.{take_front}
use Rattle.bx_dd.proofs.CopyLemmas.{drop_front, less_whole, stage_pass, stage_stops}
use Rattle.bx_dd.proofs.stream.copy.pass.Goals as goal
use Rattle.bx_dd.proofs.stream.copy.pass.Goals.{After-turn_units}

pub turn_units-requires-clause-whole : goal.turn_units-requires-clause-whole
turn_units-requires-clause-whole g c =
    let w = c.args.turn.have - c.args.turn.have % c.unit_len.result in
    let len : length (take w c.args.buf.now) ≡ w = length-take-le w c.args.buf.now (omega (arith, c.requires.inside)) in
    ap (λ k. k % unit_of c.args.form) len ∙ ap (λ u. w % u) (sym c.unit_len.ensures.unit) ∙ less_whole c.args.turn.have c.unit_len.result c.unit_len.ensures.some

-- the whole units in front of a buffer, and what they were turned into
record AreTurned (form : Form) (buf turned : List ℕ) (got w : ℕ) : Type 0 where
  pub whole : length (take w buf) % unit_of form ≡ 0
  pub long : length turned ≡ w
  pub split : take got buf ≡ take w buf ++ take (got - w) (drop w buf)
  pub put : take w (turned ++ drop w buf) ≡ turned_blocks form (take w buf)

turned_units : (g : _) (c : After-turn_units g) → AreTurned c.args.form c.args.buf.now c.turn_units.new.bytes c.args.turn.have (c.args.turn.have - c.args.turn.have % c.unit_len.result)
turned_units g c =
    let buf = c.args.buf.now in
    let got = c.args.turn.have in
    let w = got - got % c.unit_len.result in
    let turned = c.turn_units.new.bytes in
    let len : length (take w buf) ≡ w = length-take-le w buf (omega (arith, c.requires.inside)) in
    let long : length turned ≡ w = c.turn_units.auto.bytes ∙ len in
    let all : w + (got - w) ≡ got = omega arith in
    record {
      whole = ap (λ k. k % unit_of c.args.form) len ∙ ap (λ u. w % u) (sym c.unit_len.ensures.unit) ∙ less_whole got c.unit_len.result c.unit_len.ensures.some;
      long = long;
      split = ap (λ k. take k buf) (sym all) ∙ take-add w (got - w) buf;
      put = take_front w turned (drop w buf) long ∙ c.turn_units.ensures;
    }

pub returns-in-Ok-clause-ok : goal.returns-in-Ok-clause-ok
returns-in-Ok-clause-ok g c input start stage =
    let units = turned_units g (goal.at.returns-in-Ok-clause-ok g c).After-turn_units in
    let buf = c.args.buf.now in
    let got = c.args.turn.have in
    let w = got - got % c.unit_len.result in
    let turned = c.turn_units.new.bytes in
    let rest = take (got - w) (drop w buf) in
    let left : take (got - w) c.move_front.new.buf ≡ rest = c.move_front.ensures ∙ ap (take (got - w)) (drop_front w turned (drop w buf) units.long) in
    rw left (stage_pass stage (take w buf) rest units.split units.whole c.requires.sizes (take w (turned ++ drop w buf)) units.put (c.in-Ok.ensures.ok (turned_blocks c.args.form stage.done) start stage.flows))

pub returns-in-Err-clause-err : goal.returns-in-Err-clause-err
returns-in-Err-clause-err g c input start stage =
    let units = turned_units g (goal.at.returns-in-Err-clause-err g c).After-turn_units in
    let buf = c.args.buf.now in
    let got = c.args.turn.have in
    let w = got - got % c.unit_len.result in
    stage_stops stage (take w buf) (take (got - w) (drop w buf)) units.split units.whole c.requires.sizes _ (take w (c.turn_units.new.bytes ++ drop w buf)) c.in-Err.fault units.put
    (c.in-Err.ensures.err (turned_blocks c.args.form stage.done) start stage.flows)
