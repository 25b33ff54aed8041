use Rattle.std.proofs.Common.{◌≡◌, ◌+◌, ◌-◌, ◌*◌, ◌^◌, ◌<◌, ◌≤◌, ◌++◌, length, replicate, get_or, arith, ap, sym, ◌∙◌, ℕ, reverse, add-one}
use Rattle.std.proofs.Math.Nat.{pow-suc, pow-le-pow_right}
use Rattle.std.proofs.lemmas.List.{length-append, length-replicate, take_all}
use Rattle.bx_dump_columns.specs.Values.{value_of}
use Rattle.bx_dump_columns.proofs.OdLemmas.{value_behind, get_or-zeros}
use Rattle.bx_dump_columns.proofs.od.values.big_value.Goals as goal

pub overflow_mul-value : goal.overflow_mul-value
overflow_mul-value c =
    let few : 256 ^ c.loop-place.place ≤ 256 ^ 7 = pow-le-pow_right {n = 256} (omega arith) {i = c.loop-place.place} {j = 7} (omega arith) in
    omega (arith, c.loop-place.invariant.below)

pub overflow_add-value : goal.overflow_add-value
overflow_add-value c =
    let few : 256 ^ c.loop-place.place ≤ 256 ^ 7 = pow-le-pow_right {n = 256} (omega arith) {i = c.loop-place.place} {j = 7} (omega arith) in
    omega (arith, c.loop-place.invariant.below)

pub loop-place-preserved : goal.loop-place-preserved
loop-place-preserved c =
    let before = c.loop-place.invariant in
    let place = c.loop-place.place in
    let bytes = c.args.bytes.now in
    let zeros = c.args.width - length bytes in
    let all = bytes ++ replicate zeros 0 in
    let long : length all ≡ c.args.width = omega (arith, length-append bytes (replicate zeros 0), length-replicate {A = ℕ} zeros 0, c.requires.few) in
    let power : 256 ^ (place + 1) ≡ 256 ^ place * 256 = rw add-one (pow-suc 256 place) in
    let byte : c.byte_at.result ≡ get_or all place 0 = c.byte_at.ensures ∙ sym (get_or-zeros bytes zeros place) in
    record {
      value = rw (value_behind all place (omega arith)) (omega (arith, before.value, byte));
      below = rw power (omega (arith, before.below));
    }

pub returns-clause-value : goal.returns-clause-value
returns-clause-value c =
    let bytes = c.args.bytes.now in
    let zeros = c.args.width - length bytes in
    let all = bytes ++ replicate zeros 0 in
    let long : length all ≡ c.args.width = omega (arith, length-append bytes (replicate zeros 0), length-replicate {A = ℕ} zeros 0, c.requires.few) in
    c.loop-place.invariant.value ∙ ap (λ xs. value_of (reverse xs)) (take_all c.loop-place.place all (omega arith))
