use Rattle.std.proofs.Common.{◌≡◌, ◌<◌, ◌-◌, ◌++◌, length, take, drop}
use Rattle.std.specs.Option.{option_map}
use Rattle.bx_read.specs.Digits.{pairs_of}
use Rattle.bx_read.proofs.line.decode_pairs.Given as goal

-- the bytes so far and those of the rest are all
abbrev pub invariant-loop-at : goal.invariant-loop-at
invariant-loop-at l = record {
  within : l.at < length l.hex;
  all : pairs_of l.hex ≡ option_map (λ more. take l.count l.out ++ more) (pairs_of (drop l.at l.hex));
  full : l.count < 256;
  rest : drop l.count l.out ≡ drop l.count l.initial.out;
}

abbrev pub decreases-loop-at : goal.decreases-loop-at
decreases-loop-at l = length l.hex - l.at
