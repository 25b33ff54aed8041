use Rattle.std.proofs.Common.{rules, ◌≡◌, ℕ, ◌+◌, ◌++◌, length, take, arith, ◌∙◌}
use Rattle.std.proofs.lemmas.List.{length-take-le, length-append}
use Rattle.bx_text.proofs.KnownLemmas.{Consumes-trans}
use Rattle.bx_text.specs.Stream.{IsReadCause, IsRestCause}
use Rattle.bx_text.specs.declared.fault.IoFault.{IoFault}
use Rattle.bx_text.specs.declared.fault.IoFault.TheVariants.{NoMemory, ReadFailed, WriteFailed, InputTooLong, SkipPastEnd}
use Rattle.bx_text.proofs.stream.Source.rest.Goals as goal

cause_more : (e : IoFault) (wanted room more n m k : ℕ) → IsReadCause e wanted room n → m ≡ k + n → more ≡ k + room → IsRestCause e more m
cause_more ReadFailed wanted room more n m k p q r = omega (arith, p.1)
cause_more InputTooLong wanted room more n m k p q r = omega (arith, p.1)
cause_more NoMemory wanted room more n m k p q r = absurd p
cause_more (WriteFailed written) wanted room more n m k p q r = absurd p
cause_more SkipPastEnd wanted room more n m k p q r = absurd p

pub returns-in-Err-clause-stops : goal.returns-in-Err-clause-stops
returns-in-Err-clause-stops g c =
    record {
      err = search rules;
      memory = search rules;
      stopped = λ was_open.
          let before = c.loop-count.invariant in
          let more = c.in-Err.ensures.stops.stopped (before.state ∙ was_open) in (
            c.loop-count.bytes.items ++ more.0,
            Consumes-trans _ _ _ _ _ before.bytes more.1,
            cause_more c.in-Err.fault _ _ _ _ _ (length c.loop-count.bytes.items) more.2 (omega (arith, length-append c.loop-count.bytes.items more.0))
                (omega (arith, before.taken, before.limit, c.loop-count.self.meter.within)),
          );
      counted =
          let before = c.loop-count.invariant in
          let more = c.in-Err.ensures.stops.counted in
          let front = c.loop-count.bytes.items in
          (front ++ more.0, Consumes-trans _ _ _ _ _ before.bytes more.1, omega (arith, more.2, before.taken, before.limit, length-append front more.0));
    }

pub returns-then-is_err-clause-stops : goal.returns-then-is_err-clause-stops
returns-then-is_err-clause-stops g c =
    record {
      err = search rules;
      memory = search rules;
      stopped = λ was_open.
          let before = c.loop-count.invariant in
          let read = c.in-Ok.ensures in
          let part = take c.in-Ok.count c.fill.new.buf in
          let same = c.give_up.ensures.reader in (
            c.loop-count.bytes.items ++ part,
            rw same (Consumes-trans _ _ _ _ _ before.bytes read.bytes),
            omega (arith, length-append c.loop-count.bytes.items part, length-take-le c.in-Ok.count c.fill.new.buf read.bound.0, before.taken, before.limit, read.taken, read.limit, c.fill.new.self.meter.within),
          );
      counted =
          let before = c.loop-count.invariant in
          let read = c.in-Ok.ensures in
          let front = c.loop-count.bytes.items in
          let part = take c.in-Ok.count c.fill.new.buf in
          let same = c.give_up.ensures.reader in (
            front ++ part,
            rw same (Consumes-trans _ _ _ _ _ before.bytes read.bytes),
            omega (arith, length-append front part, length-take-le c.in-Ok.count c.fill.new.buf read.bound.0, before.taken, before.limit, read.taken, read.limit, c.give_up.ensures.taken, c.fill.new.self.meter.within),
          );
    }
