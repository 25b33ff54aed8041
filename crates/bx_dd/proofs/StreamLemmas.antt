-- Output that goes out part by part.
use Rattle.std.proofs.Common.{◌≡◌, ℕ, ◌+◌, ◌≤◌, Result, Ok, Err, List, [], ◌++◌, length, take, Option, Some, refl, sym, ap, ◌∙◌, arith, append_assoc, append-nil}
use Rattle.std.proofs.Math.Seq.{take-append-add}
use Rattle.std.proofs.lemmas.List.{length-append, take-append-le}
use Rattle.std.specs.Io.KnownBytes.{Appends}
use Rattle.bx_text.proofs.KnownLemmas.{Appends-trans, Appends-nil}
use Rattle.bx_text.specs.declared.fault.IoFault.{IoFault}
use Rattle.bx_text.specs.declared.fault.IoFault.TheVariants.{NoMemory, ReadFailed, WriteFailed, InputTooLong, SkipPastEnd}
use Rattle.bx_text.specs.Writing.{WritesFront}
use Rattle.bx_dd.specs.private.Streaming.{Goes, Grows, written_by}

-- nothing was put yet
pub Goes-nil : (s : Option (List ℕ)) → Goes s s [] 0 []
Goes-nil s = record { out = []; went = Appends-nil s; all = refl; count = refl }

-- bytes wait
pub Goes-keep : (s n : Option (List ℕ)) (waits text bytes next : List ℕ) (k : ℕ) → next ≡ waits ++ bytes → Goes s n waits k text → Goes s n next k (text ++ bytes)
Goes-keep s n waits text bytes next k is g = record {
  out = g.out;
  went = g.went;
  all = ap (λ l. l ++ bytes) g.all ∙ append_assoc g.out waits bytes ∙ ap (λ l. g.out ++ l) (sym is);
  count = g.count;
}

-- what waited went out
pub Goes-sent : (s m n : Option (List ℕ)) (waits text next : List ℕ) (k j : ℕ) → next ≡ [] → j ≡ k + length waits → Appends m n waits → Goes s m waits k text → Goes s n next j text
Goes-sent s m n waits text next k j none more sent g = record {
  out = g.out ++ waits;
  went = Appends-trans s m n g.out waits g.went sent;
  all = g.all ∙ sym (append-nil (g.out ++ waits)) ∙ ap (λ l. (g.out ++ waits) ++ l) (sym none);
  count = omega (arith, more, g.count, length-append g.out waits);
}

-- nothing waits, and bytes go out
pub Goes-through : (s m n : Option (List ℕ)) (waits text bytes : List ℕ) (k j : ℕ) → waits ≡ [] → j ≡ k + length bytes → Appends m n bytes → Goes s m waits k text → Goes s n waits j (text ++ bytes)
Goes-through s m n waits text bytes k j none more sent g =
    let kept = Goes-keep s m waits text bytes bytes k (ap (λ l. l ++ bytes) (sym none)) g in
    Goes-sent s m n bytes (text ++ bytes) waits k j none more sent kept

-- a front of more is a front of all
pub front_goes : (s m n : Option (List ℕ)) (waits text : List ℕ) (k : ℕ) (e : IoFault) → Goes s m waits k text → WritesFront k m n waits e → WritesFront 0 s n text e
front_goes s m n waits text k (WriteFailed written) g stop =
    let front = stop.0 in (
      length g.out + front,
      omega (arith, stop.1, g.count),
      omega (arith, stop.2, ap length g.all, length-append g.out waits),
      let part : take (length g.out + front) text ≡ g.out ++ take front waits = ap (take (length g.out + front)) g.all ∙ take-append-add g.out waits front in
          rw part (Appends-trans s m n g.out (take front waits) g.went stop.3),
    )
front_goes s m n waits text k NoMemory g stop = absurd stop
front_goes s m n waits text k ReadFailed g stop = absurd stop
front_goes s m n waits text k InputTooLong g stop = absurd stop
front_goes s m n waits text k SkipPastEnd g stop = absurd stop

pub front_through : (s m n : Option (List ℕ)) (waits text bytes : List ℕ) (k : ℕ) (e : IoFault) → waits ≡ [] → Goes s m waits k text → WritesFront k m n bytes e → WritesFront 0 s n (text ++ bytes) e
front_through s m n waits text bytes k e none g stop =
    front_goes s m n bytes (text ++ bytes) k e (Goes-keep s m waits text bytes bytes k (ap (λ l. l ++ bytes) (sym none)) g) stop

pub front_more : (k : ℕ) (s n : Option (List ℕ)) (xs ys : List ℕ) (e : IoFault) → WritesFront k s n xs e → WritesFront k s n (xs ++ ys) e
front_more k s n xs ys (WriteFailed written) stop = (
  stop.0,
  stop.1,
  omega (arith, stop.2, length-append xs ys),
  rw (take-append-le stop.0 xs ys (omega (arith, stop.2))) stop.3,
)
front_more k s n xs ys NoMemory stop = absurd stop
front_more k s n xs ys ReadFailed stop = absurd stop
front_more k s n xs ys InputTooLong stop = absurd stop
front_more k s n xs ys SkipPastEnd stop = absurd stop

-- a list that is written to, with nothing waiting
pub Goes-direct : (out waits : List ℕ) (k : ℕ) → waits ≡ [] → k ≡ length out → Goes (Some []) (Some out) waits k out
Goes-direct out waits k none is = record { out = out; went = refl; all = sym (append-nil out) ∙ ap (λ l. out ++ l) (sym none); count = is }

pub Goes-landed : (now waits text : List ℕ) (k : ℕ) → waits ≡ [] → Goes (Some []) (Some now) waits k text → text ≡ now
Goes-landed now waits text k none g = g.all ∙ ap (λ l. g.out ++ l) none ∙ append-nil g.out ∙ sym g.went

-- a failed write counts what went out before it
pub written_before : (k : ℕ) (s n : Option (List ℕ)) (bytes : List ℕ) (e : IoFault) → WritesFront k s n bytes e → k ≤ written_by e
written_before k s n bytes (WriteFailed written) stop = omega (arith, stop.1)
written_before k s n bytes NoMemory stop = absurd stop
written_before k s n bytes ReadFailed stop = absurd stop
written_before k s n bytes InputTooLong stop = absurd stop
written_before k s n bytes SkipPastEnd stop = absurd stop

pub Grows_then : {V : Type 0} (a b c : ℕ) (r : Result V IoFault) → a ≤ b → Grows b c r → Grows a c r
Grows_then a b c (Ok v) le grows = omega arith
Grows_then a b c (Err e) le grows = omega (arith, grows)
