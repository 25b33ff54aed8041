-- Records that go out as they are finished.
use Rattle.std.proofs.Common.{◌≡◌, ◌≢◌, ℕ, ◌+◌, ◌-◌, ◌*◌, ◌/◌, ◌<◌, ◌≤◌, Bool, true, false, cond, List, [], ◌∷◌, ◌++◌, length, take, drop, replicate, Option, refl, sym, ap, ◌∙◌, arith, append_assoc, subst}
use Rattle.std.specs.List.{flat_map}
use Rattle.std.specs.Prelude.{◌==◌}
use Rattle.std.proofs.Math.Nat.{div-add-mod}
use Rattle.std.proofs.lemmas.Grind.{flat_map-append}
use Rattle.std.proofs.lemmas.List.{length-append, take-append-drop}
use Rattle.bx_text.specs.InPieces.{in_pieces}
use Rattle.bx_text.specs.declared.fault.IoFault.{IoFault}
use Rattle.bx_text.specs.Writing.{WritesFront}
use Rattle.bx_text.proofs.PiecesLemmas.{in_pieces-append}
use Rattle.bx_dd.specs.declared.form.Shape.{Shape}
use Rattle.bx_dd.specs.declared.form.Shape.TheVariants.{Flat, Block, Unblock}
use Rattle.bx_dd.specs.Output.{records, shaped, unfinished}
use Rattle.bx_dd.specs.private.Output.{fitted, line_of}
use Rattle.bx_dd.specs.Standing.{Stands}
use Rattle.bx_dd.specs.private.Standing.{finished, record_rest, last_of}
use Rattle.bx_dd.specs.declared.convert.records.Tail.{Tail}
use Rattle.bx_dd.specs.private.Streaming.{Flows, Output, StopsFlow}
use Rattle.bx_dd.proofs.RecordsLemmas.{Stands_flat, finished-all, finished-ended, fitted_short, held_piece, parts, piece_taken, records-after}
use Rattle.bx_dd.proofs.StreamLemmas.{front_more}

flat_all : (size : ℕ) (z : List ℕ) → unfinished Flat size z ≡ 0
unfolding unfinished
flat_all size z = refl

-- what is written stays a front of what more bytes give
pub stands_front : (shape : Shape) (size : ℕ) (z text kept : List ℕ) (was_cut : Bool) (count : ℕ) → (shape ≢ Flat → 0 < size) → Stands shape size z text kept was_cut count →
    (more : List ℕ) → (rest : List ℕ) × (shaped shape size (z ++ more) ≡ text ++ rest)
unfolding shaped fitted line_of
stands_front Flat size z text kept was_cut count some stands more =
    (more, ap (λ l. l ++ more) (sym (stands.out ∙ finished-all Flat size z (flat_all size z))))
stands_front Block size z text kept was_cut count some stands more =
    let d = finished Block size z in
    let r = record_rest Block size z in
    let whole : z ++ more ≡ d ++ (r ++ more) = ap (λ l. l ++ more) (sym (parts Block size z)) ∙ append_assoc d r more in
    let lines : records (z ++ more) ≡ records d ++ records (r ++ more) = ap records whole ∙ records-after d (r ++ more) (finished-ended size z) in (
      flat_map (fitted size) (records (r ++ more)),
      ap (flat_map (fitted size)) lines ∙ flat_map-append (fitted size) (records d) (records (r ++ more)) ∙ ap (λ l. l ++ flat_map (fitted size) (records (r ++ more))) (sym stands.out),
    )
stands_front Unblock size z text kept was_cut count some stands more =
    let pos : 0 < size = some (λ e. cc) in
    let d = finished Unblock size z in
    let r = record_rest Unblock size z in
    let whole : z ++ more ≡ d ++ (r ++ more) = ap (λ l. l ++ more) (sym (parts Unblock size z)) ∙ append_assoc d r more in
    let d_len : length d ≡ size * (length z / size) = omega (arith, length-append d r, ap length (parts Unblock size z), held_piece size z pos, div-add-mod (length z) size) in (
      in_pieces line_of size (r ++ more),
      ap (in_pieces line_of size) whole ∙ in_pieces-append line_of size (length z / size) d (r ++ more) pos d_len ∙ ap (λ l. l ++ in_pieces line_of size (r ++ more)) (sym stands.out),
    )

-- a front of what is written is a front of what more bytes give
pub stops_flow : (shape : Shape) (size : ℕ) (s n : Option (List ℕ)) (z text kept : List ℕ) (was_cut : Bool) (count : ℕ) (e : IoFault) → (shape ≢ Flat → 0 < size) →
    Stands shape size z text kept was_cut count → WritesFront 0 s n text e → StopsFlow shape size s n z e
stops_flow shape size s n z text kept was_cut count e some stands stop more =
    let front = stands_front shape size z text kept was_cut count some stands more in
    subst (λ (l : List ℕ). WritesFront 0 s n l e) (sym front.1) (front_more 0 s n text front.0 e stop)

-- more bytes that were given
pub stops_more : (shape : Shape) (size : ℕ) (s n : Option (List ℕ)) (x y z : List ℕ) (e : IoFault) → x ++ y ≡ z → StopsFlow shape size s n x e → StopsFlow shape size s n z e
stops_more shape size s n x y z e is stop more =
    subst (λ (l : List ℕ). WritesFront 0 s n (shaped shape size l) e) (sym (append_assoc x y more) ∙ ap (λ l. l ++ more) is) (stop (y ++ more))

pub fitted_text : (text held : List ℕ) (n : ℕ) → length held ≤ n → (text ++ held) ++ replicate (n - length held) 32 ≡ text ++ fitted n held
fitted_text text held n fits = append_assoc text held (replicate (n - length held) 32) ∙ ap (λ l. text ++ l) (sym (fitted_short n held fits))

pub line_text : (text held front : List ℕ) → front ++ 10 ∷ [] ≡ line_of held → (text ++ front) ++ 10 ∷ [] ≡ text ++ line_of held
line_text text held front is = append_assoc text front (10 ∷ []) ∙ ap (λ l. text ++ l) is

-- a piece, and the bytes behind it
pub piece_rest : (z bytes : List ℕ) (d n m : ℕ) → m ≡ n → ((z ++ take d bytes) ++ take m (drop d bytes)) ++ drop (d + n) bytes ≡ z ++ bytes
piece_rest z bytes d n m e = ap (λ l. l ++ drop (d + n) bytes) (piece_taken z bytes d n m e) ∙ append_assoc z (take (d + n) bytes) (drop (d + n) bytes) ∙ ap (λ l. z ++ l) (take-append-drop (d + n) bytes)

-- a front of the bytes, and the bytes behind it
pub front_rest : (z bytes x : List ℕ) (d : ℕ) → x ≡ z ++ take d bytes → x ++ drop d bytes ≡ z ++ bytes
front_rest z bytes x d is = ap (λ l. l ++ drop d bytes) is ∙ append_assoc z (take d bytes) (drop d bytes) ∙ ap (λ l. z ++ l) (take-append-drop d bytes)

-- bytes that finish no record are kept, and nothing is put
module _ {shape : Shape} {size : ℕ} {start : Option (List ℕ)} {z : List ℕ} {out : Output} {tail : Tail} (flows : Flows shape size start z out tail) where
  pub held_on : (t held : List ℕ) (over : Bool) → Stands shape size (z ++ t) flows.text held over tail.cut →
      Flows shape size start (z ++ t) (record { now = out.now; waits = out.waits; written = out.written; kept = held }) (record { over = over; cut = tail.cut })
  held_on t held over stands = record { text = flows.text; stands = stands; goes = flows.goes }

-- bytes as they are
pub flat_put : (shape : Shape) (size : ℕ) (z text kept bytes : List ℕ) (was_cut : Bool) (count : ℕ) → shape ≡ Flat → Stands shape size z text kept was_cut count →
    Stands shape size (z ++ bytes) (text ++ bytes) kept was_cut count
flat_put shape size z text kept bytes was_cut count is stands =
    let now = subst (λ (s : Shape). Stands s size z text kept was_cut count) is stands in
    subst (λ (s : Shape). Stands s size (z ++ bytes) (text ++ bytes) kept was_cut count) (sym is) (Stands_flat size z text kept bytes was_cut count now)

pub last_block : (shape : Shape) (size : ℕ) (kept : List ℕ) → shape ≡ Block → (length kept == 0) ≡ false → last_of shape size kept ≡ fitted size kept
last_block shape size kept is some = rw (is, some) refl

pub last_unblock : (shape : Shape) (size : ℕ) (kept : List ℕ) → shape ≡ Unblock → (length kept == 0) ≡ false → last_of shape size kept ≡ line_of kept
last_unblock shape size kept is some = rw (is, some) refl

pub cut_all : (over : Bool) (cut : ℕ) → cond over (cut + 1) cut ≡ cut + cond over 1 0
cut_all true cut = refl
cut_all false cut = omega arith
