-- Whoever has a permission of a text that may be opened has that of its image.
use Rattle.std.proofs.Common.{◌≡◌, ℕ, Bool, true, false, not, cond, ◌&&◌, ◌||◌, Option, None, Some, refl, ap}
use Rattle.std.specs.Prelude.{◌==◌, if◌then◌else◌}
use Rattle.std.proofs.lemmas.Bool.Decides.{Decides-eqb}
use Rattle.bx_world.specs.Persons.{Person, ReadersMayReadImage, WritersMayWriteImage, has_class}
use Rattle.bx_world.specs.Rule.{is_no_wider, is_regular, is_writer, text_unfit}
use Rattle.bx_world.specs.declared.rule.Unfit.{Unfit}
use Rattle.bx_world.specs.declared.rule.Unfit.TheVariants.{Kind as WrongKind, Names, Owner, Readers, Writers}
use Rattle.bx_world.specs.declared.stat.Classes.{Classes}
use Rattle.bx_world.specs.declared.stat.Stat.{Stat}

-- a test of a chain that ends in none was false
past : (b : Bool) (u : Unfit) (rest : Option Unfit) → (if b then Some u else rest) ≡ None → rest ≡ None
past true u rest e = absurd (let wrong : Some u ≡ None = e in cc)
past false u rest e = e

passed : (b : Bool) (u : Unfit) (rest : Option Unfit) → (if not b then Some u else rest) ≡ None → b ≡ true
passed true u rest e = refl
passed false u rest e = absurd (let wrong : Some u ≡ None = e in cc)

-- what the tests behind that of the owner come to
abbrev behind_owner : Stat → Stat → Option Unfit
behind_owner image text =
    if not (is_no_wider (text.group == image.group) text.reads image.reads) then Some Readers else
    if not (is_no_wider (text.group == image.group) text.writes image.writes) then Some Writers else
    None

owned : (caller : ℕ) (image text : Stat) → text_unfit caller image false text ≡ None → behind_owner image text ≡ None
owned caller image text fit =
    let names = past (not (is_regular text.kind)) WrongKind _ fit in
    let owner = past (not (text.links == 1)) Names _ names in
    past (not (is_writer caller image text)) Owner _ owner

-- a member of either group, and whoever is none, has what both groups' classes have
by_cases : (same t i : Bool) (tg to ig io : Bool) → (same ≡ true → t ≡ i)
    → ((not tg || cond same ig (ig && io)) && (not to || cond same io (ig && io))) ≡ true → cond t tg to ≡ true → cond i ig io ≡ true
by_cases same true true true to true io eq wide has = refl
by_cases true true true true to false io eq wide has = absurd (let wrong : false ≡ true = wide in cc)
by_cases false true true true to false io eq wide has = absurd (let wrong : false ≡ true = wide in cc)
by_cases same true true false to ig io eq wide has = absurd (let wrong : false ≡ true = has in cc)
by_cases true true false tg to ig io eq wide has = absurd (let wrong : true ≡ false = eq refl in cc)
by_cases false true false true to true true eq wide has = refl
by_cases false true false true to true false eq wide has = absurd (let wrong : false ≡ true = wide in cc)
by_cases false true false true to false io eq wide has = absurd (let wrong : false ≡ true = wide in cc)
by_cases false true false false to ig io eq wide has = absurd (let wrong : false ≡ true = has in cc)
by_cases true false true tg to ig io eq wide has = absurd (let wrong : false ≡ true = eq refl in cc)
by_cases false false true tg true true io eq wide has = refl
by_cases false false true true true false io eq wide has = absurd (let wrong : false ≡ true = wide in cc)
by_cases false false true false true false io eq wide has = absurd (let wrong : false ≡ true = wide in cc)
by_cases same false true tg false ig io eq wide has = absurd (let wrong : false ≡ true = has in cc)
by_cases same false false tg to ig true eq wide has = refl
by_cases true false false true true true false eq wide has = absurd (let wrong : false ≡ true = wide in cc)
by_cases true false false true true false false eq wide has = absurd (let wrong : false ≡ true = wide in cc)
by_cases true false false false true ig false eq wide has = absurd (let wrong : false ≡ true = wide in cc)
by_cases false false false true true true false eq wide has = absurd (let wrong : false ≡ true = wide in cc)
by_cases false false false true true false false eq wide has = absurd (let wrong : false ≡ true = wide in cc)
by_cases false false false false true true false eq wide has = absurd (let wrong : false ≡ true = wide in cc)
by_cases false false false false true false false eq wide has = absurd (let wrong : false ≡ true = wide in cc)
by_cases same false false tg false ig false eq wide has = absurd (let wrong : false ≡ true = has in cc)

has_too : (image text : Stat) (p : Person) (t i : Classes) → is_no_wider (text.group == image.group) t i ≡ true → has_class p text t ≡ true
    → has_class p image i ≡ true
has_too image text p t i wide has =
    by_cases (text.group == image.group) (p.is_member text.group) (p.is_member image.group) t.group t.others i.group i.others
    (λ same. ap p.is_member ((Decides-eqb text.group image.group).0 same)) wide has

pub readers_may : ReadersMayReadImage
readers_may caller image text p fit has =
    let wide = passed (is_no_wider (text.group == image.group) text.reads image.reads) Readers _ (owned caller image text fit) in
    has_too image text p text.reads image.reads wide has

pub writers_may : WritersMayWriteImage
writers_may caller image text p fit has =
    let behind = past (not (is_no_wider (text.group == image.group) text.reads image.reads)) Readers _ (owned caller image text fit) in
    let wide = passed (is_no_wider (text.group == image.group) text.writes image.writes) Writers _ behind in
    has_too image text p text.writes image.writes wide has
