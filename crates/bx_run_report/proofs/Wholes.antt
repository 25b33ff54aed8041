-- What a job makes behind bytes that a seek passed is what it makes of all of them.
use Rattle.std.proofs.Common.{◌≡◌, ◌⊎◌, ◌+◌, ◌-◌, ◌*◌, ◌≤◌, ◌++◌, ℕ, List, [], length, take, drop, Option, None, Some, Result, Ok, Err, refl, sym, ap, subst, ◌∙◌, inl, inr, arith}
use Rattle.std.specs.Prelude.{IfOk, MatchOption}
use Rattle.std.specs.Option.{IsSomeAnd, option_map_or}
use Rattle.std.specs.Io.KnownBytes.{Appends, Consumes, IsAtEnd}
use Rattle.std.proofs.Math.Nat.{mul-add, mul_comm, zero-mod}
use Rattle.std.proofs.lemmas.List.{append-nil, drop-append-le, drop-drop, length-drop, length-take-le, take-append-drop, take-append-le}
use Rattle.bx_dd.specs.declared.counts.Counts.{Counts}
use Rattle.bx_dd.specs.declared.operands.plan.Plan.{Plan}
use Rattle.bx_dd.specs.Behind.{IsPlanRest}
use Rattle.bx_dd.specs.Counting.{counts_of}
use Rattle.bx_dd.specs.Output.{converted}
use Rattle.bx_dd.specs.Plan.{plan_form}
use Rattle.bx_dd.specs.Transfer.{output_of, selected_by}
use Rattle.bx_dd.proofs.BehindLemmas.{rest_copies_behind}
use Rattle.bx_dump.specs.Behind.{behind}
use Rattle.bx_dump.specs.Pages.{Dump, WritesAll, bytes_dumped}
use Rattle.bx_dump.specs.Hexdump.{hexdump_of}
use Rattle.bx_dump.specs.OdDump.{od_of}
use Rattle.bx_dump.specs.Strings.{strings_of}
use Rattle.bx_dump.specs.Styles.{xxd_of}
use Rattle.bx_cli_commands.specs.declared.fault.Fault.{Fault}
use Rattle.bx_cli_commands.specs.declared.jobs.dump.Done.{Done}
use Rattle.bx_cli_commands.specs.declared.jobs.dump.Done.TheVariants.{Dumped, Copied}
use Rattle.bx_cli_commands.specs.declared.jobs.dumps.DumpJob.{DumpJob}
use Rattle.bx_cli_commands.specs.declared.jobs.dumps.DumpJob.TheVariants.{Od, Xxd, Hexdump, Strings, Dd}
use Rattle.bx_cli_commands.specs.jobs.JobDump.{CopiesBehind, DumpsJob}
use Rattle.bx_cli_commands.specs.jobs.Passing.{CanPass, skip_of}
use Rattle.bx_run_report.specs.dump.Dumps.{DumpsInput}
use Rattle.bx_run_report.specs.dump.Texts.{DumpsWhole, WritesWholeCopy, WritesWholeText}

-- the first of the bytes from a place on, as many as there may be
abbrev part : ℕ → Option ℕ → List ℕ → List ℕ
part skip most bytes = option_map_or (λ n. take n (drop skip bytes)) most (drop skip bytes)

enough : (skip most : ℕ) (input left : List ℕ) → length input ≡ skip + most → take most (drop skip input) ≡ take most (drop skip (input ++ left))
enough skip most input left long =
    let rest : length (drop skip input) ≡ most = omega (arith, length-drop skip input, long) in
    sym (ap (take most) (drop-append-le skip input left (omega (arith, long))) ∙ take-append-le most (drop skip input) left (omega (arith, rest)))

-- what was read up to its end is all
all_read : (bytes input left : List ℕ) → bytes ≡ input ++ left → left ≡ [] → input ≡ bytes
all_read bytes input left consumed end = sym (consumed ∙ ap (λ l. input ++ l) end ∙ append-nil input)

-- what was read has the part
part_read : (skip : ℕ) (most : Option ℕ) (bytes input : List ℕ) (left : Option (List ℕ)) → Consumes (Some bytes) left input
    → MatchOption most (IsAtEnd left) (λ m. (length input ≤ skip + m) × (IsAtEnd left ⊎ (length input ≡ skip + m))) → part skip most input ≡ part skip most bytes
part_read skip most bytes input None consumed ends = absurd consumed
part_read skip None bytes input (Some left) consumed end = ap (drop skip) (all_read bytes input left consumed end)
part_read skip (Some m) bytes input (Some left) consumed (few, inl end) = ap (λ l. take m (drop skip l)) (all_read bytes input left consumed end)
part_read skip (Some m) bytes input (Some left) consumed (few, inr far) = enough skip m input left far ∙ ap (λ l. take m (drop skip l)) (sym consumed)

-- the part of what stands behind n bytes is that of all
part_behind : (n skip : ℕ) (most : Option ℕ) (bytes : List ℕ) → n ≤ skip → part (skip - n) most (drop n bytes) ≡ part skip most bytes
part_behind n skip most bytes le =
    let place : n + (skip - n) ≡ skip = omega (arith, le) in
    ap (λ l. option_map_or (λ m. take m l) most l) (drop-drop (skip - n) n bytes ∙ ap (λ k. drop k bytes) place)

whole_text : (d : Dump) (n k : ℕ) (bytes : List ℕ) (left old new : Option (List ℕ)) → n ≤ d.skip
    → WritesAll (behind n d) (Some (drop n bytes)) left old new k → WritesWholeText d bytes k old new
whole_text d n k bytes left old new le done =
    let same : part (d.skip - n) d.limit done.input ≡ part d.skip d.limit bytes =
    part_read (d.skip - n) d.limit (drop n bytes) done.input left done.consumed done.ends ∙ part_behind n d.skip d.limit bytes le in
    (subst (λ l. Appends old new (d.text l)) same done.appended, ap length (sym same) ∙ done.dumped)

distributed : (a b c : ℕ) → (a + b) * c ≡ a * c + b * c
distributed a b c = mul_comm (a + b) c ∙ mul-add c a b ∙ rw (mul_comm c a, mul_comm c b) refl

-- the same of a copy's blocks
blocks_read : (skip size : ℕ) (count : Option ℕ) (bytes input : List ℕ) (left : Option (List ℕ)) → Consumes (Some bytes) left input
    → IsAtEnd left ⊎ IsSomeAnd count (λ n. length input ≡ (skip + n) * size)
    → option_map_or (λ n. take (n * size) (drop (skip * size) input)) count (drop (skip * size) input)
    ≡ option_map_or (λ n. take (n * size) (drop (skip * size) bytes)) count (drop (skip * size) bytes)
blocks_read skip size count bytes input None consumed ends = absurd consumed
blocks_read skip size count bytes input (Some left) consumed (inl end) =
    ap (λ l. option_map_or (λ n. take (n * size) (drop (skip * size) l)) count (drop (skip * size) l)) (all_read bytes input left consumed end)
blocks_read skip size None bytes input (Some left) consumed (inr far) = absurd far
blocks_read skip size (Some m) bytes input (Some left) consumed (inr far) =
    enough (skip * size) (m * size) input left (far ∙ distributed skip m size) ∙ ap (λ l. take (m * size) (drop (skip * size) l)) (sym consumed)

whole_copy : {A : Type 0} (plan : Plan A) (n : ℕ) (bytes : List ℕ) (left old new : Option (List ℕ)) (counts : Counts) → n ≤ length bytes
    → CopiesBehind n plan (Some (drop n bytes)) left old new counts → WritesWholeCopy plan bytes counts old new
whole_copy {A} plan n bytes left old new counts le (rest, is, (seek, (made, appended, copies))) =
    let here : IsPlanRest (length (take n bytes)) plan rest = subst (λ k. IsPlanRest k plan rest) (sym (length-take-le n bytes le)) is in
    let same : selected_by rest copies.read.0 ≡ selected_by rest (drop n bytes) =
    blocks_read rest.skip rest.ibs rest.count (drop n bytes) copies.read.0 left copies.read.1 copies.ends in
    let all = take-append-drop n bytes in
    let made_behind = rest_copies_behind A plan rest (take n bytes) (drop n bytes) here in
    let output : made ≡ output_of plan bytes = copies.made ∙ ap (converted (plan_form rest)) same ∙ made_behind.0 ∙ ap (output_of plan) all in
    let counted : counts ≡ counts_of (plan_form plan) (selected_by plan bytes) =
    copies.counted ∙ ap (counts_of (plan_form rest)) same ∙ made_behind.1 ∙ ap (λ l. counts_of (plan_form plan) (selected_by plan l)) all in
    (sym is.seek ∙ seek, subst (Appends old new) output appended, counted)

-- strings passes nothing
whole_strings : (d : Dump) (n k : ℕ) (bytes : List ℕ) (left old new : Option (List ℕ)) → n ≡ 0
    → WritesAll d (Some (drop n bytes)) left old new k → WritesWholeText d bytes k old new
whole_strings d n k bytes left old new none done =
    let same : part d.skip d.limit done.input ≡ part d.skip d.limit bytes =
    part_read d.skip d.limit (drop n bytes) done.input left done.consumed done.ends ∙ ap (λ m. part d.skip d.limit (drop m bytes)) none in
    (subst (λ l. Appends old new (d.text l)) same done.appended, ap length (sym same) ∙ done.dumped)

-- of each job
pub whole_of : (job : DumpJob) (n : ℕ) (bytes : List ℕ) (done : Done) (left old new : Option (List ℕ)) → CanPass n (skip_of job) → n ≤ length bytes
    → DumpsJob n job (Some (drop n bytes)) left old new done → DumpsWhole job bytes done old new
whole_of (Od job) n bytes (Dumped k) left old new may le is = whole_text (od_of job.options) n k bytes left old new may.0 is
whole_of (Xxd job) n bytes (Dumped k) left old new may le (s, style, is) = (s, style, whole_text (xxd_of s job.options) n k bytes left old new may.0 is)
whole_of (Hexdump job) n bytes (Dumped k) left old new may le is = whole_text (hexdump_of job.options) n k bytes left old new may.0 is
whole_of (Strings job) n bytes (Dumped k) left old new may le is = whole_strings (strings_of job.options) n k bytes left old new (omega (arith, may.0)) is
whole_of (Dd job) n bytes (Copied counts) left old new may le is = whole_copy job.plan n bytes left old new counts le is
whole_of (Od job) n bytes (Copied counts) left old new may le is = absurd is
whole_of (Xxd job) n bytes (Copied counts) left old new may le is = absurd is
whole_of (Hexdump job) n bytes (Copied counts) left old new may le is = absurd is
whole_of (Strings job) n bytes (Copied counts) left old new may le is = absurd is
whole_of (Dd job) n bytes (Dumped k) left old new may le is = absurd is

pub whole_ok : (job : DumpJob) (n : ℕ) (input left old new : Option (List ℕ)) (result : Result Done Fault) → CanPass n (skip_of job)
    → IfOk result (DumpsJob n job input left old new)
    → (bytes : List ℕ) → n ≤ length bytes → input ≡ Some (drop n bytes) → IfOk result (λ done. DumpsWhole job bytes done old new)
whole_ok job n input left old new (Ok done) may is bytes le here =
    whole_of job n bytes done left old new may le (subst (λ i. DumpsJob n job i left old new done) here is)
whole_ok job n input left old new (Err fault) may is bytes le here = tt

-- nothing may always be passed
pub none_passed : (job : DumpJob) → CanPass 0 (skip_of job)
none_passed (Od job) = (omega arith, omega arith)
none_passed (Xxd job) = (omega arith, omega arith)
none_passed (Hexdump job) = (omega arith, omega arith)
none_passed (Strings job) = (omega arith, omega arith)
none_passed (Dd job) = (omega arith, zero-mod job.plan.ibs)

-- where nothing was passed, what a job makes of an input is what it makes of all its bytes
pub whole_input : (job : DumpJob) (done : Done) (input left old new : Option (List ℕ)) → DumpsJob 0 job input left old new done
    → DumpsInput job input done old new
whole_input job done None left old new is = tt
whole_input job done (Some bytes) left old new is = whole_of job 0 bytes done left old new (none_passed job) (omega arith) is
