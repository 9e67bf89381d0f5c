-- What a table keeps stays in its range, whatever it is told.
use Rattle.std.proofs.Common.{◌≡◌, ◌≤◌, ◌<◌, ℕ, zero, suc, ◌+◌, ◌-◌, ◌*◌, ◌/◌, ◌^◌, Bool, true, false, cond, List, [], ◌∷◌, Option, Some, None, refl, sym, subst, arith}
use Rattle.std.specs.Prelude.{not, nat_le, Result, Ok, Err, IfSome}
use Rattle.std.specs.List.{AllByRecursion}
use Rattle.std.proofs.lemmas.Bool.Decides.{nat_tests}
use Rattle.std.proofs.lemmas.Nat.{div_below}
use Rattle.rtp_units.specs.declared.shared.Address.{Address}
use Rattle.rtcp_wire.specs.declared.block.ReportBlock.{ReportBlock}
use Rattle.source_table.specs.declared.counts.Counts.{Counts}
use Rattle.source_table.specs.declared.source.Source.{Source}
use Rattle.source_table.specs.declared.source.Packet.{Packet}
use Rattle.source_table.specs.declared.source.Heard.{Heard}
use Rattle.source_table.specs.declared.answers.Refuse.{Refuse}
use Rattle.source_table.specs.declared.answers.Named.{Named}
use Rattle.source_table.specs.declared.answers.Named.TheVariants.{Unknown, Same, Changed}
use Rattle.source_table.specs.Counting.{expected_of, fraction_of}
use Rattle.source_table.specs.Sources.{report_next, left_next, is_gone, reported, block_of, block_from, hear_next}
use Rattle.source_table.specs.Table.{Table, kept, packet_of, changed_by}
use Rattle.source_table.specs.Answers.{source_or, heard, heard_next_by, named, name_next_by}
use Rattle.source_table.specs.History.{Call, Rtp, Reports, Leaves, Sets, Block, Blocks, Expires, table, table_next, StandsFor}
use Rattle.source_table.specs.Ranges.{AreCountsOf, AreCountsIn, IsSourceOf, AreSourcesOf}
use Rattle.source_table.specs.Limits.{HasNumber}
use Rattle.source_table.proofs.Ranging.{more_sources, fresh_in, heard_in, report_in, left_in, reported_in, put_in, found_in, filtered_in, all_reported_in}

-- ---- what a block tells

-- of e expected r were received, and at least one where more were expected
pub share_fits : (e r : ℕ) → r < e → 0 < r → (e - r) * 256 / e < 256
share_fits e r less some = div_below ((e - r) * 256) e 256 (omega (arith, less)) (omega (arith, less, some))

some_by : (r e : ℕ) → r < e → (r ≡ 0 → e ≡ 0) → 0 < r
some_by zero e less none = let no : e ≡ 0 = none refl in absurd (omega (arith, less, no))
some_by (suc r) e less none = omega arith

fraction_by : (b : Bool) (e r : ℕ) → nat_le e r ≡ b → (r ≡ 0 → e ≡ 0) → cond b 0 ((e - r) * 256 / e) < 256
fraction_by true e r is none = omega arith
fraction_by false e r is none =
    let less : r < e = grind (arith, nat_tests) in
    share_fits e r less (some_by r e less none)

pub fraction_fits : (n : ℕ) (c : Counts) → AreCountsOf n c → fraction_of c < 256
fraction_fits n c h =
    fraction_by (nat_le (expected_of c - c.prior_expected) (c.received - c.prior_received)) (expected_of c - c.prior_expected) (c.received - c.prior_received) refl
    (λ none. let few : c.received ≤ c.prior_received = omega (arith, none) in let all : expected_of c ≤ c.prior_expected = h.interval few in omega (arith, all))

told_by : (b : Bool) (x : ReportBlock) → x.fraction < 2 ^ 8 → x.jitter < 2 ^ 32 → IfSome (cond b (Some x) None) (λ y. (y.fraction < 2 ^ 8) × (y.jitter < 2 ^ 32))
told_by true x f j = (f, j)
told_by false x f j = tt

block_by : (o : Option Counts) (n : ℕ) (s : Source) (ssrc now : ℕ) → AreCountsIn n o → IsSourceOf n s → IfSome (block_from o s ssrc now) (λ b. (b.fraction < 2 ^ 8) × (b.jitter < 2 ^ 32))
block_by None n s ssrc now here h = tt
block_by (Some c) n s ssrc now here h = told_by s.spoke _ (fraction_fits n c here) (omega (arith, h.jitter))

pub fit_their_fields : (n : ℕ) (s : Source) (ssrc now : ℕ) → IsSourceOf n s → IfSome (block_of s ssrc now) (λ b. (b.fraction < 2 ^ 8) × (b.jitter < 2 ^ 32))
fit_their_fields n s ssrc now h = block_by s.counts n s ssrc now h.counts h

-- ---- calls

abbrev IsIn : Table → Type 0
IsIn t = AreSourcesOf t.heard t.sources

source_in : (o : Option Source) (n : ℕ) (from : Address) → ((s : Source) → o ≡ Some s → IsSourceOf n s) → IsSourceOf n (source_or from o)
source_in None n from h = fresh_in n from
source_in (Some s) n from h = h s refl

heard_by : (r : Result Heard Refuse) (t : Table) (from : Address) (ssrc : ℕ) (p : Packet) → p.seq < 65536 → IsIn t → IsIn (heard_next_by t from ssrc p r)
heard_by (Ok heard) t from ssrc p small h =
    put_in (t.heard + 1) t.sources ssrc (hear_next (source_or from (kept t ssrc)) p) (more_sources t.heard (t.heard + 1) t.sources (omega arith) h)
    (heard_in t.heard (source_or from (kept t ssrc)) p small (source_in (kept t ssrc) t.heard from (λ s e. found_in t.heard t.sources ssrc s h e)))
heard_by (Err refuse) t from ssrc p small h = h

changed_in : (o : Option Source) (t : Table) (ssrc : ℕ) (f : Source → Source) → kept t ssrc ≡ o → ((s : Source) → IsSourceOf t.heard s → IsSourceOf t.heard (f s))
    → IsIn t → IsIn (changed_by t ssrc o f)
changed_in None t ssrc f e keeps h = h
changed_in (Some s) t ssrc f e keeps h = put_in t.heard t.sources ssrc (f s) h (keeps s (found_in t.heard t.sources ssrc s h e))

named_in : (r : Named) (t : Table) (ssrc : ℕ) (text : List ℕ) → IsIn t → IsIn (name_next_by t ssrc text r)
named_in Unknown t ssrc text h = h
named_in Same t ssrc text h = h
named_in Changed t ssrc text h = h

call_in : (call : Call) (t : Table) → HasNumber call → IsIn t → IsIn (table_next t call)
call_in (Rtp now from view rate quick answer) t small h =
    heard_by (heard t from view.ssrc (packet_of t now view rate quick)) t from view.ssrc (packet_of t now view rate quick) small h
call_in (Reports now ssrc seconds fraction) t small h = changed_in (kept t ssrc) t ssrc (λ s. report_next s now seconds fraction) refl (λ s. report_in t.heard s now seconds fraction) h
call_in (Leaves ssrc) t small h = changed_in (kept t ssrc) t ssrc left_next refl (λ s. left_in t.heard s) h
call_in (Sets ssrc text answer) t small h = named_in (named t ssrc text) t ssrc text h
call_in (Block ssrc now) t small h = changed_in (kept t ssrc) t ssrc reported refl (λ s. reported_in t.heard s) h
call_in (Blocks now) t small h = all_reported_in t.heard t.sources h
call_in (Expires now timeout) t small h = filtered_in t.heard (λ e. not (is_gone e.1 now timeout)) t.sources h

calls_in : (own probation : ℕ) (calls : List Call) → AllByRecursion HasNumber calls → IsIn (table own probation calls)
calls_in own probation [] small = tt
calls_in own probation (call ∷ before) small = call_in call (table own probation before) small.0 (calls_in own probation before small.1)

pub stay_in_range : (t : Table) (own probation : ℕ) (calls : List Call) → StandsFor t own probation calls → AllByRecursion HasNumber calls → AreSourcesOf t.heard t.sources
unfolding StandsFor
stay_in_range t own probation calls h small = subst IsIn (sym h.0) (calls_in own probation calls small)
