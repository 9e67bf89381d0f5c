-- A source is valid from the first packet on that ends a run.
use Rattle.std.proofs.Common.{◌≡◌, ◌≤◌, ◌↔◌, inl, inr, ℕ, Bool, true, false, cond, not, nat_eq, List, [], ◌∷◌, Option, Some, None, Ok, Err, max, refl, sym, ap, subst, ◌∙◌, arith}
use Rattle.std.specs.Prelude.{◌==◌, ◌&&◌, nat_lt, length, IsSome, option_map, if◌then◌else◌}
use Rattle.std.proofs.lemmas.Bool.{false≢true}
use Rattle.std.proofs.lemmas.Bool.Decides.{nat_tests}
use Rattle.rtp_units.specs.declared.shared.Address.{Address}
use Rattle.source_table.specs.declared.counts.Counts.{Counts}
use Rattle.source_table.specs.declared.source.Source.{Source}
use Rattle.source_table.specs.declared.source.Packet.{Packet}
use Rattle.source_table.specs.declared.source.Heard.{Heard}
use Rattle.source_table.specs.declared.source.Heard.TheVariants.{Waiting, NowValid}
use Rattle.source_table.specs.declared.answers.Refuse.TheVariants.{Own, LimitSources, Collision}
use Rattle.source_table.specs.Counting.{follows, run_next, counts_begin, counts_reported}
use Rattle.source_table.specs.Probation.{run_of}
use Rattle.source_table.specs.Sources.{fresh, hear_next, hear_answer, answer_from, counts_next, is_enough, report_next, left_next, is_gone, reported, reported_from}
use Rattle.source_table.specs.Table.{Table, kept, packet_of}
use Rattle.source_table.specs.Answers.{is_address, source_or, heard, heard_by, heard_next_by}
use Rattle.source_table.specs.History.{Call, Rtp, Reports, Leaves, Sets, Block, Blocks, Expires, table, StandsFor, Told, packet_by, only_if, told_heard, told_changed, told_named, alone, was_gone, packets}
use Rattle.source_table.specs.Validity.{numbers, IsRun, HadRun, IsValidByRun, Tells, IsValidFromRun}
use Rattle.source_table.proofs.Consecutive.{run_length}
use Rattle.source_table.proofs.Entries.{at_same}
use Rattle.source_table.proofs.Isolation.{is_alone, source_in}

-- ---- a source and its packets

abbrev FitsRun : Option Counts → List Packet → Type 0
FitsRun None ps = HadRun ps → ⊥
FitsRun (Some c) ps = HadRun ps

record Fits (s : Source) (ps : List Packet) : Type 0 where
  run : s.run ≡ run_of (numbers ps)
  counts : FitsRun s.counts ps

abbrev AreOf : Option Told → List Packet → Type 0
AreOf None ps = ps ≡ []
AreOf (Some k) ps = Fits k.source ps

-- ---- one packet more

enough : (s : Source) (p : Packet) (ps : List Packet) → p.needed ≤ 255 → s.run ≡ run_of (numbers ps) → is_enough s p ≡ true → IsRun (p ∷ ps)
enough s p ps small e t =
    let le : p.needed ≤ (run_next s.run p.seq).length = grind (arith, nat_tests) in
    (run_length p.needed (numbers (p ∷ ps)) small).0 (subst (λ r. p.needed ≤ (run_next r p.seq).length) e le)

not_enough : (s : Source) (p : Packet) (ps : List Packet) → p.needed ≤ 255 → s.run ≡ run_of (numbers ps) → is_enough s p ≡ false → IsRun (p ∷ ps) → ⊥
not_enough s p ps small e t run =
    let le : p.needed ≤ (run_of (numbers (p ∷ ps))).length = (run_length p.needed (numbers (p ∷ ps)) small).1 run in
    let here : p.needed ≤ (run_next s.run p.seq).length = subst (λ r. p.needed ≤ (run_next r p.seq).length) (sym e) le in
    absurd (grind (arith, nat_tests))

runs_not : (p : Packet) (ps : List Packet) → (HadRun ps → ⊥) → (IsRun (p ∷ ps) → ⊥) → HadRun (p ∷ ps) → ⊥
runs_not p ps f g (inl h) = g h
runs_not p ps f g (inr h) = f h

heard_counts : (o : Option Counts) (b : Bool) (s : Source) (p : Packet) (ps : List Packet) → p.needed ≤ 255 → s.run ≡ run_of (numbers ps) → is_enough s p ≡ b → FitsRun o ps → FitsRun (counts_next o s p) (p ∷ ps)
heard_counts (Some c) b s p ps small e t h = inr h
heard_counts None true s p ps small e t h = subst (λ (x : Bool). FitsRun (if x then Some (counts_begin p.seq) else None) (p ∷ ps)) (sym t) (inl (enough s p ps small e t))
heard_counts None false s p ps small e t h =
    subst (λ (x : Bool). FitsRun (if x then Some (counts_begin p.seq) else None) (p ∷ ps)) (sym t) (runs_not p ps h (not_enough s p ps small e t))

heard_fits : (s : Source) (p : Packet) (ps : List Packet) → p.needed ≤ 255 → Fits s ps → Fits (hear_next s p) (p ∷ ps)
heard_fits s p ps small h = record {
  run = ap (λ r. run_next r p.seq) h.run;
  counts = heard_counts s.counts (is_enough s p) s p ps small h.run refl h.counts;
}

fresh_fits : (from : Address) → Fits (fresh from) []
fresh_fits from = record { run = refl; counts = λ h. h }

source_fits : (from : Address) (k : Option Told) (ps : List Packet) → AreOf k ps → Fits (source_or from (source_in k)) ps
source_fits from None ps e = subst (Fits (fresh from)) (sym e) (fresh_fits from)
source_fits from (Some k) ps h = h

told_fits : (from : Address) (k : Option Told) (p : Packet) (ps : List Packet) → p.needed ≤ 255 → AreOf k ps → Fits (told_heard from k p).source (p ∷ ps)
told_fits from None p ps small e = heard_fits (fresh from) p ps small (source_fits from None ps e)
told_fits from (Some k) p ps small h = heard_fits k.source p ps small h

packet_by_test : (from : Address) (k : Option Told) (p : Packet) (ps : List Packet) (b : Bool) → p.needed ≤ 255 → AreOf k ps → AreOf (cond b (Some (told_heard from k p)) k) (cond b (p ∷ ps) ps)
packet_by_test from k p ps true small h = told_fits from k p ps small h
packet_by_test from k p ps false small h = h

-- ---- other calls

changed_fits : (f : Source → Source) (b : Bool) (k : Option Told) (ps : List Packet) → ((s : Source) → Fits s ps → Fits (f s) ps) → AreOf k ps → AreOf (cond b (option_map (told_changed f) k) k) ps
changed_fits f true None ps g h = h
changed_fits f true (Some k) ps g h = g k.source h
changed_fits f false k ps g h = h

named_fits : (text : List ℕ) (b : Bool) (k : Option Told) (ps : List Packet) → AreOf k ps → AreOf (cond b (option_map (told_named text) k) k) ps
named_fits text true None ps h = h
named_fits text true (Some k) ps h = h
named_fits text false k ps h = h

abbrev rested : Source → Counts → Source
rested s c = record s { counts = Some (counts_reported c); spoke = false }

reported_by : (o : Option Counts) (b : Bool) (s : Source) (ps : List Packet) → s.counts ≡ o → s.spoke ≡ b → Fits s ps → Fits (reported_from o s) ps
reported_by None b s ps e f h = h
reported_by (Some c) true s ps e f h =
    let after : Fits (rested s c) ps = record { run = h.run; counts = subst (λ (o : Option Counts). FitsRun o ps) e h.counts } in
    subst (λ (x : Bool). Fits (if x then rested s c else s) ps) (sym f) after
reported_by (Some c) false s ps e f h = subst (λ (x : Bool). Fits (if x then rested s c else s) ps) (sym f) h

reported_fits : (s : Source) (ps : List Packet) → Fits s ps → Fits (reported s) ps
reported_fits s ps h = reported_by s.counts s.spoke s ps refl refl h

all_fit : (k : Option Told) (ps : List Packet) → AreOf k ps → AreOf (option_map (told_changed reported) k) ps
all_fit None ps h = h
all_fit (Some k) ps h = reported_fits k.source ps h

left_by : (b : Bool) (k : Told) (ps : List Packet) → Fits k.source ps → AreOf (cond (not b) (Some k) None) (cond b [] ps)
left_by true k ps h = refl
left_by false k ps h = h

left_fits : (now timeout : ℕ) (k : Option Told) (ps : List Packet) → AreOf k ps → AreOf (only_if (λ x. not (is_gone x.source now timeout)) k) (cond (was_gone k now timeout) [] ps)
left_fits now timeout None ps h = h
left_fits now timeout (Some k) ps h = left_by (is_gone k.source now timeout) k ps h

-- ---- the whole

needed_small : (quick : Bool) (probation : ℕ) → probation ≤ 255 → (if quick then 1 else max probation 1) ≤ 255
needed_small true probation le = omega arith
needed_small false probation le = omega arith

fits : (probation ssrc : ℕ) (calls : List Call) → probation ≤ 255 → AreOf (alone probation ssrc calls) (packets probation ssrc calls)
fits probation ssrc [] small = refl
fits probation ssrc (Rtp now from view rate quick (Ok heard) ∷ before) small =
    packet_by_test from (alone probation ssrc before) (packet_by probation now view rate quick) (packets probation ssrc before) (nat_eq ssrc view.ssrc) (needed_small quick probation small) (fits probation ssrc before small)
fits probation ssrc (Rtp now from view rate quick (Err refuse) ∷ before) small = fits probation ssrc before small
fits probation ssrc (Reports now x seconds fraction ∷ before) small =
    changed_fits (λ s. report_next s now seconds fraction) (nat_eq ssrc x) (alone probation ssrc before) (packets probation ssrc before) (λ s h. record { run = h.run; counts = h.counts }) (fits probation ssrc before small)
fits probation ssrc (Leaves x ∷ before) small =
    changed_fits left_next (nat_eq ssrc x) (alone probation ssrc before) (packets probation ssrc before) (λ s h. record { run = h.run; counts = h.counts }) (fits probation ssrc before small)
fits probation ssrc (Sets x text answer ∷ before) small = named_fits text (nat_eq ssrc x) (alone probation ssrc before) (packets probation ssrc before) (fits probation ssrc before small)
fits probation ssrc (Block x now ∷ before) small =
    changed_fits reported (nat_eq ssrc x) (alone probation ssrc before) (packets probation ssrc before) (λ s h. reported_fits s (packets probation ssrc before) h) (fits probation ssrc before small)
fits probation ssrc (Blocks now ∷ before) small = all_fit (alone probation ssrc before) (packets probation ssrc before) (fits probation ssrc before small)
fits probation ssrc (Expires now timeout ∷ before) small = left_fits now timeout (alone probation ssrc before) (packets probation ssrc before) (fits probation ssrc before small)

valid_by : (o : Option Counts) (ps : List Packet) → FitsRun o ps → IsSome o ↔ HadRun ps
valid_by None ps h = (λ e. absurd (false≢true e), λ r. absurd (h r))
valid_by (Some c) ps h = (λ e. h, λ r. refl)

valid_if : (k : Option Told) (s : Source) (ps : List Packet) → AreOf k ps → source_in k ≡ Some s → IsSome s.counts ↔ HadRun ps
valid_if None s ps h e = absurd (let x : None ≡ Some s = e in cc)
valid_if (Some k) s ps h e =
    let same : k.source ≡ s = cc in
    valid_by s.counts ps (subst (λ (x : Source). FitsRun x.counts ps) same h.counts)

pub valid_by_run : IsValidByRun
unfolding StandsFor
valid_by_run t own probation calls small h ssrc s e =
    let is = is_alone own probation calls h.1 in
    valid_if (alone probation ssrc calls) s (packets probation ssrc calls) (fits probation ssrc calls small) (sym (is.each ssrc) ∙ ap (λ (x : Table). kept x ssrc) (sym h.0) ∙ e)

-- ---- the answer

new_answer : (b : Bool) (from : Address) (p : Packet) (h : Heard) → cond b (Ok (hear_answer (fresh from) p)) (Err LimitSources) ≡ Ok h → h ≡ hear_answer (fresh from) p
new_answer true from p h e = cc
new_answer false from p h e = absurd cc

kept_answer : (b : Bool) (s : Source) (from : Address) (p : Packet) (h : Heard) → cond b (Ok (hear_answer s p)) (Err (Collision s.from from)) ≡ Ok h → h ≡ hear_answer s p
kept_answer true s from p h e = cc
kept_answer false s from p h e = absurd cc

of_kept : (t : Table) (o : Option Source) (from : Address) (p : Packet) (h : Heard) → heard_by t o from p ≡ Ok h → h ≡ hear_answer (source_or from o) p
of_kept t None from p h e = new_answer (nat_lt (length t.sources) 64) from p h e
of_kept t (Some s) from p h e = kept_answer (is_address s.from from) s from p h e

by_own : (b : Bool) (t : Table) (o : Option Source) (from : Address) (p : Packet) (h : Heard) → cond b (Err Own) (heard_by t o from p) ≡ Ok h → h ≡ hear_answer (source_or from o) p
by_own true t o from p h e = absurd cc
by_own false t o from p h e = of_kept t o from p h e

heard_is : (t : Table) (from : Address) (ssrc : ℕ) (p : Packet) (h : Heard) → heard t from ssrc p ≡ Ok h → h ≡ hear_answer (source_or from (kept t ssrc)) p
heard_is t from ssrc p h e = by_own (nat_eq ssrc t.own) t (kept t ssrc) from p h e

abbrev waits : Source → Packet → Heard
waits s p = Waiting (not (s.run.length == 0) && not (follows s.run p.seq))

tells : (o : Option Counts) (b : Bool) (s : Source) (p : Packet) (ps : List Packet) → p.needed ≤ 255 → s.run ≡ run_of (numbers ps) → s.counts ≡ o → is_enough s p ≡ b → FitsRun o ps
    → Tells (answer_from o s p) ps p (Some (hear_next s p))
tells (Some c) b s p ps small run e t h = h
tells None true s p ps small run e t h =
    let counts : counts_next s.counts s p ≡ Some (counts_begin p.seq) = ap (λ (o : Option Counts). counts_next o s p) e ∙ ap (λ (x : Bool). if x then Some (counts_begin p.seq) else None) t in
    subst (λ (x : Bool). Tells (if x then NowValid else waits s p) ps p (Some (hear_next s p))) (sym t) (h, enough s p ps small run t, counts)
tells None false s p ps small run e t h =
    subst (λ (x : Bool). Tells (if x then NowValid else waits s p) ps p (Some (hear_next s p))) (sym t) (h, not_enough s p ps small run t)

pub valid_from_run : IsValidFromRun
unfolding StandsFor
valid_from_run t own probation calls now from view rate quick was small h =
    let old = table own probation calls in
    let answers = h.1 in
    let is = is_alone own probation calls answers.1 in
    let q = packet_of old now view rate quick in
    let p = packet_by probation now view rate quick in
    let same : q ≡ p = ap (λ (n : ℕ). packet_by n now view rate quick) is.setting in
    let s = source_or from (kept old view.ssrc) in
    let ps = packets probation view.ssrc calls in
    let fit : Fits s ps =
    subst (λ (o : Option Source). Fits (source_or from o) ps) (sym (is.each view.ssrc))
    (source_fits from (alone probation view.ssrc calls) ps (fits probation view.ssrc calls small))
    in
    let said : was ≡ hear_answer s q = heard_is old from view.ssrc q was (sym answers.0) in
    let next : kept t view.ssrc ≡ Some (hear_next s q) =
    ap (λ (x : Table). kept x view.ssrc) (h.0 ∙ ap (heard_next_by old from view.ssrc q) (sym answers.0))
    ∙ at_same old.sources view.ssrc (hear_next s q)
    in
    let told : Tells (hear_answer s p) ps p (Some (hear_next s p)) =
    tells s.counts (is_enough s p) s p ps (needed_small quick probation small) fit.run refl refl fit.counts
    in
    subst (λ (a : Heard). Tells a ps p (kept t view.ssrc)) (sym (said ∙ ap (hear_answer s) same))
    (subst (λ (o : Option Source). Tells (hear_answer s p) ps p o) (sym (next ∙ ap (λ (x : Packet). Some (hear_next s x)) same)) told)
