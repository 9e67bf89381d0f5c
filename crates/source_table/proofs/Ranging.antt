-- Each call leaves a table's sources in their range.
use Rattle.std.proofs.Common.{◌≡◌, ◌≤◌, ◌<◌, ℕ, ◌+◌, ◌-◌, ◌%◌, ◌^◌, zero, suc, slice_get, Bool, true, false, cond, min, nat_eq, List, [], ◌∷◌, ◌++◌, Option, Some, None, map, filter, refl, sym, subst, arith}
use Rattle.std.specs.Prelude.{nat_lt}
use Rattle.std.specs.Map.{lookup}
use Rattle.std.proofs.lemmas.Bool.Decides.{nat_tests}
use Rattle.indexmap.specs.IndexMap.{insert_entry}
use Rattle.rtp_units.specs.declared.shared.Address.{Address}
use Rattle.source_table.specs.declared.counts.Counts.{Counts}
use Rattle.source_table.specs.declared.jitter.Jitter.{Jitter}
use Rattle.source_table.specs.declared.source.Source.{Source}
use Rattle.source_table.specs.declared.source.Packet.{Packet}
use Rattle.source_table.specs.Counting.{Counted, counts_begin, ahead, is_after, jump_next, count_next, counts_reported, apart, step_of, sixteenths_next, jitter_next, transit_of}
use Rattle.source_table.specs.Sources.{fresh, is_enough, counts_next, is_counted, hear_next, report_next, left_next, reported, reported_from}
use Rattle.source_table.specs.Ranges.{AreCountsOf, AreCountsIn, IsSourceOf, AreSourcesOf, AreInRange}

-- ---- counts

pub more_counts : (m n : ℕ) (c : Counts) → m ≤ n → AreCountsOf m c → AreCountsOf n c
more_counts m n c more h = record {
  base = h.base;
  greatest = omega (arith, h.greatest);
  received = omega (arith, h.received);
  prior_expected = omega (arith, h.prior_expected);
  prior_received = h.prior_received;
  interval = h.interval;
}

in_order : (n : ℕ) (c : Counts) (a : ℕ) → a < 3000 → AreCountsOf n c → AreCountsOf (n + 1) (record c { greatest = c.greatest + a; received = c.received + 1 })
in_order n c a near h = record {
  base = omega (arith, h.base);
  greatest = omega (arith, h.greatest);
  received = omega (arith, h.received);
  prior_expected = omega (arith, h.prior_expected);
  prior_received = omega (arith, h.prior_received);
  interval = λ few. absurd (omega (arith, few, h.prior_received));
}

behind : (n : ℕ) (c : Counts) → AreCountsOf n c → AreCountsOf (n + 1) (record c { received = c.received + 1 })
behind n c h = record {
  base = h.base;
  greatest = omega (arith, h.greatest);
  received = omega (arith, h.received);
  prior_expected = omega (arith, h.prior_expected);
  prior_received = omega (arith, h.prior_received);
  interval = λ few. absurd (omega (arith, few, h.prior_received));
}

away : (n : ℕ) (c : Counts) (seq : ℕ) → AreCountsOf n c → AreCountsOf (n + 1) (record c { jump = Some seq })
away n c seq h = record {
  base = h.base;
  greatest = omega (arith, h.greatest);
  received = omega (arith, h.received);
  prior_expected = omega (arith, h.prior_expected);
  prior_received = h.prior_received;
  interval = h.interval;
}

begun : (n seq : ℕ) → seq < 65536 → AreCountsOf (n + 1) (counts_begin seq)
begun n seq small = record {
  base = omega arith;
  greatest = omega arith;
  received = omega arith;
  prior_expected = omega arith;
  prior_received = omega arith;
  interval = λ few. absurd (omega (arith, few));
}

abbrev jump_by : Bool → Counts → ℕ → Counted
jump_by b c seq = cond b (record { counts = counts_begin seq; counted = true }) (record { counts = record c { jump = Some seq }; counted = false })

jumped_by : (b : Bool) (n : ℕ) (c : Counts) (seq : ℕ) → seq < 65536 → AreCountsOf n c → AreCountsOf (n + 1) (jump_by b c seq).counts
jumped_by true n c seq small h = begun n seq small
jumped_by false n c seq small h = away n c seq h

jumped : (n : ℕ) (c : Counts) (seq : ℕ) → seq < 65536 → AreCountsOf n c → AreCountsOf (n + 1) (jump_next c seq).counts
jumped n c seq small h = jumped_by (is_after c.jump seq) n c seq small h

late_by : (b : Bool) (n : ℕ) (c : Counts) (far : Counted) → AreCountsOf n c → AreCountsOf (n + 1) far.counts
    → AreCountsOf (n + 1) (cond b (record { counts = record c { received = c.received + 1 }; counted = true }) far).counts
late_by true n c far h j = behind n c h
late_by false n c far h j = j

near_by : (b : Bool) (n : ℕ) (c : Counts) (a : ℕ) (other : Counted) → nat_lt a 3000 ≡ b → AreCountsOf n c → AreCountsOf (n + 1) other.counts
    → AreCountsOf (n + 1) (cond b (record { counts = record c { greatest = c.greatest + a; received = c.received + 1 }; counted = true }) other).counts
near_by true n c a other e h j = in_order n c a (grind (arith, nat_tests)) h
near_by false n c a other e h j = j

pub counted : (n : ℕ) (c : Counts) (seq : ℕ) → seq < 65536 → AreCountsOf n c → AreCountsOf (n + 1) (count_next c seq).counts
counted n c seq small h =
    near_by (nat_lt (ahead c seq) 3000) n c (ahead c seq) _ refl h
    (late_by (nat_lt 65436 (ahead c seq)) n c (jump_next c seq) h (jumped n c seq small h))

enough_by : (b : Bool) (n seq : ℕ) → seq < 65536 → AreCountsIn (n + 1) (cond b (Some (counts_begin seq)) None)
enough_by true n seq small = begun n seq small
enough_by false n seq small = tt

counts_in : (o : Option Counts) (n : ℕ) (s : Source) (p : Packet) → p.seq < 65536 → AreCountsIn n o → AreCountsIn (n + 1) (counts_next o s p)
counts_in None n s p small h = enough_by (is_enough s p) n p.seq small
counts_in (Some c) n s p small h = counted n c p.seq small h

reported_counts : (n : ℕ) (c : Counts) → AreCountsOf n c → AreCountsOf n (counts_reported c)
reported_counts n c h = record {
  base = h.base;
  greatest = h.greatest;
  received = h.received;
  prior_expected = omega (arith, h.greatest);
  prior_received = omega arith;
  interval = λ _. omega arith;
}

-- ---- jitter

step_small : (s d : ℕ) → s ≤ 34359738375 → d ≤ 2147483648 → step_of s d ≤ 34359738375
step_small s d small near = omega arith

apart_small : (x : ℕ) → min x (4294967296 - x) ≤ 2147483648
apart_small x = omega arith

sixteenths_small : (o : Option ℕ) (old here : ℕ) → old ≤ 34359738375 → sixteenths_next old here o ≤ 34359738375
sixteenths_small None old here small = small
sixteenths_small (Some before) old here small = step_small old (apart here before) small (apart_small ((here + 4294967296 - before) % 4294967296))

jitter_small : (rate : Option ℕ) (j : Jitter) (now timestamp : ℕ) → j.sixteenths ≤ 34359738375 → (jitter_next j now timestamp rate).sixteenths ≤ 34359738375
jitter_small None j now timestamp small = small
jitter_small (Some rate) j now timestamp small = sixteenths_small j.transit j.sixteenths (transit_of now timestamp rate) small

jitter_by : (b : Bool) (j k : Jitter) → j.sixteenths ≤ 34359738375 → k.sixteenths ≤ 34359738375 → (cond b j k).sixteenths ≤ 34359738375
jitter_by true j k a b = a
jitter_by false j k a b = b

-- ---- a source

counts_more : (o : Option Counts) (m n : ℕ) → m ≤ n → AreCountsIn m o → AreCountsIn n o
counts_more None m n more h = tt
counts_more (Some c) m n more h = more_counts m n c more h

pub more_source : (m n : ℕ) (s : Source) → m ≤ n → IsSourceOf m s → IsSourceOf n s
more_source m n s more h = record { counts = counts_more s.counts m n more h.counts; jitter = h.jitter }

pub fresh_in : (n : ℕ) (from : Address) → IsSourceOf n (fresh from)
fresh_in n from = record { counts = tt; jitter = omega arith }

pub heard_in : (n : ℕ) (s : Source) (p : Packet) → p.seq < 65536 → IsSourceOf n s → IsSourceOf (n + 1) (hear_next s p)
heard_in n s p small h = record {
  counts = counts_in s.counts n s p small h.counts;
  jitter = jitter_by (is_counted s.counts s p) _ s.jitter (jitter_small p.rate s.jitter p.arrival p.timestamp h.jitter) h.jitter;
}

pub report_in : (n : ℕ) (s : Source) (now seconds fraction : ℕ) → IsSourceOf n s → IsSourceOf n (report_next s now seconds fraction)
report_in n s now seconds fraction h = record { counts = h.counts; jitter = h.jitter }

pub left_in : (n : ℕ) (s : Source) → IsSourceOf n s → IsSourceOf n (left_next s)
left_in n s h = record { counts = h.counts; jitter = h.jitter }

spoken_by : (b : Bool) (n : ℕ) (s : Source) (c : Counts) → AreCountsOf n c → IsSourceOf n s
    → IsSourceOf n (cond b (record s { counts = Some (counts_reported c); spoke = false }) s)
spoken_by true n s c here h = record { counts = reported_counts n c here; jitter = h.jitter }
spoken_by false n s c here h = h

reported_by : (o : Option Counts) (n : ℕ) (s : Source) → AreCountsIn n o → IsSourceOf n s → IsSourceOf n (reported_from o s)
reported_by None n s here h = h
reported_by (Some c) n s here h = spoken_by s.spoke n s c here h

pub reported_in : (n : ℕ) (s : Source) → IsSourceOf n s → IsSourceOf n (reported s)
reported_in n s h = reported_by s.counts n s h.counts h

-- ---- the sources of a table

abbrev Entries : Type 0
Entries = List (ℕ × Source)

pub more_sources : (m n : ℕ) (es : Entries) → m ≤ n → AreSourcesOf m es → AreSourcesOf n es
more_sources m n [] more h = tt
more_sources m n (e ∷ es) more h = (more_source m n e.1 more h.0, more_sources m n es more h.1)

put_by : (b : Bool) (n x : ℕ) (v w : Source) (es ins : Entries) → IsSourceOf n v → IsSourceOf n w → AreSourcesOf n es → AreSourcesOf n ins
    → AreSourcesOf n (cond b ((x, v) ∷ es) ((x, w) ∷ ins))
put_by true n x v w es ins hv hw hes hins = (hv, hes)
put_by false n x v w es ins hv hw hes hins = (hw, hins)

pub put_in : (n : ℕ) (es : Entries) (k : ℕ) (s : Source) → AreSourcesOf n es → IsSourceOf n s → AreSourcesOf n (insert_entry nat_eq es k s)
put_in n [] k s h here = (here, tt)
put_in n (e ∷ es) k s h here = put_by (nat_eq k e.0) n e.0 s e.1 es (insert_entry nat_eq es k s) here h.0 h.1 (put_in n es k s h.1 here)

found_by : (b : Bool) (n : ℕ) (v s : Source) (o : Option Source) → IsSourceOf n v → (o ≡ Some s → IsSourceOf n s) → cond b (Some v) o ≡ Some s → IsSourceOf n s
found_by true n v s o here rest e = let same : v ≡ s = cc in subst (IsSourceOf n) same here
found_by false n v s o here rest e = rest e

pub found_in : (n : ℕ) (es : Entries) (k : ℕ) (s : Source) → AreSourcesOf n es → lookup (nat_eq k) es ≡ Some s → IsSourceOf n s
found_in n [] k s h e = absurd cc
found_in n (e ∷ es) k s h is = found_by (nat_eq k e.0) n e.1 s (lookup (nat_eq k) es) h.0 (found_in n es k s h.1) is

left_by : (b : Bool) (n : ℕ) (e : ℕ × Source) (es : Entries) → IsSourceOf n e.1 → AreSourcesOf n es → AreSourcesOf n (cond b (e ∷ es) es)
left_by true n e es here h = (here, h)
left_by false n e es here h = h

pub filtered_in : (n : ℕ) (p : ℕ × Source → Bool) (es : Entries) → AreSourcesOf n es → AreSourcesOf n (filter p es)
filtered_in n p [] h = tt
filtered_in n p (e ∷ es) h = left_by (p e) n e (filter p es) h.0 (filtered_in n p es h.1)

pub all_reported_in : (n : ℕ) (es : Entries) → AreSourcesOf n es → AreSourcesOf n (map (λ e. (e.0, reported e.1)) es)
all_reported_in n [] h = tt
all_reported_in n (e ∷ es) h = (reported_in n e.1 h.0, all_reported_in n es h.1)

pub among : (n : ℕ) (before after : Entries) (k : ℕ) (s : Source) → AreSourcesOf n (before ++ (k, s) ∷ after) → IsSourceOf n s
among n [] after k s h = h.0
among n (e ∷ before) after k s h = among n before after k s h.1

pub at_place : (n : ℕ) (es : Entries) (i : ℕ) (e : ℕ × Source) → AreSourcesOf n es → slice_get es i ≡ Some e → IsSourceOf n e.1
at_place n [] i e h is = absurd cc
at_place n (x ∷ es) zero e h is = let same : x ≡ e = cc in subst (λ (y : ℕ × Source). IsSourceOf n y.1) same h.0
at_place n (x ∷ es) (suc i) e h is = at_place n es i e h.1 is

-- ---- a table that changes one source

pub put_range : (n : ℕ) (es new : Entries) (k : ℕ) (s : Source) → AreInRange n es → new ≡ insert_entry nat_eq es k s → IsSourceOf n s → AreInRange n new
put_range n es new k s h e here = record { few = h.few; sources = subst (AreSourcesOf n) (sym e) (put_in n es k s h.sources here) }

pub all_range : (n : ℕ) (es new : Entries) → AreInRange n es → new ≡ es → AreInRange n new
all_range n es new h e = record { few = h.few; sources = subst (AreSourcesOf n) (sym e) h.sources }

pub small_source : (n : ℕ) (es : Entries) (k : ℕ) (s : Source) → AreInRange n es → Some s ≡ lookup (nat_eq k) es → IsSourceOf (2 ^ 40) s
small_source n es k s h e = more_source n (2 ^ 40) s h.few (found_in n es k s h.sources (sym e))

pub small_sources : (n : ℕ) (es : Entries) → AreInRange n es → AreSourcesOf (2 ^ 40) es
small_sources n es h = more_sources n (2 ^ 40) es h.few h.sources

pub heard_range : (n : ℕ) (es new : Entries) (k : ℕ) (s after : Source) (p : Packet) → AreInRange n es → n < 2 ^ 40 → new ≡ insert_entry nat_eq es k after → after ≡ hear_next s p → p.seq < 65536 → IsSourceOf n s → AreInRange (n + 1) new
heard_range n es new k s after p h less e is small here =
    record {
      few = omega (arith, less);
      sources = subst (AreSourcesOf (n + 1)) (sym e)
          (put_in (n + 1) es k after (more_sources n (n + 1) es (omega arith) h.sources) (subst (IsSourceOf (n + 1)) (sym is) (heard_in n s p small here)));
    }
