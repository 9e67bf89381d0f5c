-- At most 15 packets of a source wait.
use Rattle.std.proofs.Common.{ℕ, ◌≡◌, ◌+◌, ◌≤◌, ◌<◌, Bool, true, false, cond, refl, sym, subst, ◌∙◌, List, [], ◌∷◌, Option, None, Some, length, eq-eqb, eqb-true, arith}
use Rattle.std.specs.Prelude.{if◌then◌else◌, nat_eq, min, not, ◌==◌, ◌&&◌, option_map, Result, Ok, Err}
use Rattle.std.specs.Map.{lookup}
use Rattle.std.proofs.lemmas.Bool.{leb-false}
use Rattle.std.proofs.lemmas.List.{length-append}
use Rattle.indexmap.specs.IndexMap.{insert_entry}
use Rattle.rtp_units.specs.declared.shared.Address.{Address}
use Rattle.rtp_wire.specs.Packet.{Packet as View}
use Rattle.source_table.specs.declared.run.Run.{Run}
use Rattle.source_table.specs.declared.counts.Counts.{Counts}
use Rattle.source_table.specs.declared.source.Source.{Source}
use Rattle.source_table.specs.declared.source.Packet.{Packet}
use Rattle.source_table.specs.declared.source.Heard.{Heard}
use Rattle.source_table.specs.declared.source.Heard.TheVariants.{Waiting, NowValid}
use Rattle.source_table.specs.declared.answers.Refuse.{Refuse}
use Rattle.source_table.specs.declared.answers.Refuse.TheVariants.{Own, LimitSources, Collision}
use Rattle.source_table.specs.declared.answers.Named.{Named}
use Rattle.source_table.specs.declared.answers.Named.TheVariants.{Unknown, Same, Changed}
use Rattle.source_table.specs.Answers.{is_address, source_or, heard, heard_by, heard_next_by, named, name_next_by}
use Rattle.source_table.specs.Counting.{follows, run_next, counts_begin, counts_reported}
use Rattle.source_table.specs.History.{only_if}
use Rattle.source_table.specs.Sources.{fresh, is_enough, answer_from, hear_answer, counts_next, hear_next, report_next, left_next, is_gone, reported_from, reported}
use Rattle.source_table.specs.Table.{Table, kept, needed, packet_of, changed_by}
use Rattle.front_model.specs.Given.{Setting, Ask, Hears, Names, Reports, Leaves, Closes, is_quick, table}
use Rattle.front_model.specs.Probation.{Kept, kept_at, waiting_next, is_removed, waiting}
use Rattle.front_model.specs.Laws.{concerns, IsAlike, IsLeftByOthers, IsClosedAlone}

-- Before a source is valid no more packets of it wait than its run has, and that has at most 15.
abbrev Waits : Option Counts → Run → List Kept → Type 0
Waits None run ks = (length ks ≤ run.length) × (run.length ≤ 15)
Waits (Some c) run ks = length ks ≤ 0

abbrev WaitsOf : Option Source → List Kept → Type 0
WaitsOf None ks = length ks ≤ 0
WaitsOf (Some x) ks = Waits x.counts x.run ks

-- ---- a packet

-- how long the run is then
going_on : (b : Bool) (n : ℕ) (k : Kept) (ks : List Kept) → length ks ≤ n → n ≤ 15 → length (waiting_next ks k (Ok (Waiting (not b && false)))) ≤ min (n + 1) 255
going_on true n k ks le few = omega (arith, length-append ks (k ∷ []), le, few)
going_on false n k ks le few = omega (arith, length-append ks (k ∷ []), le, few)

broken_off : (b : Bool) (n : ℕ) (k : Kept) (ks : List Kept) → (n == 0) ≡ b → length ks ≤ n → length (waiting_next ks k (Ok (Waiting (not b && true)))) ≤ 1
broken_off true n k ks e le = let none : n ≡ 0 = eqb-true n 0 e in omega (arith, length-append ks (k ∷ []), le, none)
broken_off false n k ks e le = omega arith

behind : (f : Bool) (n : ℕ) (k : Kept) (ks : List Kept) → length ks ≤ n → n ≤ 15
    → length (waiting_next ks k (Ok (Waiting (not (n == 0) && not f)))) ≤ (if f then min (n + 1) 255 else 1)
behind true n k ks le few = going_on (n == 0) n k ks le few
behind false n k ks le few = broken_off (n == 0) n k ks refl le

enough_by : (b : Bool) (x : Source) (p : Packet) (k : Kept) (ks : List Kept) → is_enough x p ≡ b → p.needed ≤ 16 → Waits None x.run ks
    → Waits (if b then Some (counts_begin p.seq) else None) (run_next x.run p.seq)
    (waiting_next ks k (Ok (if b then NowValid else Waiting (not (x.run.length == 0) && not (follows x.run p.seq)))))
enough_by true x p k ks e small h = omega arith
enough_by false x p k ks e small h =
    let short : (run_next x.run p.seq).length < p.needed = leb-false p.needed (run_next x.run p.seq).length e in
    (behind (follows x.run p.seq) x.run.length k ks h.0 h.1, omega (arith, short, small))

answered : (o : Option Counts) (x : Source) (p : Packet) (k : Kept) (ks : List Kept) → p.needed ≤ 16 → Waits o x.run ks
    → Waits (counts_next o x p) (run_next x.run p.seq) (waiting_next ks k (Ok (answer_from o x p)))
answered (Some c) x p k ks small h = h
answered None x p k ks small h = enough_by (is_enough x p) x p k ks refl small h

abbrev next_source : Option Source → Address → Packet → Result Heard Refuse → Option Source
next_source o from p (Ok h) = Some (hear_next (source_or from o) p)
next_source o from p (Err why) = o

record After (o : Option Source) (from : Address) (p : Packet) (k : Kept) (ks : List Kept) (r : Result Heard Refuse) : Type 0 where
  fact : WaitsOf (next_source o from p r) (waiting_next ks k r)

choose : {A : Type 0} (P : A → Type 0) (b : Bool) (x y : A) → P x → P y → P (if b then x else y)
choose P true x y f g = f
choose P false x y f g = g

heard_after : (t : Table) (o : Option Source) (from : Address) (p : Packet) (k : Kept) (ks : List Kept) → p.needed ≤ 16 → WaitsOf o ks → After o from p k ks (heard_by t o from p)
heard_after t None from p k ks small h =
    choose (After None from p k ks) _ (Ok (hear_answer (fresh from) p)) (Err LimitSources)
    (record { fact = answered None (fresh from) p k ks small (h, omega arith) }) (record { fact = h })
heard_after t (Some x) from p k ks small h =
    choose (After (Some x) from p k ks) (is_address x.from from) (Ok (hear_answer x p)) (Err (Collision x.from from))
    (record { fact = answered x.counts x p k ks small h }) (record { fact = h })

heard_own : (t : Table) (from : Address) (ssrc : ℕ) (p : Packet) (k : Kept) (ks : List Kept) → p.needed ≤ 16 → WaitsOf (kept t ssrc) ks → After (kept t ssrc) from p k ks (heard t from ssrc p)
heard_own t from ssrc p k ks small h =
    choose (After (kept t ssrc) from p k ks) (nat_eq ssrc t.own) (Err Own) (heard_by t (kept t ssrc) from p) (record { fact = h }) (heard_after t (kept t ssrc) from p k ks small h)

-- ---- a source that is put

same_by : (b : Bool) (k x : ℕ) (v w : Source) (es ins : List (ℕ × Source)) → nat_eq k x ≡ b → lookup (nat_eq k) ins ≡ Some v → lookup (nat_eq k) (cond b ((x, v) ∷ es) ((x, w) ∷ ins)) ≡ Some v
same_by true k x v w es ins e rest = rw e refl
same_by false k x v w es ins e rest = rw e rest

at_same : (es : List (ℕ × Source)) (k : ℕ) (v : Source) → lookup (nat_eq k) (insert_entry nat_eq es k v) ≡ Some v
at_same [] k v = let e : nat_eq k k ≡ true = eq-eqb k k refl in rw e refl
at_same (e ∷ es) k v = same_by (nat_eq k e.0) k e.0 v e.1 es (insert_entry nat_eq es k v) refl (at_same es k v)

source_next : (t : Table) (from : Address) (ssrc : ℕ) (p : Packet) (r : Result Heard Refuse) → kept (heard_next_by t from ssrc p r) ssrc ≡ next_source (kept t ssrc) from p r
source_next t from ssrc p (Ok h) = at_same t.sources ssrc (hear_next (source_or from (kept t ssrc)) p)
source_next t from ssrc p (Err why) = refl

abbrev changed_source : Option Source → (Source → Source) → Option Source
changed_source None f = None
changed_source (Some s) f = Some (f s)

source_change : (t : Table) (ssrc : ℕ) (o : Option Source) (f : Source → Source) → kept t ssrc ≡ o → kept (changed_by t ssrc o f) ssrc ≡ changed_source o f
source_change t ssrc None f e = e
source_change t ssrc (Some s) f e = at_same t.sources ssrc (f s)

source_name : (t : Table) (ssrc x : ℕ) (text : List ℕ) (n : Named) → kept (name_next_by t x text n) ssrc ≡ kept t ssrc
source_name t ssrc x text Changed = refl
source_name t ssrc x text Same = refl
source_name t ssrc x text Unknown = refl

-- ---- the setting of probation stays

probation_packet : (t : Table) (from : Address) (x : ℕ) (p : Packet) (r : Result Heard Refuse) → (heard_next_by t from x p r).probation ≡ t.probation
probation_packet t from x p (Ok h) = refl
probation_packet t from x p (Err why) = refl

probation_name : (t : Table) (x : ℕ) (text : List ℕ) (n : Named) → (name_next_by t x text n).probation ≡ t.probation
probation_name t x text Changed = refl
probation_name t x text Same = refl
probation_name t x text Unknown = refl

probation_change : (t : Table) (x : ℕ) (o : Option Source) (f : Source → Source) → (changed_by t x o f).probation ≡ t.probation
probation_change t x None f = refl
probation_change t x (Some y) f = refl

probation_small : (s : Setting) (asks : List Ask) → s.probation ≤ 16 → (table s asks).probation ≤ 16
probation_small s [] small = small
probation_small s (Hears now from view rate ∷ before) small =
    let p : Packet = packet_of (table s before) now view rate (is_quick s view.ssrc) in
    omega (arith, probation_packet (table s before) from view.ssrc p (heard (table s before) from view.ssrc p), probation_small s before small)
probation_small s (Names x text ∷ before) small = omega (arith, probation_name (table s before) x text (named (table s before) x text), probation_small s before small)
probation_small s (Reports now x seconds fraction rtp ∷ before) small =
    omega (arith, probation_change (table s before) x (kept (table s before) x) (λ y. report_next y now seconds fraction), probation_small s before small)
probation_small s (Leaves x ∷ before) small = omega (arith, probation_change (table s before) x (kept (table s before) x) left_next, probation_small s before small)
probation_small s (Closes now timeout ∷ before) small = probation_small s before small

needed_small : (t : Table) (quick : Bool) → t.probation ≤ 16 → needed t quick ≤ 16
needed_small t true small = omega arith
needed_small t false small = omega (arith, small)

-- ---- a report time

spoke_by : (b : Bool) (c : Counts) (x : Source) (ks : List Kept) → x.counts ≡ Some c → length ks ≤ 0 → WaitsOf (Some (if b then record x { counts = Some (counts_reported c); spoke = false } else x)) ks
spoke_by true c x ks e h = h
spoke_by false c x ks e h = subst (λ (o : Option Counts). Waits o x.run ks) (sym e) h

reported_by : (o : Option Counts) (x : Source) (ks : List Kept) → x.counts ≡ o → Waits o x.run ks → WaitsOf (Some (reported_from o x)) ks
reported_by None x ks e h = subst (λ (o : Option Counts). Waits o x.run ks) (sym e) h
reported_by (Some c) x ks e h = spoke_by x.spoke c x ks e h

gone_by : (b : Bool) (x : Source) (ks : List Kept) → WaitsOf (Some x) ks → WaitsOf (option_map reported (if not b then Some x else None)) (if b then [] else ks)
gone_by true x ks h = omega arith
gone_by false x ks h = reported_by x.counts x ks refl h

closes_waits : (now timeout : ℕ) (o : Option Source) (ks : List Kept) → WaitsOf o ks
    → WaitsOf (option_map reported (only_if (λ x. not (is_gone x now timeout)) o)) (if is_removed o now timeout then [] else ks)
closes_waits now timeout None ks h = h
closes_waits now timeout (Some x) ks h = gone_by (is_gone x now timeout) x ks h

-- ---- all calls

abbrev WaitsAt : Setting → List Ask → ℕ → Type 0
WaitsAt s asks ssrc = WaitsOf (kept (table s asks) ssrc) (waiting s ssrc asks)

alike_waits : (s : Setting) (ssrc : ℕ) (here there : List Ask) → IsAlike s ssrc here there → WaitsAt s there ssrc → WaitsAt s here ssrc
alike_waits s ssrc here there e h =
    let one : WaitsOf (kept (table s here) ssrc) (waiting s ssrc there) = subst (λ (o : Option Source). WaitsOf o (waiting s ssrc there)) (sym e.source) h in
    subst (λ (ks : List Kept). WaitsOf (kept (table s here) ssrc) ks) (sym e.waiting) one

hears_waits : (s : Setting) (now : ℕ) (from : Address) (view : View) (rate : Option ℕ) (before : List Ask) → s.probation ≤ 16 → WaitsAt s before view.ssrc
    → WaitsAt s (Hears now from view rate ∷ before) view.ssrc
hears_waits s now from view rate before small h =
    let t : Table = table s before in
    let p : Packet = packet_of t now view rate (is_quick s view.ssrc) in
    let r : Result Heard Refuse = heard t from view.ssrc p in
    let ks : List Kept = waiting s view.ssrc before in
    let next : List Kept = waiting_next ks (kept_at now view) r in
    let one : nat_eq view.ssrc view.ssrc ≡ true = eq-eqb view.ssrc view.ssrc refl in
    let after : WaitsOf (next_source (kept t view.ssrc) from p r) next =
    (heard_own t from view.ssrc p (kept_at now view) ks (needed_small t (is_quick s view.ssrc) (probation_small s before small)) h).fact in
    let put : WaitsOf (kept (heard_next_by t from view.ssrc p r) view.ssrc) next = subst (λ (o : Option Source). WaitsOf o next) (sym (source_next t from view.ssrc p r)) after in
    subst (λ (b : Bool). WaitsOf (kept (heard_next_by t from view.ssrc p r) view.ssrc) (if b then next else ks)) (sym one) put

report_waits : (now seconds fraction : ℕ) (o : Option Source) (ks : List Kept) → WaitsOf o ks → WaitsOf (changed_source o (λ y. report_next y now seconds fraction)) ks
report_waits now seconds fraction None ks h = h
report_waits now seconds fraction (Some x) ks h = h

left_waits : (o : Option Source) (ks : List Kept) → WaitsOf o ks → WaitsOf (changed_source o left_next) ks
left_waits None ks h = h
left_waits (Some x) ks h = h

few_by : (o : Option Counts) (run : Run) (ks : List Kept) → Waits o run ks → length ks ≤ 15
few_by None run ks h = omega (arith, h.0, h.1)
few_by (Some c) run ks h = omega (arith, h)

few_of : (o : Option Source) (ks : List Kept) → WaitsOf o ks → length ks ≤ 15
few_of None ks h = omega (arith, h)
few_of (Some x) ks h = few_by x.counts x.run ks h

-- at most 15 packets of any source
abbrev pub FewWait : Type 0
FewWait = (s : Setting) (ssrc : ℕ) (asks : List Ask) → s.probation ≤ 16 → length (waiting s ssrc asks) ≤ 15

-- By the laws of a source among others.
module _ (untouched : IsLeftByOthers) (closed : IsClosedAlone) where
  -- a call about one source
  about : (s : Setting) (ssrc x : ℕ) (ask : Ask) (before : List Ask) (b : Bool) → nat_eq ssrc x ≡ b → concerns ssrc ask ≡ nat_eq ssrc x
      → WaitsAt s (ask ∷ before) x → WaitsAt s before ssrc → WaitsAt s (ask ∷ before) ssrc
  about s ssrc x ask before true e is own h = subst (WaitsAt s (ask ∷ before)) (sym (eqb-true ssrc x e)) own
  about s ssrc x ask before false e is own h = alike_waits s ssrc (ask ∷ before) before (untouched s ssrc ask before (is ∙ e)) h

  waits : (s : Setting) (ssrc : ℕ) (asks : List Ask) → s.probation ≤ 16 → WaitsAt s asks ssrc
  waits s ssrc [] small = omega arith
  waits s ssrc (Hears now from view rate ∷ before) small =
      about s ssrc view.ssrc (Hears now from view rate) before (nat_eq ssrc view.ssrc) refl refl (hears_waits s now from view rate before small (waits s view.ssrc before small)) (waits s ssrc before small)
  waits s ssrc (Names x text ∷ before) small =
      subst (λ (o : Option Source). WaitsOf o (waiting s ssrc before)) (sym (source_name (table s before) ssrc x text (named (table s before) x text))) (waits s ssrc before small)
  waits s ssrc (Reports now x seconds fraction rtp ∷ before) small =
      about s ssrc x (Reports now x seconds fraction rtp) before (nat_eq ssrc x) refl refl
      (subst (λ (o : Option Source). WaitsOf o (waiting s x before)) (sym (source_change (table s before) x (kept (table s before) x) (λ y. report_next y now seconds fraction) refl))
      (report_waits now seconds fraction (kept (table s before) x) (waiting s x before) (waits s x before small)))
      (waits s ssrc before small)
  waits s ssrc (Leaves x ∷ before) small =
      about s ssrc x (Leaves x) before (nat_eq ssrc x) refl refl
      (subst (λ (o : Option Source). WaitsOf o (waiting s x before)) (sym (source_change (table s before) x (kept (table s before) x) left_next refl))
      (left_waits (kept (table s before) x) (waiting s x before) (waits s x before small)))
      (waits s ssrc before small)
  waits s ssrc (Closes now timeout ∷ before) small =
      subst (λ (o : Option Source). WaitsOf o (waiting s ssrc (Closes now timeout ∷ before))) (sym (closed s before now timeout ssrc))
      (closes_waits now timeout (kept (table s before) ssrc) (waiting s ssrc before) (waits s ssrc before small))

  pub few_wait : FewWait
  few_wait s ssrc asks small = few_of (kept (table s asks) ssrc) (waiting s ssrc asks) (waits s ssrc asks small)
