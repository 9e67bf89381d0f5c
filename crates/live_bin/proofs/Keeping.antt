-- What the calls on a lane's state keep and add.
use Rattle.std.proofs.Common.{ℕ, ◌≡◌, ◌+◌, ◌<◌, ◌==◌, ◌⊎◌, inl, inr, Bool, true, false, ◌||◌, refl, sym, ap, subst, ◌∙◌, List, [], ◌∷◌, ◌++◌, Option, None, Some, is_some, Result, Ok, Err, IfOk, OnErr, arith, if◌then◌else◌}
use Rattle.std.proofs.lemmas.Grind.{common_steps}
use Rattle.std.proofs.lemmas.List.{reverse-append, append-nil}
use Rattle.std.proofs.Math.Logic.{∥∥₁_map, ∥∥₁_elim}
use Rattle.std.proofs.Props.{props}
use Rattle.rtp_units.specs.declared.SyncInfo.{SyncInfo}
use Rattle.skew_model.specs.Skew.{Estimate}
use Rattle.jitter_model.specs.declared.Arrival.{Arrival}
use Rattle.jitter_model.specs.declared.Settings.{Settings}
use Rattle.jitter_model.specs.declared.Verdict.{Verdict}
use Rattle.jitter_model.specs.declared.Entry.TheVariants as call
use Rattle.jitter_model.specs.History.{History, is_flushing}
use Rattle.jitter_model.specs.Accepted.{accepted}
use Rattle.jitter_model.specs.Times.{estimate_of}
use Rattle.jitter_model.specs.Runs.{Run, report, report_at}
use Rattle.jitter_core.specs.Words.{Stands, settings_of}
use Rattle.live_bin.specs.declared.plan.Delivery.{Delivery}
use Rattle.live_bin.specs.declared.plan.Delivery.TheVariants as brought
use Rattle.live_bin.specs.declared.plan.ControlEvent.{ControlEvent}
use Rattle.live_bin.specs.declared.plan.ControlEvent.TheVariants as control
use Rattle.live_bin.specs.declared.plan.Plan.{Plan}
use Rattle.live_bin.specs.declared.plan.PlanLane.{PlanLane}
use Rattle.live_bin.specs.declared.entry.Entry.{Entry}
use Rattle.live_bin.specs.declared.entry.Entry.TheVariants.{Report, Clock, FlushStart, FlushStop, Latency, Ends}
use Rattle.live_bin.specs.declared.lane.Progress.{Progress}
use Rattle.live_bin.specs.declared.lane.Lane.{Lane}
use Rattle.live_bin.specs.Plans.{delivery, event}
use Rattle.live_bin.specs.Journals.{given, controls, has_left, reply_of, stands_for, Follows}
use Rattle.live_bin.specs.Steps.{IsSame, Adds, Delivers, DeliversNext, Controls, ControlsNext, given_of, with_given, with_control, with_ended, next_delivery, push_entry, local_of}
use Rattle.live_bin.specs.Words.{newest, lane_in, history, delivery_of, delivered, entry_of, event_of, controlled}
use Rattle.live_bin.specs.Kept.{Counts, Keeps, IsKept}
use Rattle.live_bin.proofs.Pushers.{clash, set_given, set_ended, length_set, goes_on}

-- ---- one entry more

abbrev pub Knows : Plan → Lane → Type 0
Knows p s = Keeps (lane_in p s) s.buffer s.progress (newest s)

pub adds_kept : (p : Plan) (s t : Lane) (e : Entry) (g : Progress) → IsKept p s
    → t.number ≡ s.number → t.progress ≡ g → settings_of t.buffer ≡ settings_of s.buffer → t.journal.items ≡ s.journal.items ++ e ∷ []
    → (Knows p s → Follows (lane_in p s) e (newest s) × Counts (lane_in p s) g (e ∷ newest s) × Stands t.buffer (stands_for (lane_in p s) e ∷ history p s))
    → IsKept p t
adds_kept p s t e g kept number progress settings journal f =
    rw (number, progress, journal, reverse-append s.journal.items (e ∷ []))
    (∥∥₁_map kept (λ k. let n = f k in record { in_order = (n.0, k.in_order); stands = n.2; settings = settings ∙ k.settings; counts = n.1 }))

pub same_kept : (p : Plan) (s t : Lane) → IsKept p s → IsSame s t → IsKept p t
same_kept p s t k e = rw (e.number, e.progress, e.buffer, e.journal) k

-- a call under a plan that is the one of the type
pub under : (p p' : Plan) (s t : Lane) → p ≡ p' → IsKept p' s → (IsKept p s → IsKept p t) → IsKept p' t
under p p' s t same kept f = subst (λ (x : Plan). IsKept x t) same (f (subst (λ (x : Plan). IsKept x s) (sym same) kept))

-- ---- counts

given_counts : (l : PlanLane) (g : Progress) (es : List Entry) (q : ℕ) → Counts l g es → q < 8 → (r : ℕ)
    → given_of (with_given g q) r ≡ (if q == r then given r es + 1 else given r es)
given_counts l g es q c small r = set_given g.given q r (omega (arith, c.given_long)) ∙ ap (λ (n : ℕ). if q == r then n + 1 else n) (c.given_are r)

counts_push : (l : PlanLane) (g : Progress) (es : List Entry) (q : ℕ) (a : Arrival) (v : Verdict) (n dropped : ℕ) → Counts l g es → q < 8
    → Counts l (with_given g q) (push_entry q (given_of g q) a v n dropped ∷ es)
counts_push l g es q a v n dropped c small =
    record { given_long = length_set g.given q _ ∙ c.given_long; given_are = given_counts l g es q c small; controls_are = c.controls_are; ended_long = c.ended_long; ended_are = c.ended_are; told_is = c.told_is }

counts_report : (l : PlanLane) (g : Progress) (es : List Entry) (q k ntp_ns rtp : ℕ) (local : Option ℕ) → Counts l g es → q < 8
    → Counts l (with_given g q) (Report q k ntp_ns rtp local ∷ es)
counts_report l g es q k ntp_ns rtp local c small =
    record { given_long = length_set g.given q _ ∙ c.given_long; given_are = given_counts l g es q c small; controls_are = c.controls_are; ended_long = c.ended_long; ended_are = c.ended_are; told_is = c.told_is }

pub counts_end : (l : PlanLane) (g : Progress) (es : List Entry) (q : ℕ) → Counts l g es → q < 9 → Counts l (with_ended g q) (Ends q ∷ es)
counts_end l g es q c small =
    record {
      given_long = c.given_long;
      given_are = c.given_are;
      controls_are = c.controls_are;
      ended_long = length_set g.ended q true ∙ c.ended_long;
      ended_are = λ r. set_ended g.ended q r (omega (arith, c.ended_long)) ∙ ap (λ (b : Bool). r == q || b) (c.ended_are r);
      told_is = c.told_is;
    }

-- ---- deliveries

some_left : (l : PlanLane) (q : ℕ) (es : List Entry) (d : Delivery) → q < 8 → delivery l q (given q es) ≡ Some d → has_left l es q ≡ true
some_left l q es d small e = let other : (q == 8) ≡ false = grind (arith, common_steps) in rw other (ap is_some e)

report_reply_by : (rate ntp_ns rtp : ℕ) (b : Bool) (o : Option Estimate)
    → (if b then None else report_at rate ntp_ns rtp o) ≡ reply_of ntp_ns (local_of (if b then None else report_at rate ntp_ns rtp o))
report_reply_by rate ntp_ns rtp true o = refl
report_reply_by rate ntp_ns rtp false None = refl
report_reply_by rate ntp_ns rtp false (Some e) = refl

report_reply : (s : Settings) (h : History) (ntp_ns rtp : ℕ) (r : Option SyncInfo) → r ≡ report s h ntp_ns rtp → r ≡ reply_of ntp_ns (local_of r)
report_reply s h ntp_ns rtp r e = rw e (report_reply_by s.rate ntp_ns rtp (is_flushing h) (estimate_of s (accepted h)))

-- what the code asks of a delivery and the plan's type promises
pub record CanTake (l : PlanLane) (s : Lane) (q : ℕ) : Type 0 where
  pub session : (d : Delivery) → next_delivery l s.progress q ≡ Some d → q < 8
  pub numbered : (r j ntp_ns rtp : ℕ) → next_delivery l s.progress q ≡ Some (brought.Report r j ntp_ns rtp) → (r ≡ q) × (j ≡ given_of s.progress q)

report_renamed : (o : Option Delivery) (q k r j ntp_ns rtp : ℕ) → o ≡ Some (brought.Report r j ntp_ns rtp) → (r ≡ q) × (j ≡ k) → o ≡ Some (brought.Report q k ntp_ns rtp)
report_renamed o q k r j ntp_ns rtp e same = subst (λ (x : ℕ). o ≡ Some (brought.Report x k ntp_ns rtp)) same.0 (subst (λ (y : ℕ). o ≡ Some (brought.Report r y ntp_ns rtp)) same.1 e)

given_next : (l : PlanLane) (g : Progress) (es : List Entry) (q : ℕ) (d : Delivery) → Counts l g es → next_delivery l g q ≡ Some d → delivery l q (given q es) ≡ Some d
given_next l g es q d c e = ap (delivery l q) (sym (c.given_are q)) ∙ e

delivers_kept : (p : Plan) (s t : Lane) (q : ℕ) (d : Delivery) → IsKept p s → CanTake (lane_in p s) s q → next_delivery (lane_in p s) s.progress q ≡ Some d → Delivers s t q d → IsKept p t
delivers_kept p s t q (brought.Packet a) kept can is (v, n, dropped, adds) =
    adds_kept p s t (push_entry q (given_of s.progress q) a v n dropped) _ kept adds.number adds.progress adds.settings adds.journal (λ k. (
      record {
        arrival = a;
        order = k.counts.given_are q;
        delivery_is = is;
        stamp_is = refl;
        seq_is = refl;
        origin_is = refl;
        goes_on = goes_on (lane_in p s) q (newest s) k.in_order (some_left (lane_in p s) q (newest s) _ (can.session _ is) (given_next (lane_in p s) s.progress (newest s) q _ k.counts is));
      },
      counts_push (lane_in p s) s.progress (newest s) q a v n dropped k.counts (can.session _ is),
      rw is (adds.buffer (history p s) k.stands),
    ))
delivers_kept p s t q (brought.Report r j ntp_ns rtp) kept can is (sync, adds) =
    adds_kept p s t (Report q (given_of s.progress q) ntp_ns rtp (local_of sync)) _ kept adds.number adds.progress adds.settings adds.journal (λ k. (
      record {
        order = k.counts.given_are q;
        delivery_is = report_renamed _ q _ r j ntp_ns rtp is (can.numbered r j ntp_ns rtp is);
        goes_on = goes_on (lane_in p s) q (newest s) k.in_order (some_left (lane_in p s) q (newest s) _ (can.session _ is) (given_next (lane_in p s) s.progress (newest s) q _ k.counts is));
      },
      counts_report (lane_in p s) s.progress (newest s) q _ ntp_ns rtp (local_of sync) k.counts (can.session _ is),
      (let stands = adds.buffer (history p s) k.stands in
          subst (λ (x : Option SyncInfo). Stands t.buffer (call.Report ntp_ns rtp x ∷ history p s)) (report_reply (settings_of t.buffer) (history p s) ntp_ns rtp sync stands.run.0.reply_is) stands),
    ))

-- what a call with a flag came to
pub outcome : {E P Q : Type 0} (res : Result Bool E) → IfOk res (λ b. b ≡ true → P) → IfOk res (λ b. b ≡ false → Q) → OnErr res Q → P ⊎ Q
outcome (Ok true) p q e = inl (p refl)
outcome (Ok false) p q e = inr (q refl)
outcome (Err x) p q e = inr e

pub deliver_kept : (p : Plan) (s t : Lane) (q : ℕ) → IsKept p s → CanTake (lane_in p s) s q → DeliversNext (lane_in p s) s t q ⊎ IsSame s t → IsKept p t
deliver_kept p s t q kept can (inl (d, is, does)) = delivers_kept p s t q d kept can is does
deliver_kept p s t q kept can (inr e) = same_kept p s t kept e

pub next_is : (p : Plan) (s : Lane) (q : ℕ) → IsKept p s → next_delivery (lane_in p s) s.progress q ≡ delivery_of p s q
next_is p s q kept = ∥∥₁_elim kept (hlevel props) (λ k. ap (delivery (lane_in p s) q) (k.counts.given_are q))

pub none_of : {A : Type 0} (o : Option A) → false ≡ is_some o → o ≡ None
none_of None e = refl
none_of (Some x) e = clash (sym e)

push_same : (s : Settings) (h : History) (q k : ℕ) (a : Arrival) (v : Verdict) (n dropped : ℕ) → Run s (call.Push a v n dropped ∷ h)
    → push_entry q k a v n dropped ∷ [] ≡ entry_of s h q k (Some (brought.Packet a))
push_same s h q k a v n dropped run = let r = run.0 in rw (r.number_is, r.dropped_is, r.verdict_is) refl

delivers_added : (p : Plan) (s t : Lane) (q : ℕ) (d : Delivery) → Knows p s → next_delivery (lane_in p s) s.progress q ≡ Some d → Delivers s t q d
    → t.journal.items ≡ s.journal.items ++ delivered p s q
delivers_added p s t q (brought.Packet a) k is (v, n, dropped, adds) =
    let run : Run (lane_in p s).settings (call.Push a v n dropped ∷ history p s) = subst (λ (x : Settings). Run x (call.Push a v n dropped ∷ history p s)) (adds.settings ∙ k.settings) (adds.buffer (history p s) k.stands).run in
    rw (given_next (lane_in p s) s.progress (newest s) q _ k.counts is, ← push_same (lane_in p s).settings (history p s) q (given q (newest s)) a v n dropped run, ← k.counts.given_are q) adds.journal
delivers_added p s t q (brought.Report r j ntp_ns rtp) k is (sync, adds) =
    let run : Run (lane_in p s).settings (call.Report ntp_ns rtp sync ∷ history p s) = subst (λ (x : Settings). Run x (call.Report ntp_ns rtp sync ∷ history p s)) (adds.settings ∙ k.settings) (adds.buffer (history p s) k.stands).run in
    rw (given_next (lane_in p s) s.progress (newest s) q _ k.counts is, ← run.0.reply_is, ← k.counts.given_are q) adds.journal

pub deliver_added : (p : Plan) (s t : Lane) (q : ℕ) → IsKept p s
    → (b : Bool) → b ≡ is_some (next_delivery (lane_in p s) s.progress q) → (b ≡ true → DeliversNext (lane_in p s) s t q) → (b ≡ false → IsSame s t)
    → t.journal.items ≡ s.journal.items ++ delivered p s q
deliver_added p s t q kept true is done same = let (d, e, does) = done refl in ∥∥₁_elim kept (hlevel props) (λ k. delivers_added p s t q d k e does)
deliver_added p s t q kept false is done same =
    let none : delivery_of p s q ≡ None = sym (next_is p s q kept) ∙ none_of (next_delivery (lane_in p s) s.progress q) is in
    rw none ((same refl).journal ∙ sym (append-nil s.journal.items))

-- ---- control events

abbrev pub ControlsAdd : Plan → Lane → Lane → ControlEvent → Entry → Type 0
ControlsAdd p s t x e = Adds s t e (stands_for (lane_in p s) e) (with_control s.progress)

goes_on_control : (p : Plan) (s : Lane) (x : ControlEvent) → Knows p s → event (lane_in p s) s.progress.controls ≡ Some x → event (lane_in p s) (controls (newest s)) ≡ Some x
goes_on_control p s x k is = ap (event (lane_in p s)) (sym k.counts.controls_are) ∙ is

controls_kept : (p : Plan) (s t : Lane) (x : ControlEvent) → IsKept p s → event (lane_in p s) s.progress.controls ≡ Some x → Controls s t x → IsKept p t
controls_kept p s t (control.Clock at) kept is a =
    adds_kept p s t (Clock 8 at) _ kept a.number a.progress a.settings a.journal (λ k.
    let order = goes_on_control p s _ k is in (
      inl (refl, record { order = order; goes_on = goes_on (lane_in p s) 8 (newest s) k.in_order (ap is_some order) }),
      record { given_long = k.counts.given_long; given_are = k.counts.given_are; controls_are = ap (λ (n : ℕ). n + 1) k.counts.controls_are; ended_long = k.counts.ended_long; ended_are = k.counts.ended_are; told_is = k.counts.told_is },
      a.buffer (history p s) k.stands,
    ))
controls_kept p s t control.FlushStart kept is (count, a) =
    adds_kept p s t (FlushStart count) _ kept a.number a.progress a.settings a.journal (λ k.
    let order = goes_on_control p s _ k is in (
      record { order = order; goes_on = goes_on (lane_in p s) 8 (newest s) k.in_order (ap is_some order) },
      record { given_long = k.counts.given_long; given_are = k.counts.given_are; controls_are = ap (λ (n : ℕ). n + 1) k.counts.controls_are; ended_long = k.counts.ended_long; ended_are = k.counts.ended_are; told_is = k.counts.told_is },
      a.buffer (history p s) k.stands,
    ))
controls_kept p s t control.FlushStop kept is a =
    adds_kept p s t FlushStop _ kept a.number a.progress a.settings a.journal (λ k.
    let order = goes_on_control p s _ k is in (
      record { order = order; goes_on = goes_on (lane_in p s) 8 (newest s) k.in_order (ap is_some order) },
      record { given_long = k.counts.given_long; given_are = k.counts.given_are; controls_are = ap (λ (n : ℕ). n + 1) k.counts.controls_are; ended_long = k.counts.ended_long; ended_are = k.counts.ended_are; told_is = k.counts.told_is },
      a.buffer (history p s) k.stands,
    ))
controls_kept p s t (control.Latency ns) kept is a =
    adds_kept p s t (Latency ns) _ kept a.number a.progress a.settings a.journal (λ k.
    let order = goes_on_control p s _ k is in (
      record { order = order; goes_on = goes_on (lane_in p s) 8 (newest s) k.in_order (ap is_some order) },
      record { given_long = k.counts.given_long; given_are = k.counts.given_are; controls_are = ap (λ (n : ℕ). n + 1) k.counts.controls_are; ended_long = k.counts.ended_long; ended_are = k.counts.ended_are; told_is = k.counts.told_is },
      a.buffer (history p s) k.stands,
    ))

pub control_kept : (p : Plan) (s t : Lane) → IsKept p s → ControlsNext (lane_in p s) s t ⊎ IsSame s t → IsKept p t
control_kept p s t kept (inl (x, is, does)) = controls_kept p s t x kept is does
control_kept p s t kept (inr e) = same_kept p s t kept e

pub event_is : (p : Plan) (s : Lane) → IsKept p s → event (lane_in p s) s.progress.controls ≡ event_of p s
event_is p s kept = ∥∥₁_elim kept (hlevel props) (λ k. ap (event (lane_in p s)) k.counts.controls_are)

controls_added : (p : Plan) (s t : Lane) (x : ControlEvent) → Knows p s → event (lane_in p s) (controls (newest s)) ≡ Some x → Controls s t x → t.journal.items ≡ s.journal.items ++ controlled p s
controls_added p s t (control.Clock at) k is a = rw is a.journal
controls_added p s t control.FlushStart k is (count, a) = rw (is, ← (a.buffer (history p s) k.stands).run.0) a.journal
controls_added p s t control.FlushStop k is a = rw is a.journal
controls_added p s t (control.Latency ns) k is a = rw is a.journal

pub control_added : (p : Plan) (s t : Lane) → IsKept p s
    → (b : Bool) → b ≡ is_some (event (lane_in p s) s.progress.controls) → (b ≡ true → ControlsNext (lane_in p s) s t) → (b ≡ false → IsSame s t)
    → t.journal.items ≡ s.journal.items ++ controlled p s
control_added p s t kept true is done same = let (x, e, does) = done refl in ∥∥₁_elim kept (hlevel props) (λ k. controls_added p s t x k (goes_on_control p s x k e) does)
control_added p s t kept false is done same =
    let none : event_of p s ≡ None = sym (event_is p s kept) ∙ none_of (event (lane_in p s) s.progress.controls) is in
    rw none ((same refl).journal ∙ sym (append-nil s.journal.items))
