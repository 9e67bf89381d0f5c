-- A sender report comes to a lane, and offsets are told.
use Rattle.std.proofs.Common.{ℕ, ◌≡◌, ◌<◌, ◌^◌, Bool, true, false, refl, sym, ap, subst, ◌∙◌, List, [], ◌∷◌, ◌++◌, map, length, Option, None, Some, arith}
use Rattle.std.specs.Prelude.{ℤ, ◌+ℤ◌, pos, negsuc, All, ◌==◌, get_or, set, slice_get, if◌then◌else◌}
use Rattle.std.proofs.Props.{props}
use Rattle.std.proofs.Math.Logic.{∥∥₁_elim}
use Rattle.std.proofs.lemmas.Grind.{common_steps}
use Rattle.std.proofs.lemmas.List.Sums.{sum_by-cons}
use Rattle.std.proofs.lemmas.List.{append_assoc, append-nil, length-set}
use Rattle.std.proofs.lemmas.List.Elements.{All-cons}
use Rattle.rtp_units.specs.declared.SyncInfo.{SyncInfo}
use Rattle.rtp_units.specs.Numbers.{hold, ext32}
use Rattle.skew_model.specs.Skew.{Estimate, sent_at, other_time}
use Rattle.jitter_model.specs.declared.Settings.{Settings}
use Rattle.jitter_model.specs.History.{History, is_flushing}
use Rattle.jitter_model.specs.Accepted.{accepted}
use Rattle.jitter_model.specs.Times.{estimate_of}
use Rattle.jitter_model.specs.Runs.{report, report_at}
use Rattle.jitter_core.specs.Words.{Stands, settings_of}
use Rattle.script_lang.specs.Contents.{Contents}
use Rattle.script_lang.specs.declared.script.Item.{Item}
use Rattle.timeline.specs.declared.line.BinLine.{BinLine}
use Rattle.ntp_sync.specs.Offsets.{Call, StandsFor as SyncStandsFor}
use Rattle.front_model.specs.declared.Opening.{Opening}
use Rattle.front_model.specs.Events.{FrontEvent}
use Rattle.front_model.specs.declared.SenderReport.{SenderReport}
use Rattle.front_model.specs.declared.Step.TheVariants as step
use Rattle.front_model.specs.Sessions.{cname}
use Rattle.rtp_front.specs.Standing.{State as FrontState, StandsFor as FrontStandsFor}
use Rattle.replay_model.specs.Events.{Timeline, Told, Kept, front, kept, lane, openings, items}
use Rattle.replay_model.specs.Lines.{lines, out_in, lost_in, refused_in, all_told}
use Rattle.replay_model.specs.Lanes.{lane_count, opened}
use Rattle.replay_model.specs.Taking.{call_of, offset_line, offsets, last_reports, offsets_told, kept_under, synced_by, synced}
use Rattle.lane_core.specs.declared.lane.Lane.{Lane}
use Rattle.lane_core.specs.Lanes.{Base, LaneHolds, LaneTells, Replies, GoesOn, reported_at, replied_at}
use Rattle.lane_core.specs.AllLanes.{LanesRest}
use Rattle.bin_core.proofs.Timelines.{same_opened}
use Rattle.bin_core.specs.declared.stage.Stage.{Stage}
use Rattle.bin_core.specs.Stages.{StageTells, AreApart, Keeps}
use Rattle.bin_core.proofs.Staging.{SameBeside, standing_by_items, lane_tells, still}
use Rattle.lane_core.specs.AllLanes.{around}
use Rattle.lane_core.specs.Lanes.{Sums}
use Rattle.lane_core.specs.Beside.{LanesStandBeside}

-- ---- lines that are told

told_lane : (t : ℕ) (xs : List BinLine) (k : ℕ) (tl : Timeline) → lane k (all_told t xs tl) ≡ lane k tl
told_lane t [] k tl = refl
told_lane t (x ∷ xs) k tl = told_lane t xs k (Told t x ∷ tl)

told_front : (t : ℕ) (xs : List BinLine) (tl : Timeline) → front (all_told t xs tl) ≡ front tl
told_front t [] tl = refl
told_front t (x ∷ xs) tl = told_front t xs (Told t x ∷ tl)

told_openings : (t : ℕ) (xs : List BinLine) (tl : Timeline) → openings (all_told t xs tl) ≡ openings tl
told_openings t [] tl = refl
told_openings t (x ∷ xs) tl = told_openings t xs (Told t x ∷ tl)

told_kept : (t : ℕ) (xs : List BinLine) (tl : Timeline) → kept (all_told t xs tl) ≡ kept tl
told_kept t [] tl = refl
told_kept t (x ∷ xs) tl = told_kept t xs (Told t x ∷ tl)

told_items : (t : ℕ) (xs : List BinLine) (tl : Timeline) → items (all_told t xs tl) ≡ items tl
told_items t [] tl = refl
told_items t (x ∷ xs) tl = told_items t xs (Told t x ∷ tl)

told_lines : (t : ℕ) (xs : List BinLine) (tl : Timeline) → lines (all_told t xs tl) ≡ lines tl ++ xs
told_lines t [] tl = sym (append-nil (lines tl))
told_lines t (x ∷ xs) tl = told_lines t xs (Told t x ∷ tl) ∙ append_assoc (lines tl) (x ∷ []) xs

-- offsets count nothing
offset_sums : (t : ℕ) (zs : List (ℕ × ℕ)) → Sums (map (offset_line t) zs) 0 0 0
offset_sums t [] = record { out_is = refl; lost_is = refl; refused_is = refl }
offset_sums t (z ∷ zs) =
    let more : Sums (map (offset_line t) zs) 0 0 0 = offset_sums t zs in
    record {
      out_is = omega (arith, sum_by-cons out_in (offset_line t z) (map (offset_line t) zs), more.out_is);
      lost_is = omega (arith, sum_by-cons lost_in (offset_line t z) (map (offset_line t) zs), more.lost_is);
      refused_is = omega (arith, sum_by-cons refused_in (offset_line t z) (map (offset_line t) zs), more.refused_is);
    }

-- ---- a report that is kept

pub keeps :
    LanesStandBeside
    → (c : Contents) (base : Base) (resting : ℕ → Bool) (s s' : Stage) (t n : ℕ) (name : List ℕ) (info : SyncInfo) (before after : List BinLine) (tl : Timeline)
    → n < length s.lanes.items
    → s'.lanes.items ≡ s.lanes.items → s'.front ≡ s.front → s'.standings ≡ s.standings
    → Keeps t n name info s.sync s'.sync before after
    → StageTells c base resting s before tl
    → StageTells c base resting s' after (offsets_told t name (Kept t (call_of n name info) ∷ tl))
keeps beside_law c base resting s s' t n name info before after tl lt lanes_are front_is standings_are keep h =
    record {
      count = ap (λ (x : List Lane). length x) lanes_are ∙ h.count ∙ sym count;
      few = omega (arith, h.few, count);
      lanes = beside_law.opened (opened c tl) (opened c new) base resting s'.lanes.items after new (λ k below. sym (same_opened c tl new k opens))
          (subst (λ (x : List Lane). LanesRest (opened c tl) base resting x after new) (sym lanes_are)
          (beside_law.apart (opened c tl) base resting s.lanes.items before after ys tl new (λ k. told_lane t ys k mid) added kept_is.1 (offset_sums t (offsets name (last_reports (call ∷ kept tl) (lane_count tl)))) h.lanes));
      front = subst (λ (x : FrontState). FrontStandsFor x c (front new)) (sym front_is) (subst (λ (x : List FrontEvent). FrontStandsFor s.front c x) (sym (told_front t ys mid)) h.front);
      sync = subst (λ (x : List Call). SyncStandsFor s'.sync x) (sym (told_kept t ys mid)) kept_is.0;
      lanes_kept = subst (λ (x : List Call). All (λ (y : Call). y.lane < lane_count new) x) (sym (told_kept t ys mid))
          (subst (λ (m : ℕ). All (λ (y : Call). y.lane < m) (call ∷ kept tl)) (sym count) (All-cons (λ (y : Call). y.lane < lane_count tl) call (kept tl) below h.lanes_kept));
      standings = λ session less.
          ap (λ x. slice_get x session) standings_are ∙ h.standings session less
          ∙ ap (λ (x : List Item). Some (standing_by_items c session x)) (sym (told_items t ys mid));
    }
  where
    call : Call
    call = call_of n name info

    mid : Timeline
    mid = Kept t call ∷ tl

    ys : List BinLine
    ys = map (offset_line t) (offsets name (last_reports (call ∷ kept tl) (lane_count tl)))

    new : Timeline
    new = all_told t ys mid

    below : n < lane_count tl
    below = omega (arith, lt, h.count)

    kept_is : (SyncStandsFor s'.sync (call ∷ kept tl)) × (after ≡ before ++ ys)
    kept_is = keep (kept tl) (lane_count tl) h.few below h.lanes_kept h.sync

    opens : openings new ≡ openings tl
    opens = told_openings t ys mid

    count : lane_count new ≡ lane_count tl
    count = ap (λ (os : List Opening). length os) opens

    added : lines new ≡ lines tl ++ ys
    added = told_lines t ys mid ∙ ap (λ (x : List BinLine). x ++ ys) (append-nil (lines tl))

-- ---- a report that comes

replied_beside : (t ntp rtp n : ℕ) (reply : Option SyncInfo) (tl : Timeline) → SameBeside tl (replied_at t ntp rtp n reply tl)
replied_beside t ntp rtp n None tl = record { openings_are = refl; kept_are = refl; items_are = refl }
replied_beside t ntp rtp n (Some info) tl = record { openings_are = refl; kept_are = refl; items_are = refl }

replied_front : (t ntp rtp n : ℕ) (reply : Option SyncInfo) (tl : Timeline) → front (replied_at t ntp rtp n reply tl) ≡ front tl
replied_front t ntp rtp n None tl = refl
replied_front t ntp rtp n (Some info) tl = refl

-- what is known when a lane has replied
pub record Replied (c : Contents) (base : Base) (resting : ℕ → Bool) (s : Stage) (t n : ℕ) (r : SenderReport) (was : Lane) (reply : Option SyncInfo) (mid : List BinLine) (tl : Timeline) : Type 0 where
  pub tells : StageTells c base resting s mid (replied_at t r.ntp_ns r.rtp n reply tl)
  pub is : synced c t n r tl ≡ synced_by c t n r reply tl
  pub session_is : was.session ≡ (opened c tl n).session
  pub ssrc_is : was.ssrc ≡ (opened c tl n).ssrc

pub replied :
    LanesStandBeside
    → (c : Contents) (base : Base) (resting : ℕ → Bool) (s s' : Stage) (t n : ℕ) (r : SenderReport) (was b : Lane) (reply : Option SyncInfo) (before mid : List BinLine) (tl : Timeline)
    → n < length s.lanes.items → was ≡ get_or s.lanes.items n was
    → s'.lanes.items ≡ set s.lanes.items n b → s'.front ≡ s.front → s'.sync ≡ s.sync → s'.standings ≡ s.standings
    → Replies was r.ntp_ns r.rtp reply
    → GoesOn was b before mid (reported_at t r.ntp_ns r.rtp)
    → AreApart resting (length s.lanes.items) (step.Sync n r)
    → StageTells c base resting s before tl
    → Replied c base resting s' t n r was reply mid tl
replied beside_law c base resting s s' t n r was b reply before mid tl lt is lanes_are front_is sync_is standings_are replies goes apart h =
    record {
      tells = lane_tells beside_law c base resting s s' n was b before mid tl (replied_at t r.ntp_ns r.rtp n reply tl) lt is lanes_are front_is sync_is standings_are
          (still resting n (length s.lanes.items) (step.Sync n r) (eq_same n) apart)
          (replied_beside t r.ntp_ns r.rtp n reply tl) (replied_front t r.ntp_ns r.rtp n reply tl)
          (λ a k. subst (λ (x : Option SyncInfo). LaneTells o a n b mid (replied_at t r.ntp_ns r.rtp n x tl)) (sym reply_is) (goes o a n tl k)) h;
      is = ap (λ (x : Option SyncInfo). synced_by c t n r x tl) (sym reply_is);
      session_is = one.holds.session_is;
      ssrc_is = one.holds.ssrc_is;
    }
  where
    o : ℕ → Opening
    o = opened c tl

    one : LaneTells o (around base s.lanes.items n tl) n was before tl
    one = beside_law.each o base s.lanes.items n was before tl lt is h.lanes.tells

    reply_is : reply ≡ report (o n).settings (lane n tl) r.ntp_ns r.rtp
    reply_is = replies (o n) n (lane n tl) one.holds

    eq_same : (m : ℕ) → (m == m) ≡ true
    eq_same m = grind (arith, common_steps)

-- no time in the lane
pub synced_none :
    (c : Contents) (base : Base) (resting : ℕ → Bool) (s : Stage) (t n : ℕ) (r : SenderReport) (was : Lane) (reply : Option SyncInfo) (mid : List BinLine) (tl : Timeline)
    → reply ≡ None
    → Replied c base resting s t n r was reply mid tl
    → StageTells c base resting s mid (synced c t n r tl)
synced_none c base resting s t n r was reply mid tl e h =
    subst (λ (x : Timeline). StageTells c base resting s mid x) (sym (h.is ∙ ap (λ (x : Option SyncInfo). synced_by c t n r x tl) e))
    (subst (λ (x : Option SyncInfo). StageTells c base resting s mid (replied_at t r.ntp_ns r.rtp n x tl)) e h.tells)

-- the timeline behind a reply, by the name of the lane's source
by_name : (c : Contents) (t n : ℕ) (r : SenderReport) (was : Lane) (info : SyncInfo) (tl : Timeline) (name : Option (List ℕ)) → was.session ≡ (opened c tl n).session → was.ssrc ≡ (opened c tl n).ssrc → name ≡ cname c (front tl) was.session was.ssrc → synced_by c t n r (Some info) tl ≡ kept_under t n info name (replied_at t r.ntp_ns r.rtp n (Some info) tl)
by_name c t n r was info tl name session_is ssrc_is e =
    ap (λ (x : Option (List ℕ)). kept_under t n info x (replied_at t r.ntp_ns r.rtp n (Some info) tl))
    (sym (e ∙ ap (λ (x : ℕ). cname c (front tl) x was.ssrc) session_is ∙ ap (cname c (front tl) (opened c tl n).session) ssrc_is))

-- a source without a CNAME
pub synced_nameless :
    (c : Contents) (base : Base) (resting : ℕ → Bool) (s : Stage) (t n : ℕ) (r : SenderReport) (was : Lane) (reply : Option SyncInfo) (info : SyncInfo) (mid : List BinLine) (tl : Timeline)
    → reply ≡ Some info → None ≡ cname c (front tl) was.session was.ssrc
    → Replied c base resting s t n r was reply mid tl
    → StageTells c base resting s mid (synced c t n r tl)
synced_nameless c base resting s t n r was reply info mid tl e none h =
    subst (λ (x : Timeline). StageTells c base resting s mid x)
    (sym (h.is ∙ ap (λ (x : Option SyncInfo). synced_by c t n r x tl) e ∙ by_name c t n r was info tl None h.session_is h.ssrc_is none))
    (subst (λ (x : Option SyncInfo). StageTells c base resting s mid (replied_at t r.ntp_ns r.rtp n x tl)) e h.tells)

-- a source with a CNAME
pub synced_named :
    LanesStandBeside
    → (c : Contents) (base : Base) (resting : ℕ → Bool) (s s' : Stage) (t n : ℕ) (r : SenderReport) (was : Lane) (reply : Option SyncInfo) (info : SyncInfo) (name : List ℕ) (mid after : List BinLine) (tl : Timeline)
    → reply ≡ Some info → Some name ≡ cname c (front tl) was.session was.ssrc
    → n < length s.lanes.items
    → s'.lanes.items ≡ s.lanes.items → s'.front ≡ s.front → s'.standings ≡ s.standings
    → Keeps t n name info s.sync s'.sync mid after
    → Replied c base resting s t n r was reply mid tl
    → StageTells c base resting s' after (synced c t n r tl)
synced_named beside_law c base resting s s' t n r was reply info name mid after tl e some lt lanes_are front_is standings_are keep h =
    subst (λ (x : Timeline). StageTells c base resting s' after x)
    (sym (h.is ∙ ap (λ (x : Option SyncInfo). synced_by c t n r x tl) e ∙ by_name c t n r was info tl (Some name) h.session_is h.ssrc_is some))
    (keeps beside_law c base resting s s' t n name info mid after (replied_at t r.ntp_ns r.rtp n (Some info) tl) lt lanes_are front_is standings_are keep
    (subst (λ (x : Option SyncInfo). StageTells c base resting s mid (replied_at t r.ntp_ns r.rtp n x tl)) e h.tells))

pub long : (ls : List Lane) (n : ℕ) (b : Lane) → n < length ls → n < length (set ls n b)
long ls n b lt = omega (arith, lt, length-set ls n b)

-- ---- the times of a reply

held : (z : ℤ) → hold z < 2 ^ 63
held (pos n) = omega arith
held (negsuc n) = omega arith

record HasTimes (ntp : ℕ) (info : SyncInfo) : Type 0 where
  ntp_is : info.ntp_ns ≡ ntp
  early : info.local < 2 ^ 63

reported : (s : Settings) (h : History) (ntp rtp : ℕ) (info : SyncInfo) → report s h ntp rtp ≡ Some info → HasTimes ntp info
reported s h ntp rtp info = by (is_flushing h) (estimate_of s (accepted h))
  where
    by : (b : Bool) (e : Option Estimate) → (if b then None else report_at s.rate ntp rtp e) ≡ Some info → HasTimes ntp info
    by true e is = absurd cc
    by false None is = absurd cc
    by false (Some e) is =
        let same : record { ntp_ns = ntp; local = other_time s.rate e rtp } ≡ info = cc in
        subst (HasTimes ntp) same
        (record { ntp_is = refl; early = held (pos e.base +ℤ sent_at s.rate e (ext32 e.latest rtp) +ℤ e.skew) })

has_times : (was : Lane) (ntp rtp : ℕ) (reply : Option SyncInfo) (info : SyncInfo) (h : History) → Stands was.buffer h → Replies was ntp rtp reply → reply ≡ Some info → HasTimes ntp info
has_times was ntp rtp reply info h stands replies is =
    let opening : Opening = record { lane = was.number; session = was.session; ssrc = was.ssrc; settings = settings_of was.buffer } in
    let holds : LaneHolds opening was.number was h = record { number_is = refl; session_is = refl; ssrc_is = refl; settings = refl; stands = stands } in
    reported (settings_of was.buffer) h ntp rtp info (sym (replies opening was.number h holds) ∙ is)

pub reply_ntp : (was : Lane) (ntp rtp : ℕ) (reply : Option SyncInfo) (info : SyncInfo) → Replies was ntp rtp reply → reply ≡ Some info → info.ntp_ns ≡ ntp
reply_ntp was ntp rtp reply info replies is = ∥∥₁_elim was.counted (hlevel props) (λ x. (has_times was ntp rtp reply info x.0 x.1.stands replies is).ntp_is)

pub reply_local : (was : Lane) (ntp rtp : ℕ) (reply : Option SyncInfo) (info : SyncInfo) → Replies was ntp rtp reply → reply ≡ Some info → info.local < 2 ^ 63
reply_local was ntp rtp reply info replies is = ∥∥₁_elim was.counted (hlevel props) (λ x. (has_times was ntp rtp reply info x.0 x.1.stands replies is).early)
