-- A call comes to a lane.
use Rattle.std.proofs.Common.{ℕ, ◌≡◌, Bool, true, false, refl, sym, ap, subst, ◌∙◌, List, [], ◌∷◌, ◌++◌, Option}
use Rattle.std.specs.Prelude.{if◌then◌else◌}
use Rattle.std.proofs.lemmas.List.{append_assoc, append-nil}
use Rattle.rtp_units.specs.declared.SyncInfo.{SyncInfo}
use Rattle.jitter_model.specs.declared.Settings.{Settings}
use Rattle.jitter_model.specs.declared.Arrival.{Arrival}
use Rattle.jitter_model.specs.declared.Pushed.{Pushed}
use Rattle.jitter_model.specs.declared.Entry.{Entry}
use Rattle.jitter_model.specs.declared.Entry.TheVariants as call
use Rattle.jitter_model.specs.History.{History}
use Rattle.jitter_model.specs.Runs.{flush_count}
use Rattle.jitter_model.specs.Verdicts.{pushed as reply_to_push}
use Rattle.jitter_core.specs.Words.{Stands, settings_of}
use Rattle.timeline.specs.declared.line.BinLine.{BinLine}
use Rattle.timeline.specs.declared.line.BinLine.TheVariants as line
use Rattle.script_lang.specs.declared.script.Action.{Action}
use Rattle.script_lang.specs.declared.script.Item.{Item}
use Rattle.front_model.specs.declared.Opening.{Opening}
use Rattle.replay_model.specs.Events.{Timeline, Told, At, lane}
use Rattle.replay_model.specs.Lines.{lines, entry_lines, dropped_lines, verdict_lines}
use Rattle.replay_model.specs.Acting.{is_for, acted_on, flush_begun, done_to}
use Rattle.replay_model.specs.Taking.{flushed_at_begin, entry_of}
use Rattle.lane_core.specs.declared.counts.Counts.{Counts}
use Rattle.lane_core.specs.declared.lane.Lane.{Lane}
use Rattle.lane_core.specs.Totals.{with_push}
use Rattle.lane_core.specs.Lanes.{SameLane, Around, Sums, Tallies, LaneHolds, LaneTells, begun_with, pushed_at, replied_at, met_at}
use Rattle.lane_core.proofs.Histories.{lane_here}
use Rattle.lane_core.proofs.Settling.{holds_more, others_more}
use Rattle.lane_core.proofs.Tallying.{adds_more, push_tallied, none_tallied}

-- what a call that no count knows of does to a lane
pub record Calls (old new : Lane) (e : Entry) : Type 0 where
  pub same : SameLane old new
  pub counts : new.counts ≡ old.counts
  pub stands : (h : History) → Stands old.buffer h → Stands new.buffer (e ∷ h)

-- the buffer takes a call whose lines count nothing
pub called :
    (o : ℕ → Opening) (a : Around) (t n : ℕ) (old new : Lane) (told more : List BinLine) (e : Entry) (tl : Timeline)
    → LaneTells o a n old told tl
    → Calls old new e
    → Sums (entry_lines t n e) 0 0 0
    → (old.number ≡ n → more ≡ told ++ entry_lines t n e)
    → LaneTells o a n new more (At t n e ∷ tl)
called o a t n old new told more e tl h k sums is =
    record {
      holds = holds_more (o n) t n old new e tl h.holds k.same (k.stands (lane n tl));
      others = others_more a t n e tl h.others;
      tallies = none_tallied a.counts new.counts (lines tl) (entry_lines t n e) (subst (λ (c : Counts). Tallies a.counts c (lines tl)) (sym k.counts) h.tallies) sums;
      written = adds_more a.base told more (lines tl) (entry_lines t n e) h.written (is h.holds.number_is);
    }

-- and one that tells nothing
pub entered :
    (o : ℕ → Opening) (a : Around) (t n : ℕ) (old new : Lane) (told : List BinLine) (e : Entry) (tl : Timeline)
    → LaneTells o a n old told tl
    → Calls old new e
    → entry_lines t n e ≡ []
    → LaneTells o a n new told (At t n e ∷ tl)
entered o a t n old new told e tl h k none =
    called o a t n old new told told e tl h k (subst (λ (xs : List BinLine). Sums xs 0 0 0) (sym none) (record { out_is = refl; lost_is = refl; refused_is = refl }))
    (λ _. sym (ap (λ (xs : List BinLine). told ++ xs) none ∙ append-nil told))

-- a flush begins
pub flush_tells :
    (o : ℕ → Opening) (a : Around) (t n : ℕ) (old new : Lane) (told more : List BinLine) (count : ℕ) (tl : Timeline)
    → LaneTells o a n old told tl
    → Calls old new (call.FlushStart count)
    → ((h : History) → Stands old.buffer h → count ≡ flush_count h)
    → (old.number ≡ n → more ≡ told ++ line.Flush t n count ∷ [])
    → LaneTells o a n new more (flush_begun t n tl)
flush_tells o a t n old new told more count tl h k value is =
    subst (λ (m : ℕ). LaneTells o a n new more (At t n (call.FlushStart m) ∷ tl)) (value (lane n tl) h.holds.stands)
    (called o a t n old new told more (call.FlushStart count) tl h k (record { out_is = refl; lost_is = refl; refused_is = refl }) is)

-- a lane begins as its session stands
pub begun_as : (o : ℕ → Opening) (a : Around) (t n ns : ℕ) (l : Lane) (told : List BinLine) (was flushing : Bool) (tl : Timeline) → was ≡ flushing → LaneTells o a n l told (flushed_at_begin flushing t n (At t n (call.Latency ns) ∷ tl)) → LaneTells o a n l told (begun_with t ns was o n tl)
begun_as o a t n ns l told was flushing tl e h = subst (λ (b : Bool). LaneTells o a n l told (flushed_at_begin b t n (At t n (call.Latency ns) ∷ tl))) (sym e) h

-- what an arm does is what is done
pub acted_as : (o : ℕ → Opening) (a : Around) (t n : ℕ) (l : Lane) (told : List BinLine) (c arm : Action) (tl : Timeline) → c ≡ arm → LaneTells o a n l told (done_to t n arm tl) → LaneTells o a n l told (done_to t n c tl)
acted_as o a t n l told c arm tl e h = subst (λ (k : Action). LaneTells o a n l told (done_to t n k tl)) (sym e) h

-- a line that counts nothing
pub line_told :
    (o : ℕ → Opening) (a : Around) (t n : ℕ) (l : Lane) (told more : List BinLine) (x : BinLine) (tl : Timeline)
    → LaneTells o a n l told tl
    → Sums (x ∷ []) 0 0 0
    → more ≡ told ++ x ∷ []
    → LaneTells o a n l more (Told t x ∷ tl)
line_told o a t n l told more x tl h sums is =
    record {
      holds = h.holds;
      others = h.others;
      tallies = none_tallied a.counts l.counts (lines tl) (x ∷ []) h.tallies sums;
      written = adds_more a.base told more (lines tl) (x ∷ []) h.written is;
    }

-- the time of a sender report
pub replied_as : (o : ℕ → Opening) (a : Around) (t n ntp_ns rtp : ℕ) (l : Lane) (told : List BinLine) (reply arm : Option SyncInfo) (tl : Timeline) → reply ≡ arm → LaneTells o a n l told (replied_at t ntp_ns rtp n arm tl) → LaneTells o a n l told (replied_at t ntp_ns rtp n reply tl)
replied_as o a t n ntp_ns rtp l told reply arm tl e h = subst (λ (r : Option SyncInfo). LaneTells o a n l told (replied_at t ntp_ns rtp n r tl)) (sym e) h

-- what a push does to a lane
pub record Pushes (old new : Lane) (a : Arrival) (reply : Pushed) : Type 0 where
  pub number : new.number ≡ old.number
  pub session : new.session ≡ old.session
  pub ssrc : new.ssrc ≡ old.ssrc
  pub counts : new.counts ≡ with_push old.counts reply.verdict
  pub settings : settings_of new.buffer ≡ settings_of old.buffer
  pub value : (h : History) → Stands old.buffer h → reply ≡ reply_to_push (settings_of old.buffer) h a
  pub stands : (h : History) → Stands old.buffer h → Stands new.buffer (call.Push a reply.verdict reply.number reply.aside_dropped ∷ h)

pub pushed_tells :
    (o : ℕ → Opening) (around : Around) (t n : ℕ) (old new : Lane) (told between more : List BinLine) (a : Arrival) (reply : Pushed) (tl : Timeline)
    → LaneTells o around n old told tl
    → Pushes old new a reply
    → (old.number ≡ n → between ≡ told ++ dropped_lines t n reply.aside_dropped)
    → (old.number ≡ n → more ≡ between ++ verdict_lines t n a.packet.seq a.origin reply.verdict)
    → LaneTells o around n new more (pushed_at t a o n tl)
pushed_tells o around t n old new told between more a reply tl h k first second =
    let r_is : reply ≡ reply_to_push (o n).settings (lane n tl) a = k.value (lane n tl) h.holds.stands ∙ ap (λ (x : Settings). reply_to_push x (lane n tl) a) h.holds.settings in
    let dropped : List BinLine = dropped_lines t n reply.aside_dropped in
    let judged : List BinLine = verdict_lines t n a.packet.seq a.origin reply.verdict in
    let added : more ≡ told ++ (dropped ++ judged) = second h.holds.number_is ∙ ap (λ (x : List BinLine). x ++ judged) (first h.holds.number_is) ∙ append_assoc told dropped judged in
    let held : LaneHolds (o n) n old (lane n tl) = h.holds in
    subst (λ (r : Pushed). LaneTells o around n new more (At t n (entry_of a r) ∷ tl)) r_is
    (record {
      holds =
          record {
            number_is = k.number ∙ held.number_is;
            session_is = k.session ∙ held.session_is;
            ssrc_is = k.ssrc ∙ held.ssrc_is;
            settings = k.settings ∙ held.settings;
            stands = subst (Stands new.buffer) (sym (lane_here t n (entry_of a reply) tl)) (k.stands (lane n tl) held.stands);
          };
      others = others_more around t n (entry_of a reply) tl h.others;
      tallies = push_tallied around.counts old.counts new.counts (lines tl) t n reply.aside_dropped a.packet.seq a.origin reply.verdict h.tallies k.counts;
      written = adds_more around.base told more (lines tl) (dropped ++ judged) h.written added;
    })

-- an item that is for the lane's session
pub met_here :
    (o : ℕ → Opening) (a : Around) (n : ℕ) (i : Item) (old new : Lane) (told more : List BinLine) (tl : Timeline)
    → is_for i.action old.session ≡ true
    → LaneTells o a n old told tl
    → LaneTells o a n new more (acted_on i.time n i.action tl)
    → LaneTells o a n new more (met_at i o n tl)
met_here o a n i old new told more tl e h k =
    subst (λ (b : Bool). LaneTells o a n new more (if b then acted_on i.time n i.action tl else tl)) (sym (ap (is_for i.action) (sym h.holds.session_is) ∙ e)) k

-- and one that isn't
pub met_not :
    (o : ℕ → Opening) (a : Around) (n : ℕ) (i : Item) (l : Lane) (told : List BinLine) (tl : Timeline)
    → is_for i.action l.session ≡ false
    → LaneTells o a n l told tl
    → LaneTells o a n l told (met_at i o n tl)
met_not o a n i l told tl e h =
    subst (λ (b : Bool). LaneTells o a n l told (if b then acted_on i.time n i.action tl else tl)) (sym (ap (is_for i.action) (sym h.holds.session_is) ∙ e)) h
