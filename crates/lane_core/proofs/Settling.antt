-- A loop of turns comes to the settled timeline.
use Rattle.std.proofs.Common.{ℕ, ◌≡◌, ◌≢◌, true, false, refl, sym, ap, subst, ◌∙◌, List, [], ◌∷◌, ◌++◌}
use Rattle.std.proofs.lemmas.List.{append-nil}
use Rattle.jitter_model.specs.declared.Settings.{Settings}
use Rattle.jitter_model.specs.declared.Turn.{Turn}
use Rattle.jitter_model.specs.declared.Turn.TheVariants.{Packet, Lost, Request, End, Idle, Flushing}
use Rattle.jitter_model.specs.declared.Entry.{Entry}
use Rattle.jitter_model.specs.declared.Entry.TheVariants.{Turned}
use Rattle.jitter_model.specs.History.{History}
use Rattle.jitter_model.specs.Turns.{turn, is_quiet, wake_of}
use Rattle.jitter_core.specs.Words.{Stands, settings_of}
use Rattle.timeline.specs.declared.line.BinLine.{BinLine}
use Rattle.front_model.specs.declared.Opening.{Opening}
use Rattle.replay_model.specs.Events.{Timeline, At, lane}
use Rattle.replay_model.specs.Lines.{lines, turn_lines}
use Rattle.replay_model.specs.Turning.{turned, all_turns, asked, asked_by}
use Rattle.lane_core.proofs.Histories.{lane_here, lane_other}
use Rattle.lane_core.specs.declared.lane.Lane.{Lane}
use Rattle.lane_core.specs.Totals.{with_turn}
use Rattle.lane_core.specs.declared.counts.Counts.{Counts}
use Rattle.lane_core.specs.Lanes.{SameLane, Around, Tallies, LaneHolds, LaneTells, LaneAsks}
use Rattle.lane_core.proofs.Tallying.{adds_more, turn_tallied}

pub same_lane : (l : Lane) → SameLane l l
same_lane l = record { number = refl; session = refl; ssrc = refl; settings = refl; pushes = refl }

pub same_lane_then : (a b c : Lane) → SameLane a b → SameLane b c → SameLane a c
same_lane_then a b c g h =
    record {
      number = h.number ∙ g.number;
      session = h.session ∙ g.session;
      ssrc = h.ssrc ∙ g.ssrc;
      settings = h.settings ∙ g.settings;
      pushes = h.pushes ∙ g.pushes;
    }

-- the same lane holds after one more call
pub holds_more : (o : Opening) (t n : ℕ) (old new : Lane) (e : Entry) (tl : Timeline) → LaneHolds o n old (lane n tl) → SameLane old new → (Stands old.buffer (lane n tl) → Stands new.buffer (e ∷ lane n tl)) → LaneHolds o n new (lane n (At t n e ∷ tl))
holds_more o t n old new e tl h same stands =
    record {
      number_is = same.number ∙ h.number_is;
      session_is = same.session ∙ h.session_is;
      ssrc_is = same.ssrc ∙ h.ssrc_is;
      settings = same.settings ∙ h.settings;
      stands = subst (Stands new.buffer) (sym (lane_here t n e tl)) (stands h.stands);
    }

pub others_more : (a : Around) (t n : ℕ) (e : Entry) (tl : Timeline) → ((k : ℕ) → k ≢ n → lane k tl ≡ a.histories k) → (k : ℕ) → k ≢ n → lane k (At t n e ∷ tl) ≡ a.histories k
others_more a t n e tl h k ne = lane_other t n k e tl (λ same. ne (sym same)) ∙ h k ne

-- a timeline on the way, which settles to the same
pub record Settling (o : ℕ → Opening) (a : Around) (t n : ℕ) (l : Lane) (numbers : List ℕ) (told : List BinLine) (tl : Timeline) : Type 0 where
  pub now : Timeline
  pub tells : LaneTells o a n l told now
  pub asked_is : numbers ≡ asked (lane n now)
  pub same : all_turns o t n now ≡ all_turns o t n tl

pub begins : (o : ℕ → Opening) (a : Around) (t n : ℕ) (l : Lane) (numbers : List ℕ) (told : List BinLine) (tl : Timeline) → numbers ≡ [] → asked (lane n tl) ≡ [] → LaneTells o a n l told tl → Settling o a t n l numbers told tl
begins o a t n l numbers told tl e none h = record { now = tl; tells = h; asked_is = e ∙ sym none; same = refl }

-- what a turn does to a lane
pub record Turns (old new : Lane) (r : Turn) : Type 0 where
  pub same : SameLane old new
  pub counts : new.counts ≡ with_turn old.counts r
  pub value : (h : History) → Stands old.buffer h → r ≡ turn (settings_of old.buffer) h
  pub stands : (h : History) → Stands old.buffer h → Stands new.buffer (Turned r ∷ h)
  pub quiet : is_quiet r ≡ true → (h : History) → Stands old.buffer h → Stands new.buffer h

answer : (o : ℕ → Opening) (a : Around) (n : ℕ) (old new : Lane) (told : List BinLine) (r : Turn) (tl : Timeline) → LaneTells o a n old told tl → Turns old new r → r ≡ turn (o n).settings (lane n tl)
answer o a n old new told r tl h k = k.value (lane n tl) h.holds.stands ∙ ap (λ (x : Settings). turn x (lane n tl)) h.holds.settings

pub goes_on :
    (o : ℕ → Opening) (a : Around) (t n : ℕ) (old new : Lane) (numbers more_numbers : List ℕ) (told more : List BinLine) (r : Turn) (tl : Timeline)
    → ((now : Timeline) → is_quiet (turn (o n).settings (lane n now)) ≡ false → all_turns o t n now ≡ all_turns o t n (turned o t n now))
    → Settling o a t n old numbers told tl
    → Turns old new r
    → is_quiet r ≡ false
    → more_numbers ≡ numbers ++ asked_by r
    → (old.number ≡ n → more ≡ told ++ turn_lines t n r)
    → Settling o a t n new more_numbers more tl
goes_on o a t n old new numbers more_numbers told more r tl law g k i notes is =
    let h : History = lane n g.now in
    let r_is : r ≡ turn (o n).settings h = answer o a n old new told r g.now g.tells k in
    let loud : is_quiet (turn (o n).settings h) ≡ false = sym (ap is_quiet r_is) ∙ i in
    let step : all_turns o t n g.now ≡ all_turns o t n (At t n (Turned r) ∷ g.now) = law g.now loud ∙ ap (λ (x : Turn). all_turns o t n (At t n (Turned x) ∷ g.now)) (sym r_is) in
    record {
      now = At t n (Turned r) ∷ g.now;
      tells =
          record {
            holds = holds_more (o n) t n old new (Turned r) g.now g.tells.holds k.same (k.stands h);
            others = others_more a t n (Turned r) g.now g.tells.others;
            tallies = turn_tallied a.counts old.counts new.counts (lines g.now) t n r g.tells.tallies k.counts;
            written = adds_more a.base told more (lines g.now) (turn_lines t n r) g.tells.written (is g.tells.holds.number_is);
          };
      asked_is = notes ∙ ap (λ (xs : List ℕ). xs ++ asked_by r) g.asked_is ∙ ap asked (sym (lane_here t n (Turned r) g.now));
      same = sym step ∙ g.same;
    }

quiet_lines : (t n : ℕ) (r : Turn) → is_quiet r ≡ true → turn_lines t n r ≡ []
quiet_lines t n (Packet m pts p) = λ e. cc
quiet_lines t n (Lost m count pts d) = λ e. cc
quiet_lines t n (Request m k) = λ e. cc
quiet_lines t n End = λ e. cc
quiet_lines t n (Idle wake) = λ e. refl
quiet_lines t n Flushing = λ e. refl

-- the last turn, whose wake is kept
pub record Stops (mid new : Lane) (r : Turn) : Type 0 where
  pub number : new.number ≡ mid.number
  pub session : new.session ≡ mid.session
  pub ssrc : new.ssrc ≡ mid.ssrc
  pub counts : new.counts ≡ mid.counts
  pub buffer : new.buffer ≡ mid.buffer
  pub wake : new.wake ≡ wake_of r

pub ends :
    (o : ℕ → Opening) (a : Around) (t n : ℕ) (old mid new : Lane) (numbers : List ℕ) (told : List BinLine) (r : Turn) (tl : Timeline)
    → ((now : Timeline) → is_quiet (turn (o n).settings (lane n now)) ≡ true → all_turns o t n now ≡ now)
    → Settling o a t n old numbers told tl
    → Turns old mid r
    → is_quiet r ≡ true
    → Stops mid new r
    → LaneAsks o a n new numbers told (all_turns o t n tl)
ends o a t n old mid new numbers told r tl law g k i e =
    let h : History = lane n g.now in
    let r_is : r ≡ turn (o n).settings h = answer o a n old mid told r g.now g.tells k in
    let quiet : is_quiet (turn (o n).settings h) ≡ true = sym (ap is_quiet r_is) ∙ i in
    subst (LaneAsks o a n new numbers told) (sym (law g.now quiet) ∙ g.same)
    (record {
      rests =
          record {
            tells =
                record {
                  holds =
                      record {
                        number_is = e.number ∙ k.same.number ∙ g.tells.holds.number_is;
                        session_is = e.session ∙ k.same.session ∙ g.tells.holds.session_is;
                        ssrc_is = e.ssrc ∙ k.same.ssrc ∙ g.tells.holds.ssrc_is;
                        settings = ap settings_of e.buffer ∙ k.same.settings ∙ g.tells.holds.settings;
                        stands = subst (λ b. Stands b h) (sym e.buffer) (k.quiet i h g.tells.holds.stands);
                      };
                  others = g.tells.others;
                  tallies =
                      subst (λ (c : Counts). Tallies a.counts c (lines g.now)) (sym e.counts)
                      (subst (Tallies a.counts mid.counts) (append-nil (lines g.now))
                      (subst (λ (x : List BinLine). Tallies a.counts mid.counts (lines g.now ++ x)) (quiet_lines t n r i) (turn_tallied a.counts old.counts mid.counts (lines g.now) t n r g.tells.tallies k.counts)));
                  written = g.tells.written;
                };
            wake_is = e.wake ∙ ap wake_of r_is;
          };
      asked_is = g.asked_is;
    })
