-- What a record holds, taken.
use Rattle.std.proofs.Common.{◌≡◌, ◌≤◌, ℕ, Bool, true, false, cond, nat_eq, List, [], ◌∷◌, ◌++◌, reverse, refl, sym, ap, subst, ◌∙◌}
use Rattle.std.specs.Prelude.{Option, Some, None, Result, Ok, Err}
use Rattle.std.specs.List.{filter_map}
use Rattle.rtp_units.specs.declared.shared.Address.{Address}
use Rattle.rtp_wire.specs.Packet.{Packet as View}
use Rattle.rtcp_wire.specs.Answers.{Fails}
use Rattle.rtcp_wire.specs.declared.packet.Rtcp.{Rtcp as RtcpPacket}
use Rattle.rtcp_wire.specs.declared.fault.RtcpFault.{RtcpFault}
use Rattle.rtcp_wire.specs.declared.fault.RtcpFault.TheVariants.{Short, Version, Length, Padding, First, Body, OutOfMemory}
use Rattle.timeline.specs.Words.{rtcp_word}
use Rattle.rtp_session.specs.Answers.{compound_notes, given_after}
use Rattle.rtp_session.specs.Standing.{is_want_of_memory}
use Rattle.script_lang.specs.Contents.{Contents}
use Rattle.script_lang.specs.Tests.{is_declared}
use Rattle.front_model.specs.declared.Step.{Step}
use Rattle.front_model.specs.Events.{FrontEvent, ReportsDue}
use Rattle.front_model.specs.Given.{Given, Rtp, Rtcp, Report}
use Rattle.front_model.specs.Moves.{Move, moves, move_of, session_notes}
use Rattle.front_model.specs.Notes.{Note, notes}
use Rattle.front_model.specs.Records.{Holding, Packet, Compound, BadCompound, compound_in}
use Rattle.front_model.specs.Sessions.{given, setting, only}
use Rattle.front_model.specs.Steps.{session_steps, notes_steps, bad_steps}
use Rattle.front_model.specs.Types.{rate}
use Rattle.rtp_front.specs.Chosen.{Chosen}
use Rattle.rtp_front.specs.Notes.{TakesNotes}
use Rattle.rtp_front.specs.Sessions.{Sessions, session_at, StandsAt, StandsAfter, IsSameBut, IsKept}
use Rattle.rtp_front.specs.Standing.{IntakeState, StreamsState, StandsIn, TakesIn, TakesHolding, IsLeftBy}
use Rattle.rtp_front.proofs.Keeping.{one_given, none_given}
use Rattle.rtp_front.proofs.Telling.{all_moved}

-- what takes what comes, by its fields
abbrev pub intake_of : Chosen → ℕ → ℕ → Sessions → StreamsState → IntakeState
intake_of chosen own timeout sessions streams = record {
  chosen = chosen;
  own = own;
  timeout = timeout;
  sessions = sessions;
  streams = streams;
}

pub stands_by : (x value : IntakeState) (c : Contents) (older : List FrontEvent) → x ≡ value
    → StandsIn value c older → StandsIn x c older
stands_by x value c older e stands = subst (λ (v : IntakeState). StandsIn v c older) (sym e) stands

-- ---- something that a session was given

pub steps_of_given : (c : Contents) (time : ℕ) (older : List FrontEvent) (session : ℕ)
    (g h : Given) (ns : List Note) (b d : List Step) (streams : StreamsState)
    → g ≡ h → ns ≡ notes (setting c session) (given c session older) g
    → TakesNotes c time session (moves c older) ns b d streams
    → d ≡ b ++ session_steps c time older session h
steps_of_given c time older session g h ns b d streams same are taken =
    taken.steps
    ∙ ap (λ (l : List Note). b ++ notes_steps c time (moves c older) session l)
    (are ∙ ap (notes (setting c session) (given c session older)) same)

pub stands_given : (c : Contents) (time : ℕ) (older : List FrontEvent) (session : ℕ)
    (g h : Given) (ns : List Note) (b d : List Step) (x : IntakeState) (new : Sessions)
    (streams : StreamsState) → StandsIn x c older → is_declared c.sessions session ≡ true
    → g ≡ h → ns ≡ notes (setting c session) (given c session older) g
    → StandsAt new session (setting c session) (g ∷ given c session older)
    → IsSameBut session x.sessions new
    → TakesNotes c time session (moves c older) ns b d streams
    → TakesIn (intake_of x.chosen x.own x.timeout new streams) c
    (λ q. only q session h ++ given c q older)
    (reverse (filter_map (move_of session) (session_notes c older session h)) ++ moves c older)
stands_given c time older session g h ns b d x new streams stands declared same are at rest taken = record {
  chosen = stands.chosen;
  own = stands.own;
  timeout = stands.timeout;
  sessions =
      one_given c session h (λ (q : ℕ). given c q older) x.sessions new stands.sessions
      (subst (λ (y : Given). StandsAt new session (setting c session) (y ∷ given c session older))
      same at)
      declared rest;
  streams =
      subst (λ (l : List Move). IsLeftBy c l streams)
      (all_moved session ns (moves c older)
      ∙ ap (λ (l : List Note). reverse (filter_map (move_of session) l) ++ moves c older)
      (are ∙ ap (notes (setting c session) (given c session older)) same))
      taken.stands;
}

pub packet_taken : (c : Contents) (time : ℕ) (older : List FrontEvent) (session : ℕ)
    (from : Address) (p : View) (r : Option ℕ) (ns : List Note) (b d : List Step)
    (x : IntakeState) (new : Sessions) (streams : StreamsState)
    → StandsIn x c older → is_declared c.sessions session ≡ true → r ≡ rate c session p.pt
    → ns ≡ notes (setting c session) (given c session older) (Rtp time from p r)
    → StandsAt new session (setting c session) (Rtp time from p r ∷ given c session older)
    → IsSameBut session x.sessions new
    → TakesNotes c time session (moves c older) ns b d streams
    → TakesHolding c time older (Packet session from p) b d
    (intake_of x.chosen x.own x.timeout new streams)
packet_taken c time older session from p r ns b d x new streams stands declared same are at rest taken =
    let h : Given = Rtp time from p (rate c session p.pt) in
    let e : Rtp time from p r ≡ Rtp time from p (rate c session p.pt) =
    ap (λ (o : Option ℕ). Rtp time from p o) same
    in
    record {
      steps = steps_of_given c time older session (Rtp time from p r) h ns b d streams e are taken;
      stands =
          stands_given c time older session (Rtp time from p r) h ns b d x new streams stands
          declared e are at rest taken;
    }

pub compound_taken : (c : Contents) (time : ℕ) (older : List FrontEvent) (session : ℕ)
    (r : Result (List RtcpPacket) RtcpFault) (ns : List Note) (b d : List Step)
    (x : IntakeState) (new : Sessions) (streams : StreamsState)
    → StandsIn x c older → is_declared c.sessions session ≡ true
    → compound_notes (setting c session) (given c session older) time r ≡ Ok ns
    → StandsAt new session (setting c session) (given_after (given c session older) time r)
    → IsSameBut session x.sessions new
    → TakesNotes c time session (moves c older) ns b d streams
    → TakesHolding c time older (compound_in session r) b d
    (intake_of x.chosen x.own x.timeout new streams)
compound_taken c time older session (Ok ps) ns b d x new streams stands declared answer at rest taken =
    let are : ns ≡ notes (setting c session) (given c session older) (Rtcp time ps) = cc in
    record {
      steps =
          steps_of_given c time older session (Rtcp time ps) (Rtcp time ps) ns b d streams refl are
          taken;
      stands =
          stands_given c time older session (Rtcp time ps) (Rtcp time ps) ns b d x new streams
          stands declared refl are at rest taken;
    }
compound_taken c time older session (Err f) ns b d x new streams stands declared answer at rest taken =
    absurd cc

faulty : (c : Contents) (time : ℕ) (older : List FrontEvent) (session : ℕ) (fault : RtcpFault)
    (r : Result (List RtcpPacket) RtcpFault) (b d : List Step) (x : IntakeState) (new : Sessions)
    → StandsIn x c older → is_declared c.sessions session ≡ true
    → compound_notes (setting c session) (given c session older) time r ≡ Err fault
    → StandsAt new session (setting c session) (given_after (given c session older) time r)
    → IsSameBut session x.sessions new
    → d ≡ b ++ bad_steps time session (rtcp_word fault)
    → TakesHolding c time older (compound_in session r) b d
    (intake_of x.chosen x.own x.timeout new x.streams)
faulty c time older session fault (Ok ps) b d x new stands declared answer at rest told = absurd cc
faulty c time older session fault (Err f) b d x new stands declared answer at rest told =
    let same : fault ≡ f = cc in
    record {
      steps = told ∙ ap (λ (y : RtcpFault). b ++ bad_steps time session (rtcp_word y)) same;
      stands = record {
        chosen = stands.chosen;
        own = stands.own;
        timeout = stands.timeout;
        sessions =
            none_given c session (λ (q : ℕ). given c q older) x.sessions new stands.sessions at
            declared rest;
        streams = stands.streams;
      };
    }

pub bad_taken : (X : Type 0) (c : Contents) (time : ℕ) (older : List FrontEvent) (session : ℕ)
    (fault : RtcpFault) (r : Result (List RtcpPacket) RtcpFault) (b d : List Step)
    (x : IntakeState) (new : Sessions)
    → StandsIn x c older → is_declared c.sessions session ≡ true
    → Fails fault (compound_notes (setting c session) (given c session older) time r)
    → StandsAfter {X = X} new session (setting c session) (given c session older) time r (Err fault)
    → IsSameBut session x.sessions new
    → is_want_of_memory fault ≡ false
    → d ≡ b ++ bad_steps time session (rtcp_word fault)
    → TakesHolding c time older (compound_in session r) b d
    (intake_of x.chosen x.own x.timeout new x.streams)
bad_taken X c time older session (Short o) r b d x new stands declared answer at rest memory told =
    faulty c time older session (Short o) r b d x new stands declared answer at rest told
bad_taken X c time older session (Version o) r b d x new stands declared answer at rest memory told =
    faulty c time older session (Version o) r b d x new stands declared answer at rest told
bad_taken X c time older session (Length o) r b d x new stands declared answer at rest memory told =
    faulty c time older session (Length o) r b d x new stands declared answer at rest told
bad_taken X c time older session (Padding o) r b d x new stands declared answer at rest memory told =
    faulty c time older session (Padding o) r b d x new stands declared answer at rest told
bad_taken X c time older session (First o) r b d x new stands declared answer at rest memory told =
    faulty c time older session (First o) r b d x new stands declared answer at rest told
bad_taken X c time older session (Body o k) r b d x new stands declared answer at rest memory told =
    faulty c time older session (Body o k) r b d x new stands declared answer at rest told
bad_taken X c time older session OutOfMemory r b d x new stands declared answer at rest memory told =
    absurd cc

-- ---- report times

pub reports_taken : (c : Contents) (time : ℕ) (older : List FrontEvent) (x : IntakeState)
    (new : Sessions) → StandsIn x c older
    → ((q : ℕ) → IsKept c q (Report time x.timeout ∷ given c q older) (session_at new q))
    → StandsIn (intake_of x.chosen x.own x.timeout new x.streams) c (ReportsDue time ∷ older)
reports_taken c time older x new stands kept = record {
  chosen = stands.chosen;
  own = stands.own;
  timeout = stands.timeout;
  sessions = λ q.
      subst (λ (t : ℕ). IsKept c q (Report time t ∷ given c q older) (session_at new q))
      stands.timeout (kept q);
  streams = stands.streams;
}
