use Rattle.std.proofs.Common.{ℕ, ◌≡◌, false, refl, ap, ◌∙◌, List, [], ◌∷◌, Option, None, Some, arith}
use Rattle.std.specs.Prelude.{is_some, option_map}
use Rattle.std.proofs.lemmas.Grind.{common_steps}
use Rattle.rtp_units.specs.declared.Mode.{Mode}
use Rattle.rtp_units.specs.declared.SyncInfo.{SyncInfo}
use Rattle.skew_model.specs.Skew.{Height, Estimate, estimate, other_time}
use Rattle.jitter_model.specs.declared.Settings.{Settings}
use Rattle.jitter_model.specs.Accepted.{Taken, top}
use Rattle.jitter_model.specs.Times.{heights, skew_heights, estimate_of}
use Rattle.jitter_model.specs.Runs.{report_at}
use Rattle.jitter_core.proofs.flushing.report_on.Goals as goal

none_reported : (s : Settings) (ps : List Taken) (o : Option ℕ) (ntp_ns rtp : ℕ) → o ≡ top ps → is_some o ≡ false → None ≡ report_at s.rate ntp_ns rtp (estimate_of s ps)
none_reported s [] o ntp_ns rtp e none = refl
none_reported s (p ∷ ps) o ntp_ns rtp e none = cc

abbrev reply_at : ℕ → ℕ → Option SyncInfo
reply_at ntp_ns t = Some (record { ntp_ns = ntp_ns; local = t })

reported_by : (rate : ℕ) (o : Option Estimate) (ntp_ns rtp local : ℕ) → option_map (λ e. other_time rate e rtp) o ≡ Some local → reply_at ntp_ns local ≡ report_at rate ntp_ns rtp o
reported_by rate None ntp_ns rtp local e = cc
reported_by rate (Some x) ntp_ns rtp local e =
    let is : local ≡ other_time rate x rtp = cc in
    ap (λ (t : ℕ). reply_at ntp_ns t) is

some_reported : (r q : ℕ) (m k : Mode) (hs : List Height) (ntp_ns rtp local : ℕ) → r ≡ q → m ≡ k → option_map (λ e. other_time r e rtp) (estimate r m hs) ≡ Some local → reply_at ntp_ns local ≡ report_at q ntp_ns rtp (estimate q k hs)
some_reported r q m k hs ntp_ns rtp local rate mode e =
    reported_by r (estimate r m hs) ntp_ns rtp local e
    ∙ ap (λ (x : ℕ). report_at x ntp_ns rtp (estimate x m hs)) rate
    ∙ ap (λ (x : Mode). report_at q ntp_ns rtp (estimate q x hs)) mode

pub returns-then-is_none : goal.returns-then-is_none
returns-then-is_none c = λ ps t _.
    let unknown : is_some c.args.state.now.span.top ≡ false = grind (arith, common_steps, c.is_none.ensures, c.if-is_none.true) in
    none_reported c.args.state.now.settings ps c.args.state.now.span.top c.args.ntp_ns c.args.rtp t unknown

pub returns : goal.returns
returns c = λ ps t k.
    some_reported c.args.state.now.skew.rate c.args.state.now.settings.rate c.args.state.now.skew.mode c.args.state.now.settings.mode (skew_heights (heights ps)) c.args.ntp_ns c.args.rtp c.other.result k.rate_is k.mode_is (c.other.ensures (skew_heights (heights ps)) k.stands)
