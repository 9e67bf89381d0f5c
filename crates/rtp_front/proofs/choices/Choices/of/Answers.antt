use Rattle.std.proofs.Common.{ℕ, ap, ◌∙◌}
use Rattle.jitter_model.specs.declared.Settings.{Settings}
use Rattle.rtp_front.proofs.choices.Choices.of.Goals as goal

pub returns : goal.returns
returns c = record {
  session_at = c.in_ok-ports_of.ensures;
  rate = c.in_ok-rates_of.ensures;
  retransmissions = c.in_ok-retransmissions_of.ensures;
  settings = λ session rate lt.
      let chosen = c.settings_of.result in
      let pushed : ℕ → Settings = λ n. record chosen { rate = rate; pushers = n } in
      ap pushed (c.pushers_of.ensures session lt) ∙ c.settings_of.ensures session rate;
}
