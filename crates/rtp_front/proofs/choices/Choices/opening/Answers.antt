use Rattle.std.proofs.Common.{ℕ, ap, ◌∙◌}
use Rattle.jitter_model.specs.declared.Settings.{Settings}
use Rattle.front_model.specs.declared.Opening.{Opening}
use Rattle.rtp_front.specs.Chosen.{Chosen, settings_in}
use Rattle.rtp_front.specs.contracts.choices.Choices.{the_view}
use Rattle.rtp_front.proofs.choices.Choices.opening.Goals as goal

pub returns : goal.returns
returns c = λ d r.
    let opened : Settings → Opening = λ s. record {
      lane = c.args.lane;
      session = c.args.session;
      ssrc = c.args.ssrc;
      settings = s;
    } in
    ap opened
    (ap (λ (n : ℕ). settings_in (the_view c.self.inside) n c.args.rate) c.from.ensures
    ∙ ap (λ (x : Chosen). settings_in x c.args.session c.args.rate) c.self.view_is
    ∙ r.settings c.args.session c.args.rate c.requires)
