use Rattle.std.proofs.Common.{ap, subst, false}
use Rattle.script_lang.specs.Contents.{Contents, IsScript}
use Rattle.bin_core.proofs.Owing.{fresh_rests}
use Rattle.bin_core.proofs.Staging.{begins, all_alike}
use Rattle.bin_core.proofs.stage.Stage.new.Goals as goal

pub returns-clause-stands : goal.returns-clause-stands
returns-clause-stands c =
    begins c.args.script.now _ c.new-lanes.ensures.items c.in_ok-front.ensures.stands c.in_ok-sync.ensures
    (λ session lt. all_alike (record { latency = c.script.inside.settings.latency; flushing = false }) (record { latency = c.args.script.now.settings.latency; flushing = false }) session lt
    (ap (λ (x : Contents). record { latency = x.settings.latency; flushing = false }) c.script.view_is))

pub returns-clause-rests : goal.returns-clause-rests
returns-clause-rests c =
    let reads : IsScript c.args.script.now = subst IsScript c.script.view_is c.script.invariant in
    fresh_rests c.args.script.now _ reads c.new-lanes.ensures.items c.in_ok-front.ensures.stands c.in_ok-wakes.ensures
    (λ session lt. record {
      standing = record { latency = c.args.script.now.settings.latency; flushing = false };
      is = all_alike (record { latency = c.script.inside.settings.latency; flushing = false }) (record { latency = c.args.script.now.settings.latency; flushing = false }) session lt
          (ap (λ (x : Contents). record { latency = x.settings.latency; flushing = false }) c.script.view_is);
      small = (c.scripts_are_sound.ensures c.args.script.now reads).valid.latency_to;
    })
