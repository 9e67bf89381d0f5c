use Rattle.std.proofs.Common.{ℕ, ◌≡◌, ◌<◌, ◌∙◌, ◌∷◌, refl, sym, ap, subst, length, arith, rules}
use Rattle.std.specs.Prelude.{option_map}
use Rattle.std.specs.Vec.{vec_len, with_item}
use Rattle.front_model.specs.declared.Step.TheVariants.{Sync}
use Rattle.bin_core.specs.declared.stage.Stage.{Stage}
use Rattle.bin_core.specs.Stages.{Does, Keeps}
use Rattle.bin_core.specs.Underway.{Owes}
use Rattle.bin_core.proofs.Outcomes.{on_ok}
use Rattle.bin_core.proofs.Cases.{is_none}
use Rattle.bin_core.proofs.Synchronising.{long, replied, synced_none, synced_nameless, synced_named, reply_ntp, reply_local}
use Rattle.bin_core.proofs.Owing.{sync_there, sync_early, synced_done}
use Rattle.bin_core.proofs.stage.Stage.synchronise.Goals as goal

pub returns-in_default-clause-does : goal.returns-in_default-clause-does
returns-in_default-clause-does c =
    let number : c.from.result ≡ c.args.lane = c.from.ensures in
    let below : c.from.result < length c.args.self.now.lanes.items = omega (arith, number, sync_there c.requires.0 c.args.lane c.args.report.now c.requires.1 c.args.self.now c.requires.2) in
    let new : Stage = record { front = c.args.self.now.front; lanes = with_item c.args.self.now.lanes c.from.result c.sync.new.self; wakes = c.args.self.now.wakes; sync = c.args.self.now.sync; standings = c.args.self.now.standings } in
    let all : Does c.args.time (Sync c.args.lane c.args.report.now) c.args.self.now new c.args.lines.now c.sync.new.lines =
    subst (λ (n : ℕ). Does c.args.time (Sync n c.args.report.now) c.args.self.now new c.args.lines.now c.sync.new.lines) number
    (λ k base resting tl apart h. synced_none k base resting new c.args.time c.from.result c.args.report.now c.index_mut-to.result.now c.in_ok-info.field-0 c.sync.new.lines tl
    (is_none c.in_ok-info.field-0 c.in_default.not-Some)
    (replied c.lanes_stand_beside.ensures k base resting c.args.self.now new c.args.time c.from.result c.args.report.now c.index_mut-to.result.now c.sync.new.self c.in_ok-info.field-0 c.args.lines.now c.sync.new.lines tl below c.index_mut-to.ensures.value refl refl refl refl c.in_ok-info.ensures.replies c.in_ok-info.ensures.stands apart h)) in
    all

pub returns-in_default-cname-clause-does : goal.returns-in_default-cname-clause-does
returns-in_default-cname-clause-does c =
    let number : c.from.result ≡ c.args.lane = c.from.ensures in
    let below : c.from.result < length c.args.self.now.lanes.items = omega (arith, number, sync_there c.requires.0 c.args.lane c.args.report.now c.requires.1 c.args.self.now c.requires.2) in
    let new : Stage = record { front = c.args.self.now.front; lanes = with_item c.args.self.now.lanes c.from.result c.sync.new.self; wakes = c.args.self.now.wakes; sync = c.args.self.now.sync; standings = c.args.self.now.standings } in
    let all : Does c.args.time (Sync c.args.lane c.args.report.now) c.args.self.now new c.args.lines.now c.sync.new.lines =
    subst (λ (n : ℕ). Does c.args.time (Sync n c.args.report.now) c.args.self.now new c.args.lines.now c.sync.new.lines) number
    (λ k base resting tl apart h. synced_nameless k base resting new c.args.time c.from.result c.args.report.now c.index_mut-to.result.now c.in_ok-info.field-0 c.in-Some.info c.sync.new.lines tl
    c.in-Some.is
    (sym (ap (option_map (λ text. text.now)) (is_none c.cname.result c.in_default-cname.not-Some)) ∙ c.cname.ensures k _ h.front)
    (replied c.lanes_stand_beside.ensures k base resting c.args.self.now new c.args.time c.from.result c.args.report.now c.index_mut-to.result.now c.sync.new.self c.in_ok-info.field-0 c.args.lines.now c.sync.new.lines tl below c.index_mut-to.ensures.value refl refl refl refl c.in_ok-info.ensures.replies c.in_ok-info.ensures.stands apart h)) in
    all

pub returns-clause-does : goal.returns-clause-does
returns-clause-does c =
    let number : c.from.result ≡ c.args.lane = c.from.ensures in
    let below : c.from.result < length c.args.self.now.lanes.items = omega (arith, number, sync_there c.requires.0 c.args.lane c.args.report.now c.requires.1 c.args.self.now c.requires.2) in
    let new : Stage = record { front = c.args.self.now.front; lanes = with_item c.args.self.now.lanes c.from.result c.sync.new.self; wakes = c.args.self.now.wakes; sync = c.args.self.now.sync; standings = c.args.self.now.standings } in
    let kept : Stage = record { front = c.args.self.now.front; lanes = with_item c.args.self.now.lanes c.from.result c.sync.new.self; wakes = c.args.self.now.wakes; sync = c.keep.new.sync; standings = c.args.self.now.standings } in
    on_ok c.keep.result _ _
    (λ keep. subst (λ (n : ℕ). Does c.args.time (Sync n c.args.report.now) c.args.self.now kept c.args.lines.now c.keep.new.lines) number
    (λ k base resting tl apart h. synced_named c.lanes_stand_beside.ensures k base resting new kept c.args.time c.from.result c.args.report.now c.index_mut-to.result.now c.in_ok-info.field-0 c.in-Some.info c.in-Some-cname.name.now c.sync.new.lines c.keep.new.lines tl
    c.in-Some.is
    (sym (ap (option_map (λ text. text.now)) c.in-Some-cname.is) ∙ c.cname.ensures k _ h.front)
    (long c.args.self.now.lanes.items c.from.result c.sync.new.self below)
    refl refl refl
    (subst (λ (n : ℕ). Keeps c.args.time n c.in-Some-cname.name.now c.in-Some.info c.args.self.now.sync c.keep.new.sync c.sync.new.lines c.keep.new.lines) (sym number) keep)
    (replied c.lanes_stand_beside.ensures k base resting c.args.self.now new c.args.time c.from.result c.args.report.now c.index_mut-to.result.now c.sync.new.self c.in_ok-info.field-0 c.args.lines.now c.sync.new.lines tl below c.index_mut-to.ensures.value refl refl refl refl c.in_ok-info.ensures.replies c.in_ok-info.ensures.stands apart h)))
    c.keep.ensures

pub index_mut-to-requires : goal.index_mut-to-requires
index_mut-to-requires c =
    let same : vec_len c.args.self.now.lanes ≡ length c.args.self.now.lanes.items = search rules in
    omega (arith, c.from.ensures, same, sync_there c.requires.0 c.args.lane c.args.report.now c.requires.1 c.args.self.now c.requires.2)

pub keep-requires-clause-ntp : goal.keep-requires-clause-ntp
keep-requires-clause-ntp c =
    omega (
      arith,
      reply_ntp c.index_mut-to.result.now c.args.report.now.ntp_ns c.args.report.now.rtp c.in_ok-info.field-0 c.in-Some.info c.in_ok-info.ensures.replies c.in-Some.is,
      sync_early c.requires.0 c.args.lane c.args.report.now c.requires.1 c.args.self.now c.requires.2,
    )

pub keep-requires-clause-local : goal.keep-requires-clause-local
keep-requires-clause-local c =
    reply_local c.index_mut-to.result.now c.args.report.now.ntp_ns c.args.report.now.rtp c.in_ok-info.field-0 c.in-Some.info c.in_ok-info.ensures.replies c.in-Some.is

pub returns-in_default-clause-owes : goal.returns-in_default-clause-owes
returns-in_default-clause-owes c =
    let number : c.from.result ≡ c.args.lane = c.from.ensures in
    let below : c.from.result < length c.args.self.now.lanes.items = omega (arith, number, sync_there c.requires.0 c.args.lane c.args.report.now c.requires.1 c.args.self.now c.requires.2) in
    let new : Stage = record { front = c.args.self.now.front; lanes = with_item c.args.self.now.lanes c.from.result c.sync.new.self; wakes = c.args.self.now.wakes; sync = c.args.self.now.sync; standings = c.args.self.now.standings } in
    λ n more k. synced_done n c.from.result c.args.report.now c.index_mut-to.result.now c.sync.new.self more c.args.self.now new below c.index_mut-to.ensures.value refl refl refl refl c.in_ok-info.ensures.stays c.in_ok-info.ensures.wake
    (subst (λ (m : ℕ). Owes n (Sync m c.args.report.now ∷ more) c.args.self.now) (sym number) k)

pub returns-in_default-cname-clause-owes : goal.returns-in_default-cname-clause-owes
returns-in_default-cname-clause-owes c =
    let number : c.from.result ≡ c.args.lane = c.from.ensures in
    let below : c.from.result < length c.args.self.now.lanes.items = omega (arith, number, sync_there c.requires.0 c.args.lane c.args.report.now c.requires.1 c.args.self.now c.requires.2) in
    let new : Stage = record { front = c.args.self.now.front; lanes = with_item c.args.self.now.lanes c.from.result c.sync.new.self; wakes = c.args.self.now.wakes; sync = c.args.self.now.sync; standings = c.args.self.now.standings } in
    λ n more k. synced_done n c.from.result c.args.report.now c.index_mut-to.result.now c.sync.new.self more c.args.self.now new below c.index_mut-to.ensures.value refl refl refl refl c.in_ok-info.ensures.stays c.in_ok-info.ensures.wake
    (subst (λ (m : ℕ). Owes n (Sync m c.args.report.now ∷ more) c.args.self.now) (sym number) k)

pub returns-clause-owes : goal.returns-clause-owes
returns-clause-owes c =
    let number : c.from.result ≡ c.args.lane = c.from.ensures in
    let below : c.from.result < length c.args.self.now.lanes.items = omega (arith, number, sync_there c.requires.0 c.args.lane c.args.report.now c.requires.1 c.args.self.now c.requires.2) in
    let new : Stage = record { front = c.args.self.now.front; lanes = with_item c.args.self.now.lanes c.from.result c.sync.new.self; wakes = c.args.self.now.wakes; sync = c.keep.new.sync; standings = c.args.self.now.standings } in
    on_ok c.keep.result _ _
    (λ keep. λ n more k. synced_done n c.from.result c.args.report.now c.index_mut-to.result.now c.sync.new.self more c.args.self.now new below c.index_mut-to.ensures.value refl refl refl refl c.in_ok-info.ensures.stays c.in_ok-info.ensures.wake
    (subst (λ (m : ℕ). Owes n (Sync m c.args.report.now ∷ more) c.args.self.now) (sym number) k))
    c.keep.ensures
