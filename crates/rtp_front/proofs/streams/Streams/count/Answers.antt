use Rattle.std.proofs.Common.{◌≡◌, ℕ, ◌+◌, cond, List, sym, ap, subst, ◌∙◌}
use Rattle.front_model.specs.Fates.{Way, is_way}
use Rattle.rtp_front.specs.Standing.{StreamsState, next_in}
use Rattle.rtp_front.proofs.Moving.{counted_in}
use Rattle.rtp_front.proofs.streams.Streams.count.Goals as goal

pub returns-clause-next : goal.returns-clause-next
returns-clause-next c = λ way.
    let to : Way = (c.args.pusher, c.args.lane) in
    let old = c.self.inside.given.entries in
    let new = c.insert.new.self.entries in
    let same : old ≡ c.args.self.now.given = ap (λ (x : StreamsState). x.given) c.self.view_is in
    subst (λ (g : List (Way × ℕ)). next_in new way ≡ next_in g way + cond (is_way way to) 1 0) same
    (counted_in old new to way c.in-Some.next
    (c.in-Some.ensures.1
    ∙ ap (λ (k : ℕ). k + 1)
    (c.next_number-k.ensures ∙ ap (λ (g : List (Way × ℕ)). next_in g to) (sym same)))
    (c.in_ok-insert.ensures.updates.0 way))
