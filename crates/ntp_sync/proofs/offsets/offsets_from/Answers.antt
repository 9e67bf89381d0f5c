use Rattle.std.proofs.Common.{rules, ◌≡◌, ◌∙◌, ◌++◌, List, ℕ, true, sym, ap, to_z, of_z}
use Rattle.std.specs.Prelude.{ℤ, ◌-ℤ◌}
use mir.Syntax.{w64}
use mir.Val.{SFits}
use Rattle.std.proofs.lemmas.Int.{to_z-of_z}
use Rattle.ntp_sync.specs.Found.{is_named, natural, offsets_in}
use Rattle.ntp_sync.proofs.Reports.{offset_next, above_next}
use Rattle.ntp_sync.proofs.offsets.offsets_from.Goals as goal

pub loop-lane-preserved-in-Continue-1 : goal.loop-lane-preserved-in-Continue-1
loop-lane-preserved-in-Continue-1 c =
    let cname = c.args.cname.now in
    let least = to_z w64 (of_z w64 c.args.least) in
    let lane = c.in-Some.lane.now in
    let report = c.in-Some.report.now in
    let fits : SFits w64 report.delta = search rules in
    let named : is_named cname report ≡ true = sym c.has_name.ensures ∙ c.if-has_name.true in
    let offset : c.above.result ≡ natural (report.delta -ℤ least) = c.above.ensures ∙ ap (λ (d : ℤ). natural (d -ℤ least)) (to_z-of_z w64 report.delta fits) in
    record {
      rest =
          ap (λ (xs : List (ℕ × ℕ)). xs ++ offsets_in cname least c.next.new.self) c.in_ok-push.ensures.items
          ∙ offset_next cname least c.loop-lane.offsets.items (offsets_in cname least c.args.reports.now.entries) c.loop-lane.lane-iterator c.next.new.self lane report c.above.result c.in-Some.ensures.steps named offset
          c.loop-lane.invariant.rest;
      above = above_next cname least c.loop-lane.lane-iterator c.next.new.self (lane, report) c.in-Some.ensures.steps c.loop-lane.invariant.above;
    }
