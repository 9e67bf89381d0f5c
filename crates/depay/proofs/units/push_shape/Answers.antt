use Rattle.std.proofs.Common.{◌≡◌, ◌++◌, ◌∙◌, ◌∷◌, [], true, false, List, ℕ, Ok, sym, ap, subst}
use Rattle.std.specs.Prelude.{is_some}
use Rattle.std.proofs.lemmas.List.{append-nil}
use Rattle.depay.specs.declared.outcome.Outcome.{Outcome}
use Rattle.depay.specs.declared.payload.Shape.{Shape}
use Rattle.depay.specs.declared.payload.Shape.TheVariants.{Single, Aggregate, Start}
use Rattle.depay.specs.Aggregate.{units_in, units_of}
use Rattle.depay.specs.Outcomes.{single_unit}
use Rattle.depay.specs.Shapes.{packet_of, IsShape}
use Rattle.depay.proofs.Shaping.{alone_holds}
use Rattle.depay.proofs.Splitting.{made}
use Rattle.depay.proofs.units.push_shape.Goals as goal

pub returns-in-Start-clause-added : goal.returns-in-Start-clause-added
returns-in-Start-clause-added c =
    let old = c.args.outcomes.now.items in
    let is : IsShape c.args.packet.now.payload.now (Ok Start) = subst (λ (s : Shape). IsShape c.args.packet.now.payload.now (Ok s)) c.in-Start.is c.requires in
    sym (ap (λ (xs : List Outcome). old ++ xs) (alone_holds (packet_of c.args.packet.now) [] true is.0) ∙ append-nil old)

pub returns-in-Start-clause-start : goal.returns-in-Start-clause-start
returns-in-Start-clause-start c =
    let is : IsShape c.args.packet.now.payload.now (Ok Start) = subst (λ (s : Shape). IsShape c.args.packet.now.payload.now (Ok s)) c.in-Start.is c.requires in
    sym is.0.start

pub returns-in-Start-clause-head : goal.returns-in-Start-clause-head
returns-in-Start-clause-head c =
    let is : IsShape c.args.packet.now.payload.now (Ok Start) = subst (λ (s : Shape). IsShape c.args.packet.now.payload.now (Ok s)) c.in-Start.is c.requires in
    λ e. is.1

pub behind_first-requires : goal.behind_first-requires
behind_first-requires c =
    let is : IsShape c.args.packet.now.payload.now (Ok Aggregate) = subst (λ (s : Shape). IsShape c.args.packet.now.payload.now (Ok s)) c.in-Aggregate.is c.requires in
    is.2

pub push_units-requires : goal.push_units-requires
push_units-requires c =
    let is : IsShape c.args.packet.now.payload.now (Ok Aggregate) = subst (λ (s : Shape). IsShape c.args.packet.now.payload.now (Ok s)) c.in-Aggregate.is c.requires in
    ap (λ (b : List ℕ). is_some (units_in b)) c.behind_first.ensures ∙ is.1

pub returns-in_ok-push_units-in-Aggregate-clause-added : goal.returns-in_ok-push_units-in-Aggregate-clause-added
returns-in_ok-push_units-in-Aggregate-clause-added c =
    let old = c.args.outcomes.now.items in
    let p = packet_of c.args.packet.now in
    let is : IsShape c.args.packet.now.payload.now (Ok Aggregate) = subst (λ (s : Shape). IsShape c.args.packet.now.payload.now (Ok s)) c.in-Aggregate.is c.requires in
    c.in_ok-push_units-in-Aggregate.ensures ∙ ap (λ (b : List ℕ). old ++ made (single_unit p) (units_in b)) c.behind_first.ensures
    ∙ ap (λ (xs : List Outcome). old ++ xs) (sym (alone_holds p (units_of c.args.packet.now.payload.now) false is.0))

pub returns-in_ok-push_units-in-Aggregate-clause-start : goal.returns-in_ok-push_units-in-Aggregate-clause-start
returns-in_ok-push_units-in-Aggregate-clause-start c =
    let is : IsShape c.args.packet.now.payload.now (Ok Aggregate) = subst (λ (s : Shape). IsShape c.args.packet.now.payload.now (Ok s)) c.in-Aggregate.is c.requires in
    sym is.0.start

pub returns-in_ok-push-in-Single-clause-added : goal.returns-in_ok-push-in-Single-clause-added
returns-in_ok-push-in-Single-clause-added c =
    let old = c.args.outcomes.now.items in
    let p = packet_of c.args.packet.now in
    let is : IsShape c.args.packet.now.payload.now (Ok Single) = subst (λ (s : Shape). IsShape c.args.packet.now.payload.now (Ok s)) c.in-Single.is c.requires in
    c.in_ok-push-in-Single.ensures.items ∙ ap (λ (x : Outcome). old ++ x ∷ []) c.in_ok-single-in-Single.ensures
    ∙ ap (λ (xs : List Outcome). old ++ xs) (sym (alone_holds p (c.args.packet.now.payload.now ∷ []) false is))

pub returns-in_ok-push-in-Single-clause-start : goal.returns-in_ok-push-in-Single-clause-start
returns-in_ok-push-in-Single-clause-start c =
    let is : IsShape c.args.packet.now.payload.now (Ok Single) = subst (λ (s : Shape). IsShape c.args.packet.now.payload.now (Ok s)) c.in-Single.is c.requires in
    sym is.start
