use Rattle.std.proofs.Common.{◌∙◌, refl, sym, ap, arith}
use Rattle.std.specs.Prelude.{Ok, Err}
use Rattle.std.proofs.lemmas.Result.{err_from_is_err_and}
use Rattle.source_table.specs.declared.answers.Refuse.TheVariants.{Own}
use Rattle.source_table.specs.Table.{Table}
use Rattle.source_table.proofs.Ranging.{small_sources}
use Rattle.source_table.proofs.Hearing.{packet_is, refused_range, answered_range, refused_hears, answered_hears}
use Rattle.source_table.proofs.Standing.{heard_extends}
use Rattle.source_table.proofs.table.SourceTable.hear_rtp.Goals as goal

pub returns-then-ssrc-self-clause-stands : goal.returns-then-ssrc-self-clause-stands
returns-then-ssrc-self-clause-stands c = λ a.
    heard_extends c.args.self.now c.args.self.now c.args.now c.args.from c.args.view.now c.args.rate c.args.quick (Err Own)
    (sym c.ssrc-ssrc.ensures ∙ c.if-ssrc-self.true ∙ ap (λ (t : Table). t.own) c.self.view_is, refl) a

pub hear_source-requires : goal.hear_source-requires
hear_source-requires c = small_sources c.self.inside.heard c.self.inside.sources.entries c.self.invariant

pub invariant_of-self : goal.invariant_of-self
invariant_of-self c =
    refused_range c.self.inside.heard c.self.inside.sources.entries c.hear_source.new.sources.entries _ _ _ _ c.self.invariant c.in_err-heard.ensures

pub invariant_of-self-2 : goal.invariant_of-self-2
invariant_of-self-2 c =
    answered_range c.self.inside.heard c.self.inside.sources.entries c.hear_source.new.sources.entries _ _ _ _ c.self.invariant
    (omega (arith, c.requires, ap (λ (t : Table). t.heard) c.self.view_is)) c.seq.type_inv c.in_ok-heard.ensures

pub returns-in_err-heard-clause-answer : goal.returns-in_err-heard-clause-answer
returns-in_err-heard-clause-answer c =
    let p = err_from_is_err_and c.from_residual.result c.from_residual.ensures.1 in
    rw (p.1, p.2) (
    refused_hears c.args.self.now _ c.hear_source.new.sources.entries c.args.now c.args.from c.args.view.now c.args.rate c.args.quick c.ssrc-ssrc.result _ c.in_err-heard.field-0.0
    c.self.view_is c.ssrc-ssrc.ensures
    (packet_is c.args.now c.args.rate c.seq.ensures c.timestamp.ensures c.packets_needed.ensures)
    c.if-ssrc-self.false
    c.in_err-heard.ensures
    )

pub returns-in_err-heard-clause-stands : goal.returns-in_err-heard-clause-stands
returns-in_err-heard-clause-stands c =
    let p = err_from_is_err_and c.from_residual.result c.from_residual.ensures.1 in
    rw (p.1, p.2) (λ a.
    heard_extends c.args.self.now _ c.args.now c.args.from c.args.view.now c.args.rate c.args.quick (Err c.in_err-heard.field-0.0)
    (refused_hears c.args.self.now _ c.hear_source.new.sources.entries c.args.now c.args.from c.args.view.now c.args.rate c.args.quick c.ssrc-ssrc.result _ c.in_err-heard.field-0.0
    c.self.view_is c.ssrc-ssrc.ensures
    (packet_is c.args.now c.args.rate c.seq.ensures c.timestamp.ensures c.packets_needed.ensures)
    c.if-ssrc-self.false
    c.in_err-heard.ensures)
    a)

pub returns-clause-answer : goal.returns-clause-answer
returns-clause-answer c =
    answered_hears c.args.self.now _ c.hear_source.new.sources.entries c.args.now c.args.from c.args.view.now c.args.rate c.args.quick c.ssrc-ssrc.result _ c.in_ok-heard.heard
    c.self.view_is c.ssrc-ssrc.ensures
    (packet_is c.args.now c.args.rate c.seq.ensures c.timestamp.ensures c.packets_needed.ensures)
    c.if-ssrc-self.false
    c.in_ok-heard.ensures

pub returns-clause-stands : goal.returns-clause-stands
returns-clause-stands c = λ a.
    heard_extends c.args.self.now _ c.args.now c.args.from c.args.view.now c.args.rate c.args.quick (Ok c.in_ok-heard.heard)
    (answered_hears c.args.self.now _ c.hear_source.new.sources.entries c.args.now c.args.from c.args.view.now c.args.rate c.args.quick c.ssrc-ssrc.result _ c.in_ok-heard.heard
    c.self.view_is c.ssrc-ssrc.ensures
    (packet_is c.args.now c.args.rate c.seq.ensures c.timestamp.ensures c.packets_needed.ensures)
    c.if-ssrc-self.false
    c.in_ok-heard.ensures)
    a
