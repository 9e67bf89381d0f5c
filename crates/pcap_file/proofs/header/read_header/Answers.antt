use Rattle.std.proofs.Common.{refl, sym, ◌∙◌}
use Rattle.pcap_file.proofs.Opening.{format_ng, format_magic, format_version, format_link, format_whole}
use Rattle.pcap_file.proofs.header.read_header.Goals as goal

pub returns-then-starts_with-clause-format : goal.returns-then-starts_with-clause-format
returns-then-starts_with-clause-format c = format_ng c.args.bytes.now (sym c.starts_with.ensures.value ∙ c.if-starts_with.true)

pub returns-in-None-clause-format : goal.returns-in-None-clause-format
returns-in-None-clause-format c = format_magic c.args.bytes.now (sym c.starts_with.ensures.value ∙ c.if-starts_with.false) (sym c.in-None.ensures)

pub returns-then-not-is_version-clause-format : goal.returns-then-not-is_version-clause-format
returns-then-not-is_version-clause-format c =
    format_version c.args.bytes.now c.in-Some.order (sym c.starts_with.ensures.value ∙ c.if-starts_with.false) (sym c.in-Some.ensures) (sym c.is_version.ensures ∙ c.if-not-is_version.true)

pub returns-then-not-is_link-clause-format : goal.returns-then-not-is_link-clause-format
returns-then-not-is_link-clause-format c =
    format_link c.args.bytes.now c.in-Some.order (sym c.starts_with.ensures.value ∙ c.if-starts_with.false) (sym c.in-Some.ensures) (sym c.is_version.ensures ∙ c.if-not-is_version.false)
    (rw (← c.link_of-link.ensures) (sym c.is_link.ensures ∙ c.if-not-is_link.true))

pub returns-clause-format : goal.returns-clause-format
returns-clause-format c =
    format_whole c.args.bytes.now c.in-Some.order _ (sym c.starts_with.ensures.value ∙ c.if-starts_with.false) (sym c.in-Some.ensures) (sym c.is_version.ensures ∙ c.if-not-is_version.false)
    (rw (← c.link_of-link.ensures) (sym c.is_link.ensures ∙ c.if-not-is_link.false)) (rw (c.link_of-link.ensures, c.number32.ensures) refl)
