use Rattle.std.proofs.Common.{List, ℕ, ap, ◌∙◌, string_bytes}
use Rattle.rtp_scan.specs.declared.stream.Stream.{Stream}
use Rattle.rtp_scan.specs.Report.{lines_for, comments_for}
use Rattle.rtp_scan.proofs.Reporting.{joined_is}
use Rattle.rtp_scan.proofs.report.report_of.Goals as goal

pub returns : goal.returns
returns c =
    let streams : List Stream = c.in_ok-streams.streams.items in
    let script = c.in_ok-script.script in
    joined_is c.joined.result c.args.script_only c.args.scan.now streams script
    (string_bytes c.in_ok-lines.lines) c.bytes.result.now c.deref-4.result.now
    c.joined.ensures c.in_ok-streams.ensures c.in_ok-script.ensures
    (c.in_ok-lines.ensures ∙ ap (lines_for c.args.script_only) c.deref-2.ensures.value)
    (c.bytes.ensures ∙ c.in_ok-written.ensures.text)
    (c.deref-4.ensures ∙ c.in_ok-comments.ensures
    ∙ ap (λ (l : List Stream). comments_for script l c.left_out.result) c.deref-3.ensures.value
    ∙ ap (λ (n : ℕ). comments_for script streams n) c.left_out.ensures)
