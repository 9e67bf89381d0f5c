use Rattle.std.proofs.Common.{List, ◌++◌, ◌∷◌, [], map, sym, ap, ◌∙◌}
use Rattle.rtp_scan.specs.declared.stream.Stream.{Stream}
use Rattle.rtp_scan.specs.Streams.{is_stream}
use Rattle.rtp_scan.proofs.Kept.{one_kept, one_passed}
use Rattle.rtp_scan.proofs.scan.streams_of.Goals as goal
use Rattle.rtp_scan.proofs.scan.streams_of.Goals.{then-is_stream+in_ok-push, else-is_stream}

pub loop-i-preserved : goal.loop-i-preserved
loop-i-preserved c =
    elim c.if-is_stream.branch [
      | then-is_stream+in_ok-push w ↦
          ap (λ v. v.items) w.streams-is ∙ w.in_ok-push.ensures.items
          ∙ ap (λ (xs : List Stream). xs ++ c.pair_at-stream.result ∷ []) c.loop-i.invariant
          ∙ sym (one_kept is_stream (map (λ e. e.1) c.args.pairs.now.entries) c.loop-i.i
          c.pair_at-stream.result c.pair_at-stream.ensures (sym c.is_stream.ensures
          ∙ w.if-is_stream.true))
      | else-is_stream w ↦
          ap (λ v. v.items) w.streams-is ∙ c.loop-i.invariant
          ∙ sym (one_passed is_stream (map (λ e. e.1) c.args.pairs.now.entries) c.loop-i.i
          c.pair_at-stream.result c.pair_at-stream.ensures (sym c.is_stream.ensures
          ∙ w.if-is_stream.false))
    ]
