use Rattle.std.proofs.Common.{◌<◌, ◌^◌, ℕ, List, ◌∙◌, refl, subst}
use Rattle.std.specs.Prelude.{slice_index}
use Rattle.rtp_wire.specs.Packet.{AreWords}
use Rattle.rtp_wire.specs.Written.{packet_with}
use Rattle.rtp_wire.proofs.Spelling.{Fits, spelled, seen_if, joined}
use Rattle.rtp_wire.proofs.writing.write.Goals as goal

pub returns-clause-bytes : goal.returns-clause-bytes
returns-clause-bytes c =
    c.from_vec.ensures
    ∙ joined _ _ _ _ _ _ _ _ _ c.in_ok-bytes.ensures.items c.in_ok-push_fixed.ensures.bytes (c.in_ok-push_csrcs.ensures.bytes ∙ rw c.as_slice.ensures.value refl) c.in_ok-push_extension.ensures.bytes c.in_ok-extend_from_slice.ensures.items

pub returns-clause-packet : goal.returns-clause-packet
returns-clause-packet c =
    let ranges = c.in_ok-push_fixed.ensures.ranges in
    let fields = c.args.fields.now in
    let fits : Fits (packet_with fields c.from_vec.result) = record {
      pt = c.requires.pt;
      seq = ranges.seq;
      timestamp = ranges.timestamp;
      ssrc = ranges.ssrc;
      count = ranges.csrcs;
      csrcs = subst (λ (xs : List ℕ). (k : ℕ) → slice_index xs k < 2 ^ 32) c.as_slice.ensures.value c.in_ok-push_csrcs.ensures.ranges;
      profile = seen_if fields.extension (λ x. x.0 < 2 ^ 16) c.in_ok-push_extension.ensures.range;
      words = seen_if fields.extension (λ x. AreWords x.1) c.requires.words;
      padding = refl;
    } in
    spelled (packet_with fields c.from_vec.result) fits (returns-clause-bytes c)
